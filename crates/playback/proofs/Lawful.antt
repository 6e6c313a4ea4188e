-- The laws of a day hold of every list.
use Rattle.std.proofs.Common.{ℕ, List, take, drop}
use Rattle.sharing.specs.Shares.{LawfulRule}
use Rattle.replay.specs.Days.{Rule, Call, new_day}
use Rattle.replay.specs.Calls.{after_calls}
use Rattle.replay.proofs.UnseenCalls.{stops_unseen}
use Rattle.replay.proofs.InOrder.{book_in_order, worked_off}
use Rattle.replay.proofs.Matches.{prints_match}
use Rattle.replay.proofs.Placed.{open_has_place}
use Rattle.replay.proofs.Accounts.{accounts}
use Rattle.replay.proofs.Bounds.{numbers_in_bounds}
use Rattle.replay.proofs.Filing.{stops_are_filed}
use Rattle.replay.proofs.Elections.{elected_by_first}
use Rattle.replay.proofs.OnlyFiled.{only_filed_elected}
use Rattle.replay.proofs.ElectedOnce.{elected_once}
use Rattle.replay.proofs.Ranges.{range_stays}
use Rattle.replay.proofs.Beginning.{range_begins}
use Rattle.replay.proofs.Starts.{runs_follow}
use Rattle.replay.proofs.RunPauses.{runs_pause}
use Rattle.replay.proofs.Pauses.{pause_stays}
use Rattle.replay.proofs.Givers.{book_gives}
use Rattle.replay.proofs.Need.{tape_suffices}
use Rattle.replay.proofs.TapeGrows.{call_grows, tape_whole}
use Rattle.replay.proofs.RefusalsGiven.{refusals}
use Rattle.replay.proofs.Accepted.{shares_add_up}
use Rattle.playback.specs.Laws.{CallLaws, ListLaws}

pub call_laws : (gifts : Rule) → LawfulRule gifts → (room : ℕ) (cs : List Call) (c : Call) → CallLaws gifts room (after_calls gifts room new_day cs) c
call_laws gifts h room cs c = record {
  runs = runs_follow gifts h room cs c;
  range_stays = range_stays gifts h room cs c;
  range_begins = range_begins gifts h room cs c;
  givers = book_gives gifts h room cs c;
  pauses = runs_pause gifts h room cs c;
  pause_stays = pause_stays gifts h room cs c;
  only_filed = only_filed_elected gifts h room cs c;
  fits = tape_suffices gifts h room cs c;
  tape = call_grows gifts room (after_calls gifts room new_day cs) c;
}

pub list_laws : (gifts : Rule) → LawfulRule gifts → (room : ℕ) (cs : List Call) → ListLaws gifts room cs
list_laws gifts h room cs = record {
  invisible = λ N cs'. stops_unseen gifts h room N cs cs';
  orderly = λ k. book_in_order gifts h room (take k cs);
  matched = λ k. prints_match gifts h room (take k cs);
  placed = λ k. open_has_place gifts h room (take k cs);
  lots = λ k. accounts gifts h room (take k cs);
  bounds = λ k. numbers_in_bounds gifts h room (take k cs);
  filed = λ k. stops_are_filed gifts h room (take k cs);
  elected = λ j k. elected_by_first gifts h room (take j cs) (take k (drop j cs));
  once = λ k. elected_once gifts h room (take k cs);
  tape = λ k. tape_whole gifts h room (take k cs);
  calls = λ k. call_laws gifts h room (take k cs);
  worked_off = λ k. worked_off gifts h room (take k cs);
  refusals = λ k. refusals.of_lists gifts h room (take k cs);
  add_up = λ k. shares_add_up gifts h room (take k cs);
}
