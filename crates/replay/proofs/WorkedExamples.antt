-- The worked examples, computed.
use Rattle.std.proofs.Common.{refl}
use Rattle.replay.specs.Rolls.{look, alter, left, fresh}
use Rattle.replay.specs.Book.{ahead, depth, row, prices}
use Rattle.replay.specs.Moves.{deal, taken, size, trade, leave, withdraw, rest, pause, centre, resumed, floored, set_up, to, elect, admit}
use Rattle.replay.specs.Runs.{first_price, clean_up, settle, run, turn, turns, busy, work, join}
use Rattle.replay.specs.Calls.{checks, became, answered, perform, step, after_calls, answers, tapes}
use Rattle.replay.specs.Questions.{quote, totals}
use Rattle.replay.specs.Days.{new_day}
use Rattle.replay.specs.Examples.{Examples}

pub examples : Examples
unfolding look alter left fresh ahead depth row prices deal taken size trade leave withdraw rest pause centre resumed floored set_up to elect admit first_price clean_up settle run turn turns busy work join checks became answered perform step after_calls answers tapes quote totals new_day
examples = record {
  range = refl;
  class1 = refl;
  next_band = refl;
  at_least_1 = refl;
  rotation = refl;
  time = refl;
  row_by_rotation = refl;
  row_by_time = refl;
  sweep_opening = (refl, refl, refl, refl, refl);
  sweep = refl;
  sweep_after = (refl, refl, refl);
  out_of_range = refl;
  out_of_range_after = (refl, refl, refl, refl, refl, refl);
  out_of_range_order = (refl, refl);
  resumed = (refl, refl, refl);
  resumed_order = (refl, refl, refl, refl, refl);
  floor_refused_after = (refl, refl, refl, refl, refl);
  floor = refl;
  floor_answers = refl;
  floor_after = (refl, refl, refl);
  floor_order = (refl, refl, refl);
  sell = refl;
  sell_after = (refl, refl);
  elections = refl;
  stop_runs_tape = refl;
  stop_answers = refl;
  stop_totals = refl;
  each_elects = refl;
  first_elects = refl;
  no_range = refl;
  no_range_new = (refl, refl);
  at_once_shown = refl;
  at_once_after = (refl, refl, refl);
  rests = refl;
  rests_after = (refl, refl, refl);
  resume_elects_nobody = (refl, refl);
  still_filed = (refl, refl, refl, refl, refl);
  print_elects_later = refl;
  offer_gives = refl;
  floor_elects_later = (refl, refl, refl, refl, refl);
  nobody_runs = (refl, refl);
  nobody_runs_after = (refl, refl, refl, refl, refl);
  residual_first = (refl, refl, refl, refl);
  cancel_runs_nobody = (refl, refl, refl, refl);
  resume_runs = (refl, refl, refl, refl);
  resting_give = refl;
  resting_give_after = (refl, refl, refl, refl, refl);
  resting_give_fills = refl;
  market_cancelled = refl;
  market_cancelled_after = (refl, refl, refl, refl);
  elected_wait = (refl, refl, refl, refl);
  elected_run = refl;
  elected_run_after = (refl, refl, refl, refl, refl);
  cancelled_in_line = refl;
  refusals = refl;
  file_full_answers = refl;
}
