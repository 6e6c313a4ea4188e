-- The numbers of the refusals: the market's own, and one for a call that does not belong to the phase of the day. Assumes nothing.
use Rattle.std.specs.Prelude.{ℕ}
use Rattle.market.specs.declared.refusal.Refusal.TheVariants.{Class, Column, LastSale, Price, Shares, RollFull, TapeShort, LocksBook, StopFileFull, Member, NoSuchOrder, OtherMember, NothingOpen, OutsideQuote, NotPaused}
use Rattle.market.specs.Refusals.{number_of}

abbrev pub other_phase : ℕ
other_phase = 21

abbrev pub bad_class : ℕ
bad_class = number_of Class

abbrev pub bad_column : ℕ
bad_column = number_of Column

abbrev pub bad_last_sale : ℕ
bad_last_sale = number_of LastSale

abbrev pub bad_price : ℕ
bad_price = number_of Price

abbrev pub bad_shares : ℕ
bad_shares = number_of Shares

abbrev pub bad_member : ℕ
bad_member = number_of Member

abbrev pub roll_full : ℕ
roll_full = number_of RollFull

abbrev pub tape_short : ℕ
tape_short = number_of TapeShort

abbrev pub locks_book : ℕ
locks_book = number_of LocksBook

abbrev pub stop_file_full : ℕ
stop_file_full = number_of StopFileFull

abbrev pub no_such_order : ℕ
no_such_order = number_of NoSuchOrder

abbrev pub other_member : ℕ
other_member = number_of OtherMember

abbrev pub nothing_open : ℕ
nothing_open = number_of NothingOpen

abbrev pub outside_quote : ℕ
outside_quote = number_of OutsideQuote

abbrev pub not_paused : ℕ
not_paused = number_of NotPaused
