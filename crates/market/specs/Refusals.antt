-- The numbers of the refusals. Assumes nothing.
use Rattle.std.specs.Prelude.{ℕ}
use Rattle.market.specs.declared.refusal.Refusal.{Refusal}
use Rattle.market.specs.declared.refusal.Refusal.TheVariants.{Class, Column, LastSale, Price, Shares, RollFull, TapeShort, LocksBook, StopFileFull, Member, NoSuchOrder, OtherMember, NothingOpen, OutsideQuote, NotPaused}

-- 31 to 33 setting up, 41 to 47 entering, 51 to 53 cancelling, 61 a floor trade, 71 resuming
abbrev pub number_of : Refusal → ℕ
number_of Class = 31
number_of Column = 32
number_of LastSale = 33
number_of Price = 41
number_of Shares = 42
number_of RollFull = 43
number_of TapeShort = 44
number_of LocksBook = 45
number_of StopFileFull = 46
number_of Member = 47
number_of NoSuchOrder = 51
number_of OtherMember = 52
number_of NothingOpen = 53
number_of OutsideQuote = 61
number_of NotPaused = 71
