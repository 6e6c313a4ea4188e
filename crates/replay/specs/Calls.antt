-- What each call refuses, what it does, and what it answers. Assumes nothing.
use Rattle.std.specs.Prelude.{ℕ, suc, ◌+◌, ◌*◌, Bool, true, false, cond, not, ◌&&◌, ◌||◌, ltb, List, [], ◌∷◌, ◌++◌, length, Some, None, Option, ◌==◌, nat_le, nat_lt}
use Rattle.market.specs.declared.words.Side.{Side}
use Rattle.market.specs.declared.words.Side.TheVariants.{Buy, Sell}
use Rattle.market.specs.declared.words.Kind.{Kind}
use Rattle.market.specs.declared.words.Kind.TheVariants.{Limit, Stop}
use Rattle.market.specs.declared.words.Column.{Column}
use Rattle.market.specs.declared.words.Column.TheVariants.{Lower, Higher}
use Rattle.market.specs.declared.words.Place.TheVariants.{Book, StopFile}
use Rattle.market.specs.declared.words.Order.{Order}
use Rattle.market.specs.declared.words.TapeLine.{TapeLine}
use Rattle.market.specs.Bounds.{is_price, is_shares, is_member, is_class, is_last_sale}
use Rattle.market.specs.Orders.{rests_on}
use Rattle.replay.specs.Refusals.{other_phase, bad_class, bad_column, bad_last_sale, bad_price, bad_shares, bad_member, roll_full, tape_short, locks_book, stop_file_full, no_such_order, other_member, nothing_open, outside_quote, not_paused}
use Rattle.replay.specs.Lists.{any, beyond}
use Rattle.replay.specs.Days.{Day, Phase, Loading, Trading, Closed, Rule, Outcome}
use Rattle.replay.specs.Days.{Call, Set, LoadLimit, LoadStop, Open, Enter, CancelOrder, FloorTrade, Resume, Close}
use Rattle.replay.specs.Days.{Answer, Done, Number, Lines, Entered, Refused}
use Rattle.replay.specs.Rolls.{is_market, is_stop, filed, look, open_of, member_of, absent, fresh}
use Rattle.replay.specs.Book.{is_contra}
use Rattle.replay.specs.Moves.{withdraw, centre, resumed, floored, set_up, to, elect, admit}
use Rattle.replay.specs.Runs.{busy, work, join}

-- refusals ------------------------------------------------------------------------------------------------------------
-- a fault, and the number of the refusal where it is there
pub record Check : Type 0 where
  pub fails : Bool
  pub code : ℕ

abbrev pub check : Bool → ℕ → Check
check b k = record { fails = b; code = k }

abbrev pub first_of : Bool → ℕ → Option ℕ → Option ℕ
first_of true k x = Some k
first_of false k x = x

-- the first that applies
abbrev pub refusal : List Check → Option ℕ
refusal [] = None
refusal (c ∷ cs) = first_of c.fails c.code (refusal cs)

abbrev pub is_phase : Phase → Phase → Bool
is_phase Loading Loading = true
is_phase Loading Trading = false
is_phase Loading Closed = false
is_phase Trading Loading = false
is_phase Trading Trading = true
is_phase Trading Closed = false
is_phase Closed Loading = false
is_phase Closed Trading = false
is_phase Closed Closed = true

-- a call of another phase
abbrev pub only_in : Phase → Day → Check
only_in f d = check (not (is_phase f d.phase)) other_phase

abbrev pub most_orders : ℕ
most_orders = 512

-- what every new order is refused for; a market order's price is not looked at
abbrev pub order_checks : Kind → ℕ → ℕ → ℕ → Day → List Check
order_checks k m p q d =
    check (not (is_market k) && not (is_price p)) bad_price
    ∷ check (not (is_shares q)) bad_shares
    ∷ check (not (is_member m)) bad_member
    ∷ check (nat_le most_orders (length d.roll)) roll_full
    ∷ []

-- room is the stop file's capacity
abbrev pub file_full : ℕ → Kind → Day → Check
file_full room k d = check (is_stop k && nat_le room (filed d.roll)) stop_file_full

abbrev pub resting_at : (ℕ → Bool) → Side → List Order → Bool
resting_at t c os = any (λ o. rests_on c o && t o.price) os

-- outside the quote: under the bid or over the offer
abbrev pub outside : ℕ → List Order → Bool
outside p os = resting_at (λ b. ltb p b) Buy os || resting_at (λ b. ltb b p) Sell os

-- the lines that a call may come to: four for each order that waits, is filed, or is entered
abbrev pub need : ℕ → Day → ℕ
need entered d = 4 * (busy d + entered)

-- the codes of the letters L and H
abbrev pub letter_l : ℕ
letter_l = 76

abbrev pub letter_h : ℕ
letter_h = 72

abbrev pub column_of : ℕ → Column
column_of x = cond (x == letter_h) Higher Lower

-- what each call refuses, in this order
unfoldable pub checks : ℕ → Day → Call → List Check
checks room d (Set k c p) =
    only_in Loading d ∷ check (not (is_class k)) bad_class ∷ check (not (c == letter_l || c == letter_h)) bad_column ∷ check (not (is_last_sale p)) bad_last_sale ∷ []
checks room d (LoadLimit s m p q) =
    only_in Loading d ∷ order_checks Limit m p q d ++ (check (any (is_contra (fresh Limit s m p q d.roll)) d.roll) locks_book ∷ [])
checks room d (LoadStop s m p q) = only_in Loading d ∷ order_checks Stop m p q d ++ (file_full room Stop d ∷ [])
checks room d Open = only_in Loading d ∷ []
checks room d (Enter k s m p q f) = only_in Trading d ∷ order_checks k m p q d ++ (file_full room k d ∷ check (nat_lt f (need 1 d)) tape_short ∷ [])
checks room d (CancelOrder m n f) =
    let r : Option Order = look n d.roll in
    only_in Trading d ∷ check (absent r) no_such_order ∷ check (not (member_of r == m)) other_member ∷ check (open_of r == 0) nothing_open ∷ check (f == 0) tape_short ∷ []
checks room d (FloorTrade p q f) =
    only_in Trading d ∷ check (not (is_price p)) bad_price ∷ check (not (is_shares q)) bad_shares
    ∷ check (outside p d.roll) outside_quote ∷ check (nat_lt f (suc (need 0 d))) tape_short ∷ []
checks room d (Resume f) = only_in Trading d ∷ check (not d.paused) not_paused ∷ check (nat_lt f (need 0 d)) tape_short ∷ []
checks room d Close = only_in Trading d ∷ []

-- effects and answers -------------------------------------------------------------------------------------------------
-- the day after a call that is not refused
unfoldable pub became : Rule → Day → Call → Day
became gifts d (Set k c p) = set_up k (column_of c) p d
became gifts d (LoadLimit s m p q) = admit (fresh Limit s m p q d.roll) Book d
became gifts d (LoadStop s m p q) = admit (fresh Stop s m p q d.roll) StopFile d
became gifts d Open = centre (to Trading d)
became gifts d (Enter k s m p q f) = join gifts (fresh k s m p q d.roll) d
became gifts d (CancelOrder m n f) = withdraw n d
became gifts d (FloorTrade p q f) = work gifts (elect p (floored p q d))
became gifts d (Resume f) = work gifts (resumed d)
became gifts d Close = to Closed d

-- the lines that a call hands over: what it put on the tape of d to make the tape of e
abbrev pub handed : Day → Day → List TapeLine
handed d e = beyond d.tape e.tape

-- its answer: d before, e after
unfoldable pub answered : Day → Call → Day → Answer
answered d (Set k c p) e = Done
answered d (LoadLimit s m p q) e = Number (suc (length d.roll))
answered d (LoadStop s m p q) e = Number (suc (length d.roll))
answered d Open e = Done
answered d (Enter k s m p q f) e = Entered (suc (length d.roll)) (length (handed d e))
answered d (CancelOrder m n f) e = Lines (length (handed d e))
answered d (FloorTrade p q f) e = Lines (length (handed d e))
answered d (Resume f) e = Lines (length (handed d e))
answered d Close e = Done

unfoldable pub perform : Rule → Day → Call → Outcome
perform gifts d c = let e : Day = became gifts d c in record { answer = answered d c e; day = e }

-- a refused call alters nothing
abbrev pub decided : Option ℕ → Day → Outcome → Outcome
decided None d r = r
decided (Some k) d r = record { answer = Refused k; day = d }

-- a call is put to a day
unfoldable pub step : Rule → ℕ → Day → Call → Outcome
step gifts room d c = decided (refusal (checks room d c)) d (perform gifts d c)

-- lists of calls ------------------------------------------------------------------------------------------------------
unfoldable pub after_calls : Rule → ℕ → Day → List Call → Day
after_calls gifts room d [] = d
after_calls gifts room d (c ∷ cs) = after_calls gifts room (step gifts room d c).day cs

unfoldable pub answers : Rule → ℕ → Day → List Call → List Answer
answers gifts room d [] = []
answers gifts room d (c ∷ cs) = let r : Outcome = step gifts room d c in r.answer ∷ answers gifts room r.day cs

-- the lines that each call handed over
unfoldable pub tapes : Rule → ℕ → Day → List Call → List (List TapeLine)
tapes gifts room d [] = []
tapes gifts room d (c ∷ cs) = let e : Day = (step gifts room d c).day in handed d e ∷ tapes gifts room e cs
