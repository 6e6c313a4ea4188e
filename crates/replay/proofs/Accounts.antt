-- The shares of every order are whole lots.
use Rattle.std.proofs.Common.{◌≡◌, ℕ, ◌%◌, ◌≤◌, Bool, true, false, List, [], ◌∷◌, map, arith}
use Rattle.std.specs.List.{AllByRecursion}
use Rattle.market.specs.declared.words.Side.{Side}
use Rattle.market.specs.declared.words.Place.{Place}
use Rattle.market.specs.declared.words.Place.TheVariants.{Book, Line}
use Rattle.market.specs.declared.words.Order.{Order}
use Rattle.market.specs.Sides.{opposite}
use Rattle.market.specs.Orders.{fill, cancel, put}
use Rattle.sharing.specs.Shares.{LawfulRule}
use Rattle.replay.specs.Days.{Day, Rule, new_day}
use Rattle.replay.specs.Rolls.{fresh}
use Rattle.replay.specs.Book.{is_at, is_better}
use Rattle.replay.specs.Moves.{deal, after, size, trade, leave, withdraw, rest, pause, elect, is_elected, called, centre, admit, floored, resumed, set_up, to}
use Rattle.replay.specs.Accounts.{WholeLots, Accounts}
use Rattle.replay.proofs.Lists.{all_push, all_map}
use Rattle.replay.proofs.Rolls.{Good, dealt_is, all_alter}
use Rattle.replay.proofs.Runs.{Mid, Prints, trade_mid}
use Rattle.replay.proofs.Calls.{good_shares, calls_sound, new_sound}
use Rattle.replay.proofs.Keeps.{Keeps, always}
use Rattle.replay.proofs.Placed.{both}

-- what fills leave alone: accepted and cancelled shares
record Lots (o : Order) : Type 0 where
  pub accepted : 100 ≤ o.accepted
  pub lots : o.accepted % 100 ≡ 0
  pub cancelled : o.cancelled % 100 ≡ 0

-- and what a cancellation takes
abbrev Open : Order → Type 0
Open o = o.«open» % 100 ≡ 0

-- each order of a roll has both
abbrev InLots : Day → Type 0
InLots d = AllByRecursion (λ o. Lots o × Open o) d.roll

fill_lots : (q : ℕ) (o : Order) → Lots o → Lots (fill q o)
fill_lots q o l = record { accepted = l.accepted; lots = l.lots; cancelled = l.cancelled }

put_lots : (w : Place) (o : Order) → Lots o × Open o → Lots (put w o) × Open (put w o)
put_lots w o l = (record { accepted = l.0.accepted; lots = l.0.lots; cancelled = l.0.cancelled }, l.1)

cancel_lots : (o : Order) → Lots o × Open o → Lots (cancel o) × Open (cancel o)
cancel_lots o l = (record { accepted = l.0.accepted; lots = l.0.lots; cancelled = omega (arith, l.0.cancelled, l.1) }, omega arith)

all_deal : (c : Side) (p : ℕ) (os : List Order) (gs : List ℕ) → AllByRecursion Lots os → AllByRecursion Lots (deal c p os gs)
unfolding deal
all_deal c p [] gs a = tt
all_deal c p (o ∷ os) gs a = (dealt_is Lots (is_better c p o) (is_at c p o) gs o (λ q. fill_lots q o a.0) a.0, all_deal c p os (after (is_at c p o) gs) a.1)

all_called : (p : ℕ) (os : List Order) → AllByRecursion (λ o. Lots o × Open o) os → AllByRecursion (λ o. Lots o × Open o) (map (λ o. called (is_elected p o) o) os)
all_called p [] a = tt
all_called p (o ∷ os) a = (go (is_elected p o), all_called p os a.1)
  where
    go : (b : Bool) → Lots (called b o) × Open (called b o)
    go true = put_lots Line o a.0
    go false = a.0

module _ (gifts : Rule) (lawful : LawfulRule gifts) where
  trade_lots : (r : Order) (p : ℕ) (d : Day) → Mid r d → Prints r p d → InLots d → InLots (trade gifts r.number (opposite r.side) p d)
  unfolding trade
  trade_lots r p d m k i =
      both Lots Open _
      (all_alter Lots r.number (fill (size r.number (opposite r.side) p d.roll)) _ (λ o e l. fill_lots _ o l) (all_deal (opposite r.side) p d.roll _ (all_map _ Lots d.roll (λ o l. l.0) i)))
      (all_map Good Open _ (λ o g. g.whole) (trade_mid gifts lawful r p d m k).books.orders)

  lots_keep : Keeps gifts lawful InLots
  unfolding leave withdraw rest pause elect centre admit floored resumed set_up to fresh
  lots_keep = record {
    trade = trade_lots;
    leave = λ r d m e i. i;
    withdraw = λ n d c i. all_alter (λ o. Lots o × Open o) n cancel d.roll (λ o e l. cancel_lots o l) i;
    rest = λ r d m w e c i. all_alter (λ o. Lots o × Open o) r.number (put Book) d.roll (λ o e l. put_lots Book o l) i;
    pause = λ d i. i;
    elect = λ p d s i. all_called p d.roll i;
    centre = λ d i. i;
    admit = λ k s m p q w d sd ch pl i. all_push (λ o. Lots o × Open o) d.roll (put w (fresh k s m p q d.roll)) i
        (let g : (q % 100 ≡ 0) × (100 ≤ q) × (q ≤ 1000000) = good_shares q ch.shares in (record { accepted = g.1; lots = g.0; cancelled = omega arith }, g.0));
    floored = λ p q d _ i. i;
    resumed = λ d i. i;
    set_up = λ k c p d _ _ i. i;
    to = λ f d i. i;
  }

new_lots : InLots new_day
unfolding new_day
new_lots = tt

pub accounts : Accounts
accounts gifts lawful room cs =
    all_map _ WholeLots _
    (λ o h. record {
      accepted = (h.0.0.accepted, h.1.most);
      lots = h.0.0.lots;
      filled = omega (arith, h.1.sum, h.0.0.lots, h.0.0.cancelled, h.0.1);
      cancelled = h.0.0.cancelled;
      «open» = h.0.1;
    })
    (both _ Good _ (always gifts lawful InLots (lots_keep gifts lawful) new_lots room cs) (calls_sound gifts lawful room cs new_day (new_sound gifts lawful)).books.orders)
