-- A run leaves the stop file of the roll alone until it elects, and takes the first out of the line or pauses.
use Rattle.std.proofs.Common.{◌≡◌, ℕ, zero, suc, ◌-◌, ◌<◌, Bool, true, false, not, ◌⊎◌, List, [], ◌∷◌, length, Some, None, Option, sym, refl, ap, ◌∙◌, subst, arith}
use Rattle.std.specs.List.{AllByRecursion}
use Rattle.std.proofs.lemmas.Bool.{false≢true}
use Rattle.market.specs.declared.words.Side.{Side}
use Rattle.market.specs.declared.words.Kind.{Kind}
use Rattle.market.specs.declared.words.Kind.TheVariants.{Limit, Market, ImmediateOrCancel, Stop}
use Rattle.market.specs.declared.words.Place.{Place}
use Rattle.market.specs.declared.words.Place.TheVariants.{Nowhere, Book, Line, StopFile}
use Rattle.market.specs.declared.words.Order.{Order}
use Rattle.market.specs.declared.words.Range.{Range}
use Rattle.market.specs.declared.words.TapeLine.{TapeLine}
use Rattle.market.specs.Sides.{opposite}
use Rattle.market.specs.Orders.{is_book, fill, cancel, put}
use Rattle.orderbook.specs.Trades.{is_off, contra_of}
use Rattle.replay.specs.Lists.{any}
use Rattle.replay.specs.Days.{Day, Phase, Rule}
use Rattle.replay.specs.Rolls.{is_filed, look, alter, left}
use Rattle.replay.specs.Book.{ahead, row, is_contra}
use Rattle.replay.specs.Moves.{deal, size, trade, leave, withdraw, rest, pause, centre}
use Rattle.replay.specs.Runs.{first_price, print_at, residual, settle_of, settle, elect_at, centre_if, run}
use Rattle.replay.specs.StopFile.{file_of}
use Rattle.replay.proofs.Rolls.{look_same, look_deal}
use Rattle.replay.proofs.Runs.{look_number}
use Rattle.replay.proofs.Turns.{print_line}
use Rattle.replay.proofs.Need.{settle_settled}
use Rattle.replay.proofs.FileOfRoll.{file_alter, file_deal}
use Rattle.trading.specs.declared.board.Board.{Board}
use Rattle.trading.specs.Waiting.{first_of}
use Rattle.trading.specs.Ruling.{is_loose, loose_of, Waits, Ruled}
use Rattle.trading.specs.Boards.{orders_of, waiting_of}
use Rattle.trading.specs.Shows.{Shows, Runner, second_price, printed}
use Rattle.trading.proofs.Ruled.{ruled, loose_fill}

-- the first in line ------------------------------------------------------------------------------------------------------
first_waits : (P : ℕ → Type 0) (l : List ℕ) (n : ℕ) → first_of l ≡ Some n → AllByRecursion P l → P n
first_waits P [] n e a = absurd (let z : ◌≡◌ {A = ℕ} 0 1 = cc in omega arith)
first_waits P (m ∷ l) n e a = let z : m ≡ n = cc in subst P z a.0

pub waits_of : {os : List Order} {l : List ℕ} {j n : ℕ} → ∥ Ruled os l j ∥₁ → first_of l ≡ Some n → Waits os n
waits_of {os} {l} {n} x e = first_waits (Waits os) l n e (ruled x).waits

pub first_is_lem : (l : List ℕ) (n : ℕ) → first_of l ≡ Some n → (ns : List ℕ) × (l ≡ n ∷ ns)
first_is_lem [] n e = absurd (let z : ◌≡◌ {A = ℕ} 0 1 = cc in omega arith)
first_is_lem (m ∷ l) n e = let z : m ≡ n = cc in (l, ap (λ k. k ∷ l) z)

-- loose orders -------------------------------------------------------------------------------------------------------------
loose_off : (w : Place) → is_loose w ≡ true → is_book w ≡ false
loose_off Nowhere e = refl
loose_off Book e = absurd (false≢true e)
loose_off Line e = refl
loose_off StopFile e = refl

loose_unfiled : (w : Place) → is_loose w ≡ true → is_filed w ≡ false
loose_unfiled Nowhere e = refl
loose_unfiled Book e = refl
loose_unfiled Line e = refl
loose_unfiled StopFile e = absurd (false≢true e)

found_loose : (n : ℕ) (os : List Order) (o : Order) → Waits os n → look n os ≡ Some o → is_loose o.place ≡ true
found_loose n os o w e = ap loose_of (sym e) ∙ w

the_loose : (os : List Order) (n : ℕ) → Waits os n → (o : Order) × (look n os ≡ Some o)
the_loose os n w = go (look n os) refl w
  where
    go : (x : Option Order) → look n os ≡ x → loose_of x ≡ true → (o : Order) × (look n os ≡ Some o)
    go None e w = absurd (false≢true w)
    go (Some o) e w = (o, e)

-- the order that was found is a runner
pub runs : (os : List Order) (n : ℕ) (r : Order) → Waits os n → look n os ≡ Some r → Runner os r
runs os n r w e =
    let same : look r.number os ≡ Some r = ap (λ m. look m os) (look_number n os r e) ∙ e in
    record { off = ap is_off same ∙ ap not (loose_off r.place (found_loose n os r w e)); contra = ap contra_of same }

-- moves of a loose order leave the file of the roll as it is -----------------------------------------------------------------
alter_file : (n : ℕ) (f : Order → Order) (os : List Order) → Waits os n → ((o : Order) → is_loose o.place ≡ true → is_filed (f o).place ≡ false) → file_of (alter n f os) ≡ file_of os
alter_file n f os w h = file_alter n f os (λ o e. let l : is_loose o.place ≡ true = found_loose n os o w e in (loose_unfiled o.place l, h o l))

module _ (gifts : Rule) where
  deal_waits : (n : ℕ) (c : Side) (p : ℕ) (os : List Order) (gs : List ℕ) → Waits os n → Waits (deal c p os gs) n
  deal_waits n c p os gs w =
      let x : (o : Order) × (look n os ≡ Some o) = the_loose os n w in
      let l : is_loose x.0.place ≡ true = found_loose n os x.0 w x.1 in
      ap loose_of (look_deal n c p os gs x.0 x.1 (loose_off x.0.place l)) ∙ l

  fill_waits : (n q : ℕ) (os : List Order) → Waits os n → Waits (alter n (fill q) os) n
  fill_waits n q os w =
      let x : (o : Order) × (look n os ≡ Some o) = the_loose os n w in
      ap loose_of (look_same n (fill q) os x.0 (λ o. refl) x.1) ∙ loose_fill q x.0 (found_loose n os x.0 w x.1)

  trade_waits : (n : ℕ) (c : Side) (p : ℕ) (d : Day) → Waits d.roll n → Waits (trade gifts n c p d).roll n
  unfolding trade
  trade_waits n c p d w =
      let os : List Order = d.roll in
      let q : ℕ = size n c p os in
      let gs : List ℕ = gifts (row c p os) (q - ahead c p os) in
      fill_waits n q (deal c p os gs) (deal_waits n c p os gs w)

  trade_file : (n : ℕ) (c : Side) (p : ℕ) (d : Day) → Waits d.roll n → file_of (trade gifts n c p d).roll ≡ file_of d.roll
  unfolding trade
  trade_file n c p d w =
      let os : List Order = d.roll in
      let q : ℕ = size n c p os in
      let gs : List ℕ = gifts (row c p os) (q - ahead c p os) in
      alter_file n (fill q) (deal c p os gs) (deal_waits n c p os gs w) (λ o l. loose_unfiled (fill q o).place (loose_fill q o l)) ∙ file_deal c p os gs

  print_waits : (r : Order) (x : Option ℕ) (d : Day) → Waits d.roll r.number → Waits (print_at gifts r x d).roll r.number
  print_waits r None d w = w
  print_waits r (Some p) d w = trade_waits r.number (opposite r.side) p d w

  print_file : (r : Order) (x : Option ℕ) (d : Day) → Waits d.roll r.number → file_of (print_at gifts r x d).roll ≡ file_of d.roll
  print_file r None d w = refl
  print_file r (Some p) d w = trade_file r.number (opposite r.side) p d w

  residual_file : (n : ℕ) (b : Bool) (k : Kind) (d : Day) → Waits d.roll n → file_of (residual n b k d).roll ≡ file_of d.roll
  unfolding pause withdraw rest
  residual_file n true Limit d w = refl
  residual_file n true Market d w = refl
  residual_file n true Stop d w = refl
  residual_file n true ImmediateOrCancel d w = alter_file n cancel d.roll w (λ o l. refl)
  residual_file n false Limit d w = alter_file n (put Book) d.roll w (λ o l. refl)
  residual_file n false Market d w = alter_file n cancel d.roll w (λ o l. refl)
  residual_file n false Stop d w = alter_file n cancel d.roll w (λ o l. refl)
  residual_file n false ImmediateOrCancel d w = alter_file n cancel d.roll w (λ o l. refl)

  settle_file : (r : Order) (d : Day) → Waits d.roll r.number → file_of (settle r d).roll ≡ file_of d.roll
  unfolding settle leave
  settle_file r d w = go (left r.number d.roll)
    where
      go : (m : ℕ) → file_of (settle_of m r.number (any (is_contra r) d.roll) r.kind d).roll ≡ file_of d.roll
      go zero = refl
      go (suc m) = residual_file r.number (any (is_contra r) d.roll) r.kind d w

  pub settled_file : (r : Order) (d : Day) → Waits d.roll r.number → file_of (settle r (printed gifts r d)).roll ≡ file_of d.roll
  settled_file r d w =
      let a : Option ℕ = first_price r d in
      let d₁ : Day = print_at gifts r a d in
      let w₁ : Waits d₁.roll r.number = print_waits r a d w in
      settle_file r (printed gifts r d) (print_waits r (second_price gifts r d) d₁ w₁) ∙ print_file r (second_price gifts r d) d₁ w₁ ∙ print_file r a d w

  -- the first is out, or trading is paused
  pub settled_out : (r : Order) (n : ℕ) (d : Day) → r.number ≡ n → first_of d.line ≡ Some n
      → ((settle r (printed gifts r d)).paused ≡ true) ⊎ (length (settle r (printed gifts r d)).line < length d.line)
  settled_out r n d e f =
      let x : (ns : List ℕ) × (d.line ≡ n ∷ ns) = first_is_lem d.line n f in
      let a : Option ℕ = first_price r d in
      let d₁ : Day = print_at gifts r a d in
      let b : Option ℕ = second_price gifts r d in
      let same : (printed gifts r d).line ≡ d.line = print_line gifts r b d₁ ∙ print_line gifts r a d in
      let out : ((settle r (printed gifts r d)).paused ≡ true) ⊎ (length (settle r (printed gifts r d)).line < length (printed gifts r d).line) =
      (settle_settled gifts r x.0 (printed gifts r d) (same ∙ x.1 ∙ ap (λ m. m ∷ x.0) (sym e))).out in
      subst (λ l. ((settle r (printed gifts r d)).paused ≡ true) ⊎ (length (settle r (printed gifts r d)).line < length l)) same out

-- the range ------------------------------------------------------------------------------------------------------------------
pub centre_file : (g : Option Range) (x : Option ℕ) (d : Day) → file_of (centre_if g x d).roll ≡ file_of d.roll
unfolding centre
centre_file None None d = refl
centre_file None (Some p) d = refl
centre_file (Some g) x d = refl

pub centre_line : (g : Option Range) (x : Option ℕ) (d : Day) → (centre_if g x d).line ≡ d.line
unfolding centre
centre_line None None d = refl
centre_line None (Some p) d = refl
centre_line (Some g) x d = refl

pub centre_paused : (g : Option Range) (x : Option ℕ) (d : Day) → (centre_if g x d).paused ≡ d.paused
unfolding centre
centre_paused None None d = refl
centre_paused None (Some p) d = refl
centre_paused (Some g) x d = refl

-- a run, put together --------------------------------------------------------------------------------------------------------
pub run_is : (gifts : Rule) (r : Order) (d : Day) {g : Option Range} {a b : Option ℕ} → g ≡ d.range → a ≡ first_price r d → b ≡ second_price gifts r d
    → centre_if g a (elect_at b (elect_at a (settle r (printed gifts r d)))) ≡ run gifts r d
unfolding run
run_is gifts r d {g} {a} {b} e f h =
    ap (λ x. centre_if x a (elect_at b (elect_at a (settle r (printed gifts r d))))) e
    ∙ ap (λ x. centre_if d.range x (elect_at b (elect_at x (settle r (printed gifts r d))))) f
    ∙ ap (λ x. centre_if d.range (first_price r d) (elect_at x (elect_at (first_price r d) (settle r (printed gifts r d))))) h

-- a board shows at least one day
abbrev pub day_with : Phase → Board → List TapeLine → Day
day_with f b ls = record {
  roll = orders_of b;
  line = waiting_of b;
  paused = b.paused;
  range = b.range;
  last = b.last_sale;
  class = b.class;
  column = b.column;
  phase = f;
  tape = ls;
  fills = [];
}

pub shown : (f : Phase) (b : Board) (ls : List TapeLine) → Shows f b ls (day_with f b ls)
shown f b ls = record { roll = refl; line = refl; paused = refl; range = refl; last = refl; class = refl; column = refl; phase = refl; tape = refl }
