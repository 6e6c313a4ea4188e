-- The fills of a print are the runner's, and those of limit orders of the other side.
use Rattle.std.proofs.Common.{◌≡◌, ℕ, zero, suc, ◌+◌, ◌-◌, ◌<◌, ◌≤◌, Bool, true, false, eqb, List, [], ◌∷◌, ◌++◌, map, Some, Option, sym, refl, ap, ◌∙◌, subst, arith}
use Rattle.std.proofs.lemmas.Bool.{false≢true, and_parts, ne_eqb, eqb-true}
use Rattle.std.specs.List.{AllZip, AllByRecursion}
use Rattle.market.specs.declared.words.Side.{Side}
use Rattle.market.specs.declared.words.Place.TheVariants.{Book, Line}
use Rattle.market.specs.declared.words.Order.{Order}
use Rattle.market.specs.declared.words.Range.{Range}
use Rattle.market.specs.declared.words.TapeLine.{TapeLine}
use Rattle.market.specs.declared.words.TapeLine.TheVariants.{Print, Cancel, Elect, Floor}
use Rattle.market.specs.Sides.{opposite, same_side, better}
use Rattle.market.specs.Orders.{rests_on, is_book, fill, cancel, put}
use Rattle.sharing.specs.Shares.{LawfulRule}
use Rattle.replay.specs.Lists.{only, total, those}
use Rattle.replay.specs.Days.{Fill, Day, Rule, new_day}
use Rattle.replay.specs.Rolls.{look, left, fresh}
use Rattle.replay.specs.Book.{is_at, is_better, row, ahead}
use Rattle.replay.specs.Moves.{low_of, high_of, deal, part, after, filled_by, taken, size, trade, leave, withdraw, rest, pause, elect, is_elected, centre, admit, floored, resumed, set_up, to}
use Rattle.replay.specs.Calls.{after_calls}
use Rattle.replay.specs.Bounds.{Fine, Bounds}
use Rattle.replay.specs.Matches.{Against, fills_of, MatchedBy, PrintsMatch}
use Rattle.replay.proofs.Lists.{append_append, append_none, all_map}
use Rattle.replay.proofs.Sharing.{Gift}
use Rattle.replay.proofs.Rolls.{same_side_lem}
use Rattle.replay.proofs.Conservation.{Ready, fits, zip, gs_sum}
use Rattle.replay.proofs.Runs.{Mid, Prints, Counted, numbers, fill_number, trade_ready}
use Rattle.replay.proofs.Calls.{put_number}
use Rattle.replay.proofs.Keeps.{Keeps, always}
use Rattle.replay.proofs.Idle.{counted_look}
use Rattle.replay.proofs.Fills.{Terms, Kept, terms_fill, kept_self, kept_trans, kept_alter, kept_deal, kept_called, kept_push, all_filled_by, taken_sum, cancel_number, cancel_terms, put_terms}
use Rattle.replay.proofs.Bounds.{on_book, bounds_keeps, new_bounds}

some_inj : {x y : Order} → Some x ≡ Some y → x ≡ y
some_inj e = cc

-- a roll that keeps the terms of its orders keeps the fills matched --------------------------------------------------------------------------------
against_kept : (os us : List Order) → Kept os us → (n : ℕ) (s : Side) (p lo hi : ℕ) (f : Fill) → Against os n s p lo hi f → Against us n s p lo hi f
against_kept os us k n s p lo hi f a =
    let h : (u : Order) × (look f.order us ≡ Some u) × Terms a.order u = k f.order a.order a.there in
    record { order = h.0; there = h.1; other = a.other; kind = h.2.kind ∙ a.kind; side = h.2.side ∙ a.side; some = a.some; print = a.print }

matched_kept : (os us : List Order) → Kept os us → (ls : List TapeLine) (fs : List Fill) → MatchedBy os ls fs → MatchedBy us ls fs
matched_kept os us k [] fs h = h
matched_kept os us k (Print n p q lo hi ∷ ls) fs h =
    let r : (u : Order) × (look n us ≡ Some u) × Terms h.0 u = k n h.0 h.3 in (
      r.0,
      h.1,
      h.2,
      r.1,
      h.4,
      all_map (Against os n h.0.side p lo hi) (Against us n r.0.side p lo hi) h.1 (λ f a. subst (λ s. Against us n s p lo hi f) (sym r.2.side) (against_kept os us k n h.0.side p lo hi f a)) h.5,
      h.6,
      h.7,
      matched_kept os us k ls h.2 h.8,
    )
matched_kept os us k (Cancel n q ∷ ls) fs h = matched_kept os us k ls fs h
matched_kept os us k (Elect n ∷ ls) fs h = matched_kept os us k ls fs h
matched_kept os us k (Floor p q ∷ ls) fs h = matched_kept os us k ls fs h

matched_append : (os : List Order) (ls ks : List TapeLine) (fs gs : List Fill) → MatchedBy os ls fs → MatchedBy os ks gs → MatchedBy os (ls ++ ks) (fs ++ gs)
matched_append os [] ks fs gs h k = subst (λ xs. MatchedBy os ks (xs ++ gs)) (sym h) k
matched_append os (Print n p q lo hi ∷ ls) ks fs gs h k = (
  h.0,
  h.1,
  h.2 ++ gs,
  h.3,
  ap (λ xs. xs ++ gs) h.4 ∙ ap (λ xs. record { order = n; price = p; shares = q; low = lo; high = hi } ∷ xs) (append_append h.1 h.2 gs),
  h.5,
  h.6,
  h.7,
  matched_append os ls ks h.2 gs h.8 k,
)
matched_append os (Cancel n q ∷ ls) ks fs gs h k = matched_append os ls ks fs gs h k
matched_append os (Elect n ∷ ls) ks fs gs h k = matched_append os ls ks fs gs h k
matched_append os (Floor p q ∷ ls) ks fs gs h k = matched_append os ls ks fs gs h k

matched_silent : (os : List Order) (ls ks : List TapeLine) (fs : List Fill) → MatchedBy os ls fs → MatchedBy os ks [] → MatchedBy os (ls ++ ks) fs
matched_silent os ls ks fs h k = subst (MatchedBy os (ls ++ ks)) (append_none fs) (matched_append os ls ks fs [] h k)

no_fills : (os : List Order) (ns : List ℕ) → MatchedBy os (map Elect ns) []
no_fills os [] = refl
no_fills os (n ∷ ns) = no_fills os ns

-- who gives to a print ---------------------------------------------------------------------------------------------------------------------------------
-- an order that gives anything rests on side c
pub gives : (c : Side) (p : ℕ) (o : Order) (gs : List ℕ) → 0 < part (is_better c p o) (is_at c p o) o.«open» gs → rests_on c o ≡ true
gives c p o gs h = go (is_better c p o) (is_at c p o) refl refl h
  where
    go : (b t : Bool) → is_better c p o ≡ b → is_at c p o ≡ t → 0 < part b t o.«open» gs → rests_on c o ≡ true
    go true t e f h = (and_parts (rests_on c o) (better c o.price p) e).0
    go false true e f h = (and_parts (rests_on c o) (eqb o.price p) f).0
    go false false e f h = absurd (omega arith)

-- nobody gives twice -----------------------------------------------------------------------------------------------------------------------------------
one_of : (m q n p : ℕ) (g : Option Range) (fs : List Fill) → fills_of m (filled_by q n p g fs) ≤ only (eqb n m) 1 + fills_of m fs
one_of m zero n p g fs = omega arith
one_of m (suc q) n p g fs = omega arith

-- of a roll that is numbered from k on
taken_above : (m : ℕ) (c : Side) (p : ℕ) (g : Option Range) (k : ℕ) (os : List Order) (gs : List ℕ) → m < k → Counted k (numbers os) → fills_of m (taken c p g os gs) ≡ 0
unfolding taken
taken_above m c p g k [] gs h a = refl
taken_above m c p g k (o ∷ os) gs h a =
    let e : only (eqb o.number m) 1 ≡ 0 = ap (λ b. only b 1) (ne_eqb o.number m (λ e. omega (arith, a.0))) in
    omega (arith, one_of m (part (is_better c p o) (is_at c p o) o.«open» gs) o.number p g (taken c p g os (after (is_at c p o) gs)), e, taken_above m c p g (suc k) os (after (is_at c p o) gs) (omega arith) a.1)

taken_once : (m : ℕ) (c : Side) (p : ℕ) (g : Option Range) (k : ℕ) (os : List Order) (gs : List ℕ) → Counted k (numbers os) → fills_of m (taken c p g os gs) ≤ 1
unfolding taken
taken_once m c p g k [] gs a = omega arith
taken_once m c p g k (o ∷ os) gs a = go (eqb o.number m) refl (taken_once m c p g (suc k) os (after (is_at c p o) gs) a.1)
  where
    rest : List Fill
    rest = taken c p g os (after (is_at c p o) gs)

    one : fills_of m (filled_by (part (is_better c p o) (is_at c p o) o.«open» gs) o.number p g rest) ≤ only (eqb o.number m) 1 + fills_of m rest
    one = one_of m (part (is_better c p o) (is_at c p o) o.«open» gs) o.number p g rest

    go : (b : Bool) → eqb o.number m ≡ b → fills_of m rest ≤ 1 → fills_of m (filled_by (part (is_better c p o) (is_at c p o) o.«open» gs) o.number p g rest) ≤ 1
    go true e ih = omega (arith, one, ap (λ b. only b 1) e, taken_above m c p g (suc k) os (after (is_at c p o) gs) (omega (arith, eqb-true o.number m e, a.0)) a.1)
    go false e ih = omega (arith, one, ih, ap (λ b. only b 1) e)

module _ (os : List Order) (r : Order) (c : Side) (s : Side) (e : c ≡ opposite s) (n p : ℕ) (g : Option Range) (is : look n os ≡ Some r) (w : r.place ≡ Line) where
  against : (q : ℕ) (o : Order) → look o.number os ≡ Some o → Fine o → rests_on c o ≡ true → 0 < q
      → Against os n s p (low_of g) (high_of g) (record { order = o.number; price = p; shares = q; low = low_of g; high = high_of g })
  against q o i f h pos =
      let x : (is_book o.place ≡ true) × (same_side o.side c ≡ true) = and_parts (is_book o.place) (same_side o.side c) h in
      record {
        order = o;
        there = i;
        other = λ y.
            let z : o ≡ r = some_inj (sym i ∙ subst (λ k. look k os ≡ Some r) (sym y) is) in
            false≢true (ap is_book (sym w) ∙ sym (ap (λ (v : Order). is_book v.place) z) ∙ x.0);
        kind = f.book (on_book o.place x.0);
        side = same_side_lem o.side c x.1 ∙ e;
        some = omega arith;
        print = record { price = refl; low = refl; high = refl };
      }

  taken_against : (xs : List Order) (gs : List ℕ) → AllByRecursion (λ o. look o.number os ≡ Some o) xs → AllByRecursion Fine xs → AllByRecursion (Against os n s p (low_of g) (high_of g)) (taken c p g xs gs)
  unfolding taken
  taken_against [] gs a b = tt
  taken_against (o ∷ xs) gs a b =
      all_filled_by (Against os n s p (low_of g) (high_of g)) (part (is_better c p o) (is_at c p o) o.«open» gs) o.number p g _
      (λ h. against (part (is_better c p o) (is_at c p o) o.«open» gs) o a.0 b.0 (gives c p o gs h) h) (taken_against xs (after (is_at c p o) gs) a.1 b.1)

  one_print : (q : ℕ) (fs : List Fill) → 0 < q → AllByRecursion (Against os n s p (low_of g) (high_of g)) fs → ((m : ℕ) → fills_of m fs ≤ 1) → total (λ f. f.shares) fs ≡ q → s ≡ r.side
      → MatchedBy os (Print n p q (low_of g) (high_of g) ∷ []) (filled_by q n p g fs)
  one_print zero fs h a u t y = absurd (omega arith)
  one_print (suc q) fs h a u t y = (
    r,
    fs,
    [],
    is,
    ap (λ xs. record { order = n; price = p; shares = suc q; low = low_of g; high = high_of g } ∷ xs) (sym (append_none fs)),
    subst (λ z. AllByRecursion (Against os n z p (low_of g) (high_of g)) fs) y a,
    u,
    t,
    refl,
  )

module _ (gifts : Rule) (lawful : LawfulRule gifts) where
  trade_matched : (r : Order) (p : ℕ) (d : Day) → Mid r d → Prints r p d → Bounds d → MatchedBy d.roll d.tape d.fills
      → MatchedBy (trade gifts r.number (opposite r.side) p d).roll (trade gifts r.number (opposite r.side) p d).tape (trade gifts r.number (opposite r.side) p d).fills
  unfolding trade
  trade_matched r p d m k b h =
      let n : ℕ = r.number in
      let c : Side = opposite r.side in
      let os : List Order = d.roll in
      let q : ℕ = size n c p os in
      let gs : List ℕ = gifts (row c p os) (q - ahead c p os) in
      let ready : Ready n m.runner c p os = trade_ready gifts lawful r p d m k in
      let over : 100 ≤ q - ahead c p os = (fits gifts lawful n m.runner c p d ready m.books).over in
      let z : AllZip Gift gs (row c p os) = zip gifts lawful n m.runner c p d ready m.books in
      let e : ahead c p os + total (λ n. n) gs ≡ q = gs_sum gifts lawful n m.runner c p d ready m.books in
      let a : AllByRecursion (Against os n r.side p (low_of d.range) (high_of d.range)) (taken c p d.range os gs)
      = taken_against os m.runner c r.side refl n p d.range m.is ready.waits os gs (counted_look 1 os m.counted) b.orders in
      matched_kept os _ (kept_trans os (deal c p os gs) _ (kept_deal c p os gs) (kept_alter n (fill q) (deal c p os gs) (λ o. fill_number q o) (λ o. terms_fill q o)))
      (d.tape ++ (Print n p q (low_of d.range) (high_of d.range) ∷ [])) (d.fills ++ filled_by q n p d.range (taken c p d.range os gs))
      (matched_append os d.tape (Print n p q (low_of d.range) (high_of d.range) ∷ []) d.fills (filled_by q n p d.range (taken c p d.range os gs)) h
      (one_print os m.runner c r.side refl n p d.range m.is ready.waits q (taken c p d.range os gs) (omega arith) a (λ j. taken_once j c p d.range 1 os gs m.counted) (taken_sum c p d.range os gs z ∙ e) (sym m.side)))

  abbrev Matched : Day → Type 0
  Matched d = MatchedBy d.roll d.tape d.fills

  -- a move that keeps the terms of all orders, with lines that print nothing
  quiet : (d e : Day) (ks : List TapeLine) → Kept d.roll e.roll → e.tape ≡ d.tape ++ ks → e.fills ≡ d.fills → MatchedBy e.roll ks [] → Matched d → Matched e
  quiet d e ks k t f s h =
      subst (MatchedBy e.roll e.tape) (sym f) (subst (λ xs. MatchedBy e.roll xs d.fills) (sym t) (matched_silent e.roll d.tape ks d.fills (matched_kept d.roll e.roll k d.tape d.fills h) s))

  same : (d e : Day) → Kept d.roll e.roll → e.tape ≡ d.tape → e.fills ≡ d.fills → Matched d → Matched e
  same d e k t f h = quiet d e [] k (t ∙ sym (append_none d.tape)) f refl h

  abbrev Both : Day → Type 0
  Both d = Bounds d × Matched d

  B : Keeps gifts lawful Bounds
  B = bounds_keeps gifts lawful

  matched_keeps : Keeps gifts lawful Both
  unfolding leave withdraw rest pause elect centre admit floored resumed set_up to B
  matched_keeps = record {
    trade = λ r p d m k h. (B.trade r p d m k h.0, trade_matched r p d m k h.0 h.1);
    leave = λ r d m e h. (B.leave r d m e h.0, same d (leave r.number d) (kept_self d.roll) refl refl h.1);
    withdraw = λ n d c h. (B.withdraw n d c h.0, quiet d (withdraw n d) (Cancel n (left n d.roll) ∷ []) (kept_alter n cancel d.roll cancel_number cancel_terms) refl refl refl h.1);
    rest = λ r d m w e c h. (B.rest r d m w e c h.0, same d (rest r.number d) (kept_alter r.number (put Book) d.roll (put_number Book) put_terms) refl refl h.1);
    pause = λ d h. (B.pause d h.0, same d (pause true d) (kept_self d.roll) refl refl h.1);
    elect = λ p d s h. (
      B.elect p d s h.0,
      quiet d (elect p d) (map Elect (numbers (those (is_elected p) d.roll))) (kept_called p d.roll) refl refl (no_fills (elect p d).roll (numbers (those (is_elected p) d.roll))) h.1,
    );
    centre = λ d h. (B.centre d h.0, same d (centre d) (kept_self d.roll) refl refl h.1);
    admit = λ k s m p q w d sd ch pl h. (
      B.admit k s m p q w d sd ch pl h.0,
      same d (admit (fresh k s m p q d.roll) w d) (kept_push d.roll (put w (fresh k s m p q d.roll))) refl refl h.1,
    );
    floored = λ p q d e h. (B.floored p q d e h.0, quiet d (floored p q d) (Floor p q ∷ []) (kept_self d.roll) refl refl refl h.1);
    resumed = λ d h. (B.resumed d h.0, same d (resumed d) (kept_self d.roll) refl refl h.1);
    set_up = λ k c p d e f h. (B.set_up k c p d e f h.0, same d (set_up k c p d) (kept_self d.roll) refl refl h.1);
    to = λ f d h. (B.to f d h.0, same d (to f d) (kept_self d.roll) refl refl h.1);
  }

  new_both : Both new_day
  unfolding new_day
  new_both = (new_bounds, refl)

pub prints_match : PrintsMatch
prints_match gifts lawful room cs = let h : Both gifts lawful (after_calls gifts room new_day cs) = always gifts lawful (Both gifts lawful) (matched_keeps gifts lawful) (new_both gifts lawful) room cs in h.1
