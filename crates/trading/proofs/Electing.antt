-- To take elected stops one by one, as long as there are any, is to elect.
use Rattle.std.proofs.Common.{◌≡◌, ℕ, suc, ◌+◌, ◌≤◌, Bool, true, false, cond, ◌&&◌, eqb, List, [], ◌∷◌, ◌++◌, map, length, Some, None, sym, refl, ap, ◌∙◌, subst, arith}
use Rattle.std.proofs.lemmas.Bool.{eq-eqb, ne_eqb}
use Rattle.market.specs.declared.words.Side.{Side}
use Rattle.market.specs.declared.words.Side.TheVariants.{Buy, Sell}
use Rattle.market.specs.declared.words.Stop.{Stop}
use Rattle.market.specs.declared.words.Place.TheVariants.{Line}
use Rattle.market.specs.declared.words.Order.{Order}
use Rattle.market.specs.declared.words.TapeLine.TheVariants.{Elect}
use Rattle.market.specs.Sides.{as_good}
use Rattle.market.specs.Orders.{put}
use Rattle.stops.specs.Stops.{reaches, elects, first_by, without_by}
use Rattle.replay.specs.Lists.{those, kept}
use Rattle.replay.specs.Days.{Day}
use Rattle.replay.specs.Rolls.{is_filed, look, found, alter, here}
use Rattle.replay.specs.RollHolds.{Numbered}
use Rattle.replay.specs.Moves.{is_elected, called, elect}
use Rattle.replay.specs.StopFile.{stop_of, file_of}
use Rattle.replay.proofs.Lists.{append_append, append_none}
use Rattle.trading.specs.Shows.{filed_of}

-- both files and orders are elected by the same test
pub reaches_is : (s : Side) (p q : ℕ) → reaches s p q ≡ as_good s p q
reaches_is Buy p q = refl
reaches_is Sell p q = refl

-- a stop that is taken has a number of the roll
taken_above : (p k : ℕ) (os : List Order) (s : Stop) → Numbered k os → first_by (elects p) (file_of os) ≡ Some s → k ≤ s.number
taken_above p k [] s h e = absurd (let z : ◌≡◌ {A = ℕ} 0 1 = cc in omega arith)
taken_above p k (o ∷ os) s h e = go (is_filed o.place) e (λ e. taken_above p (suc k) os s h.1 e)
  where
    at : (t : Bool) → cond t (Some (stop_of o)) (first_by (elects p) (file_of os)) ≡ Some s → (first_by (elects p) (file_of os) ≡ Some s → suc k ≤ s.number) → k ≤ s.number
    at true e ih = let z : stop_of o ≡ s = cc in subst (λ (x : Stop). k ≤ x.number) z (omega (arith, h.0))
    at false e ih = omega (arith, ih e)

    go : (b : Bool) → first_by (elects p) (map stop_of (kept b o (those (λ o. is_filed o.place) os))) ≡ Some s → (first_by (elects p) (file_of os) ≡ Some s → suc k ≤ s.number) → k ≤ s.number
    go true e ih = at (elects p (stop_of o)) e ih
    go false e ih = omega (arith, ih e)

-- what taking one stop does: n is its number
pub record Called (p n : ℕ) (os : List Order) : Type 0 where
  pub filed : filed_of (look n os) ≡ true
  pub numbers : map (λ o. o.number) (those (is_elected p) os) ≡ n ∷ map (λ o. o.number) (those (is_elected p) (alter n (put Line) os))
  pub roll : map (λ o. called (is_elected p o) o) (alter n (put Line) os) ≡ map (λ o. called (is_elected p o) o) os
  pub file : without_by (elects p) (file_of os) ≡ file_of (alter n (put Line) os)

module _ (p : ℕ) where
  abbrev nums : List Order → List ℕ
  nums os = map (λ o. o.number) (those (is_elected p) os)

  abbrev all : List Order → List Order
  all os = map (λ o. called (is_elected p o) o) os

  abbrev is_kept : Order → Bool
  is_kept o = is_filed o.place

  pub one_called : (k : ℕ) (os : List Order) (s : Stop) → Numbered k os → first_by (elects p) (file_of os) ≡ Some s → Called p s.number os
  unfolding look alter
  one_called k [] s h e = absurd (let z : ◌≡◌ {A = ℕ} 0 1 = cc in omega arith)
  one_called k (o ∷ os) s h e = go (is_filed o.place) refl (as_good o.side p o.price) refl e (λ e. one_called (suc k) os s h.1 e) (λ e. taken_above p (suc k) os s h.1 e)
    where
      n : ℕ
      n = s.number

      -- o is not the one
      past : (b t : Bool) → is_filed o.place ≡ b → as_good o.side p o.price ≡ t → (b && t) ≡ false → eqb o.number n ≡ false → Called p n os → Called p n (o ∷ os)
      past b t f g x d i = record {
        filed = ap (λ c. filed_of (found c o (look n os))) d ∙ i.filed;
        numbers = ap (λ c. map (λ (u : Order). u.number) (kept c o (those (is_elected p) os))) off ∙ i.numbers
            ∙ ap (λ c. n ∷ map (λ (u : Order). u.number) (kept c o (those (is_elected p) (alter n (put Line) os)))) (sym off)
            ∙ ap (λ l. n ∷ nums l) (sym step);
        roll = ap all step ∙ ap (λ l. called (is_elected p o) o ∷ l) i.roll;
        file = lists (is_filed o.place) refl ∙ ap file_of (sym step);
      }
        where
          off : is_elected p o ≡ false
          off = ap (λ c. c && as_good o.side p o.price) f ∙ ap (λ c. b && c) g ∙ x

          step : here (eqb o.number n) (put Line) o os (alter n (put Line) os) ≡ o ∷ alter n (put Line) os
          step = ap (λ c. here c (put Line) o os (alter n (put Line) os)) d

          lists : (c : Bool) → is_filed o.place ≡ c → without_by (elects p) (map stop_of (kept c o (those is_kept os))) ≡ map stop_of (kept c o (those is_kept (alter n (put Line) os)))
          lists true q =
              ap (λ v. cond v (file_of os) (stop_of o ∷ without_by (elects p) (file_of os))) (reaches_is o.side p o.price ∙ sym (ap (λ v. v && as_good o.side p o.price) q) ∙ off)
              ∙ ap (λ l. stop_of o ∷ l) i.file
          lists false q = i.file

      apart : suc k ≤ n → eqb o.number n ≡ false
      apart le = ne_eqb o.number n (λ q. omega (arith, h.0))

      go : (b : Bool) → is_filed o.place ≡ b → (t : Bool) → as_good o.side p o.price ≡ t → first_by (elects p) (map stop_of (kept b o (those is_kept os))) ≡ Some s
          → (first_by (elects p) (file_of os) ≡ Some s → Called p s.number os) → (first_by (elects p) (file_of os) ≡ Some s → suc k ≤ s.number) → Called p s.number (o ∷ os)
      go true f true g e ih lo =
          let hit : elects p (stop_of o) ≡ true = reaches_is o.side p o.price ∙ g in
          let is : stop_of o ≡ s = cc (ap (λ v. cond v (Some (stop_of o)) (first_by (elects p) (file_of os))) (sym hit) ∙ e) in
          let d : eqb o.number n ≡ true = eq-eqb o.number n (ap (λ (x : Stop). x.number) is) in
          let on : is_elected p o ≡ true = ap (λ c. c && as_good o.side p o.price) f ∙ g in
          let step : here (eqb o.number n) (put Line) o os (alter n (put Line) os) ≡ put Line o ∷ os = ap (λ c. here c (put Line) o os (alter n (put Line) os)) d in
          record {
            filed = ap (λ c. filed_of (found c o (look n os))) d ∙ f;
            numbers = ap (λ c. map (λ (u : Order). u.number) (kept c o (those (is_elected p) os))) on ∙ ap (λ m. m ∷ nums os) (ap (λ (x : Stop). x.number) is) ∙ ap (λ l. n ∷ nums l) (sym step);
            roll = ap all step ∙ ap (λ c. called c o ∷ all os) (sym on);
            file = ap (λ c. without_by (elects p) (map stop_of (kept c o (those is_kept os)))) f ∙ ap (λ v. cond v (file_of os) (stop_of o ∷ without_by (elects p) (file_of os))) hit ∙ ap file_of (sym step);
          }
      go true f false g e ih lo =
          let miss : elects p (stop_of o) ≡ false = reaches_is o.side p o.price ∙ g in
          let e' : first_by (elects p) (file_of os) ≡ Some s = ap (λ v. cond v (Some (stop_of o)) (first_by (elects p) (file_of os))) (sym miss) ∙ e in
          past true false f g refl (apart (lo e')) (ih e')
      go false f t g e ih lo = past false t f g refl (apart (lo e)) (ih e)

  -- nothing is elected any more
  pub record Done (os : List Order) : Type 0 where
    pub numbers : nums os ≡ []
    pub roll : all os ≡ os

  pub none_called : (os : List Order) → first_by (elects p) (file_of os) ≡ None → Done os
  none_called [] e = record { numbers = refl; roll = refl }
  none_called (o ∷ os) e = go (is_filed o.place) refl (as_good o.side p o.price) refl e (none_called os)
    where
      past : (b t : Bool) → is_filed o.place ≡ b → as_good o.side p o.price ≡ t → (b && t) ≡ false → Done os → Done (o ∷ os)
      past b t f g x i =
          let off : is_elected p o ≡ false = ap (λ c. c && as_good o.side p o.price) f ∙ ap (λ c. b && c) g ∙ x in
          record { numbers = ap (λ c. map (λ (u : Order). u.number) (kept c o (those (is_elected p) os))) off ∙ i.numbers; roll = ap (λ c. called c o ∷ all os) off ∙ ap (λ l. o ∷ l) i.roll }

      go : (b : Bool) → is_filed o.place ≡ b → (t : Bool) → as_good o.side p o.price ≡ t → first_by (elects p) (map stop_of (kept b o (those is_kept os))) ≡ None → (first_by (elects p) (file_of os) ≡ None → Done os) → Done (o ∷ os)
      go true f true g e ih =
          let hit : elects p (stop_of o) ≡ true = reaches_is o.side p o.price ∙ g in
          let no' : Some (stop_of o) ≡ None = ap (λ v. cond v (Some (stop_of o)) (first_by (elects p) (file_of os))) (sym hit) ∙ e in
          absurd (let z : ◌≡◌ {A = ℕ} 0 1 = cc in omega arith)
      go true f false g e ih =
          let miss : elects p (stop_of o) ≡ false = reaches_is o.side p o.price ∙ g in
          past true false f g refl (ih (ap (λ v. cond v (Some (stop_of o)) (first_by (elects p) (file_of os))) (sym miss) ∙ e))
      go false f t g e ih = past false t f g refl (ih e)

  -- one stop elected by itself
  abbrev pub elect_one : ℕ → Day → Day
  elect_one n d = record {
    roll = alter n (put Line) d.roll;
    line = d.line ++ (n ∷ []);
    paused = d.paused;
    range = d.range;
    last = d.last;
    class = d.class;
    column = d.column;
    phase = d.phase;
    tape = d.tape ++ (Elect n ∷ []);
    fills = d.fills;
  }

  -- the others follow
  pub elect_more : (n : ℕ) (d : Day) → Called p n d.roll → elect p (elect_one n d) ≡ elect p d
  unfolding elect
  elect_more n d c = λ i. record {
    roll = c.roll i;
    line = (append_append d.line (n ∷ []) (nums (alter n (put Line) d.roll)) ∙ ap (λ l. d.line ++ l) (sym c.numbers)) i;
    paused = d.paused;
    range = d.range;
    last = d.last;
    class = d.class;
    column = d.column;
    phase = d.phase;
    tape = (append_append d.tape (Elect n ∷ []) (map Elect (nums (alter n (put Line) d.roll))) ∙ ap (λ l. d.tape ++ map Elect l) (sym c.numbers)) i;
    fills = d.fills;
  }

  pub elect_none : (d : Day) → Done d.roll → elect p d ≡ d
  unfolding elect
  elect_none d c = λ i. record {
    roll = c.roll i;
    line = (ap (λ l. d.line ++ l) c.numbers ∙ append_none d.line) i;
    paused = d.paused;
    range = d.range;
    last = d.last;
    class = d.class;
    column = d.column;
    phase = d.phase;
    tape = (ap (λ l. d.tape ++ map Elect l) c.numbers ∙ append_none d.tape) i;
    fills = d.fills;
  }

-- one stop fewer in the file
pub one_fewer : (t : Stop → Bool) (ss : List Stop) (s : Stop) → first_by t ss ≡ Some s → length (without_by t ss) + 1 ≡ length ss
one_fewer t [] s e = absurd (let z : ◌≡◌ {A = ℕ} 0 1 = cc in omega arith)
one_fewer t (x ∷ xs) s e = go (t x) e (one_fewer t xs s)
  where
    go : (b : Bool) → cond b (Some x) (first_by t xs) ≡ Some s → (first_by t xs ≡ Some s → length (without_by t xs) + 1 ≡ length xs) → length (cond b xs (x ∷ without_by t xs)) + 1 ≡ suc (length xs)
    go true e ih = omega arith
    go false e ih = omega (arith, ih e)

pub none_fewer : (t : Stop → Bool) (ss : List Stop) → first_by t ss ≡ None → without_by t ss ≡ ss
none_fewer t [] e = refl
none_fewer t (x ∷ xs) e = go (t x) e (none_fewer t xs)
  where
    go : (b : Bool) → cond b (Some x) (first_by t xs) ≡ None → (first_by t xs ≡ None → without_by t xs ≡ xs) → cond b xs (x ∷ without_by t xs) ≡ x ∷ xs
    go true e ih = absurd (let z : ◌≡◌ {A = ℕ} 0 1 = cc in omega arith)
    go false e ih = ap (λ l. x ∷ l) (ih e)
