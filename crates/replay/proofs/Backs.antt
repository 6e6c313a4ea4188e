-- Which orders had a property before a change, if they have it after it.
use Rattle.std.proofs.Common.{◌≡◌, ℕ, Bool, true, List, map, Some, None, Option, sym, refl, ap, ◌∙◌, subst, inl, inr, ⊎_elim, arith}
use Rattle.std.proofs.lemmas.Bool.{cases_eq}
use Rattle.market.specs.declared.words.Side.{Side}
use Rattle.market.specs.declared.words.Order.{Order}
use Rattle.market.specs.Orders.{fill}
use Rattle.replay.specs.Rolls.{look, alter}
use Rattle.replay.specs.Moves.{deal, is_elected, called}
use Rattle.replay.proofs.Idle.{upon, look_alter, look_past, Dealt, look_dealt}
use Rattle.replay.proofs.Outs.{look_elected}

module _ (t : Order → Bool) where
  -- every order of us that passes the test passed it on os
  abbrev pub Back : List Order → List Order → Type 0
  Back os us = (n : ℕ) (u : Order) → look n us ≡ Some u → t u ≡ true → (o : Order) × (look n os ≡ Some o) × (t o ≡ true)

  pub back_trans : (os us vs : List Order) → Back os us → Back us vs → Back os vs
  back_trans os us vs a b n v i e = let x : (u : Order) × (look n us ≡ Some u) × (t u ≡ true) = b n v i e in a n x.0 x.1 x.2

  from : {A : Type 0} (f : Order → Order) (x : Option Order) (u : Order) → upon f x ≡ Some u → ((o : Order) → x ≡ Some o → f o ≡ u → A) → A
  from f None u e k = absurd (let z : ◌≡◌ {A = ℕ} 0 1 = cc in omega arith)
  from f (Some o) u e k = k o refl (let z : f o ≡ u = cc in z)

  pub back_alter : (k : ℕ) (f : Order → Order) (os : List Order) → ((o : Order) → (f o).number ≡ o.number) → ((o : Order) → t (f o) ≡ true → t o ≡ true) → Back os (alter k f os)
  back_alter k f os e h n u i b = ⊎_elim
      (λ x. subst (λ m. (o : Order) × (look m os ≡ Some o) × (t o ≡ true)) (sym x)
      (from f (look k os) u (sym (look_alter k f os e) ∙ subst (λ m. look m (alter k f os) ≡ Some u) x i) (λ o y z. (o, y, h o (ap t z ∙ b)))))
      (λ ne. (u, sym (look_past n k f os e ne) ∙ i, b)) (cases_eq n k)

  pub back_deal : ((q : ℕ) (o : Order) → t (fill q o) ≡ true → t o ≡ true) → (c : Side) (p : ℕ) (os : List Order) (gs : List ℕ) → Back os (deal c p os gs)
  unfolding Dealt
  back_deal h c p os gs n u i b = go (look n os) refl (subst (λ y. Dealt (look n os) y) i (look_dealt n c p os gs))
    where
      go : (x : Option Order) → look n os ≡ x → Dealt x (Some u) → (o : Order) × (look n os ≡ Some o) × (t o ≡ true)
      go None e z = absurd z
      go (Some o) e (inl z) = (o, e, ap t (sym z) ∙ b)
      go (Some o) e (inr z) = (o, e, h z.0 o (ap t (sym z.1) ∙ b))

  pub back_elected : ((c : Bool) (o : Order) → t (called c o) ≡ true → t o ≡ true) → (p : ℕ) (os : List Order) → Back os (map (λ o. called (is_elected p o) o) os)
  back_elected h p os n u i b = from (λ o. called (is_elected p o) o) (look n os) u (sym (look_elected n p os) ∙ i) (λ o y z. (o, y, h (is_elected p o) o (ap t z ∙ b)))
