-- A loop that takes stops out of a file and writes their numbers.
use Rattle.std.proofs.Common.{◌≡◌, ℕ, suc, ◌+◌, ◌-◌, ◌<◌, ◌≤◌, min, Bool, not, List, [], ◌∷◌, ◌++◌, map, length, take, drop, set, Some, None, filter, sym, ap, ◌∙◌, append_assoc, arith, length-set, take-append-drop}
use Rattle.std.proofs.lemmas.List.{take_more_set, drop-set-lt, drop-drop, take_all, take_at, take-map, append-nil, length-append, length-map, length-take-le}
use Rattle.market.specs.declared.words.Stop.{Stop}
use Rattle.stops.specs.Stops.{first_by, without_by, without_first}
use Rattle.stops.proofs.Firsts.{kept_more, without_more, untaken, all_gone}

abbrev pub numbers_of : List Stop → List ℕ
numbers_of ss = map (λ s. s.number) ss

-- so far n numbers of the file ss stand in ns, which began as ms; the file is now us
pub record Taking (t : Stop → Bool) (ss us : List Stop) (ms ns : List ℕ) (n : ℕ) : Type 0 where
  pub written : take n ns ++ numbers_of (filter t us) ≡ numbers_of (filter t ss)
  pub behind : drop n ns ≡ drop n ms
  pub left : without_first (length ms - n) t us ≡ without_first (length ms) t ss
  pub within : n ≤ length ms
  pub long : length ns ≡ length ms

-- what the loop leaves, with the file at vs
pub record Took (t : Stop → Bool) (ss vs : List Stop) (ms ns : List ℕ) (n : ℕ) : Type 0 where
  pub value : n ≡ min (length (filter t ss)) (length ms)
  pub listed : vs ≡ without_first (length ms) t ss
  pub wrote : ns ≡ numbers_of (take (length ms) (filter t ss)) ++ drop n ms
  pub others : length (filter t ss) ≤ length ms → vs ≡ filter (λ s. not (t s)) ss

module _ {t : Stop → Bool} {ss us : List Stop} {ms ns : List ℕ} {n : ℕ} where
  pub taking_more : {vs : List Stop} {s : Stop} → Taking t ss us ms ns n → n < length ns → Some s ≡ first_by t us → vs ≡ without_by t us → Taking t ss vs ms (set ns n s.number) (n + 1)
  taking_more {vs} {s} k lt was is =
      let longs = k.long in
      let step : suc (length ms - (n + 1)) ≡ length ms - n = omega arith in
      record {
        written = ap (λ (l : List ℕ). l ++ numbers_of (filter t vs)) (take_more_set ns n s.number lt)
            ∙ append_assoc (take n ns) (s.number ∷ []) (numbers_of (filter t vs))
            ∙ ap (λ (l : List Stop). take n ns ++ (s.number ∷ numbers_of (filter t l))) is
            ∙ ap (λ (l : List Stop). take n ns ++ numbers_of l) (sym (kept_more t us s (sym was)))
            ∙ k.written;
        behind = drop-set-lt (n + 1) ns n s.number (omega arith) ∙ sym (drop-drop 1 n ns) ∙ ap (drop 1) k.behind ∙ drop-drop 1 n ms;
        left = ap (without_first (length ms - (n + 1)) t) is ∙ sym (without_more t (length ms - (n + 1)) us) ∙ ap (λ (m : ℕ). without_first m t us) step ∙ k.left;
        within = omega arith;
        long = length-set ns n s.number ∙ k.long;
      }

  -- no room for more
  pub taking_full : Taking t ss us ms ns n → length ns ≤ n → Took t ss us ms ns n
  taking_full k le =
      let longs = k.long in
      let inside = k.within in
      let all : n ≡ length ms = omega arith in
      let sum = sym (length-append (take n ns) (numbers_of (filter t us))) ∙ ap length k.written ∙ length-map (filter t ss) (λ s. s.number) in
      let front = length-take-le n ns (omega arith) in
      let none : length ms - n ≡ 0 = omega arith in
      let is : us ≡ without_first (length ms) t ss = ap (λ (m : ℕ). without_first m t us) (sym none) ∙ k.left in
      record {
        value = omega arith;
        listed = is;
        wrote = sym (take-append-drop n ns)
            ∙ ap (λ (l : List ℕ). l ++ drop n ns) (sym (take_at (take n ns) (numbers_of (filter t us)) n front) ∙ ap (take n) k.written ∙ take-map (λ s. s.number) n (filter t ss) ∙ ap (λ (m : ℕ). numbers_of (take m (filter t ss))) all)
            ∙ ap (λ (l : List ℕ). numbers_of (take (length ms) (filter t ss)) ++ l) k.behind;
        others = λ few. is ∙ all_gone t ss (length ms) few;
      }

  -- none is elected any more
  pub taking_done : {vs : List Stop} → Taking t ss us ms ns n → None ≡ first_by t us → vs ≡ without_by t us → Took t ss vs ms ns n
  taking_done {vs} k none is =
      let longs = k.long in
      let inside = k.within in
      let u = untaken t us (sym none) in
      let whole : take n ns ≡ numbers_of (filter t ss) = sym (append-nil (take n ns)) ∙ ap (λ (l : List Stop). take n ns ++ numbers_of l) (sym u.kept) ∙ k.written in
      let front = length-take-le n ns (omega arith) in
      let count : n ≡ length (filter t ss) = sym front ∙ ap length whole ∙ length-map (filter t ss) (λ s. s.number) in
      let here : vs ≡ without_first (length ms) t ss = is ∙ u.same ∙ sym (u.whole (length ms - n)) ∙ k.left in
      record {
        value = omega arith;
        listed = here;
        wrote = sym (take-append-drop n ns)
            ∙ ap (λ (l : List ℕ). l ++ drop n ns) (whole ∙ ap numbers_of (sym (take_all (length ms) (filter t ss) (omega arith))))
            ∙ ap (λ (l : List ℕ). numbers_of (take (length ms) (filter t ss)) ++ l) k.behind;
        others = λ few. here ∙ all_gone t ss (length ms) few;
      }
