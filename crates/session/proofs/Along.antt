-- A fact of each line of a list against those above it.
use Rattle.std.proofs.Common.{List, [], ◌∷◌, ◌++◌, sym, subst, append_assoc}
use Rattle.std.proofs.lemmas.List.{append-nil}

abbrev pub Along : {A : Type 0} → (List A → A → Type 0) → List A → List A → Type 0
Along P above [] = Unit {0}
Along P above (x ∷ xs) = P above x × Along P (above ++ x ∷ []) xs

pub along_append : {A : Type 0} (P : List A → A → Type 0) (above xs ys : List A) → Along P above xs → Along P (above ++ xs) ys → Along P above (xs ++ ys)
along_append P above [] ys a b = subst (λ l. Along P l ys) (append-nil above) b
along_append P above (x ∷ xs) ys a b = (a.0, along_append P (above ++ x ∷ []) xs ys a.1 (subst (λ l. Along P l ys) (sym (append_assoc above (x ∷ []) xs)) b))

pub along_at : {A : Type 0} (P : List A → A → Type 0) (above before after : List A) (x : A) → Along P above (before ++ x ∷ after) → P (above ++ before) x
along_at P above [] after x a = subst (λ l. P l x) (sym (append-nil above)) a.0
along_at P above (y ∷ before) after x a = subst (λ l. P l x) (append_assoc above (y ∷ []) before) (along_at P (above ++ y ∷ []) before after x a.1)
