-- Known bytes over several reads and writes.
use Rattle.std.proofs.Common.{ℕ, List, [], ◌++◌, Option, Some, None, Ok, Err, Result, take, refl, sym, ap, ◌∙◌, append_assoc}
use Rattle.std.proofs.lemmas.List.{append-nil}
use Rattle.std.specs.Io.KnownBytes.{Appends, Consumes, Keeps, ReadConsumes, WriteAppends}

pub keeps_same : (a : Option (List ℕ)) → Keeps a a
keeps_same None = tt
keeps_same (Some xs) = refl

pub keeps_more : (a b c : Option (List ℕ)) → Keeps a b → Keeps b c → Keeps a c
keeps_more None b c h k = tt
keeps_more (Some xs) None c h k = absurd h
keeps_more (Some xs) (Some ys) None h k = k
keeps_more (Some xs) (Some ys) (Some zs) h k = k ∙ h

pub appends_none : (a b : Option (List ℕ)) → Keeps a b → Appends a b []
appends_none None b h = tt
appends_none (Some xs) None h = h
appends_none (Some xs) (Some ys) h = h ∙ sym (append-nil xs)

pub consumes_none : (a b : Option (List ℕ)) → Keeps a b → Consumes a b []
consumes_none None b h = tt
consumes_none (Some xs) None h = h
consumes_none (Some xs) (Some ys) h = sym h

pub appends_more : (a b c : Option (List ℕ)) (xs ys : List ℕ) → Appends a b xs → Appends b c ys → Appends a c (xs ++ ys)
appends_more None b c xs ys h k = tt
appends_more (Some s) None c xs ys h k = absurd h
appends_more (Some s) (Some t) None xs ys h k = k
appends_more (Some s) (Some t) (Some u) xs ys h k = k ∙ ap (λ l. l ++ ys) h ∙ append_assoc s xs ys

pub consumes_more : (a b c : Option (List ℕ)) (xs ys : List ℕ) → Consumes a b xs → Consumes b c ys → Consumes a c (xs ++ ys)
consumes_more None b c xs ys h k = tt
consumes_more (Some s) None c xs ys h k = absurd h
consumes_more (Some s) (Some t) None xs ys h k = k
consumes_more (Some s) (Some t) (Some u) xs ys h k = h ∙ ap (λ l. xs ++ l) k ∙ sym (append_assoc xs ys u)

pub read_after : {E : Type 0} (a b c : Option (List ℕ)) (r : Result ℕ E) (buffer : List ℕ) → Keeps a b → ReadConsumes b c r buffer → ReadConsumes a c r buffer
read_after a b c (Ok n) buffer h k = (consumes_more a b c [] (take n buffer) (consumes_none a b h) k.0, k.1)
read_after a b c (Err e) buffer h k = keeps_more a b c h k

pub write_after : {E : Type 0} (a b c : Option (List ℕ)) (r : Result ℕ E) (bytes : List ℕ) → Keeps a b → WriteAppends b c r bytes → WriteAppends a c r bytes
write_after a b c (Ok n) bytes h k = appends_more a b c [] (take n bytes) (appends_none a b h) k
write_after a b c (Err e) bytes h k = keeps_more a b c h k
