-- Printed lines that were put one after the other.
use Rattle.std.proofs.Common.{List, ◌++◌, sym, ap, ◌∙◌, subst}
use Rattle.streams.specs.Sinks.{SinkState, Took}
use Rattle.streams.proofs.Taking.{took_more}
use Rattle.text.specs.declared.printed.Printed.{Printed}
use Rattle.text.specs.Printed.{bytes_of}
use Rattle.text.proofs.Printing.{bytes_append}

pub three : {a b c d : SinkState} (xs ys zs : List Printed) → Took a b (bytes_of xs) → Took b c (bytes_of ys) → Took c d (bytes_of zs) → Took a d (bytes_of (xs ++ ys ++ zs))
three {a} {d = d} xs ys zs p q r =
    subst (Took a d) (sym (bytes_append (xs ++ ys) zs ∙ ap (λ bs. bs ++ bytes_of zs) (bytes_append xs ys)))
    (took_more (bytes_of xs ++ bytes_of ys) (bytes_of zs) (took_more (bytes_of xs) (bytes_of ys) p q) r)
