use Rattle.std.proofs.Common.{◌≡◌, ◌^◌, ◌<◌, drop}
use Rattle.std.specs.Str.{all_ascii_digits}
use Rattle.text.specs.Numbers.{value_on}
use Rattle.text.proofs.number.number_in.Given as goal

abbrev pub invariant-loop-b : goal.invariant-loop-b
invariant-loop-b l =
    record {
      value : value_on l.n (drop l.b-index l.field) ≡ value_on 0 l.field;
      digits : all_ascii_digits (drop l.b-index l.field) ≡ all_ascii_digits l.field;
      small : l.n < 10 ^ l.b-index;
    }
