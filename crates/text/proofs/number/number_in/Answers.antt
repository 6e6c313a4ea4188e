use Rattle.std.proofs.Common.{arith}
use Rattle.text.proofs.Numerals.{ten_room}
use Rattle.text.proofs.number.number_in.Goals as goal

pub overflow_mul-n : goal.overflow_mul-n
overflow_mul-n c = omega (arith, ten_room c.loop-b.n c.loop-b.b-index c.loop-b.invariant.small (omega arith))

pub overflow_add-n : goal.overflow_add-n
overflow_add-n c = omega (arith, c.from.ensures, ten_room c.loop-b.n c.loop-b.b-index c.loop-b.invariant.small (omega arith))
