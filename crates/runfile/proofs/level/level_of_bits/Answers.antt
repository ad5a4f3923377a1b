use Rattle.std.proofs.Common.{refl}
use Rattle.std.proofs.lemmas.Float.{not_nan_f64_bits}
use Rattle.std.specs.Float.Ieee.{le}
use Rattle.runfile.proofs.Levels.{nan_above}
use Rattle.runfile.proofs.level.level_of_bits.Goals as goal

pub returns-then-bits-gt-INFINITY : goal.returns-then-bits-gt-INFINITY
unfolding le
returns-then-bits-gt-INFINITY c = rw (nan_above c.args.bits c.if-bits-gt-INFINITY.true) refl

pub float_from_bits-bits : goal.float_from_bits-bits
float_from_bits-bits c = not_nan_f64_bits c.args.bits c.if-bits-gt-INFINITY.false
