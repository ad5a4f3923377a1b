use Rattle.std.proofs.Common.{◌^◌, ◌<◌, arith}
use Rattle.std.proofs.lemmas.Nat.{ones-le}
use Rattle.quorum.proofs.Bits.{ones_count}
use Rattle.quorum.proofs.set_bits.Goals as goal

pub overflow_cast-result : goal.overflow_cast-result
overflow_cast-result c =
    let word : c.args.mask < 2 ^ 16 = omega arith in
    omega (arith, ones-le 16 c.args.mask word)

pub returns : goal.returns
returns c =
    let word : c.args.mask < 2 ^ 16 = omega arith in
    record { all = ones_count 16 c.args.mask word; below = λ n h. ones_count n c.args.mask h }
