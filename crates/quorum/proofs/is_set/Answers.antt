use Rattle.std.proofs.Common.{ℕ, ◌/◌, ◌^◌, ◌<◌, ◌≤◌, eqb, sym, ap, ◌∙◌, arith}
use Rattle.std.proofs.lemmas.Nat.{and_mask}
use Rattle.std.proofs.lemmas.Bool.{le-ltb}
use Rattle.quorum.proofs.Bits.{bit_above}
use Rattle.quorum.proofs.is_set.Goals as goal

pub returns-then-i-lt16 : goal.returns-then-i-lt16
returns-then-i-lt16 c = ap (λ (x : ℕ). eqb x 1) (and_mask (c.args.mask / 2 ^ c.args.i) 1)

pub returns-else-i-lt16 : goal.returns-else-i-lt16
returns-else-i-lt16 c =
    let past : 16 ≤ c.args.i = omega arith in
    let fits : c.args.mask < 2 ^ 16 = omega arith in
    le-ltb c.args.i 16 past ∙ sym (bit_above c.args.mask 16 c.args.i fits past)
