use Rattle.std.proofs.Common.{ℕ, eqb, ap, ◌∙◌, arith}
use Rattle.std.proofs.lemmas.Nat.Bits.{bit_at_ones}
use Rattle.layers.proofs.bus.BusLayer.deliver.Goals as goal

pub returns-then-bit_from-clause-gets : goal.returns-then-bit_from-clause-gets
returns-then-bit_from-clause-gets c i h s = ap (λ (d : ℕ). eqb d 1) (bit_at_ones 16 i (omega arith)) ∙ c.if-bit_from.ensures
