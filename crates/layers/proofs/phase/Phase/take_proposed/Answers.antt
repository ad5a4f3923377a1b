use Rattle.std.proofs.Common.{ℕ, Bool, ap, ◌∙◌}
use Rattle.layers.specs.Views.{given, bits_of}
use Rattle.layers.proofs.Same.{taken_from, taken_steps}
use Rattle.layers.proofs.phase.Phase.take_proposed.Goals as goal

pub returns : goal.returns
returns c =
    let g = given c.args.self.now.instance in
    let own = bits_of c.args.bits.now c.args.i in
    taken_steps g c.tally-tally.result own c.or-bit.result c.enough.result c.of.result c.enough.ensures c.or-bit.ensures c.of.ensures
    ∙ ap (λ (counts : Bool → ℕ). taken_from g counts own) (rw c.args.self.now.starts at c.tally-tally.ensures)
