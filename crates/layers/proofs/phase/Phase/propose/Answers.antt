use Rattle.std.proofs.Common.{◌-◌, ap, ◌∙◌}
use Rattle.layers.specs.King.{enough}
use Rattle.layers.proofs.phase.Phase.propose.Goals as goal

pub returns : goal.returns
returns c =
    let g = c.args.self.now.instance in
    c.enough.ensures ∙ ap (enough (g.n - g.f)) (rw c.args.self.now.starts at c.tally-tally.ensures)
