use Rattle.protocol.specs.Model.{in_turn}
use Rattle.cluster.proofs.Carrying.{abandoned}
use Rattle.cluster.proofs.Cluster.abandon.Goals as goal

pub returns : goal.returns
unfolding in_turn
returns g c = abandoned _ c.never_part.ensures g.G.Stage.stage g.met.G.Open.open _ _ c.at.ensures
