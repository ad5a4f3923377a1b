use Rattle.operation.proofs.Listing.{operated}
use Rattle.operation.proofs.perform.operate.Goals as goal

pub returns : goal.returns
returns g c = operated _ g.Z.Selection.choice _ c.args.start _ _ _ c.args.calls.now c.in_ok-cluster.cluster c.perform.result c.in_ok-cluster.ensures c.perform.ensures
