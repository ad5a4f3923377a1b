use Rattle.cluster.specs.Writing.{idle_at, Runs}
use Rattle.protocol.proofs.Sweep.{Swept}
use Rattle.cluster.proofs.intake.write_run.Given as goal

abbrev pub invariant-loop-p : goal.invariant-loop-p
invariant-loop-p g l = Swept (idle_at l.parameters.marks l.parameters.sensors l.entries) (Runs g.A.State.Value.means (g.A.Application.stepped l.app) l.parameters.sensors l.state l.entries) l.initial.run l.run l.p
