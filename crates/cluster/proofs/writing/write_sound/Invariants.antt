use Rattle.cluster.specs.Writing.{faulty_at}
use Rattle.protocol.proofs.Sweep.{Swept}
use Rattle.cluster.proofs.writing.write_sound.Given as goal

abbrev pub invariant-loop-p : goal.invariant-loop-p
invariant-loop-p g l = Swept (faulty_at l.parameters.marks l.w) (λ p v. goal.F-post g l.each p v) l.initial.table l.table l.p
