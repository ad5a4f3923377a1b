use Rattle.quorum.specs.Counting.{bit}
use Rattle.dispersal.specs.Turning.{onward, takes_over}
use Rattle.dispersal.proofs.Moving.{Moved}
use Rattle.dispersal.proofs.dispersed.Dispersal.write.Given as goal

abbrev pub invariant-loop-i : goal.invariant-loop-i
invariant-loop-i g l =
    let t = l.self.turns in
    let p = t.parameters in
    Moved g.S.Value.means (bit p.marks)
    (onward g.S.Value.alike p.n p.sensors p.marks l.self.run.now t.accept.now t.chosen.now l.self.states.now)
    (takes_over g.S.Value.alike p.n p.sensors p.marks l.self.run.now t.accept.now t.chosen.now l.self.states.now)
    l.initial.state l.state l.taken l.i
