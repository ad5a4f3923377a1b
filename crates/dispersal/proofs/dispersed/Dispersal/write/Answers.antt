use Rattle.std.proofs.Common.{◌∙◌, arith}
use Rattle.std.proofs.lemmas.List.{set-get_or}
use Rattle.dispersal.proofs.Moving.{moved_none, moved_stays, moved_runs, moved_takes, moved_all}
use Rattle.dispersal.proofs.dispersed.Dispersal.write.Goals as goal
use Rattle.dispersal.proofs.dispersed.Dispersal.write.Goals.{in-Stays, in-Runs, in-Takes}

pub loop-i-init : goal.loop-i-init
loop-i-init g c = moved_none _ _ _ _ _

pub loop-i-preserved : goal.loop-i-preserved
loop-i-preserved g c =
    elim c.match-next.branch [
      | in-Stays w ↦ moved_stays _ _ _ _ w.in-Stays.ensures (w.state-is ∙ set-get_or _ _ _) w.taken-is c.loop-i.invariant
      | in-Runs w ↦ moved_runs _ _ _ _ w.in-Runs.s w.in-Runs.ensures (omega arith) w.state-is w.taken-is c.loop-i.invariant
      | in-Takes w ↦ moved_takes _ _ _ _ w.in-Takes.s w.in-Takes.ensures (omega arith) w.state-is w.taken-is c.loop-i.invariant
    ]

pub returns : goal.returns
returns g c =
    let done = moved_all _ _ _ _ c.loop-i.invariant c.args.self.now.turns.parameters.n (omega arith) (omega arith) in
    record { state = done.0; taken = done.1 }
