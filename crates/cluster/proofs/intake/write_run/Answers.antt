use Rattle.std.proofs.Common.{◌/◌, ◌<◌, length, sym, arith, Some, None}
use Rattle.std.proofs.lemmas.Nat.{div_below}
use Rattle.std.proofs.lemmas.Bool.{or_from, or_left, or_right}
use Rattle.protocol.proofs.Sweep.{swept_left, swept_wrote}
use Rattle.cluster.proofs.Stepping.{run_wants, run_idle}
use Rattle.cluster.proofs.intake.write_run.Goals as goal
use Rattle.cluster.proofs.intake.write_run.Goals.{then-is_sound+in-Some, then-is_sound+in_default, else-is_sound}

pub offset_bounds-state-i : goal.offset_bounds-state-i
offset_bounds-state-i g c = omega (arith, div_below c.loop-p.p c.args.parameters.sensors (length c.args.state.now) (omega arith) (omega arith))

pub bounds-state-i : goal.bounds-state-i
bounds-state-i g c = div_below c.loop-p.p c.args.parameters.sensors (length c.args.state.now) (omega arith) (omega arith)

pub loop-p-preserved : goal.loop-p-preserved
loop-p-preserved g c =
    let a = c.args in
    let p = c.loop-p.p in
    let es = a.entries.now in
    let means = g.A.State.Value.means in
    let step = g.A.Application.stepped a.app.now in
    let le : p < length es = omega arith in
    let ls : p / a.parameters.sensors < length a.state.now = div_below p a.parameters.sensors (length a.state.now) (omega arith) (omega arith) in
    elim c.if-is_sound.branch [
      | then-is_sound+in-Some w ↦
          let e = w.index-entries-p.result in
          let s = w.index-state-i.result in
          let next = w.in-Some.next in
          swept_wrote _ _ c.if-is_sound.run next w.run-is (omega arith)
          (or_from _ _ (sym w.if-is_sound.ensures) (run_idle means step a.parameters.sensors a.state.now es p e s le w.index-entries-p.is (Some next) w.in-Some.ensures))
          (run_wants means step a.parameters.sensors a.state.now es p e s le w.index-entries-p.is next ls w.index-state-i.is w.in-Some.ensures) c.loop-p.invariant
      | then-is_sound+in_default w ↦
          let e = w.index-entries-p.result in
          let s = w.index-state-i.result in
          swept_left _ _ c.if-is_sound.run w.run-is
          (or_right _ _ (run_idle means step a.parameters.sensors a.state.now es p e s le w.index-entries-p.is None w.in_default.ensures)) c.loop-p.invariant
      | else-is_sound w ↦ swept_left _ _ c.if-is_sound.run w.run-is (or_left _ _ (sym w.if-is_sound.ensures)) c.loop-p.invariant
    ]
