use Rattle.std.proofs.Common.{refl}
use Rattle.protocol.specs.Setup.{lent}
use Rattle.questions.proofs.Fitting.{same_sizes}
use Rattle.operation.proofs.Listing.{each_more, one_more, all_done}
use Rattle.operation.proofs.perform.perform.Goals as goal

pub loop-call-init : goal.loop-call-init
loop-call-init g c = record { each = refl; runs = λ origin start h came. came }

pub loop-call-preserved : goal.loop-call-preserved
loop-call-preserved g c =
    let l = c.loop-call in
    let n = c.turn-progress in
    let t = lent l.state l.own l.agreed l.run l.accept l.yes l.heard l.candidates l.chosen in
    let fit = same_sizes (lent c.args.state.now c.args.own.now c.args.agreed.now c.args.run.now c.args.accept.now c.args.yes.now c.args.heard.now c.args.candidates.now c.args.chosen.now) t
    l.auto.state l.auto.own l.auto.agreed l.auto.run l.auto.accept l.auto.yes l.auto.heard l.auto.candidates l.auto.chosen in record {
      each = each_more _ g.Z.Selection.choice _ c.args.calls.now l.call-index c.call-item.result t _ _ _ c.loop-call-test.true c.call-item.is fit n.ensures l.invariant.each;
      runs = λ origin start h came. one_more _ g.Z.Selection.choice _ c.args.calls.now l.call-index origin start h c.call-item.result t _ _ c.loop-call-test.true c.call-item.is fit n.ensures (l.invariant.runs origin start h came);
    }

pub returns : goal.returns
returns g c = all_done _ g.Z.Selection.choice c.args.from _ c.args.calls.now c.loop-call.call-index _ _ c.never_part.ensures c.loop-call-test.false c.loop-call.invariant.each c.loop-call.invariant.runs
