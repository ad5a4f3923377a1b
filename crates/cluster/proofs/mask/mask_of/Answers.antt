use Rattle.std.proofs.Common.{arith, subst}
use Rattle.cluster.proofs.Masks.{masked_yes, masked_no}
use Rattle.cluster.proofs.mask.mask_of.Goals as goal
use Rattle.cluster.proofs.mask.mask_of.Goals.{then-test, else-test}

pub loop-j-preserved : goal.loop-j-preserved
loop-j-preserved g c =
    let turn = c.loop-j in
    elim c.if-test.branch [
      | then-test w ↦ masked_yes _ turn.mask turn.j turn.invariant c.if-test.mask (omega arith) (subst (goal.F-post g c.args.test turn.j) w.if-test.true c.test.ensures) w.mask-is
      | else-test w ↦ masked_no _ turn.mask turn.j turn.invariant c.if-test.mask (subst (goal.F-post g c.args.test turn.j) w.if-test.false c.test.ensures) w.mask-is
    ]
