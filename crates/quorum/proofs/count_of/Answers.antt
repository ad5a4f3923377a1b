use Rattle.std.proofs.Common.{subst}
use Rattle.quorum.proofs.Tests.{counting_none, counting_yes, counting_no}
use Rattle.quorum.proofs.count_of.Goals as goal
use Rattle.quorum.proofs.count_of.Goals.{then-test, else-test}

pub loop-i-init : goal.loop-i-init
loop-i-init g c = counting_none _

pub loop-i-preserved : goal.loop-i-preserved
loop-i-preserved g c =
    let turn = c.loop-i in
    elim c.if-test.branch [
      | then-test w ↦ counting_yes _ turn.count turn.i turn.invariant c.if-test.count (subst (goal.F-post g c.args.test turn.i) w.if-test.true c.test.ensures) w.count-is
      | else-test w ↦ counting_no _ turn.count turn.i turn.invariant c.if-test.count (subst (goal.F-post g c.args.test turn.i) w.if-test.false c.test.ensures) w.count-is
    ]
