use Rattle.std.proofs.Common.{arith}
use Rattle.layers.proofs.Masks.{gather_yes, gather_no}
use Rattle.layers.proofs.king.gather.Goals as goal
use Rattle.layers.proofs.king.gather.Goals.{then-b, else-b}

pub loop-j-preserved : goal.loop-j-preserved
loop-j-preserved c =
    let bits = c.args.bits.now in
    let turn = c.loop-j in
    elim c.if-b.branch [
      | then-b w ↦ gather_yes bits turn.j (omega arith) turn.word turn.invariant c.if-b.word (omega arith) w.if-b.true w.word-is
      | else-b w ↦ gather_no bits turn.j (omega arith) turn.word turn.invariant c.if-b.word w.if-b.false w.word-is
    ]
