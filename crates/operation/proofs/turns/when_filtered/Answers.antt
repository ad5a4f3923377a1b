use Rattle.std.proofs.Common.{refl, ap, rules}
use Rattle.protocol.specs.Model.{in_turn}
use Rattle.operation.specs.Calls.{asked}
use Rattle.operation.proofs.Passing.{goes, leaves, passes, out_at_filtered}
use Rattle.operation.proofs.turns.when_filtered.Goals as goal

pub returns-in-Agree : goal.returns-in-Agree
unfolding in_turn
returns-in-Agree g c =
    leaves _ (ap (asked g.Z.Selection.choice _) c.in-Agree.is) refl _ c.agree.result c.passed.result c.agree.ensures refl c.passed.ensures (λ n s k. search rules) (λ n s k. search rules) refl

pub returns-in-Abandon : goal.returns-in-Abandon
unfolding in_turn
returns-in-Abandon g c = goes _ (ap (asked g.Z.Selection.choice _) c.in-Abandon.is) refl (c.abandon.ensures _) refl refl

pub returns-in_default : goal.returns-in_default
unfolding in_turn
returns-in_default g c = passes _ _ _ (out_at_filtered g.Z.Selection.choice _ c.args.call.now c.in_default.not-Agree c.in_default.not-Abandon)
