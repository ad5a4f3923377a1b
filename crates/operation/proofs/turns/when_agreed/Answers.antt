use Rattle.std.proofs.Common.{refl, ap, rules}
use Rattle.protocol.specs.Model.{in_turn}
use Rattle.operation.specs.Calls.{asked}
use Rattle.operation.proofs.Passing.{goes, leaves, passes, out_at_agreed}
use Rattle.operation.proofs.turns.when_agreed.Goals as goal

pub returns-in-Select : goal.returns-in-Select
unfolding in_turn
returns-in-Select g c =
    leaves _ (ap (asked g.Z.Selection.choice _) c.in-Select.is) refl _ c.select.result c.passed.result c.select.ensures refl c.passed.ensures (λ n s k. search rules) (λ n s k. search rules) refl

pub returns-in-Abandon : goal.returns-in-Abandon
unfolding in_turn
returns-in-Abandon g c = goes _ (ap (asked g.Z.Selection.choice _) c.in-Abandon.is) refl (c.abandon.ensures _) refl refl

pub returns-in_default : goal.returns-in_default
unfolding in_turn
returns-in_default g c = passes _ _ _ (out_at_agreed g.Z.Selection.choice _ c.args.call.now c.in_default.not-Select c.in_default.not-Abandon)
