use Rattle.std.proofs.Common.{refl, ap, rules}
use Rattle.protocol.specs.Model.{in_turn}
use Rattle.operation.specs.Calls.{asked}
use Rattle.operation.proofs.Passing.{goes, turned_down, leaves, passes, out_at_rest}
use Rattle.operation.proofs.turns.at_rest.Goals as goal

pub returns-in-Intake : goal.returns-in-Intake
unfolding in_turn
returns-in-Intake g c =
    leaves _ (ap (asked g.Z.Selection.choice _) c.in-Intake.is) refl _ c.intake.result c.passed.result c.intake.ensures refl c.passed.ensures (λ n s k. search rules) (λ n s k. search rules) refl

pub returns-in-Ok : goal.returns-in-Ok
unfolding in_turn
returns-in-Ok g c = goes _ (ap (asked g.Z.Selection.choice _) c.in-Look.is) refl c.in-Ok.ensures tt refl

pub returns-in-Err : goal.returns-in-Err
unfolding in_turn
returns-in-Err g c = turned_down _ (ap (asked g.Z.Selection.choice _) c.in-Look.is) refl _ c.in-Err.ensures.asked (c.in-Err.ensures.carries _) refl

pub returns-in_default : goal.returns-in_default
unfolding in_turn
returns-in_default g c = passes _ _ _ (out_at_rest g.Z.Selection.choice _ c.args.call.now c.in_default.not-Intake c.in_default.not-Look)
