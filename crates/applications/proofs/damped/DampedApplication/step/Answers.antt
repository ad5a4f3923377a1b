use Rattle.std.proofs.Common.{rules}
use Rattle.applications.specs.LevelLaws.{literals, step_level, step_value}
use Rattle.applications.proofs.damped.DampedApplication.step.Goals as goal

pub invariant_of-result : goal.invariant_of-result
invariant_of-result c = record { ok = step_level c.args.state.now c.args.reading.now _ (search (rules, literals)) }

pub returns : goal.returns
returns c = let e = step_value c.args.state.now c.args.reading.now in search (rules, literals)
