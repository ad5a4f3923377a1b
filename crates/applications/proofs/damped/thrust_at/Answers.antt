use Rattle.std.proofs.Common.{rules}
use Rattle.applications.specs.LevelLaws.{literals}
use Rattle.applications.proofs.damped.thrust_at.Goals as goal

pub returns-then-x : goal.returns-then-x
returns-then-x c = search (rules, literals)

pub returns-then-x-2 : goal.returns-then-x-2
returns-then-x-2 c = search (rules, literals)

pub returns-else-x-2 : goal.returns-else-x-2
returns-else-x-2 c = search (rules, literals)
