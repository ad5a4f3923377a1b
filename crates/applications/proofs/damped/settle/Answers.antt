use Rattle.std.proofs.Common.{rules}
use Rattle.applications.specs.LevelLaws.{holds, literals, unsigned_zero, unsigned_other}
use Rattle.applications.proofs.damped.settle.Goals as goal

pub returns-then-x : goal.returns-then-x
returns-then-x c = search (rules, literals, holds, unsigned_zero)

pub returns-else-x : goal.returns-else-x
returns-else-x c = search (rules, literals, unsigned_other)
