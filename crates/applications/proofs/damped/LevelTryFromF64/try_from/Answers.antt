use Rattle.std.proofs.Common.{rules}
use lib.Ieee.Fits.{and_i}
use Rattle.applications.specs.FloatOrder.{lt_le}
use Rattle.applications.specs.LevelLaws.{holds, literals, from_level}
use Rattle.applications.proofs.damped.LevelTryFromF64.try_from.Goals as goal

-- `lt_le` lets a test at an open end pass here, so that only the refusal of that end is wrong
pub invariant_of-result : goal.invariant_of-result
invariant_of-result c = search (rules, literals, holds, lt_le, and_i, from_level)

pub returns-then-x-2 : goal.returns-then-x-2
returns-then-x-2 c = search (rules, literals, holds, lt_le, and_i)

pub returns-else-x : goal.returns-else-x
returns-else-x c = search (rules, literals)
