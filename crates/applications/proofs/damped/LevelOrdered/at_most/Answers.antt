use Rattle.std.proofs.Common.{rules}
use Rattle.applications.specs.LevelLaws.{level_both}
use Rattle.applications.proofs.damped.LevelOrdered.at_most.Goals as goal

pub returns : goal.returns
returns c = search (rules, level_both)
