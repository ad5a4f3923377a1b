use Rattle.std.proofs.Common.{rules}
use Rattle.applications.specs.LevelLaws.{level_eq, same_level}
use Rattle.applications.proofs.damped.LevelValue.same.Goals as goal

pub returns : goal.returns
returns c = search (rules, level_eq, same_level)
