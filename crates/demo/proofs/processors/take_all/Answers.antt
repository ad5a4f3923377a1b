use Rattle.std.proofs.Common.{rules}
use Rattle.std.proofs.lemmas.List.Edits.{map_over_more}
use Rattle.std.proofs.lemmas.List.{take_all, drop_all}
use Rattle.demo.specs.Processors.{taken}
use Rattle.demo.proofs.processors.take_all.Goals as goal

pub loop-p-preserved : goal.loop-p-preserved
loop-p-preserved c = search (rules, map_over_more (taken c.args.reading))

pub returns : goal.returns
returns c = search (rules, take_all, drop_all)
