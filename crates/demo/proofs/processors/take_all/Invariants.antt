use Rattle.std.proofs.Common.{◌≡◌, ◌++◌, map, take, drop}
use Rattle.demo.specs.Processors.{taken}
use Rattle.demo.proofs.processors.take_all.Given as goal

abbrev pub invariant-loop-p : goal.invariant-loop-p
invariant-loop-p l = l.processors ≡ map (taken l.reading) (take l.p-index l.initial.processors) ++ drop l.p-index l.initial.processors
