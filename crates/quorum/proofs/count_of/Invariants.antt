use Rattle.quorum.proofs.Tests.{Counting}
use Rattle.quorum.proofs.count_of.Given as goal

abbrev pub invariant-loop-i : goal.invariant-loop-i
invariant-loop-i g l = Counting (λ i b. goal.F-post g l.test i b) l.count l.i
