use Rattle.cluster.specs.Writing.{Masked}
use Rattle.cluster.proofs.mask.mask_of.Given as goal

abbrev pub invariant-loop-j : goal.invariant-loop-j
invariant-loop-j g l = Masked l.j (λ j b. goal.F-post g l.test j b) l.mask
