use Rattle.std.proofs.Common.{◌≡◌, ◌∙◌, not, arith}
use Rattle.quorum.specs.Counting.{bit, lowest}
use Rattle.dispersal.proofs.Sound.{lowest_other, lowest_within}
use Rattle.dispersal.proofs.lowest.lowest_sound.Goals as goal

pub returns : goal.returns
returns c =
    let p = c.args.parameters in
    let is : c.lowest_set.result ≡ lowest p.n (λ i. not (bit p.marks i)) = c.lowest_set.ensures.value ∙ lowest_other p.n p.marks (omega arith) (omega arith) in
    record { is = is; within = omega (arith, is, lowest_within p.n p.f p.marks p.bearable) }
