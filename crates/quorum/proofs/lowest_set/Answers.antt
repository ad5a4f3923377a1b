use Rattle.std.proofs.Common.{◌≡◌, true, false, rules}
use Rattle.std.proofs.lemmas.Iterator.{first_from_Range}
use Rattle.quorum.specs.Counting.{bit}
use Rattle.quorum.proofs.Counts.{lowest_found, lowest_unique}
use Rattle.quorum.proofs.lowest_set.Goals as goal

pub returns-clause-is : goal.returns-clause-is
returns-clause-is c =
    let test = bit c.args.mask in
    let found = first_from_Range _ _ _ c.find.result (λ i. test i ≡ true) (λ i. test i ≡ false) c.find.ensures.ran (λ x q k. search rules) (λ x q k. search rules) in
    rw c.unwrap_or.ensures (lowest_found c.args.n test c.find.result found)

pub returns-clause-value : goal.returns-clause-value
returns-clause-value c = lowest_unique c.args.n (bit c.args.mask) c.unwrap_or.result (returns-clause-is c)
