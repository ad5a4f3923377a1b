use Rattle.std.proofs.Common.{arith, rules}
use Rattle.quorum.proofs.Counts.{counting_laws, count_overlap, count_le}
use Rattle.quorum.proofs.intersection.Goals as goal

pub returns : goal.returns
returns c = record {
  value = search rules;
  shared = λ p q h k. omega (arith, count_overlap c.args.n p q, count_le c.args.n q, c.saturating_sub.ensures, c.saturating_sub-2.ensures);
  laws = counting_laws;
}
