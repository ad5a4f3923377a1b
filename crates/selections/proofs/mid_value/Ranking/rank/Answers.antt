use Rattle.std.proofs.Common.{sym, rules}
use Rattle.selections.specs.Rules.{below}
use Rattle.selections.specs.Middle.{below_read}
use Rattle.selections.proofs.mid_value.Ranking.rank.Goals as goal

pub returns : goal.returns
returns g c =
    let leq = g.R.Ordered.leq in
    let readings = c.args.self.now.readings.now in
    c.count_of.ensures (λ j. below leq readings j c.args.k) (λ j l b said. search (rules, sym, below_read leq readings))
