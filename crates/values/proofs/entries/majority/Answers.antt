use Rattle.std.proofs.Common.{rules}
use Rattle.values.proofs.Majorities.{kept_lead}
use Rattle.values.proofs.entries.majority.Goals as goal

pub returns : goal.returns
returns g c =
    let value = g.E.Item.Value in
    let lead = c.leader.result in
    kept_lead value.means value.alike g.met.E.Item.Value.sameness (g.E.Entries.size c.args.entries.now) (g.E.Entries.entry c.args.entries.now)
    lead.holder lead.margin c.filter.result _ c.leader.ensures c.filter.ensures (λ x b k. search rules)
