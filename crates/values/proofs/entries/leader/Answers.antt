use Rattle.std.proofs.Common.{◌≡◌, ℕ, subst, arith}
use Rattle.values.specs.Lead.{Leads}
use Rattle.values.proofs.Majorities.{lead_start, lead_step}
use Rattle.values.proofs.entries.leader.Goals as goal

pub loop-i-init : goal.loop-i-init
loop-i-init g c = (lead_start g.E.Item.Value.means g.E.Item.Value.alike g.met.E.Item.Value.sameness (g.E.Entries.entry c.args.entries.now), omega arith)

pub loop-i-preserved : goal.loop-i-preserved
loop-i-preserved g c = (
  lead_step g.E.Item.Value.means g.E.Item.Value.alike g.met.E.Item.Value.sameness c.loop-i.i (g.E.Entries.entry c.args.entries.now) c.at.result _ _ _ _
      c.at.ensures c.loop-i.invariant.0 c.weigh-lead.ensures,
  omega (arith, c.weigh-lead.ensures.slow),
)

pub returns : goal.returns
returns g c =
    let same : c.loop-i.i ≡ g.E.Entries.size c.args.entries.now = omega arith in
    subst (λ (k : ℕ). Leads g.E.Item.Value.alike k (g.E.Entries.entry c.args.entries.now) c.loop-i.lead.holder c.loop-i.lead.margin) same c.loop-i.invariant.0
