use Rattle.std.proofs.Common.{◌≤◌}
use Rattle.values.specs.Lead.{Leads}
use Rattle.values.proofs.entries.leader.Given as goal

abbrev pub invariant-loop-i : goal.invariant-loop-i
invariant-loop-i g l = Leads g.E.Item.Value.alike l.i (g.E.Entries.entry l.entries) l.lead.holder l.lead.margin × (l.lead.margin ≤ l.i)
