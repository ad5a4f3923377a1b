use Rattle.std.proofs.Common.{ℕ, sym, ap, ◌∙◌, rules}
use Rattle.quorum.specs.Counting.{count}
use Rattle.values.specs.Entries.{carries}
use Rattle.values.proofs.Meanings.{carries_at}
use Rattle.values.proofs.entries.matches.Goals as goal

pub returns : goal.returns
returns g c =
    let value = g.E.Item.Value in
    let test = λ (i : ℕ). carries value.alike c.args.x.now (g.E.Entries.entry c.args.entries.now i) in
    c.count_of.ensures test (λ i l b said. search (rules, sym, carries_at value.means value.alike g.met.E.Item.Value.sameness c.args.x.now))
    ∙ ap (λ (n : ℕ). count n test) c.len.ensures
