use Rattle.std.proofs.Common.{ℕ, ap, ◌∙◌, rules}
use Rattle.quorum.specs.Counting.{count}
use Rattle.values.specs.Entries.{present}
use Rattle.values.proofs.Meanings.{same_present}
use Rattle.values.proofs.entries.presence.Goals as goal

pub returns : goal.returns
returns g c =
    let test = λ (i : ℕ). present (g.E.Entries.entry c.args.entries.now i) in
    c.count_of.ensures test (λ i l b said. search (rules, same_present g.E.Item.Value.means)) ∙ ap (λ (n : ℕ). count n test) c.len.ensures
