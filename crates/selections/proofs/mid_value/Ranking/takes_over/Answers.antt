use Rattle.std.proofs.Common.{◌≡◌, ℕ, Bool, not, T, Some, Decides, Option, sym, ap, ◌∙◌, subst}
use Rattle.quorum.proofs.Counts.{is_no}
use Rattle.std.proofs.lemmas.Bool.{not-true, not_from_false}
use Rattle.selections.specs.Rules.{at_most, below}
use Rattle.selections.specs.Middle.{below_read}
use Rattle.selections.proofs.mid_value.Ranking.takes_over.Goals as goal

-- with a pick, only its reading stands in the way
by_pick : {P : Type 0} (pick : Option ℕ) (p : ℕ) (over : ℕ → Bool) (b : Bool) → pick ≡ Some p → b ≡ over p → P → Decides (not b) (P × ((q : ℕ) → pick ≡ Some q → T (over q) → ⊥))
by_pick pick p over b is at reached = (
  λ e. (reached, λ q s t. let same : q ≡ p = cc in subst T (ap over same ∙ sym at ∙ not-true b e) t),
  λ h. not_from_false b (at ∙ is_no (over p) (h.1 p is)),
)

pub returns-in-Some : goal.returns-in-Some
returns-in-Some g c =
    let readings = c.args.self.now.readings.now in
    let leq = g.R.Ordered.leq in
    let k = c.args.k in
    let p = c.in-Some.p in
    by_pick c.args.pick p (λ q. below leq readings q k) c.at_most.result c.in-Some.is
    ((let read : c.at_most.result ≡ at_most leq c.index-self-p.result c.index-self-k.result = cc in read) ∙ below_read leq readings p k c.index-self-p.result c.index-self-k.result (c.requires.picked p c.in-Some.is) c.requires.within c.index-self-p.is c.index-self-k.is)
    (subst T c.if-not-is_reached.ensures tt)
