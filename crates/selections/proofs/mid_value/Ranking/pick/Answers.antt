use Rattle.std.proofs.Common.{◌≡◌, ℕ, ◌+◌, length, Option, sym, subst, arith}
use Rattle.std.proofs.lemmas.Bool.Decides.{not_from_Decides}
use Rattle.selections.specs.Picks.{Picked}
use Rattle.selections.proofs.Picking.{pick_takes, pick_stays, picked_within}
use Rattle.selections.proofs.mid_value.Ranking.pick.Goals as goal
use Rattle.selections.proofs.mid_value.Ranking.pick.Goals.{then-takes_over, else-takes_over}

pub takes_over-requires : goal.takes_over-requires
takes_over-requires g c =
    let o = g.met.R.Ordered in
    let inside = picked_within g.R.Value.means g.R.Ordered.leq o.total o.transitive o.congruent c.args.self.now.readings.now c.loop-k.k c.loop-k.pick in
    record { within = c.loop-k-test.true; picked = λ p e. omega (arith, inside p c.loop-k.invariant e) }

pub loop-k-preserved : goal.loop-k-preserved
loop-k-preserved g c =
    let o = g.met.R.Ordered in
    let leq = g.R.Ordered.leq in
    let readings = c.args.self.now.readings.now in
    let k = c.loop-k.k in
    let P : Option ℕ → Type 0 = Picked leq readings (k + 1) in
    elim c.if-takes_over.branch [
      | then-takes_over w ↦
          let d = c.takes_over.ensures.0 w.if-takes_over.true in
          subst P (sym w.pick-is) (pick_takes g.R.Value.means leq o.total o.transitive o.congruent readings k c.loop-k.pick c.loop-k.invariant d.0 d.1)
      | else-takes_over w ↦
          subst P (sym w.pick-is) (pick_stays g.R.Value.means leq o.total o.transitive o.congruent readings k c.loop-k.pick c.loop-k.invariant (not_from_Decides c.takes_over.result c.takes_over.ensures w.if-takes_over.false))
    ]

pub returns : goal.returns
returns g c =
    let same : c.loop-k.k ≡ length c.args.self.now.readings.now = omega arith in
    subst (λ (i : ℕ). Picked g.R.Ordered.leq c.args.self.now.readings.now i c.loop-k.pick) same c.loop-k.invariant
