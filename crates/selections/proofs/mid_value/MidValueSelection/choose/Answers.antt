use Rattle.std.proofs.Common.{◌≡◌, length, arith}
use Rattle.quorum.proofs.Counts.{count_le}
use Rattle.selections.specs.Choices.{candidate}
use Rattle.selections.specs.Rules.{mid_value}
use Rattle.selections.specs.Middle.{mid_rule, mid_bracketed}
use Rattle.selections.proofs.Picking.{picked_some, picked_none}
use Rattle.selections.proofs.mid_value.MidValueSelection.choose.Goals as goal

pub overflow_add-ranking : goal.overflow_add-ranking
overflow_add-ranking g c = omega (arith, count_le (length c.args.readings.now) (candidate c.args.readings.now))

pub overflow_cast-result : goal.overflow_cast-result
overflow_cast-result g c = omega (arith, c.in-Some.ensures.within)

pub returns-in-Some : goal.returns-in-Some
returns-in-Some g c =
    let o = g.met.R.Ordered in
    let means = g.R.Value.means in
    let leq = g.R.Ordered.leq in
    let readings = c.args.readings.now in
    let e : c.in-Some.k ≡ mid_value leq readings = picked_some means leq o.total o.transitive o.congruent readings c.in-Some.k c.in-Some.ensures in
    record {
      value = e;
      rule = mid_rule means leq o.total o.transitive o.congruent readings c.in-Some.k e;
      bracketed = mid_bracketed means leq o.total o.transitive o.congruent readings c.in-Some.k e;
    }

pub returns-in-None : goal.returns-in-None
returns-in-None g c =
    let o = g.met.R.Ordered in
    let means = g.R.Value.means in
    let leq = g.R.Ordered.leq in
    let readings = c.args.readings.now in
    let e : 255 ≡ mid_value leq readings = picked_none means leq o.total o.transitive o.congruent readings c.in-None.ensures in
    record {
      value = e;
      rule = mid_rule means leq o.total o.transitive o.congruent readings 255 e;
      bracketed = mid_bracketed means leq o.total o.transitive o.congruent readings 255 e;
    }
