use Rattle.std.proofs.Common.{◌≢◌, ◌∙◌, arith, get_or-set_other, get_or-set_same, below_more}
use Rattle.cluster.proofs.making.write_start.Goals as goal

pub loop-s-preserved : goal.loop-s-preserved
loop-s-preserved g c =
    let i = c.loop-s.s-index in
    below_more _ _
    (λ q h d. let ne : q ≢ i = omega arith in get_or-set_other c.loop-s.state i q c.args.start d ne ∙ c.loop-s.invariant q h d)
    (λ d. get_or-set_same c.loop-s.state i c.args.start d (omega arith))
