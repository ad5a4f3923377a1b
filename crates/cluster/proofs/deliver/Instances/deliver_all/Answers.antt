use Rattle.std.proofs.Common.{◌≡◌, ℕ, ◌<◌, get_or, set, ap, ◌∙◌, arith, get_or-set_other, get_or-set_same, length-set, below_more}
use Rattle.std.proofs.lemmas.Nat.{mul-le}
use Rattle.quorum.specs.Counting.{bit}
use Rattle.layers.specs.Layers.{Sound}
use Rattle.cluster.specs.Writing.{gets}
use Rattle.cluster.proofs.deliver.Instances.deliver_all.Goals as goal

pub bounds-masks-m : goal.bounds-masks-m
bounds-masks-m g c = let p = c.args.self.now.parameters in omega (arith, mul-le p.n p.sensors 16 4 (omega arith) (omega arith))

pub loop-m-preserved : goal.loop-m-preserved
loop-m-preserved g c =
    let a = c.args.self.now in
    let p = a.parameters in
    let turn = c.loop-m in
    let got = gets (g.L.Layer.delivered a.layer.now p.n p.f p.marks) (g.L.Layer.size a.layer.now p.n p.f) p.n p.sensors p.marks a.accept.now a.words.now in
    let lt : turn.m < 64 = omega (arith, mul-le p.n p.sensors 16 4 (omega arith) (omega arith)) in (
      simp length-set turn.invariant.0,
      below_more (λ q. (i : ℕ) → i < p.n → Sound p.marks i → bit (get_or (set turn.masks turn.m c.deliver.result) q 0) i ≡ got q i) turn.m
          (λ q h i l s. ap (λ (x : ℕ). bit x i) (get_or-set_other turn.masks turn.m q c.deliver.result 0 (omega arith)) ∙ turn.invariant.1 q h i l s)
          (λ i l s. ap (λ (x : ℕ). bit x i) (get_or-set_same turn.masks turn.m c.deliver.result 0 (omega arith)) ∙ c.deliver.ensures i l s),
    )
