use Rattle.std.proofs.Common.{◌≡◌, ℕ, ◌<◌, length, get_or}
use Rattle.quorum.specs.Counting.{bit}
use Rattle.layers.specs.Layers.{Sound}
use Rattle.cluster.specs.Writing.{gets}
use Rattle.cluster.proofs.deliver.Instances.deliver_all.Given as goal

abbrev pub invariant-loop-m : goal.invariant-loop-m
invariant-loop-m g l =
    let p = l.self.parameters in
    (length l.masks ≡ 64)
    × ((m : ℕ) → m < l.m → (i : ℕ) → i < p.n → Sound p.marks i → bit (get_or l.masks m 0) i ≡ gets (g.L.Layer.delivered l.self.layer.now p.n p.f p.marks) (g.L.Layer.size l.self.layer.now p.n p.f) p.n p.sensors p.marks l.self.accept.now l.self.words.now m i)
