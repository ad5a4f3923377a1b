use Rattle.std.proofs.Common.{◌+◌, ◌*◌, ◌/◌, ◌%◌, ◌<◌, get_or, ◌∙◌, arith, rules}
use Rattle.std.proofs.lemmas.Nat.{div_below, mod_below, mul-add-lt}
use Rattle.quorum.specs.Counting.{bit}
use Rattle.protocol.specs.Tables.{MaskOf}
use Rattle.cluster.specs.Writing.{got, Gets}
use Rattle.cluster.proofs.Wrote.{wrote_as}
use Rattle.cluster.proofs.Masks.{mask_by}
use Rattle.cluster.proofs.Delivery.{got_of}
use Rattle.cluster.proofs.deliver.Instances.write_yes.Goals as goal

pub returns : goal.returns
returns g c =
    let a = c.args.self.now in
    let p = a.parameters in
    let delivered = g.L.Layer.delivered a.layer.now p.n p.f p.marks in
    let size = g.L.Layer.size a.layer.now p.n p.f in
    let masks = c.deliver_all-masks.result in
    wrote_as _ (Gets delivered size p.n p.sensors p.marks a.accept.now a.words.now) c.requires c.write_sound.ensures
    (λ q h sound v k.
    let i = q / p.sensors in
    let s = q % p.sensors in
    let i< : i < p.n = div_below q p.sensors p.n (omega arith) (omega arith) in
    let s< : s < p.sensors = mod_below q p.sensors (omega arith) in
    let mask : MaskOf p.n (λ j. bit (get_or masks (s * p.n + j) 0) i) v = search rules in
    mask_by p.n (λ j. bit (get_or masks (s * p.n + j) 0) i) (got delivered size p.n p.sensors p.marks a.accept.now a.words.now i s) v mask
    (λ j l. c.deliver_all-masks.ensures (s * p.n + j) i (omega (arith, mul-add-lt s p.n j p.sensors s< l)) i< sound ∙ got_of delivered size p.n p.sensors p.marks a.accept.now a.words.now i s j l))
