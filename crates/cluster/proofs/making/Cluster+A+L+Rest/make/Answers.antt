use Rattle.std.proofs.Common.{◌≡◌, true, length, refl, ap, ◌∙◌, sym, arith}
use Rattle.protocol.specs.Setup.{sizes, lent}
use Rattle.questions.specs.Questions.{fits}
use Rattle.protocol.proofs.Holding.{value_is}
use Rattle.cluster.proofs.Carrying.{started}
use Rattle.questions.proofs.Fitting.{fits_each}
use Rattle.cluster.proofs.making.Cluster+A+L+Rest.make.Goals as goal

pub returns-in-Ok : goal.returns-in-Ok
returns-in-Ok g c =
    let a = c.args in
    let t = lent a.state.now a.own.now a.agreed.now a.run.now a.accept.now a.yes.now a.heard.now a.candidates.now a.chosen.now in
    let fit : fits a.n a.sensors (sizes t) ≡ true = ap (fits a.n a.sensors) (sym c.of-sizes.ensures) ∙ c.in-Ok.ensures.1 in
    let each = fits_each a.n a.sensors (sizes t) fit in
    let long : length c.write_start.new.state ≡ length a.state.now = c.write_start.auto.state in
    started _ c.never_part.ensures _ a.start t _ c.in-Ok.parameters c.in-Ok.ensures.0 fit
    (ap (λ m. record { state = m; own = (sizes t).own; agreed = (sizes t).agreed; run = (sizes t).run; accept = (sizes t).accept; yes = (sizes t).yes; heard = (sizes t).heard; candidates = (sizes t).candidates; chosen = (sizes t).chosen }) long)
    (λ last. record { stage = refl; state = λ i h. value_is _ i a.start (omega (arith, each.state)) (c.write_start.ensures i (omega (arith, each.state))) })
