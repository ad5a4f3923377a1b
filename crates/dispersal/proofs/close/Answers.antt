use Rattle.std.proofs.Common.{◌≡◌, ◌*◌, length, sym, ap, ◌∙◌, arith}
use Rattle.std.proofs.lemmas.Bool.{eqb-true}
use Rattle.protocol.specs.Setup.{Sizes}
use Rattle.questions.specs.Questions.{fits}
use Rattle.questions.specs.Lengths.{sizes_of}
use Rattle.questions.proofs.Fitting.{granted_fits, granted_input}
use Rattle.dispersal.proofs.close.Goals as goal
use Rattle.dispersal.proofs.close.Goals.{then-states-n, else-states-n}

pub invariant_of-write : goal.invariant_of-write
invariant_of-write g c =
    let p = c.args.parameters.now in
    let z = sizes_of c.of-sizes.result in
    let long : length c.args.states.now ≡ p.n * p.n =
    elim c.if-states-n.branch [
      | then-states-n w ↦ omega (arith, w.if-states-n.true)
      | else-states-n w ↦ eqb-true _ _ (sym w.ask_stage-is ∙ granted_input (fits p.n p.sensors z) _ c.in_ok-ask_stage.ensures)
    ] in
    record { runs = ap (λ (s : Sizes). s.run) (sym c.of-sizes.ensures) ∙ (granted_fits p.n p.sensors z _ c.in_ok-ask_stage.ensures).run; said = long }
