use Rattle.std.proofs.Common.{true, refl, ◌∙◌}
use Rattle.protocol.specs.Setup.{agreed}
use Rattle.protocol.specs.Model.{in_turn}
use Rattle.cluster.proofs.Carrying.{accepted, rejected}
use Rattle.questions.proofs.Fitting.{verdict-select, stage_told, same_sizes}
use Rattle.cluster.proofs.Choosing.{chosen_placed}
use Rattle.cluster.proofs.select.Cluster+A+L+Agreed.select.Goals as goal

pub returns-in-Err : goal.returns-in-Err
unfolding in_turn
returns-in-Err g c =
    rejected _ c.never_part.ensures _ agreed refl _ _ (λ start. verdict-select _ _ _ ∙ stage_told _ _ _ _ _ true c.of-sizes.ensures c.in-Err.ensures) _ _ refl _

pub returns : goal.returns
unfolding in_turn
returns g c =
    let s = c.args.selection.now in
    accepted _ c.never_part.ensures _ agreed refl _ _ _ _ _ _ refl (λ start. g.met.S.Selection.chooses s) (λ start. verdict-select _ _ _ ∙ stage_told _ _ _ _ _ true c.of-sizes.ensures c.in_default.ensures)
    c.at.ensures (λ start last. record {
      stage = refl;
      sizes = same_sizes _ _ refl refl refl refl refl refl refl refl c.write_chosen.auto.chosen;
      chosen = chosen_placed (g.S.Selection.choice s) _ _ _ c.args.agreed.now _ _ c.write_chosen.ensures;
      state = refl;
      own = refl;
      run = refl;
      agreed = refl;
      accept = refl;
      yes = refl;
      heard = refl;
      candidates = refl;
    })
