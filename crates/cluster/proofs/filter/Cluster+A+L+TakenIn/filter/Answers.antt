use Rattle.std.proofs.Common.{refl, ◌∙◌}
use Rattle.protocol.specs.Setup.{taken_in}
use Rattle.protocol.specs.Clusters.{semantics, config}
use Rattle.protocol.specs.Model.{in_turn}
use Rattle.cluster.specs.Answers.{kept_by}
use Rattle.cluster.proofs.Carrying.{accepted, rejected}
use Rattle.questions.proofs.Fitting.{verdict-filter, stage_told, same_sizes}
use Rattle.cluster.proofs.Accepting.{heard_placed, accept_placed}
use Rattle.cluster.proofs.filter.Cluster+A+L+TakenIn.filter.Goals as goal

pub returns-in-Err : goal.returns-in-Err
unfolding in_turn
returns-in-Err g c =
    rejected _ c.never_part.ensures _ taken_in refl _ _ (λ start. verdict-filter _ _ _ ∙ stage_told _ _ _ _ _ _ c.of-sizes.ensures c.in-Err.ensures) _ _ refl _

pub returns : goal.returns
unfolding in_turn
returns g c =
    accepted _ c.never_part.ensures _ taken_in refl _ _ _ _ _ _ refl (λ start. tt) (λ start. verdict-filter _ _ _ ∙ stage_told _ _ _ _ _ _ c.of-sizes.ensures c.in_default.ensures) c.at.ensures
    (λ start last. record {
      stage = refl;
      sizes = same_sizes _ _ refl refl refl refl c.write_accept.auto.accept refl c.write_heard.auto.heard refl refl;
      heard = λ j hj i k hi hk. heard_placed _ _ _ _ _ _ _ c.write_heard.ensures i j k hi hj hk;
      accept = accept_placed (config (semantics g.A.Reading.Value g.A.State.Value g.A.Command.Value g.A.Application g.L.Layer) (kept_by c.args.self) start) _ _ _ _ c.write_accept.ensures;
      state = refl;
      own = refl;
      run = refl;
      agreed = refl;
      yes = refl;
      candidates = refl;
      chosen = refl;
    })
