use Rattle.std.proofs.Common.{refl, ap, ◌∙◌}
use Rattle.protocol.specs.Setup.{lent, chosen}
use Rattle.protocol.specs.Model.{in_turn}
use Rattle.questions.proofs.Fitting.{verdict-commit, same_sizes}
use Rattle.cluster.specs.Answers.{outcome_of}
use Rattle.cluster.proofs.Carrying.{accepted, rejected}
use Rattle.cluster.proofs.commit.Cluster+A+L+Chosen.commit.Goals as goal

pub returns-in-Ok : goal.returns-in-Ok
unfolding in_turn
returns-in-Ok g c =
    let k = c.in-Ok.ensures in
    accepted _ c.never_part.ensures _ chosen refl _ _ _ _ _ _ refl (λ start. tt) (λ start. verdict-commit _ _ _ _ ∙ k.asked) c.at.ensures (λ start last. record {
      stage = refl;
      sizes = same_sizes _ _ k.long refl refl refl refl refl refl refl refl;
      state = k.state;
      answer = outcome_of c.in-Ok.outcome;
      answered = refl;
      vote = k.vote;
      answer_chosen = k.answer_chosen;
      answer_candidates = k.answer_candidates;
      answer_dispersed = k.answer_dispersed;
      own = refl;
      run = refl;
      agreed = refl;
      accept = refl;
      yes = refl;
      heard = refl;
      candidates = refl;
      chosen = refl;
    })

pub returns-in-Err : goal.returns-in-Err
unfolding in_turn
returns-in-Err g c =
    let a = c.args in
    let k = c.in-Err.ensures in
    rejected _ c.never_part.ensures _ chosen refl _ _ (λ start. verdict-commit _ _ _ _ ∙ k.asked) _ _
    (ap (λ s. lent s a.own.now a.agreed.now a.run.now a.accept.now a.yes.now a.heard.now a.candidates.now a.chosen.now) k.state) _
