use Rattle.std.proofs.Common.{true, refl, ◌∙◌}
use Rattle.protocol.specs.Setup.{filtered}
use Rattle.protocol.specs.Model.{in_turn}
use Rattle.cluster.proofs.Carrying.{accepted, rejected}
use Rattle.questions.proofs.Fitting.{verdict-agree, stage_told, same_sizes}
use Rattle.cluster.proofs.Delivery.{yes_placed, agreed_placed, candidates_placed}
use Rattle.cluster.proofs.agree.Cluster+A+L+Filtered.agree.Goals as goal

pub returns-in-Err : goal.returns-in-Err
unfolding in_turn
returns-in-Err g c =
    rejected _ c.never_part.ensures _ filtered refl _ _ (λ start. verdict-agree _ _ _ ∙ stage_told _ _ _ _ _ true c.of-sizes.ensures c.in-Err.ensures) _ _ refl _

pub returns : goal.returns
unfolding in_turn
returns g c =
    let a = c.args in
    let p = a.self.parameters in
    accepted _ c.never_part.ensures _ filtered refl _ _ _ _ _ _ refl (λ start. tt) (λ start. verdict-agree _ _ _ ∙ stage_told _ _ _ _ _ true c.of-sizes.ensures c.in_default.ensures) c.at.ensures
    (λ start last. record {
      stage = refl;
      sizes = same_sizes _ _ refl refl c.write_agreed.auto.agreed refl refl c.write_yes.auto.yes refl c.write_candidates.auto.candidates refl;
      yes = yes_placed (g.L.Layer.delivered a.self.layer p.n p.f p.marks) (g.L.Layer.size a.self.layer p.n p.f) _ _ _ a.accept.now a.words.now _ _ c.write_yes.ensures;
      agreed = agreed_placed g.A.Reading.Value.means g.A.Reading.Value.alike _ p.f _ _ a.own.now a.accept.now c.write_yes.new.yes a.heard.now _ _ c.write_agreed.ensures;
      candidates = candidates_placed _ _ _ c.write_agreed.new.agreed _ _ c.write_candidates.ensures;
      state = refl;
      own = refl;
      run = refl;
      accept = refl;
      heard = refl;
      chosen = refl;
    })
