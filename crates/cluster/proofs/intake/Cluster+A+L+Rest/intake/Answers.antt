use Rattle.std.proofs.Common.{sym, refl, ◌∙◌, arith}
use Rattle.protocol.specs.Setup.{sizes, lent, intake, rest, taken_in, nothing}
use Rattle.protocol.specs.Model.{in_turn}
use Rattle.protocol.specs.Clusters.{semantics, config}
use Rattle.questions.specs.Questions.{Fits}
use Rattle.cluster.specs.Answers.{kept_by}
use Rattle.cluster.proofs.Carrying.{accepted, rejected}
use Rattle.questions.proofs.Fitting.{verdict-intake, stage_told, granted_fits, same_sizes}
use Rattle.cluster.proofs.Stepping.{own_placed, run_placed}
use Rattle.cluster.proofs.intake.Cluster+A+L+Rest.intake.Goals as goal

pub returns-in-Err : goal.returns-in-Err
unfolding in_turn
returns-in-Err g c =
    rejected _ c.never_part.ensures _ rest refl _ _ (λ start. verdict-intake _ _ _ ∙ stage_told _ _ _ _ _ _ c.of-sizes.ensures c.in-Err.ensures) _ _ refl _

pub returns : goal.returns
unfolding in_turn
returns g c =
    let a = c.args in
    let w = semantics g.A.Reading.Value g.A.State.Value g.A.Command.Value g.A.Application g.L.Layer in
    let t = lent a.state.now a.own.now a.agreed.now a.run.now a.accept.now a.yes.now a.heard.now a.candidates.now a.chosen.now in
    let p = a.self.parameters in
    let told = stage_told _ p.n p.sensors _ (sizes t) _ c.of-sizes.ensures c.in_default.ensures in
    let fit : Fits p.n p.sensors (sizes t) = granted_fits _ _ _ _ (sym told) in
    accepted w c.never_part.ensures (intake (sizes t) a.entries.now) rest refl (kept_by a.self) taken_in t _ nothing _ refl (λ start. tt)
    (λ start. verdict-intake _ _ _ ∙ told) c.at.ensures (λ start last. record {
      stage = refl;
      sizes = same_sizes _ _ refl c.write_own.auto.own refl c.write_run.auto.run refl refl refl refl refl;
      own = own_placed _ _ _ _ _ _ (λ p h. c.write_own.ensures p (omega (arith, fit.own)));
      run = run_placed (config w (kept_by a.self) start) _ _ _ _ _ _ _ (sym fit.state) (c.write_run.auto.run ∙ fit.run) (λ p h. c.write_run.ensures p (omega (arith, fit.run)));
      state = refl;
      agreed = refl;
      accept = refl;
      yes = refl;
      heard = refl;
      candidates = refl;
      chosen = refl;
    })
