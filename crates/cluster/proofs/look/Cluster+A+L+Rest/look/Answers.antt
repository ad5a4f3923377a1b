use Rattle.std.proofs.Common.{sym, refl, ◌∙◌, arith}
use Rattle.std.proofs.lemmas.Result.{err_from_is_err_and}
use Rattle.protocol.specs.Setup.{sizes, lent, rest}
use Rattle.protocol.specs.Model.{in_turn}
use Rattle.protocol.proofs.Holding.{read_holds}
use Rattle.cluster.proofs.Carrying.{accepted, unseen}
use Rattle.questions.proofs.Fitting.{verdict-look, look_told, granted_look}
use Rattle.cluster.proofs.look.Cluster+A+L+Rest.look.Goals as goal

pub returns-in_err-ask_look : goal.returns-in_err-ask_look
unfolding in_turn
returns-in_err-ask_look g c =
    let p = c.args.self.now.parameters in
    let e = err_from_is_err_and c.from_residual.result c.from_residual.ensures.1 in
    rw (e.1, e.2) (unseen _ c.never_part.ensures _ refl _ _ (λ start. verdict-look _ _ _ ∙ look_told _ p.n p.sensors _ _ p.marks c.args.i c.of-sizes.ensures c.in_err-ask_look.ensures))

pub returns : goal.returns
unfolding in_turn
returns g c =
    let a = c.args in
    let p = a.self.now.parameters in
    let told = look_told _ p.n p.sensors _ (sizes (lent a.state.now a.own.now a.agreed.now a.run.now a.accept.now a.yes.now a.heard.now a.candidates.now a.chosen.now)) p.marks a.i c.of-sizes.ensures c.in_ok-ask_look.ensures in
    let ok = granted_look p.n p.sensors _ p.marks a.i (sym told) in
    accepted _ c.never_part.ensures _ rest refl _ _ _ _ _ _ refl (λ start. tt) (λ start. verdict-look _ _ _ ∙ told) refl
    (λ start last. record {
      stage = refl;
      tables = refl;
      state = c.index-state-i.result;
      answered = refl;
      told_state = read_holds g.A.State.Value.means a.state.now a.i _ (omega (arith, ok.0.state, ok.1)) c.index-state-i.is;
    })
