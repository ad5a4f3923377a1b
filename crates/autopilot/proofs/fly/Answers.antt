use Rattle.std.proofs.Common.{[], ◌∷◌, refl}
use Rattle.std.proofs.lemmas.Result.{err_from_is_err_and}
use Rattle.protocol.specs.Setup.{filter, agree, select, commit}
use Rattle.questions.proofs.Fitting.{same_sizes}
use Rattle.autopilot.proofs.Chaining.{stood, turned, sets_out, goes_on, goes_through, stays, leaves}
use Rattle.autopilot.proofs.fly.Goals as goal

pub returns-in_err-taken_in : goal.returns-in_err-taken_in
returns-in_err-taken_in g c =
    let p = err_from_is_err_and c.from_residual.result c.from_residual.ensures.1 in
    rw (p.1, p.2) (stays _ (_ ∷ _ ∷ _ ∷ _ ∷ []) c.in_err-taken_in.ensures)

pub returns-in_err-filtered : goal.returns-in_err-filtered
returns-in_err-filtered g c =
    let a = c.args in
    let p = err_from_is_err_and c.from_residual-in_err-filtered.result c.from_residual-in_err-filtered.ensures.1 in
    let taken = sets_out _ (same_sizes _ _ refl c.intake.auto.own refl c.intake.auto.run refl refl refl refl refl) c.in_ok-taken_in.ensures in
    let q = turned _ c.filter.result c.map_err.ensures.cases c.in_err-filtered.was in
    rw (p.1, p.2) (leaves _ (_ ∷ _ ∷ _ ∷ []) (λ z. filter z a.claims.now) taken (rw q.1 at c.filter.ensures) q.2)

pub returns-in_err-decided : goal.returns-in_err-decided
returns-in_err-decided g c =
    let a = c.args in
    let p = err_from_is_err_and c.from_residual-in_err-decided.result c.from_residual-in_err-decided.ensures.1 in
    let taken = sets_out _ (same_sizes _ _ refl c.intake.auto.own refl c.intake.auto.run refl refl refl refl refl) c.in_ok-taken_in.ensures in
    let filtered = goes_on _ (λ z. filter z a.claims.now) taken (same_sizes _ _ refl refl refl refl c.filter.auto.accept refl c.filter.auto.heard refl refl) (rw (stood _ c.filter.result c.map_err.ensures.cases c.in_ok-filtered.was) at c.filter.ensures) in
    let q = turned _ c.agree.result c.map_err-2.ensures.cases c.in_err-decided.was in
    rw (p.1, p.2) (leaves _ (_ ∷ _ ∷ []) (λ z. agree z a.words.now) filtered (rw q.1 at c.agree.ensures) q.2)

pub returns-in_err-picked : goal.returns-in_err-picked
returns-in_err-picked g c =
    let a = c.args in
    let p = err_from_is_err_and c.from_residual-in_err-picked.result c.from_residual-in_err-picked.ensures.1 in
    let taken = sets_out _ (same_sizes _ _ refl c.intake.auto.own refl c.intake.auto.run refl refl refl refl refl) c.in_ok-taken_in.ensures in
    let filtered = goes_on _ (λ z. filter z a.claims.now) taken (same_sizes _ _ refl refl refl refl c.filter.auto.accept refl c.filter.auto.heard refl refl) (rw (stood _ c.filter.result c.map_err.ensures.cases c.in_ok-filtered.was) at c.filter.ensures) in
    let decided = goes_on _ (λ z. agree z a.words.now) filtered (same_sizes _ _ refl refl c.agree.auto.agreed refl refl c.agree.auto.yes refl c.agree.auto.candidates refl) (rw (stood _ c.agree.result c.map_err-2.ensures.cases c.in_ok-decided.was) at c.agree.ensures) in
    let q = turned _ c.select.result c.map_err-3.ensures.cases c.in_err-picked.was in
    rw (p.1, p.2) (leaves _ (_ ∷ []) (λ z. select z (g.Z.Selection.choice a.selection.now)) decided (rw q.1 at c.select.ensures) q.2)

pub returns-in_err-committed : goal.returns-in_err-committed
returns-in_err-committed g c =
    let a = c.args in
    let p = err_from_is_err_and c.from_residual-in_err-committed.result c.from_residual-in_err-committed.ensures.1 in
    let taken = sets_out _ (same_sizes _ _ refl c.intake.auto.own refl c.intake.auto.run refl refl refl refl refl) c.in_ok-taken_in.ensures in
    let filtered = goes_on _ (λ z. filter z a.claims.now) taken (same_sizes _ _ refl refl refl refl c.filter.auto.accept refl c.filter.auto.heard refl refl) (rw (stood _ c.filter.result c.map_err.ensures.cases c.in_ok-filtered.was) at c.filter.ensures) in
    let decided = goes_on _ (λ z. agree z a.words.now) filtered (same_sizes _ _ refl refl c.agree.auto.agreed refl refl c.agree.auto.yes refl c.agree.auto.candidates refl) (rw (stood _ c.agree.result c.map_err-2.ensures.cases c.in_ok-decided.was) at c.agree.ensures) in
    let picked = goes_on _ (λ z. select z (g.Z.Selection.choice a.selection.now)) decided (same_sizes _ _ refl refl refl refl refl refl refl refl c.select.auto.chosen) (rw (stood _ c.select.result c.map_err-3.ensures.cases c.in_ok-picked.was) at c.select.ensures) in
    let q = turned _ c.commit.result c.map_err-4.ensures.cases c.in_err-committed.was in
    rw (p.1, p.2) (leaves _ [] (λ z. commit z a.states.now a.commands.now) picked (rw q.1 at c.commit.ensures) q.2)

pub returns : goal.returns
returns g c =
    let a = c.args in
    let taken = sets_out _ (same_sizes _ _ refl c.intake.auto.own refl c.intake.auto.run refl refl refl refl refl) c.in_ok-taken_in.ensures in
    let filtered = goes_on _ (λ z. filter z a.claims.now) taken (same_sizes _ _ refl refl refl refl c.filter.auto.accept refl c.filter.auto.heard refl refl) (rw (stood _ c.filter.result c.map_err.ensures.cases c.in_ok-filtered.was) at c.filter.ensures) in
    let decided = goes_on _ (λ z. agree z a.words.now) filtered (same_sizes _ _ refl refl c.agree.auto.agreed refl refl c.agree.auto.yes refl c.agree.auto.candidates refl) (rw (stood _ c.agree.result c.map_err-2.ensures.cases c.in_ok-decided.was) at c.agree.ensures) in
    let picked = goes_on _ (λ z. select z (g.Z.Selection.choice a.selection.now)) decided (same_sizes _ _ refl refl refl refl refl refl refl refl c.select.auto.chosen) (rw (stood _ c.select.result c.map_err-3.ensures.cases c.in_ok-picked.was) at c.select.ensures) in
    let committed = goes_on _ (λ z. commit z a.states.now a.commands.now) picked (same_sizes _ _ c.commit.auto.state refl refl refl refl refl refl refl refl) (rw (stood _ c.commit.result c.map_err-4.ensures.cases c.in_ok-committed.was) at c.commit.ensures) in
    goes_through _ committed
