-- From the test on the sizes of tables to each size, and to the verdicts.
use Rattle.std.proofs.Common.{◌≡◌, ℕ, ◌*◌, ◌<◌, Bool, true, false, not, ◌&&◌, eqb, ltb, List, length, sym, refl, ap, ◌∙◌, ap₂, ltb-true, Option}
use Rattle.quorum.specs.Counting.{bit}
use Rattle.std.proofs.lemmas.Bool.{and_parts, eqb-true}
use Rattle.protocol.specs.Setup.{Config, Tables, Sizes, sizes, intake, filter, agree, select, commit, look, Rule}
use Rattle.protocol.specs.Model.{Verdict, granted, refused, ask, tables_size, replica_number, replica_faulty, tables_fit, verdict}
use Rattle.questions.specs.Questions.{Fits, fits, stage_verdict, look_verdict, then_ask}

pub fits_each : (n sensors : ℕ) (z : Sizes) → fits n sensors z ≡ true → Fits n sensors z
fits_each n sensors z h =
    let a = and_parts _ _ h in
    let b = and_parts _ _ a.0 in
    let c = and_parts _ _ b.0 in
    let d = and_parts _ _ c.0 in
    let e = and_parts _ _ d.0 in
    let f = and_parts _ _ e.0 in
    let g = and_parts _ _ f.0 in
    let i = and_parts _ _ g.0 in
    record {
      state = eqb-true _ _ i.0;
      own = eqb-true _ _ i.1;
      agreed = eqb-true _ _ g.1;
      run = eqb-true _ _ f.1;
      accept = eqb-true _ _ e.1;
      yes = eqb-true _ _ d.1;
      heard = eqb-true _ _ c.1;
      candidates = eqb-true _ _ b.1;
      chosen = eqb-true _ _ a.1;
    }

pub fits_fit : {R S C : Type 0} (g : Config R S C) (z : Sizes) → tables_fit g z ≡ fits g.n g.sensors z
unfolding tables_fit
fits_fit g z = refl

pub making_granted : (v : Verdict) (fit : Bool) → v ≡ granted → fit ≡ true → then_ask v (ask fit tables_size granted) ≡ granted
making_granted v fit e h = ap₂ (λ (w : Verdict) (b : Bool). then_ask w (ask b tables_size granted)) e h

module _ {R S C : Type 0} (g : Config R S C) (z : Sizes) where
  pub verdict-intake : (es : List (Option R)) → verdict g (intake z es) ≡ stage_verdict (fits g.n g.sensors z) (eqb (length es) (g.n * g.sensors))
  unfolding verdict tables_fit
  verdict-intake es = refl

  pub verdict-filter : (cs : List (Option R)) → verdict g (filter z cs) ≡ stage_verdict (fits g.n g.sensors z) (eqb (length cs) (g.n * g.n * g.sensors))
  unfolding verdict tables_fit
  verdict-filter cs = refl

  pub verdict-agree : (ws : List ℕ) → verdict g (agree z ws) ≡ stage_verdict (fits g.n g.sensors z) true
  unfolding verdict tables_fit
  verdict-agree ws = refl

  pub verdict-select : (rule : Rule R) → verdict g (select z rule) ≡ stage_verdict (fits g.n g.sensors z) true
  unfolding verdict tables_fit
  verdict-select rule = refl

  pub verdict-commit : (ss : List (Option S)) (cs : List (Option C)) → verdict g (commit z ss cs) ≡ stage_verdict (fits g.n g.sensors z) (eqb (length ss) (g.n * g.n) && eqb (length cs) g.n)
  unfolding verdict tables_fit
  verdict-commit ss cs = refl

  pub verdict-look : (i : ℕ) → verdict g (look z i) ≡ look_verdict (fits g.n g.sensors z) g.n g.marks i
  unfolding verdict tables_fit
  verdict-look i = refl

-- what the questions answered of the tables' sizes is the verdict
pub stage_told : (v : Verdict) (n sensors : ℕ) (z t : Sizes) (input : Bool) → z ≡ t → v ≡ stage_verdict (fits n sensors z) input → stage_verdict (fits n sensors t) input ≡ v
stage_told v n sensors z t input e h = ap (λ (s : Sizes). stage_verdict (fits n sensors s) input) (sym e) ∙ sym h

-- what a look's questions answered of the tables' sizes is the verdict
pub look_told : (v : Verdict) (n sensors : ℕ) (z t : Sizes) (marks i : ℕ) → z ≡ t → v ≡ look_verdict (fits n sensors z) n marks i → look_verdict (fits n sensors t) n marks i ≡ v
look_told v n sensors z t marks i e h = ap (λ (s : Sizes). look_verdict (fits n sensors s) n marks i) (sym e) ∙ sym h

pub granted≢refused : (k : ℕ) → granted ≡ refused k → ⊥
granted≢refused k h = cc

granted_fit : (fit input : Bool) → granted ≡ stage_verdict fit input → fit ≡ true
granted_fit true input h = refl
granted_fit false input h = absurd (granted≢refused 7 h)

pub granted_input : (fit input : Bool) → granted ≡ stage_verdict fit input → input ≡ true
granted_input true true h = refl
granted_input true false h = absurd (granted≢refused 8 h)
granted_input false input h = absurd (granted≢refused 7 h)

-- where a stage is granted, its tables fit
pub granted_fits : (n sensors : ℕ) (z : Sizes) (input : Bool) → granted ≡ stage_verdict (fits n sensors z) input → Fits n sensors z
granted_fits n sensors z input h = fits_each n sensors z (granted_fit (fits n sensors z) input h)

-- where a look is granted, its tables fit and there is such a replica
pub granted_look : (n sensors : ℕ) (z : Sizes) (marks i : ℕ) → granted ≡ look_verdict (fits n sensors z) n marks i → Fits n sensors z × (i < n)
granted_look n sensors z marks i h = by (fits n sensors z) (ltb i n) refl refl h where
  by : (fit low : Bool) → fits n sensors z ≡ fit → ltb i n ≡ low → granted ≡ ask fit tables_size (ask low replica_number (ask (not (bit marks i)) replica_faulty granted)) → Fits n sensors z × (i < n)
  by true true e l h = (fits_each n sensors z e, ltb-true i n l)
  by true false e l h = absurd (granted≢refused 9 h)
  by false low e l h = absurd (granted≢refused 7 h)

-- tables of the same lengths
pub same_sizes : {R S : Type 0} (t t' : Tables R S) → length t'.state ≡ length t.state → length t'.own ≡ length t.own → length t'.agreed ≡ length t.agreed → length t'.run ≡ length t.run
    → length t'.accept ≡ length t.accept → length t'.yes ≡ length t.yes → length t'.heard ≡ length t.heard → length t'.candidates ≡ length t.candidates → length t'.chosen ≡ length t.chosen
    → sizes t' ≡ sizes t
same_sizes t t' a b c d e f g h i = cc
