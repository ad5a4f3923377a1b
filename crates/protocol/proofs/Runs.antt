-- Every run is consistent: sound replicas never part.
use Rattle.std.proofs.Common.{◌≡◌, ℕ, Bool, true, cond, [], ◌∷◌, ◌++◌, sym, refl, ap, ◌∙◌, subst, arith, Some}
use Rattle.protocol.specs.Tables.{value_at}
use Rattle.protocol.specs.Setup.{Config, Tables, Call, intake, filter, agree, select, commit, abandon, look, History, Stage, taken_in, filtered, agreed, chosen, Moment}
use Rattle.protocol.specs.Model.{Model, Verdict, granted, refused, verdict, advance, in_turn, decided, model}
use Rattle.protocol.specs.Consistency.{Committed, Consistent}
use Rattle.protocol.specs.Runs.{refusing, Valid, Lawful, Owed, Does, Run, made, done, declined}
use Rattle.protocol.proofs.Places.{same_is}
use Rattle.protocol.proofs.Quorums.{Admitted}
use Rattle.protocol.proofs.Ties.{TiesAt, Tied, ties_at, holds_kept, intake_keeps, filter_keeps, agree_keeps, select_keeps}
use Rattle.protocol.proofs.Closing.{commit_holds, committed}
use Rattle.protocol.proofs.Steadily.{steadiness}

module _ {R S C : Type 0} {g : Config R S C} (ok : Admitted g) where
  -- ---- the model

  model_done : (c : Call R S C) (h : History R S C) → in_turn c (model g h).stage ≡ true → verdict g c ≡ granted → model g (c ∷ h) ≡ advance g c (model g h)
  unfolding model
  model_done c h e v = ap (λ (b : Bool). cond b (decided g (verdict g c) c (model g h)) (model g h)) e ∙ ap (λ (x : Verdict). decided g x c (model g h)) v

  model_declined : (c : Call R S C) (h : History R S C) (k : ℕ) → in_turn c (model g h).stage ≡ true → verdict g c ≡ refused k → model g (c ∷ h) ≡ model g h
  unfolding model
  model_declined c h k e v = ap (λ (b : Bool). cond b (decided g (verdict g c) c (model g h)) (model g h)) e ∙ ap (λ (x : Verdict). decided g x c (model g h)) v

  in_turn_tied : (c : Call R S C) (p : Model R S) (m : Moment R S C) → Tied g p m → in_turn c m.stage ≡ true → in_turn c p.stage ≡ true
  in_turn_tied c p m h e = subst (λ (s : Stage). in_turn c s ≡ true) h.stage e

  -- ---- a run stays tied to the model

  step : (c : Call R S C) (p : Model R S) (m m' : Moment R S C) → Tied g p m → in_turn c p.stage ≡ true → Owed g c → Does g c m m' → Tied g (advance g c p) m'
  unfolding in_turn advance
  step (intake z es) p m m' h e o d = intake_keeps ok p m m' z es h d
  step (filter z cs) p m m' h e o d = filter_keeps ok p m m' z cs h (ties_at g p m h taken_in e) d
  step (agree z ws) p m m' h e o d = agree_keeps ok p m m' z ws (ties_at g p m h filtered e) d h
  step (select z r) p m m' h e o d = select_keeps ok p m m' z r o (ties_at g p m h agreed e) d h
  step (commit z ss cs) p m m' h e o d = record { stage = d.stage; holds = commit_holds ok p m m' (ties_at g p m h chosen e) h.holds ss cs d; ties = tt }
  step abandon p m m' h e o d = record { stage = d.stage; holds = holds_kept g p.state m m' (ap (λ (t : Tables R S). t.state) d.tables) h.holds; ties = tt }
  step (look z i) p m m' h e o d = record {
    stage = d.stage ∙ h.stage;
    holds = holds_kept g p.state m m' (ap (λ (t : Tables R S). t.state) d.tables) h.holds;
    ties = subst (TiesAt g p p.stage) (sym d.tables) h.ties;
  }

  tied : {h : History R S C} {m : Moment R S C} → Run g h m → Tied g (model g h) m
  unfolding model
  tied (made {m = m} v d) = record { stage = d.stage; holds = λ i l s. same_is g.means_s (value_at m.tables.state i) (Some g.start) (d.state i l); ties = tt }
  tied (done {h = h} {m = m} {m' = m'} c came turn on owed v d) =
      let before = tied came in
      let e = in_turn_tied c (model g h) m before turn in
      subst (λ (p : Model R S). Tied g p m') (sym (model_done c h e v)) (step c (model g h) m m' before e owed d)
  tied (declined {h = h} {m = m} c {k = k} came turn v) =
      let before = tied came in
      subst (λ (p : Model R S). Tied g p (refusing k m)) (sym (model_declined c h k (in_turn_tied c (model g h) m before turn) v))
      (record { stage = before.stage; holds = before.holds; ties = before.ties })

  -- ---- after a commit

  never : (v : Verdict) (k : ℕ) → v ≡ refused k → v ≡ granted → ⊥
  never v k p q = let z : ◌≡◌ {A = ℕ} 0 1 = cc in omega arith

  after_commit : {h : History R S C} {m : Moment R S C} → Run g h m → (c : Call R S C) (past : History R S C) → h ≡ c ∷ past → verdict g c ≡ granted
      → (m₀ : Moment R S C) × Tied g (model g past) m₀ × (in_turn c (model g past).stage ≡ true) × Does g c m₀ m
  after_commit (made v d) c past e w = absurd (let z : ◌≡◌ {A = ℕ} 0 1 = cc in omega arith)
  after_commit (done {h = h} {m = m} {m' = m'} b came turn on owed v d) c past e w =
      let same_call : b ≡ c = cc in
      let same_past : h ≡ past = cc in
      let before = tied came in
      subst (λ (x : Call R S C). (m₀ : Moment R S C) × Tied g (model g past) m₀ × (in_turn x (model g past).stage ≡ true) × Does g x m₀ m') same_call
      (subst (λ (x : History R S C). (m₀ : Moment R S C) × Tied g (model g x) m₀ × (in_turn b (model g x).stage ≡ true) × Does g b m₀ m') same_past
      (m, before, in_turn_tied b (model g h) m before turn, d))
  after_commit (declined {h = h} {m = m} b {k = k} came turn v) c past e w =
      let same_call : b ≡ c = cc in
      absurd (never (verdict g c) k (subst (λ (x : Call R S C). verdict g x ≡ refused k) same_call v) w)

  pub consistent : (h : History R S C) (m : Moment R S C) → Run g h m → Consistent g h m
  unfolding in_turn advance
  consistent h m came = record {
    states = (tied came).holds;
    committed = λ past by.
        let last = commit by.sizes by.states by.commands in
        let b = after_commit came last past by.last by.granted in
        let p = model g past in
        subst (λ (x : History R S C). Committed g p (model g x).state m) (sym by.last)
        (subst (λ (x : Model R S). Committed g p x.state m) (sym (model_done last past b.2 by.granted))
        (committed ok p b.0 m (ties_at g p b.0 b.1 chosen b.2) b.1.holds by.states by.commands b.3));
    steadiness = λ past by. steadiness ok (model g past);
  }

module _ {R S C : Type 0} (g : Config R S C) where
  pub valid_of : {h : History R S C} {m : Moment R S C} → Run g h m → Valid g
  valid_of (made v d) = v
  valid_of (done c came turn on owed v d) = valid_of came
  valid_of (declined c came turn v) = valid_of came

  -- before its last call a run had come so far without it
  earlier : {h : History R S C} {m : Moment R S C} → Run g h m → (c : Call R S C) (past : History R S C) → h ≡ c ∷ past → (m₀ : Moment R S C) × Run g past m₀
  earlier (made v d) c past e = absurd (let z : ◌≡◌ {A = ℕ} 0 1 = cc in omega arith)
  earlier (done {h = h} {m = m} b came turn on owed v d) c past e = let same : h ≡ past = cc in (m, subst (λ (x : History R S C). Run g x m) same came)
  earlier (declined {h = h} {m = m} b came turn v) c past e = let same : h ≡ past = cc in (m, subst (λ (x : History R S C). Run g x m) same came)

  -- a run came through every moment before
  pub before : (later past h : History R S C) (m : Moment R S C) → Run g h m → h ≡ later ++ past → (m₀ : Moment R S C) × Run g past m₀
  before [] past h m came e = (m, subst (λ (x : History R S C). Run g x m) e came)
  before (c ∷ later) past h m came e = let r = earlier came c (later ++ past) e in before later past (later ++ past) r.0 r.1 refl

  -- a run stands at the model's stage
  staged_step : (c : Call R S C) (p : Model R S) (m m' : Moment R S C) → m.stage ≡ p.stage → Does g c m m' → m'.stage ≡ (advance g c p).stage
  unfolding advance
  staged_step (intake z es) p m m' e d = d.stage
  staged_step (filter z cs) p m m' e d = d.stage
  staged_step (agree z ws) p m m' e d = d.stage
  staged_step (select z r) p m m' e d = d.stage
  staged_step (commit z ss cs) p m m' e d = d.stage
  staged_step abandon p m m' e d = d.stage
  staged_step (look z i) p m m' e d = d.stage ∙ e

  pub staged : {h : History R S C} {m : Moment R S C} → Run g h m → m.stage ≡ (model g h).stage
  unfolding model
  staged (made v d) = d.stage
  staged (done {h = h} {m = m} {m' = m'} c came turn on owed v d) =
      let at = staged came in
      let now : in_turn c (model g h).stage ≡ true = subst (λ (s : Stage). in_turn c s ≡ true) at turn in
      staged_step c (model g h) m m' at d
      ∙ sym (ap (λ (b : Bool). (cond b (decided g (verdict g c) c (model g h)) (model g h)).stage) now ∙ ap (λ (x : Verdict). (decided g x c (model g h)).stage) v)
  staged (declined {h = h} {m = m} c {k = k} came turn v) =
      let at = staged came in
      let now : in_turn c (model g h).stage ≡ true = subst (λ (s : Stage). in_turn c s ≡ true) at turn in
      at ∙ sym (ap (λ (b : Bool). (cond b (decided g (verdict g c) c (model g h)) (model g h)).stage) now ∙ ap (λ (x : Verdict). (decided g x c (model g h)).stage) v)

  -- Sound replicas never part.
  pub runs_never_part : Lawful g → (h : History R S C) (m : Moment R S C) → Run g h m → Consistent g h m
  runs_never_part laws h m came = consistent (record { valid = valid_of came; laws = laws }) h m came
