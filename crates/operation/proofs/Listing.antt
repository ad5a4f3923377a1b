-- Runs over a list of calls.
use Rattle.std.proofs.Common.{◌≡◌, ℕ, ◌+◌, ◌<◌, ◌≤◌, Bool, true, false, cond, List, [], ◌∷◌, ◌++◌, length, get_or, take, sym, refl, ap, ◌∙◌, subst}
use Rattle.std.proofs.lemmas.List.{take_more, take_all}
use Rattle.protocol.specs.Setup.{Config, Rule, Tables, Sizes, sizes, Call as Asked, History, Stage, rest, Answer as Answered, nothing}
use Rattle.protocol.specs.Model.{in_turn, model}
use Rattle.protocol.specs.Clusters.{Semantics, Cluster, Snapshot, config, Came, ConsistentAt, NeverPart, Throughout}
use Rattle.protocol.proofs.Clusters.{throughout}
use Rattle.protocol.proofs.Runs.{staged}
use Rattle.cluster.specs.declared.Cluster.{Cluster as Held}
use Rattle.cluster.specs.declared.stages.Rest.{Rest}
use Rattle.cluster.specs.Answers.{kept_by, here, Made}
use Rattle.operation.specs.declared.AnyStage.{AnyStage}
use Rattle.operation.specs.declared.AnyStage.TheVariants.{Rest as AtRest}
use Rattle.operation.specs.declared.Answer.TheVariants.{Nothing}
use Rattle.operation.specs.declared.Call.{Call}
use Rattle.operation.specs.declared.Progress.{Progress}
use Rattle.operation.specs.Calls.{stage_of, cluster_of, standing, asked, onto, Goes, Each, Performs, Operated}

-- the stage by another term
pub at_stage : {P L R S C : Type 0} (w : Semantics P L R S C) (call : Asked R S C) (t : Tables R S) (last : Answered S C) {s s' : AnyStage P L} {q' : Snapshot P L R S C} → s ≡ s'
    → Goes w call (here (cluster_of s') (stage_of s') t last) q' → Goes w call (here (cluster_of s) (stage_of s) t last) q'
at_stage {P} {L} w call t last {q' = q'} e k = subst (λ (x : AnyStage P L). Goes w call (here (cluster_of x) (stage_of x) t last) q') (sym e) k

module _ {R S C Z : Type 0} (g : Config R S C) (choice : Z → Rule R) (z : Sizes) where
  -- the history with one call more, where that comes in its turn
  abbrev pub with : Asked R S C → History R S C → History R S C
  with c h = cond (in_turn c (model g h).stage) (c ∷ h) h

  onto_last : (cs : List (Call R S C Z)) (k : Call R S C Z) (h : History R S C) → onto g choice z (cs ++ (k ∷ [])) h ≡ with (asked choice z k) (onto g choice z cs h)
  onto_last [] k h = refl
  onto_last (c ∷ cs) k h = onto_last cs k (with (asked choice z c) h)

  -- one call more
  pub onto_more : (cs : List (Call R S C Z)) (i : ℕ) (k : Call R S C Z) (h : History R S C) → i < length cs → k ≡ get_or cs i k → onto g choice z (take (i + 1) cs) h ≡ with (asked choice z k) (onto g choice z (take i cs) h)
  onto_more cs i k h lt e = ap (λ x. onto g choice z x h) (take_more cs i k lt ∙ ap (λ x. take i cs ++ (x ∷ [])) (sym e)) ∙ onto_last (take i cs) k h

-- a call goes on from where a run has come to
pub goes_with : {P L R S C : Type 0} (w : Semantics P L R S C) (origin : Cluster P L) (start : S) (h : History R S C) (c : Asked R S C) (q q' : Snapshot P L R S C) → Goes w c q q' → Came w origin start h q
    → Came w origin start (cond (in_turn c (model (config w origin start) h).stage) (c ∷ h) h) q'
goes_with {P} {L} {R} {S} {C} w origin start h c q q' goes came = by (in_turn c q.moment.stage) refl where
  g : Config R S C
  g = config w origin start

  by : (b : Bool) → in_turn c q.moment.stage ≡ b → Came w origin start (cond (in_turn c (model g h).stage) (c ∷ h) h) q'
  by true e =
      let now : in_turn c (model g h).stage ≡ true = subst (λ (s : Stage). in_turn c s ≡ true) (staged g came.run) e in
      subst (λ (b : Bool). Came w origin start (cond b (c ∷ h) h) q') (sym now) (goes.on e origin start h q.moment.answer came).0
  by false e =
      let now : in_turn c (model g h).stage ≡ false = subst (λ (s : Stage). in_turn c s ≡ false) (staged g came.run) e in
      subst (λ (b : Bool). Came w origin start (cond b (c ∷ h) h) q') (sym now) (subst (λ (x : Snapshot P L R S C). Came w origin start h x) (sym (goes.over e)) came)

module _ {P L R S C Z : Type 0} (w : Semantics P L R S C) (choice : Z → Rule R) (z : Sizes) where
  each_last : (cs : List (Call R S C Z)) (k : Call R S C Z) (q m q' : Snapshot P L R S C) → Each w choice z q cs m → Goes w (asked choice z k) m q' → Each w choice z q (cs ++ (k ∷ [])) q'
  each_last [] k q m q' e goes = (q', subst (λ (x : Snapshot P L R S C). Goes w (asked choice z k) x q') e goes, refl)
  each_last (c ∷ cs) k q m q' e goes = (e.0, e.1, each_last cs k e.0 m q' e.2 goes)

module _ {P L R S C Z : Type 0} (w : Semantics P L R S C) (choice : Z → Rule R) (z : Sizes) (cs : List (Call R S C Z)) (i : ℕ) where
  -- i calls, and one call more
  pub each_more : (k : Call R S C Z) (t : Tables R S) (q m q' : Snapshot P L R S C) → i < length cs → k ≡ get_or cs i k → sizes t ≡ z → Goes w (asked choice (sizes t) k) m q'
      → Each w choice z q (take i cs) m → Each w choice z q (take (i + 1) cs) q'
  each_more k t q m q' lt is fit goes each =
      subst (λ (x : List (Call R S C Z)). Each w choice z q x q') (sym (take_more cs i k lt ∙ ap (λ x. take i cs ++ (x ∷ [])) (sym is)))
      (each_last w choice z (take i cs) k q m q' each (subst (λ (y : Sizes). Goes w (asked choice y k) m q') fit goes))

  -- a run over i calls, and one call more
  pub one_more : (origin : Cluster P L) (start : S) (h : History R S C) (k : Call R S C Z) (t : Tables R S) (q q' : Snapshot P L R S C) → i < length cs → k ≡ get_or cs i k → sizes t ≡ z → Goes w (asked choice (sizes t) k) q q'
      → Came w origin start (onto (config w origin start) choice z (take i cs) h) q → Came w origin start (onto (config w origin start) choice z (take (i + 1) cs) h) q'
  one_more origin start h k t q q' lt is fit goes came =
      let g = config w origin start in
      let so_far = onto g choice z (take i cs) h in
      subst (λ (x : History R S C). Came w origin start x q') (ap (λ (y : Sizes). with g choice z (asked choice y k) so_far) fit ∙ sym (onto_more g choice z cs i k h lt is))
      (goes_with w origin start so_far (asked choice (sizes t) k) q q' goes came)

-- all of them
pub all_done : {P L R S C Z : Type 0} (w : Semantics P L R S C) (choice : Z → Rule R) (from : Progress P L S C) (t : Tables R S) (cs : List (Call R S C Z)) (i : ℕ) (r : Progress P L S C) (t' : Tables R S) → NeverPart w → length cs ≤ i
    → Each w choice (sizes t) (standing from t) (take i cs) (standing r t')
    → ((origin : Cluster P L) (start : S) (h : History R S C) → Came w origin start h (standing from t) → Came w origin start (onto (config w origin start) choice (sizes t) (take i cs) h) (standing r t'))
    → Performs w choice from t cs r t'
all_done {P} {L} {R} {S} {C} {Z} w choice from t cs i r t' never le each came = record {
  each = subst (λ (x : List (Call R S C Z)). Each w choice (sizes t) (standing from t) x (standing r t')) (take_all i cs le) each;
  runs = λ origin start h start_here.
      let g = config w origin start in
      let all : Came w origin start (onto g choice (sizes t) cs h) (standing r t') = subst (λ (x : List (Call R S C Z)). Came w origin start (onto g choice (sizes t) x h) (standing r t')) (take_all i cs le) (came origin start h start_here) in
      (all, never origin start (onto g choice (sizes t) cs h) (standing r t') all, throughout w never origin start (onto g choice (sizes t) cs h) (standing r t') all);
}

-- made, and then the calls
pub operated : {P L R S C Z : Type 0} (w : Semantics P L R S C) (choice : Z → Rule R) (given : Cluster P L) (start : S) (t : Tables R S) (state : List S) (t' : Tables R S) (cs : List (Call R S C Z)) (c : Held P L Rest) (r : Progress P L S C)
    → Made w given start t (record t { state = state }) (kept_by c) → Performs w choice (record { stage = AtRest c; answer = Nothing }) (record t { state = state }) cs r t' → Operated w choice given start t cs r t'
operated {P} {L} {R} {S} {C} {Z} w choice given start t state t' cs c r made performs =
    let t₁ : Tables R S = record t { state = state } in
    let q : Snapshot P L R S C = here (kept_by c) rest t₁ nothing in
    let P : Sizes → Type 0 = λ z. Came w given start (onto (config w given start) choice z cs []) (standing r t') × ConsistentAt w given start (onto (config w given start) choice z cs []) (standing r t') × Throughout {R = R} w given start (onto (config w given start) choice z cs []) in
    let all = subst P made.sizes (performs.runs given start [] (made.begins nothing).0) in
    record {
      granted = made.asked;
      cluster = kept_by c;
      state = state;
      made = made;
      each = subst (λ (z : Sizes). Each w choice z q cs (standing r t')) made.sizes performs.each;
      came = all.0;
      consistent = all.1;
      throughout = all.2;
    }
