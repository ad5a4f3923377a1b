-- How one call's run goes on, as the list has it.
use Rattle.std.proofs.Common.{◌≡◌, ℕ, true, false, List, sym, refl, ap, ◌∙◌, ap₂, subst₂, Bor, Option, Result, Ok, Err}
use Rattle.std.proofs.lemmas.Bool.{true≢false}
use Rattle.protocol.specs.Setup.{Rule, Tables, Sizes, Call as Asked, Stage, rest, taken_in, filtered, agreed, chosen, Answer, nothing, refusal}
use Rattle.protocol.specs.Model.{refused, verdict, in_turn}
use Rattle.protocol.specs.Clusters.{Semantics, Cluster, Snapshot, config, Carries}
use Rattle.questions.proofs.Fitting.{granted≢refused}
use Rattle.questions.specs.Refusals.{number_of}
use Rattle.questions.specs.declared.Refusal.{Refusal}
use Rattle.cluster.specs.declared.Cluster.{Cluster as Held}
use Rattle.cluster.specs.declared.Refused.{Refused as Back}
use Rattle.cluster.specs.Answers.{kept_by, here, Accepted, Rejected, StageAnswers}
use Rattle.operation.specs.declared.AnyStage.{AnyStage}
use Rattle.operation.specs.declared.Progress.{Progress}
use Rattle.operation.specs.declared.Call.{Call}
use Rattle.operation.specs.declared.Call.TheVariants.{Intake, Filter, Agree, Select, Commit, Abandon, Look}
use Rattle.operation.specs.Calls.{cluster_of, stage_of, standing, asked, Quiet, Goes, Passed}

-- a call in its turn, and the same by another term
module _ {P L R S C : Type 0} (w : Semantics P L R S C) {call call' : Asked R S C} (same : call ≡ call') {from : Stage} {t : Tables R S} {last : Answer S C} {q' : Snapshot P L R S C} (turn : in_turn call' from ≡ true) where
  -- accepted, and where it came to by another term too
  pub goes : {to : Stage} {c c' : Cluster P L} {t' : Tables R S} {answer : Answer S C} → Accepted w call' from to c t t' answer c' → Quiet call' answer → q' ≡ here c' to t' answer → Goes w call (here c from t last) q'
  goes {to} {c} {c'} {t'} {answer} r quiet d =
      let g : Goes w call' (here c from t last) (here c' to t' answer) = record {
        accepted = λ e start v. (r, quiet);
        refused = λ e start k v. absurd (granted≢refused k (sym (r.asked start) ∙ v));
        on = λ e. r.carries;
        over = λ e. absurd (true≢false (sym turn ∙ e));
      } in
      subst₂ (λ (x : Asked R S C) (y : Snapshot P L R S C). Goes w x (here c from t last) y) (sym same) (sym d) g

  -- refused with the number of the first no
  pub turned_down : {c : Cluster P L} (why : Refusal) → ((start : S) → verdict (config w c start) call' ≡ refused (number_of why)) → Carries w call' (here c from t) (here c from t (refusal (number_of why)))
      → q' ≡ here c from t (refusal (number_of why)) → Goes w call (here c from t last) q'
  turned_down {c} why asked carries d =
      let g : Goes w call' (here c from t last) (here c from t (refusal (number_of why))) = record {
        accepted = λ e start v. absurd (granted≢refused (number_of why) (sym v ∙ asked start));
        refused = λ e start k v. let z : refused (number_of why) ≡ refused k = sym (asked start) ∙ v in let same_number : number_of why ≡ k = cc in ap (λ (n : ℕ). here c from t (refusal n)) same_number;
        on = λ e. carries;
        over = λ e. absurd (true≢false (sym turn ∙ e));
      } in
      subst₂ (λ (x : Asked R S C) (y : Snapshot P L R S C). Goes w x (here c from t last) y) (sym same) (sym d) g

  -- refused: the cluster came back, and the tables are as they were
  pub comes_back : {X : Type 0} (of : X → Cluster P L) {t' : Tables R S} {c back : X} {why : Refusal} → Rejected w call' from (of c) t t' c back why → q' ≡ here (of back) from t' (refusal (number_of why)) → Goes w call (here (of c) from t last) q'
  comes_back of {why = why} r d = turned_down why r.asked (r.carries t) (d ∙ ap₂ (λ x u. here (of x) from u (refusal (number_of why))) r.kept r.tables)

  -- a stage was accepted or refused, and where it leaves the cluster
  pub leaves : {G H : Type 0} {to : Stage} (c : Held P L G) {t' : Tables R S} (answered : Result (Held P L H) (Back (Held P L G))) {ahead : Held P L H → AnyStage P L → Type 0} {back : Held P L G → AnyStage P L → Type 0} (r : Progress P L S C)
      → StageAnswers w call' from to c t t' answered → Quiet call' nothing → Passed ahead back answered r
      → ((n : Held P L H) (s : AnyStage P L) → ahead n s → (cluster_of s ≡ kept_by n) × (stage_of s ≡ to))
      → ((n : Held P L G) (s : AnyStage P L) → back n s → (cluster_of s ≡ kept_by n) × (stage_of s ≡ from))
      → q' ≡ standing r t' → Goes w call (here (kept_by c) from t last) q'
  leaves c {t' = t'} (Ok n) r did quiet passed next stays d =
      let at = next n r.stage passed.0 in
      let stood : standing r t' ≡ here (kept_by n) _ t' nothing = cc (at.0, at.1, passed.1) in
      goes did quiet (d ∙ stood)
  leaves c {t' = t'} (Err e) r did quiet passed next stays d =
      let at = stays e.cluster r.stage passed.0 in
      let stood : standing r t' ≡ here (kept_by e.cluster) from t' (refusal (number_of e.refusal)) = cc (at.0, at.1, passed.1) in
      comes_back kept_by did (d ∙ stood)

-- out of turn: all is as it was
pub passes : {P L R S C : Type 0} (w : Semantics P L R S C) (call : Asked R S C) (q : Snapshot P L R S C) → in_turn call q.moment.stage ≡ false → Goes w call q q
passes w call q out = record {
  accepted = λ e. absurd (true≢false (sym e ∙ out));
  refused = λ e. absurd (true≢false (sym e ∙ out));
  on = λ e. absurd (true≢false (sym e ∙ out));
  over = λ e. refl;
}

module _ {R S C Z : Type 0} (choice : Z → Rule R) (z : Sizes) where
  -- at each stage, every call but those of its turn

  pub out_at_rest : (call : Call R S C Z) → ((x : Bor (List (Option R))) → call ≡ Intake x → ⊥) → ((x : ℕ) → call ≡ Look x → ⊥) → in_turn (asked choice z call) rest ≡ false
  unfolding in_turn
  out_at_rest (Intake x) f g = absurd (f x refl)
  out_at_rest (Filter x) f g = refl
  out_at_rest (Agree x) f g = refl
  out_at_rest (Select x) f g = refl
  out_at_rest (Commit x y) f g = refl
  out_at_rest Abandon f g = refl
  out_at_rest (Look x) f g = absurd (g x refl)

  pub out_at_taken_in : (call : Call R S C Z) → ((x : Bor (List (Option R))) → call ≡ Filter x → ⊥) → (call ≡ Abandon → ⊥) → in_turn (asked choice z call) taken_in ≡ false
  unfolding in_turn
  out_at_taken_in (Intake x) f g = refl
  out_at_taken_in (Filter x) f g = absurd (f x refl)
  out_at_taken_in (Agree x) f g = refl
  out_at_taken_in (Select x) f g = refl
  out_at_taken_in (Commit x y) f g = refl
  out_at_taken_in Abandon f g = absurd (g refl)
  out_at_taken_in (Look x) f g = refl

  pub out_at_filtered : (call : Call R S C Z) → ((x : Bor (List ℕ)) → call ≡ Agree x → ⊥) → (call ≡ Abandon → ⊥) → in_turn (asked choice z call) filtered ≡ false
  unfolding in_turn
  out_at_filtered (Intake x) f g = refl
  out_at_filtered (Filter x) f g = refl
  out_at_filtered (Agree x) f g = absurd (f x refl)
  out_at_filtered (Select x) f g = refl
  out_at_filtered (Commit x y) f g = refl
  out_at_filtered Abandon f g = absurd (g refl)
  out_at_filtered (Look x) f g = refl

  pub out_at_agreed : (call : Call R S C Z) → ((x : Bor Z) → call ≡ Select x → ⊥) → (call ≡ Abandon → ⊥) → in_turn (asked choice z call) agreed ≡ false
  unfolding in_turn
  out_at_agreed (Intake x) f g = refl
  out_at_agreed (Filter x) f g = refl
  out_at_agreed (Agree x) f g = refl
  out_at_agreed (Select x) f g = absurd (f x refl)
  out_at_agreed (Commit x y) f g = refl
  out_at_agreed Abandon f g = absurd (g refl)
  out_at_agreed (Look x) f g = refl

  pub out_at_chosen : (call : Call R S C Z) → ((x : Bor (List (Option S))) (y : Bor (List (Option C))) → call ≡ Commit x y → ⊥) → (call ≡ Abandon → ⊥) → in_turn (asked choice z call) chosen ≡ false
  unfolding in_turn
  out_at_chosen (Intake x) f g = refl
  out_at_chosen (Filter x) f g = refl
  out_at_chosen (Agree x) f g = refl
  out_at_chosen (Select x) f g = refl
  out_at_chosen (Commit x y) f g = absurd (f x y refl)
  out_at_chosen Abandon f g = absurd (g refl)
  out_at_chosen (Look x) f g = refl
