-- Calls one after another: the promise of each is all that is used.
use Rattle.std.proofs.Common.{◌≡◌, [], ◌∷◌, ◌++◌, sym, ap, ◌∙◌, subst, subst₂, refl, Result, Ok, Err}
use Rattle.std.specs.Result.{MatchResult, IsErrAnd}
use Rattle.protocol.specs.Setup.{Tables, Sizes, sizes, Call, abandon, History, Stage, rest, Answer, nothing, refusal}
use Rattle.protocol.specs.Model.{refused as no, verdict}
use Rattle.protocol.specs.Clusters.{Semantics, Cluster, Snapshot, config, Came, ConsistentAt, Carries}
use Rattle.questions.specs.Refusals.{number_of}
use Rattle.questions.specs.declared.Refusal.{Refusal}
use Rattle.cluster.specs.Answers.{kept_by, here, Accepted, Rejected, Abandoned}
use Rattle.cluster.specs.declared.Cluster.{Cluster as Held}
use Rattle.autopilot.specs.Cycles.{GoesOn, Done, begun, followed, Through, Left}

-- what was accepted, where a refusal is changed on its way
pub stood : {X E F : Type 0} (Q : E → F → Type 0) (r : Result X E) {r' : Result X F} {x : X} → MatchResult r (λ y. r' ≡ Ok y) (λ e. IsErrAnd r' (Q e)) → r' ≡ Ok x → r ≡ Ok x
stood Q (Ok y) same is = cc
stood Q (Err e) changed is = absurd (subst (λ y. IsErrAnd y (Q e)) is changed)

-- what was refused, and what was made of it
pub turned : {X E F : Type 0} (Q : E → F → Type 0) (r : Result X E) {r' : Result X F} {e' : F} → MatchResult r (λ y. r' ≡ Ok y) (λ e. IsErrAnd r' (Q e)) → r' ≡ Err e' → (e : E) × (r ≡ Err e) × Q e e'
turned Q (Ok y) same is = cc
turned Q (Err e) changed is = (e, refl, subst (λ y. IsErrAnd y (Q e)) is changed)

module _ {P L R S C : Type 0} (w : Semantics P L R S C) where
  -- the run goes on through calls that were accepted
  reaches : {calls : History R S C} {q q' : Snapshot P L R S C} → Done w calls q q' → (origin : Cluster P L) (start : S) (h : History R S C) → Came w origin start h q → Came w origin start (calls ++ h) q'
  reaches begun origin start h came = came
  reaches (followed {calls = calls} {last = last} d a) origin start h came = (a.carries origin start (calls ++ h) last (reaches d origin start h came)).0

  arrives : {call : Call R S C} {calls : History R S C} {q q' : Snapshot P L R S C} → Done w (call ∷ calls) q q' → (origin : Cluster P L) (start : S) (h : History R S C) → Came w origin start h q
      → Came w origin start (call ∷ calls ++ h) q' × ConsistentAt w origin start (call ∷ calls ++ h) q'
  arrives (followed {calls = calls} {last = last} d a) origin start h came = a.carries origin start (calls ++ h) last (reaches d origin start h came)

  -- the calls so far were accepted, and the tables have the sizes that they began with
  pub record Onward (calls : History R S C) (c : Cluster P L) (t : Tables R S) (next : Cluster P L) (stage : Stage) (t' : Tables R S) (answer : Answer S C) : Type 0 where
    pub kept : next ≡ c
    pub sizes : sizes t' ≡ sizes t
    pub each : (last : Answer S C) → Done w calls (here c rest t last) (here next stage t' answer)

  -- the first call is accepted
  pub sets_out : {call : Call R S C} {to : Stage} {c next : Cluster P L} {t t' : Tables R S} {answer : Answer S C} → sizes t' ≡ sizes t → Accepted w call rest to c t t' answer next → Onward (call ∷ []) c t next to t' answer
  sets_out same a = record { kept = a.kept; sizes = same; each = λ last. followed begun a }

  -- one call more, asked with the sizes that the tables then have
  pub goes_on : {calls : History R S C} {from to : Stage} {c before next : Cluster P L} {t t' t'' : Tables R S} {last answer : Answer S C} (of : Sizes → Call R S C) → Onward calls c t before from t' last → sizes t'' ≡ sizes t'
      → Accepted w (of (sizes t')) from to before t' t'' answer next → Onward (of (sizes t) ∷ calls) c t next to t'' answer
  goes_on {from = from} {to} {before = before} {next} {t' = t'} {t''} {answer = answer} of o same a = record {
    kept = a.kept ∙ o.kept;
    sizes = same ∙ o.sizes;
    each = λ last. followed (o.each last) (subst (λ (z : Sizes). Accepted w (of z) from to before t' t'' answer next) o.sizes a);
  }

  pub goes_through : {call : Call R S C} {calls : History R S C} {c next : Cluster P L} {t t' : Tables R S} {stage : Stage} {answer : Answer S C} → Onward (call ∷ calls) c t next stage t' answer → Through w (call ∷ calls) c t next stage t' answer
  goes_through o = record { kept = o.kept; each = o.each; goes = λ origin start h last came. arrives (o.each last) origin start h came }

  -- the first call is refused
  pub stays : (unmade : History R S C) {call : Call R S C} {G : Type 0} {t t' : Tables R S} {c back : Held P L G} {why : Refusal} → Rejected w call rest (kept_by c) t t' c back why → Left w (unmade ++ (call ∷ [])) (kept_by c) t t' (kept_by back) why
  stays unmade {call} {G} {t} {t'} {c} {back} {why} r = record {
    unmade = unmade;
    call = call;
    done = [];
    parts = refl;
    stage = rest;
    each = λ last. (last, subst (λ (u : Tables R S). Done w [] (here (kept_by c) rest t last) (here (kept_by c) rest u last)) (sym r.tables) begun);
    asked = r.asked;
    kept = ap kept_by r.kept;
    goes = subst₂ (λ (y : Held P L G) (u : Tables R S). GoesOn w (call ∷ []) (here (kept_by c) rest t) (here (kept_by y) rest u (refusal (number_of why)))) (sym r.kept) (sym r.tables) (r.carries t);
  }

  -- a later call is refused, and the cycle is left
  pub leaves : (unmade : History R S C) (of : Sizes → Call R S C) {d : Call R S C} {done : History R S C} {G : Type 0} {stage : Stage} {c final : Cluster P L} {x back : Held P L G} {t t' t'' : Tables R S} {last : Answer S C} {why said : Refusal}
      → Onward (d ∷ done) c t (kept_by x) stage t' last → Rejected w (of (sizes t')) stage (kept_by x) t' t'' x back why → said ≡ why × Abandoned w stage (kept_by back) final → Left w (unmade ++ (of (sizes t) ∷ d ∷ done)) c t t'' final said
  leaves unmade of {d} {done} {G} {stage} {c} {final} {x} {back} {t} {t'} {t''} {last} {why} {said} o r (is, left) =
      let q : Answer S C → Snapshot P L R S C = here c rest t in
      let asked : Call R S C = of (sizes t') in
      let out : Carries w abandon (here (kept_by x) stage t') (here final rest t' nothing) = subst (λ (y : Held P L G). Carries w abandon (here (kept_by y) stage t') (here final rest t' nothing)) r.kept (left t').carries in
      let all : GoesOn w (abandon ∷ asked ∷ d ∷ done) q (here final rest t' nothing) = λ origin start h first came.
      out origin start (asked ∷ d ∷ done ++ h) (refusal (number_of why)) (r.carries t' origin start (d ∷ done ++ h) last (reaches (o.each first) origin start h came)).0 in
      record {
        unmade = unmade;
        call = of (sizes t);
        done = d ∷ done;
        parts = refl;
        stage = stage;
        each = λ first. (last, subst₂ (λ (k : Cluster P L) (u : Tables R S). Done w (d ∷ done) (q first) (here k stage u last)) o.kept (sym r.tables) (o.each first));
        asked = λ start. subst (λ (y : Refusal). verdict (config w c start) (of (sizes t)) ≡ no (number_of y)) (sym is)
            (subst₂ (λ (k : Cluster P L) (z : Sizes). verdict (config w k start) (of z) ≡ no (number_of why)) o.kept o.sizes (r.asked start));
        kept = (left t').kept ∙ ap kept_by r.kept ∙ o.kept;
        goes = subst₂ (λ (z : Sizes) (u : Tables R S). GoesOn w (abandon ∷ of z ∷ d ∷ done) q (here final rest u nothing)) o.sizes (sym r.tables) all;
      }
