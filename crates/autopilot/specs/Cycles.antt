-- What a box's own sequence of calls gets.
use Rattle.std.specs.Prelude.{◌≡◌, ℕ, List, [], ◌∷◌, ◌++◌, Ok, Err, Result, Option}
use Rattle.protocol.specs.Setup.{Rule, Tables, sizes, Call, intake, filter, agree, select, commit, abandon, History, Stage, rest, Answer, nothing, refusal, outcome}
use Rattle.protocol.specs.Model.{refused, verdict}
use Rattle.protocol.specs.Clusters.{Semantics, Cluster, Snapshot, config, Came, ConsistentAt}
use Rattle.questions.specs.Refusals.{number_of}
use Rattle.questions.specs.declared.Refusal.{Refusal}
use Rattle.cluster.specs.Answers.{kept_by, outcome_of, here, Accepted}
use Rattle.cluster.specs.declared.Cluster.{Cluster as Held}
use Rattle.cluster.specs.declared.Committed.{Committed}
use Rattle.cluster.specs.declared.Refused.{Refused}
use Rattle.cluster.specs.declared.stages.Rest.{Rest}

-- the calls of a whole cycle, the latest first
abbrev pub flying : {R S C : Type 0} → Rule R → List (Option R) → List (Option R) → List ℕ → List (Option S) → List (Option C) → Tables R S → History R S C
flying rule entries claims words states commands t =
    commit (sizes t) states commands ∷ select (sizes t) rule ∷ agree (sizes t) words ∷ filter (sizes t) claims ∷ intake (sizes t) entries ∷ []

module _ {P L R S C : Type 0} (w : Semantics P L R S C) where
  -- Whatever run came to q goes on through these calls, the latest first, and sound replicas agree with the model.
  abbrev pub GoesOn : History R S C → (Answer S C → Snapshot P L R S C) → Snapshot P L R S C → Type 0
  GoesOn calls q q' = (origin : Cluster P L) (start : S) (h : History R S C) (last : Answer S C)
      → Came w origin start h (q last) → Came w origin start (calls ++ h) q' × ConsistentAt w origin start (calls ++ h) q'

  -- All these calls, the latest first, were accepted one after another, from q to q', each doing what its record says.
  pub data Done : History R S C → Snapshot P L R S C → Snapshot P L R S C → Type 0 where
    begun : {q : Snapshot P L R S C} → Done [] q q
    followed : {calls : History R S C} {call : Call R S C} {q : Snapshot P L R S C} {from to : Stage} {c c' : Cluster P L} {t t' : Tables R S} {last answer : Answer S C}
        → Done calls q (here c from t last) → Accepted w call from to c t t' answer c' → Done (call ∷ calls) q (here c' to t' answer)

  -- All these calls were accepted: the cluster keeps what it was made with, and the run goes on through them.
  pub record Through (calls : History R S C) (c : Cluster P L) (t : Tables R S) (next : Cluster P L) (stage : Stage) (t' : Tables R S) (answer : Answer S C) : Type 0 where
    pub kept : next ≡ c
    pub each : (last : Answer S C) → Done calls (here c rest t last) (here next stage t' answer)
    pub goes : GoesOn calls (here c rest t) (here next stage t' answer)

  -- the calls up to the refused one, and then the abandoning of a cycle that was open
  abbrev pub left_by : Call R S C → History R S C → History R S C
  left_by call [] = call ∷ []
  left_by call (d ∷ done) = abandon ∷ call ∷ d ∷ done

  -- what the last of them answers
  abbrev pub left_with : History R S C → Refusal → Answer S C
  left_with [] why = refusal (number_of why)
  left_with (d ∷ done) why = nothing

  -- One call of the cycle was refused, so the cycle was left: those before it were accepted, those after it not made, and the cluster is at rest with what it was made with.
  pub record Left (cycle : History R S C) (c : Cluster P L) (t t' : Tables R S) (back : Cluster P L) (why : Refusal) : Type 0 where
    pub unmade : History R S C
    pub call : Call R S C
    pub done : History R S C
    pub parts : cycle ≡ unmade ++ (call ∷ done)
    -- those before it were accepted, and what they left in the tables stands
    pub stage : Stage
    pub each : (last : Answer S C) → (answer : Answer S C) × Done done (here c rest t last) (here c stage t' answer)
    pub asked : (start : S) → verdict (config w c start) call ≡ refused (number_of why)
    pub kept : back ≡ c
    pub goes : GoesOn (left_by call done) (here c rest t) (here back rest t' (left_with done why))

  -- the cycle is committed, or left
  abbrev pub Flies : Held P L Rest → Rule R → List (Option R) → List (Option R) → List ℕ → List (Option S) → List (Option C) → Tables R S → Tables R S → Result (Committed P L C) (Refused (Held P L Rest)) → Type 0
  Flies c rule entries claims words states commands t t' (Ok done) = Through (flying rule entries claims words states commands t) (kept_by c) t (kept_by done.cluster) rest t' (outcome (outcome_of done.outcome))
  Flies c rule entries claims words states commands t t' (Err e) = Left (flying rule entries claims words states commands t) (kept_by c) t t' (kept_by e.cluster) e.refusal
