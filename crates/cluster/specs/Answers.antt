-- What each call promises: a record where it is accepted, and one where it is refused.
use Rattle.std.specs.Prelude.{◌≡◌, ℕ, true, List, [], Ok, Err, Result, Option}
use Rattle.protocol.specs.Setup.{Rule, Tables, Sizes, sizes, Call, intake, filter, agree, select, commit, abandon, look, Stage, rest, taken_in, filtered, agreed, chosen, Outcome as Answered, Answer, nothing, refusal, outcome, told, Moment}
use Rattle.protocol.specs.Model.{granted, refused, tables_fit, verdict}
use Rattle.protocol.specs.Calls.{Makes}
use Rattle.protocol.specs.Runs.{Valid, Does}
use Rattle.protocol.specs.Clusters.{Semantics, Cluster, Snapshot, config, Came, ConsistentAt, Carries}
use Rattle.questions.specs.Questions.{Admitted, fits, make_verdict}
use Rattle.questions.specs.Refusals.{number_of}
use Rattle.questions.specs.declared.Parameters.{Parameters}
use Rattle.questions.specs.declared.Refusal.{Refusal}
use Rattle.dispersal.specs.declared.Outcome.{Outcome}
use Rattle.cluster.specs.declared.Cluster.{Cluster as Held}
use Rattle.cluster.specs.declared.Committed.{Committed}
use Rattle.cluster.specs.declared.Refused.{Refused}
use Rattle.cluster.specs.declared.Unmade.{Unmade}

-- what a cluster keeps for life
abbrev pub kept : {P L : Type 0} → Parameters → P → L → Cluster P L
kept p app layer = record { n = p.n; f = p.f; sensors = p.sensors; marks = p.marks; app = app; layer = layer }

-- of a cluster at any stage
abbrev pub kept_by : {P L G : Type 0} → Held P L G → Cluster P L
kept_by c = kept c.parameters c.app c.layer

-- what commit answers, as the protocol has it
abbrev pub outcome_of : {C : Type 0} → Outcome C → Answered C
outcome_of o = record { vote = o.vote; chosen = o.chosen; candidates = o.candidates; dispersed = o.dispersed }

-- a moment: the stage, the tables, and what the last call answered
abbrev pub at : {R S C : Type 0} → Stage → Tables R S → Answer S C → Moment R S C
at stage tables answer = record { stage = stage; tables = tables; answer = answer }

-- the cluster at a moment
abbrev pub here : {P L R S C : Type 0} → Cluster P L → Stage → Tables R S → Answer S C → Snapshot P L R S C
here c stage tables answer = record { cluster = c; moment = at stage tables answer }

-- what the questions of making answer
abbrev pub MakingAnswer : ℕ → ℕ → ℕ → ℕ → Sizes → Result Parameters Refusal → Type 0
MakingAnswer n f sensors marks z (Ok p) = Admitted n f sensors marks p × (fits n sensors z ≡ true)
MakingAnswer n f sensors marks z (Err why) = make_verdict n f sensors marks z ≡ refused (number_of why)

module _ {P L R S C : Type 0} (w : Semantics P L R S C) where
  -- Making: the cluster has what was given, the starting state stands in all places, and a run begins in which sound replicas agree with the model.
  pub record Made (given : Cluster P L) (start : S) (t t' : Tables R S) (made : Cluster P L) : Type 0 where
    pub asked : make_verdict given.n given.f given.sensors given.marks (sizes t) ≡ granted
    pub kept : made ≡ given
    pub valid : Valid (config w given start)
    pub fit : tables_fit (config w given start) (sizes t) ≡ true
    pub sizes : sizes t' ≡ sizes t
    pub makes : (last : Answer S C) → Makes (config w given start) (at rest t' last)
    pub begins : (last : Answer S C) → Came w given start [] (here made rest t' last) × ConsistentAt w given start [] (here made rest t' last)

  -- Making is refused: the first no, and nothing changed.
  pub record Declined (given : Cluster P L) (t t' : Tables R S) (app' : P) (layer' : L) (why : Refusal) : Type 0 where
    pub asked : make_verdict given.n given.f given.sensors given.marks (sizes t) ≡ refused (number_of why)
    pub app : app' ≡ given.app
    pub layer : layer' ≡ given.layer
    pub tables : t' ≡ t

  -- A call is accepted: what the cluster was made with is kept, and the tables and the answer are what the call makes of them.
  pub record Accepted (call : Call R S C) (from to : Stage) (c : Cluster P L) (t t' : Tables R S) (answer : Answer S C) (c' : Cluster P L) : Type 0 where
    pub asked : (start : S) → verdict (config w c start) call ≡ granted
    pub kept : c' ≡ c
    pub does : (start : S) (last : Answer S C) → Does (config w c start) call (at from t last) (at to t' answer)
    -- whatever run came here goes on, and sound replicas agree with the model
    pub carries : Carries w call (here c from t) (here c' to t' answer)

  -- A call is refused: the first no, the cluster as it was, and nothing changed.
  pub record Rejected {X : Type 0} (call : Call R S C) (stage : Stage) (c : Cluster P L) (t t' : Tables R S) (cluster back : X) (why : Refusal) : Type 0 where
    pub asked : (start : S) → verdict (config w c start) call ≡ refused (number_of why)
    pub kept : back ≡ cluster
    pub tables : t' ≡ t
    -- so does the run go on, whose own tables these need not be
    pub carries : (own : Tables R S) → Carries w call (here c stage own) (here c stage own (refusal (number_of why)))

  -- what making answers
  abbrev pub MakeAnswers : {G : Type 0} → Cluster P L → S → Tables R S → Tables R S → Result (Held P L G) (Unmade P L) → Type 0
  MakeAnswers given start t t' (Ok made) = Made given start t t' (kept_by made)
  MakeAnswers given start t t' (Err e) = Declined given t t' e.app e.layer e.refusal

  -- what a stage up to the choice answers: the cluster at the next stage, or as it was
  abbrev pub StageAnswers : {G H : Type 0} → Call R S C → Stage → Stage → Held P L G → Tables R S → Tables R S → Result (Held P L H) (Refused (Held P L G)) → Type 0
  StageAnswers call from to c t t' (Ok next) = Accepted call from to (kept_by c) t t' nothing (kept_by next)
  StageAnswers call from to c t t' (Err e) = Rejected call from (kept_by c) t t' c e.cluster e.refusal

  -- what intake answers
  abbrev pub IntakeAnswers : {G H : Type 0} → Held P L G → List (Option R) → Tables R S → Tables R S → Result (Held P L H) (Refused (Held P L G)) → Type 0
  IntakeAnswers c entries t t' answered = StageAnswers (intake (sizes t) entries) rest taken_in c t t' answered

  -- what filter answers
  abbrev pub FilterAnswers : {G H : Type 0} → Held P L G → List (Option R) → Tables R S → Tables R S → Result (Held P L H) (Refused (Held P L G)) → Type 0
  FilterAnswers c claims t t' answered = StageAnswers (filter (sizes t) claims) taken_in filtered c t t' answered

  -- what agree answers
  abbrev pub AgreeAnswers : {G H : Type 0} → Held P L G → List ℕ → Tables R S → Tables R S → Result (Held P L H) (Refused (Held P L G)) → Type 0
  AgreeAnswers c words t t' answered = StageAnswers (agree (sizes t) words) filtered agreed c t t' answered

  -- what select answers
  abbrev pub SelectAnswers : {G H : Type 0} → Held P L G → Rule R → Tables R S → Tables R S → Result (Held P L H) (Refused (Held P L G)) → Type 0
  SelectAnswers c rule t t' answered = StageAnswers (select (sizes t) rule) agreed chosen c t t' answered

  -- what commit answers
  abbrev pub CommitAnswers : {G : Type 0} → Held P L G → List (Option S) → List (Option C) → Tables R S → Tables R S → Result (Committed P L C) (Refused (Held P L G)) → Type 0
  CommitAnswers c states commands t t' (Ok closed) = Accepted (commit (sizes t) states commands) chosen rest (kept_by c) t t' (outcome (outcome_of closed.outcome)) (kept_by closed.cluster)
  CommitAnswers c states commands t t' (Err e) = Rejected (commit (sizes t) states commands) chosen (kept_by c) t t' c e.cluster e.refusal

  -- Abandoned from any stage inside a cycle: at rest, and no table is written, whichever they are.
  abbrev pub Abandoned : Stage → Cluster P L → Cluster P L → Type 0
  Abandoned from c c' = (t : Tables R S) → Accepted abandon from rest c t t nothing c'

  -- A look is refused: the first no; the run goes on, whose own tables these need not be.
  pub record Unseen (call : Call R S C) (c : Cluster P L) (why : Refusal) : Type 0 where
    pub asked : (start : S) → verdict (config w c start) call ≡ refused (number_of why)
    pub carries : (own : Tables R S) → Carries w call (here c rest own) (here c rest own (refusal (number_of why)))

  -- what a look answers
  abbrev pub LookAnswers : {G : Type 0} → Held P L G → ℕ → Tables R S → Result S Refusal → Type 0
  LookAnswers c i t (Ok state) = Accepted (look (sizes t) i) rest rest (kept_by c) t t (told state) (kept_by c)
  LookAnswers c i t (Err why) = Unseen (look (sizes t) i) (kept_by c) why
