-- Lists of calls, as the protocol has them.
use Rattle.std.specs.Prelude.{◌≡◌, ℕ, true, false, cond, List, [], ◌∷◌, Ok, Err, Result}
use Rattle.protocol.specs.Setup.{Config, Rule, Tables, Sizes, sizes, Call as Asked, intake, filter, agree, select, commit, abandon, look, History, Stage, rest, taken_in, filtered, agreed, chosen, Answer as Answered, nothing, refusal, outcome, told}
use Rattle.protocol.specs.Clusters.{Semantics, Cluster, Snapshot, config, Came, ConsistentAt, Throughout, Carries}
use Rattle.protocol.specs.Model.{granted, refused, verdict, in_turn, model}
use Rattle.protocol.specs.Runs.{refusing}
use Rattle.questions.specs.Questions.{make_verdict}
use Rattle.questions.specs.Refusals.{number_of}
use Rattle.cluster.specs.declared.Cluster.{Cluster as Held}
use Rattle.cluster.specs.declared.Refused.{Refused as Back}
use Rattle.cluster.specs.declared.Unmade.{Unmade}
use Rattle.cluster.specs.Answers.{kept_by, outcome_of, here, Made, Accepted, Declined}
use Rattle.operation.specs.declared.AnyStage.{AnyStage}
use Rattle.operation.specs.declared.AnyStage.TheVariants.{Rest as AtRest, TakenIn as AtTakenIn, Filtered as AtFiltered, Agreed as AtAgreed, Chosen as AtChosen}
use Rattle.operation.specs.declared.Call.{Call}
use Rattle.operation.specs.declared.Call.TheVariants.{Intake, Filter, Agree, Select, Commit, Abandon, Look}
use Rattle.operation.specs.declared.Answer.{Answer}
use Rattle.operation.specs.declared.Answer.TheVariants.{Nothing, Refused, Told, Committed}
use Rattle.operation.specs.declared.Progress.{Progress}

-- the stage at which a cluster stands
abbrev pub stage_of : {P L : Type 0} → AnyStage P L → Stage
stage_of (AtRest c) = rest
stage_of (AtTakenIn c) = taken_in
stage_of (AtFiltered c) = filtered
stage_of (AtAgreed c) = agreed
stage_of (AtChosen c) = chosen

-- what it keeps for life
abbrev pub cluster_of : {P L : Type 0} → AnyStage P L → Cluster P L
cluster_of (AtRest c) = kept_by c
cluster_of (AtTakenIn c) = kept_by c
cluster_of (AtFiltered c) = kept_by c
cluster_of (AtAgreed c) = kept_by c
cluster_of (AtChosen c) = kept_by c

-- what the last call answered
abbrev pub answer_of : {S C : Type 0} → Answer S C → Answered S C
answer_of Nothing = nothing
answer_of (Refused why) = refusal (number_of why)
answer_of (Told s) = told s
answer_of (Committed o) = outcome (outcome_of o)

-- where the calls have come to, on these tables
abbrev pub standing : {P L R S C : Type 0} → Progress P L S C → Tables R S → Snapshot P L R S C
standing r t = here (cluster_of r.stage) (stage_of r.stage) t (answer_of r.answer)

-- Where a stage leaves a cluster: ahead where it was accepted, or back where it stood.
abbrev pub Passed : {P L G H S C : Type 0} → (Held P L H → AnyStage P L → Type 0) → (Held P L G → AnyStage P L → Type 0) → Result (Held P L H) (Back (Held P L G)) → Progress P L S C → Type 0
Passed ahead back (Ok c) r = ahead c r.stage × (r.answer ≡ Nothing)
Passed ahead back (Err e) r = back e.cluster r.stage × (r.answer ≡ Refused e.refusal)

-- a call of a list, on tables of these sizes
abbrev pub asked : {R S C Z : Type 0} → (Z → Rule R) → Sizes → Call R S C Z → Asked R S C
asked choice z (Intake entries) = intake z entries.now
asked choice z (Filter claims) = filter z claims.now
asked choice z (Agree words) = agree z words.now
asked choice z (Select selection) = select z (choice selection.now)
asked choice z (Commit states commands) = commit z states.now commands.now
asked choice z Abandon = abandon
asked choice z (Look i) = look z i

-- the history h, and then those calls of the list that come in their turn, in their order
abbrev pub onto : {R S C Z : Type 0} → Config R S C → (Z → Rule R) → Sizes → List (Call R S C Z) → History R S C → History R S C
onto g choice z [] h = h
onto g choice z (c ∷ cs) h = onto g choice z cs (cond (in_turn (asked choice z c) (model g h).stage) (asked choice z c ∷ h) h)

-- only commit and look tell anything: the others, accepted, answer nothing
abbrev pub Quiet : {R S C : Type 0} → Asked R S C → Answered S C → Type 0
Quiet (intake z es) answer = answer ≡ nothing
Quiet (filter z cs) answer = answer ≡ nothing
Quiet (agree z ws) answer = answer ≡ nothing
Quiet (select z rule) answer = answer ≡ nothing
Quiet (commit z ss cs) answer = Unit {0}
Quiet abandon answer = answer ≡ nothing
Quiet (look z i) answer = Unit {0}

-- One call of a list, from q to q'.
pub record Goes {P L R S C : Type 0} (w : Semantics P L R S C) (call : Asked R S C) (q q' : Snapshot P L R S C) : Type 0 where
  -- in its turn, and all its questions answered yes: what the call's record says
  pub accepted : in_turn call q.moment.stage ≡ true → (start : S) → verdict (config w q.cluster start) call ≡ granted
      → Accepted w call q.moment.stage q'.moment.stage q.cluster q.moment.tables q'.moment.tables q'.moment.answer q'.cluster × Quiet call q'.moment.answer
  -- in its turn, and refused: the number of the first no is answered, and nothing else changes
  pub refused : in_turn call q.moment.stage ≡ true → (start : S) (k : ℕ) → verdict (config w q.cluster start) call ≡ refused k → q' ≡ record { cluster = q.cluster; moment = refusing k q.moment }
  -- in its turn, either way: whatever run came here goes on
  pub on : in_turn call q.moment.stage ≡ true → Carries w call (here q.cluster q.moment.stage q.moment.tables) q'
  -- out of its turn: nothing changes, not even the last answer
  pub over : in_turn call q.moment.stage ≡ false → q' ≡ q

-- The calls of a list one after another, from q to q'.
abbrev pub Each : {P L R S C Z : Type 0} → Semantics P L R S C → (Z → Rule R) → Sizes → Snapshot P L R S C → List (Call R S C Z) → Snapshot P L R S C → Type 0
Each w choice z q [] q' = q' ≡ q
Each {P} {L} {R} {S} {C} w choice z q (c ∷ cs) q' = (m : Snapshot P L R S C) × Goes w (asked choice z c) q m × Each w choice z m cs q'

-- The calls are performed in their order; and whatever run came to where they begin goes on through all that come in their turn, and at every moment of it sound replicas agree with the model.
pub record Performs {P L R S C Z : Type 0} (w : Semantics P L R S C) (choice : Z → Rule R) (from : Progress P L S C) (t : Tables R S) (calls : List (Call R S C Z)) (r : Progress P L S C) (t' : Tables R S) : Type 0 where
  pub each : Each w choice (sizes t) (standing from t) calls (standing r t')
  pub runs : (origin : Cluster P L) (start : S) (h : History R S C) → Came w origin start h (standing from t)
      → Came w origin start (onto (config w origin start) choice (sizes t) calls h) (standing r t') × ConsistentAt w origin start (onto (config w origin start) choice (sizes t) calls h) (standing r t')
      × Throughout w origin start (onto (config w origin start) choice (sizes t) calls h)

-- Made, and then the calls in their order: a run from making, and at every moment of it sound replicas agree with the model.
pub record Operated {P L R S C Z : Type 0} (w : Semantics P L R S C) (choice : Z → Rule R) (given : Cluster P L) (start : S) (t : Tables R S) (calls : List (Call R S C Z)) (r : Progress P L S C) (t' : Tables R S) : Type 0 where
  pub granted : make_verdict given.n given.f given.sensors given.marks (sizes t) ≡ granted
  -- making wrote the table of states alone
  pub cluster : Cluster P L
  pub state : List S
  pub made : Made w given start t (record t { state = state }) cluster
  pub each : Each w choice (sizes t) (here cluster rest (record t { state = state }) nothing) calls (standing r t')
  pub came : Came w given start (onto (config w given start) choice (sizes t) calls []) (standing r t')
  pub consistent : ConsistentAt w given start (onto (config w given start) choice (sizes t) calls []) (standing r t')
  pub throughout : Throughout w given start (onto (config w given start) choice (sizes t) calls [])

-- what operating answers
abbrev pub OperateAnswers : {P L R S C Z : Type 0} → Semantics P L R S C → (Z → Rule R) → Cluster P L → S → Tables R S → List (Call R S C Z) → Tables R S → Result (Progress P L S C) (Unmade P L) → Type 0
OperateAnswers w choice given start t calls t' (Ok r) = Operated w choice given start t calls r t'
OperateAnswers w choice given start t calls t' (Err e) = Declined w given t t' e.app e.layer e.refusal
