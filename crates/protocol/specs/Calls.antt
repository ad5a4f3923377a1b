-- What each accepted call does to the tables, and what it answers.
use Rattle.std.specs.Prelude.{◌≡◌, ℕ, ◌+◌, ◌*◌, ◌<◌, Bool, false, cond, ◌&&◌, List, slice_index, slice_index_or, Option, Some, None}
use Rattle.quorum.specs.Counting.{bit, count}
use Rattle.values.specs.Entries.{present, SameEntry, entry_at}
use Rattle.values.specs.Majority.{majority}
use Rattle.protocol.specs.Tables.{table, value_at, Kept, Stored, ByBit, MaskOf}
use Rattle.protocol.specs.Setup.{Config, sound, lowest_sound, Rule, Tables, sizes, rest, taken_in, filtered, agreed, chosen, Outcome, outcome, told, Moment}
use Rattle.protocol.specs.Model.{accepts, delivers, agrees}
use Rattle.protocol.specs.Turns.{next_state, took, sent}

module _ {R S C : Type 0} (g : Config R S C) where
  open g use {n, f, sensors, marks, means_r, means_s, means_c}

  -- for each replica
  abbrev pub EachReplica : (ℕ → Type 0) → Type 0
  EachReplica holds = (i : ℕ) → i < n → holds i

  -- for each replica and sensor, with their place
  abbrev pub EachPlace : (ℕ → ℕ → ℕ → Type 0) → Type 0
  EachPlace holds = (i k : ℕ) → i < n → k < sensors → holds i k (i * sensors + k)

  -- a place of replica i: a sound replica's is written, and a faulty one's keeps its very value
  abbrev pub Writes : {X : Type 0} → ℕ → List X → List X → ℕ → Type 0 → Type 0
  Writes i before after p written = ByBit (bit marks i) (Kept before after p) written

  -- a state stepped by a reading, where there are both
  abbrev pub step_of : Option S → Option R → Option S
  step_of None e = None
  step_of (Some s) None = None
  step_of (Some s) (Some x) = Some (g.stepped s x)

  -- Making writes the starting state to all places of state.
  pub record Makes (m : Moment R S C) : Type 0 where
    pub stage : m.stage ≡ rest
    pub state : EachReplica (λ i. value_at m.tables.state i ≡ Some g.start)

  module _ (m m' : Moment R S C) where
    -- the tables at the call
    abbrev before : Tables R S
    before = m.tables

    -- the tables at its end
    abbrev after : Tables R S
    after = m'.tables

    -- Own is the entry; run is the state stepped by own, and is not written where own is missing.
    pub record TakesIn (entries : List (Option R)) : Type 0 where
      pub stage : m'.stage ≡ taken_in
      pub sizes : sizes after ≡ sizes before
      pub own : EachPlace (λ i k p. Writes i before.own after.own p (entry_at after.own p ≡ entry_at entries p))
      pub run : EachPlace (λ i k p. Writes i before.run after.run p (Stored means_s (step_of (value_at before.state i) (entry_at entries p)) before.run after.run p))
      pub state : after.state ≡ before.state
      pub agreed : after.agreed ≡ before.agreed
      pub accept : after.accept ≡ before.accept
      pub yes : after.yes ≡ before.yes
      pub heard : after.heard ≡ before.heard
      pub candidates : after.candidates ≡ before.candidates
      pub chosen : after.chosen ≡ before.chosen

    -- what i is told by j about k: a sound replica's own, a faulty one's claim
    abbrev pub told_by : List (Option R) → ℕ → ℕ → ℕ → Option R
    told_by claims i j k = cond (bit marks j) (entry_at claims ((j * n + i) * sensors + k)) (entry_at before.own (j * sensors + k))

    -- the place of what i heard from j about k
    abbrev pub heard_place : ℕ → ℕ → ℕ → ℕ
    heard_place i j k = (i * n + j) * sensors + k

    -- Heard is a sound replica's own and a faulty one's claim; own is accepted when enough of what was heard is the same.
    pub record Filters (claims : List (Option R)) : Type 0 where
      pub stage : m'.stage ≡ filtered
      pub sizes : sizes after ≡ sizes before
      pub heard : EachReplica (λ j. EachPlace (λ i k p. Writes i before.heard after.heard (heard_place i j k) (entry_at after.heard (heard_place i j k) ≡ told_by claims i j k)))
      pub accept : EachPlace (λ i k p. Writes i before.accept after.accept p
          (slice_index_or after.accept p false ≡ accepts g (entry_at before.own p) (λ j. entry_at after.heard (heard_place i j k))))
      pub state : after.state ≡ before.state
      pub own : after.own ≡ before.own
      pub run : after.run ≡ before.run
      pub agreed : after.agreed ≡ before.agreed
      pub yes : after.yes ≡ before.yes
      pub candidates : after.candidates ≡ before.candidates
      pub chosen : after.chosen ≡ before.chosen

    -- what replica j accepted from sensor k
    abbrev pub accepted : ℕ → ℕ → Bool
    accepted j k = slice_index_or before.accept (j * sensors + k) false

    -- Yes is what the layer delivers, agreed what comes of it; a sensor is a candidate when agreed is present.
    pub record Agrees (words : List ℕ) : Type 0 where
      pub stage : m'.stage ≡ agreed
      pub sizes : sizes after ≡ sizes before
      pub yes : EachPlace (λ i k p. Writes i before.yes after.yes p (MaskOf n (delivers g words accepted i k) (slice_index after.yes p)))
      pub agreed : EachPlace (λ i k p. Writes i before.agreed after.agreed p
          (SameEntry means_r (entry_at after.agreed p) (agrees g (bit (slice_index after.yes p)) (accepted i k) (entry_at before.own p) (λ j. entry_at before.heard (heard_place i j k)))))
      pub candidates : EachReplica (λ i. Writes i before.candidates after.candidates i
          (MaskOf sensors (λ k. present (entry_at after.agreed (i * sensors + k))) (slice_index after.candidates i)))
      pub state : after.state ≡ before.state
      pub own : after.own ≡ before.own
      pub run : after.run ≡ before.run
      pub accept : after.accept ≡ before.accept
      pub heard : after.heard ≡ before.heard
      pub chosen : after.chosen ≡ before.chosen

    -- Chosen is the selection's answer on the replica's candidates.
    pub record Selects (rule : Rule R) : Type 0 where
      pub stage : m'.stage ≡ chosen
      pub sizes : sizes after ≡ sizes before
      pub chosen : EachReplica (λ i. Writes i before.chosen after.chosen i
          (slice_index after.chosen i ≡ rule (table sensors (λ k. entry_at before.agreed (i * sensors + k)))))
      pub state : after.state ≡ before.state
      pub own : after.own ≡ before.own
      pub run : after.run ≡ before.run
      pub agreed : after.agreed ≡ before.agreed
      pub accept : after.accept ≡ before.accept
      pub yes : after.yes ≡ before.yes
      pub heard : after.heard ≡ before.heard
      pub candidates : after.candidates ≡ before.candidates

    -- The states go on; the vote, the choice of the lowest sound replica, and how many took a dispersed state are answered.
    pub record Commits (states : List (Option S)) (commands : List (Option C)) : Type 0 where
      pub stage : m'.stage ≡ rest
      pub sizes : sizes after ≡ sizes before
      pub state : EachReplica (λ i. Writes i before.state after.state i (Stored means_s (next_state g before states i) before.state after.state i))
      pub answer : Outcome C
      pub answered : m'.answer ≡ outcome answer
      pub vote : SameEntry means_c answer.vote (majority g.alike_c n (sent g before after.state commands))
      pub answer_chosen : answer.chosen ≡ slice_index before.chosen (lowest_sound g)
      pub answer_candidates : answer.candidates ≡ slice_index before.candidates (lowest_sound g)
      pub answer_dispersed : answer.dispersed ≡ count n (λ i. sound g i && took g before states i)
      pub own : after.own ≡ before.own
      pub run : after.run ≡ before.run
      pub agreed : after.agreed ≡ before.agreed
      pub accept : after.accept ≡ before.accept
      pub yes : after.yes ≡ before.yes
      pub heard : after.heard ≡ before.heard
      pub candidates : after.candidates ≡ before.candidates
      pub chosen : after.chosen ≡ before.chosen

    -- Nothing changes but the stage.
    pub record Abandons : Type 0 where
      pub stage : m'.stage ≡ rest
      pub tables : after ≡ before

    -- Nothing changes; the state of replica i is told.
    pub record Looks (i : ℕ) : Type 0 where
      pub stage : m'.stage ≡ m.stage
      pub tables : after ≡ before
      pub state : S
      pub answered : m'.answer ≡ told state
      pub told_state : SameEntry means_s (Some state) (value_at before.state i)
