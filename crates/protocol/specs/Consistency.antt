-- What holds of the sound replicas after any run.
use Rattle.std.specs.Prelude.{◌≡◌, ℕ, ◌+◌, ◌-◌, ◌*◌, ◌<◌, ◌≤◌, Bool, cond, not, ◌&&◌, ◌||◌, T, List, ◌∷◌, length, slice_index, Option, Some}
use Rattle.quorum.specs.Counting.{count}
use Rattle.values.specs.Entries.{present, SameEntry, entry_at, carries}
use Rattle.selections.specs.Choices.{no_sensor}
use Rattle.selections.specs.Rules.{mid_value}
use Rattle.protocol.specs.Tables.{value_at, MaskOf}
use Rattle.protocol.specs.Setup.{Config, sound, EachSound, Rule, Sizes, commit, History, Outcome, outcome, Moment}
use Rattle.protocol.specs.Model.{Model, own, accept, is_candidate, chosen_sensor, chosen_reading, granted, verdict, model}

-- A total order of readings, by meaning.
pub record TotalOrder {R M : Type 0} (means : R → M) (leq : R → R → Bool) : Type 0 where
  pub total : (x y : R) → T (leq x y || leq y x)
  pub transitive : (x y z : R) → T (leq x y) → T (leq y z) → T (leq x z)
  pub congruent : (x y : R) → means x ≡ means y → T (leq x y)

-- the rule is mid-value under the order
abbrev pub IsMidValue : {R : Type 0} → (R → R → Bool) → Rule R → Type 0
IsMidValue {R} leq rule = (readings : List (Option R)) → length readings < no_sensor → rule readings ≡ mid_value leq readings

module _ {R S C : Type 0} (g : Config R S C) where
  open g use {n, f, sensors, means_r, means_s, means_c, alike_r}

  -- Each sound replica holds the state s.
  abbrev pub Holds : S → Moment R S C → Type 0
  Holds s m = EachSound g (λ i. SameEntry means_s (value_at m.tables.state i) (Some s))

  module _ (p : Model R S) where
    -- Every sound replica gets the same reading from sensor k.
    abbrev pub Steady : ℕ → Type 0
    Steady k = (x : R) × EachSound g (λ i. SameEntry means_r (own g p i k) (Some x))

    -- at least n − 2f sound replicas had x from the chosen sensor
    abbrev pub Sourced : R → Type 0
    Sourced x = n - 2 * f ≤ count n (λ i. sound g i && carries alike_r x (own g p i (chosen_sensor g p)))

    -- the number of sound replicas that did not accept the chosen sensor, 0 where none is chosen
    abbrev pub behind : ℕ
    behind = cond (present (chosen_reading g p)) (count n (λ i. sound g i && not (accept g p i (chosen_sensor g p)))) 0

    -- A commit has just closed the cycle, and the state is now s.
    pub record Committed (s : S) (m : Moment R S C) : Type 0 where
      pub candidates : EachSound g (λ i. MaskOf sensors (is_candidate g p) (slice_index m.tables.candidates i))
      pub chosen : EachSound g (λ i. slice_index m.tables.chosen i ≡ chosen_sensor g p)
      -- with a candidate there is a chosen reading; all have it, and enough had it from the chosen sensor
      pub some : (k : ℕ) → k < sensors → T (is_candidate g p k) → T (present (chosen_reading g p))
      pub reading : (x : R) → chosen_reading g p ≡ Some x → EachSound g (λ i. SameEntry means_r (entry_at m.tables.agreed (i * sensors + chosen_sensor g p)) (Some x))
      pub source : (x : R) → chosen_reading g p ≡ Some x → Sourced x
      -- the answer
      pub answer : Outcome C
      pub answered : m.answer ≡ outcome answer
      pub answer_candidates : MaskOf sensors (is_candidate g p) answer.candidates
      pub answer_chosen : answer.chosen ≡ chosen_sensor g p
      pub answer_vote : SameEntry means_c answer.vote (Some (g.commanded s))
      pub answer_dispersed : answer.dispersed ≡ behind

    -- The steady reading of one sensor of the set is at most x, and x is at most that of another or the same.
    pub record Brackets (leq : R → R → Bool) (set : ℕ → Bool) (x : R) : Type 0 where
      pub low : (k : ℕ) × (k < sensors) × T (set k) × ((s : Steady k) → T (leq s.0 x))
      pub high : (k : ℕ) × (k < sensors) × T (set k) × ((s : Steady k) → T (leq x s.0))

    -- Each steady sensor is a candidate; under the mid-value rule every set of steady sensors that is more than half of all brackets the chosen reading.
    pub record Steadiness : Type 0 where
      pub candidates : (k : ℕ) → k < sensors → Steady k → T (is_candidate g p k)
      pub brackets : (leq : R → R → Bool) → TotalOrder means_r leq → IsMidValue leq p.rule
          → (set : ℕ → Bool) → ((k : ℕ) → k < sensors → T (set k) → Steady k) → sensors < 2 * count sensors set
          → (x : R) × (chosen_reading g p ≡ Some x) × Brackets leq set x

  -- the last call was an accepted commit, and `past` came before it
  pub record ClosedBy (h past : History R S C) : Type 0 where
    pub sizes : Sizes
    pub states : List (Option S)
    pub commands : List (Option C)
    pub last : h ≡ commit sizes states commands ∷ past
    pub granted : verdict g (commit sizes states commands) ≡ granted

  -- At a moment that the history h has come to, the sound replicas agree with the model.
  pub record Consistent (h : History R S C) (m : Moment R S C) : Type 0 where
    pub states : Holds (model g h).state m
    pub committed : (past : History R S C) → ClosedBy h past → Committed (model g past) (model g h).state m
    pub steadiness : (past : History R S C) → ClosedBy h past → Steadiness (model g past)
