-- The lowest sensor that passes a test, and the first candidate.
use Rattle.std.specs.Prelude.{◌≡◌, ℕ, ◌<◌, Bool, cond, T, List, length, nat_lt, slice_index_or, false, true, Option, Some, None, MatchOption}
use Rattle.std.specs.List.{AllWithin, HoldsAt}
use Rattle.std.proofs.Common.{sym, ap, subst, ◌∙◌, inl, inr, arith}
use Rattle.std.proofs.lemmas.List.{get_or_past, get_or_read}
use Rattle.std.proofs.lemmas.Bool.{cases_lt, cond-true, cond-false, lt-ltb, le-ltb}
use Rattle.quorum.specs.Counting.{lowest}
use Rattle.quorum.proofs.Counts.{lowest_is, lowest_unique, lowest_same, lowest_some, lowest_none, yes}
use Rattle.values.specs.Entries.{present, entry_at}
use Rattle.values.proofs.Meanings.{same_present}
use Rattle.selections.specs.Choices.{no_sensor, candidate, lowest_sensor, Chooses}
use Rattle.selections.specs.Rules.{first}

-- a candidate is one of the sensors
pub candidate_below : {R : Type 0} (readings : List (Option R)) (k : ℕ) → T (candidate readings k) → k < length readings
candidate_below {R} readings k t =
    elim (cases_lt k (length readings)) [ inl l ↦ l | inr l ↦ absurd (subst (λ (e : Option R). T (present e)) (get_or_past readings k None l) t) ]

-- what code reads at k says whether k is a candidate
pub candidate_read : {R : Type 0} (readings : List (Option R)) (k : ℕ) (e : Option R) → k < length readings → e ≡ slice_index_or readings k e → present e ≡ candidate readings k
candidate_read readings k e l read = ap present (get_or_read readings k e l read None)

-- the sensor at which a search ends
pub sensor_found : (n : ℕ) (test : ℕ → Bool) (k : ℕ) → k < n → T (test k) → ((j : ℕ) → j < k → T (test j) → ⊥) → k ≡ lowest_sensor n test
sensor_found n test k l t before =
    let e = lowest_unique n test k record { within = omega arith; passes = λ _. t; before = before } in
    e ∙ sym (cond-true (nat_lt (lowest n test) n) (lowest n test) no_sensor (lt-ltb (lowest n test) n (omega arith)))

pub sensor_none : (n : ℕ) (test : ℕ → Bool) → ((j : ℕ) → j < n → T (test j) → ⊥) → lowest_sensor n test ≡ no_sensor
sensor_none n test none =
    cond-false (nat_lt (lowest n test) n) (lowest n test) no_sensor (le-ltb (lowest n test) n (omega (arith, lowest_none n test none)))

-- where a sensor passes, the lowest that does is the answer
pub sensor_some : (n : ℕ) (test : ℕ → Bool) (k : ℕ) → k < n → T (test k) → (lowest_sensor n test < n) × T (test (lowest_sensor n test)) × ((j : ℕ) → j < lowest_sensor n test → T (test j) → ⊥)
sensor_some n test k l t =
    let low = lowest_some n test k l t in
    let P : ℕ → Type 0 = λ (m : ℕ). (m < n) × T (test m) × ((j : ℕ) → j < m → T (test j) → ⊥) in
    subst P (sym (cond-true (nat_lt (lowest n test) n) (lowest n test) no_sensor (lt-ltb (lowest n test) n low.0))) (low.0, low.1, (lowest_is n test).before)

pub sensor_same : (m n : ℕ) (p q : ℕ → Bool) → m ≡ n → ((j : ℕ) → p j ≡ q j) → lowest_sensor m p ≡ lowest_sensor n q
sensor_same m n p q e h =
    ap (λ (v : ℕ). cond (nat_lt v m) v no_sensor) (lowest_same m p q (λ j l. h j)) ∙ ap (λ (v : ℕ). lowest_sensor v q) e

-- the first reading that is present, and the places before it
abbrev pub FirstPresent : {R : Type 0} → List (Option R) → Option ℕ → Type 0
FirstPresent readings found =
    MatchOption found (AllWithin (λ e. present e ≡ false) readings 0 (length readings))
    (λ k. (k < length readings) × HoldsAt (λ e. present e ≡ true) readings k × AllWithin (λ e. present e ≡ false) readings 0 k)

pub first_some : {R : Type 0} (readings : List (Option R)) (found : Option ℕ) (k : ℕ) → FirstPresent readings found → found ≡ Some k → k ≡ first readings
unfolding first
first_some readings None k is e = absurd (cc)
first_some readings (Some i) k is e =
    let same : i ≡ k = cc in
    sym same ∙ sensor_found (length readings) (candidate readings) i is.0 (yes _ (is.1 None)) (λ j l t. subst T (is.2 j None (omega arith) l) t)

pub first_none : {R : Type 0} (readings : List (Option R)) (found : Option ℕ) → FirstPresent readings found → found ≡ None → no_sensor ≡ first readings
unfolding first
first_none readings (Some i) is e = absurd (cc)
first_none readings None is e = sym (sensor_none (length readings) (candidate readings) (λ j l t. subst T (is j None (omega arith) l) t))

pub first_chooses : {R M : Type 0} (means : R → M) → Chooses means first
unfolding first
first_chooses means = record {
  some = λ readings s k t. (sensor_some (length readings) (candidate readings) k (candidate_below readings k t) t).1;
  none = λ readings s none. sensor_none (length readings) (candidate readings) (λ j l t. none j t);
  congruent = λ readings others s e same.
      sensor_same (length readings) (length others) (candidate readings) (candidate others) e (λ j. same_present means (entry_at readings j) (entry_at others j) (same j));
}
