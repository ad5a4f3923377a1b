-- Steady sensors: each is a candidate, and most of them bracket the mid-value.
use Rattle.std.proofs.Common.{◌≡◌, ℕ, ◌*◌, ◌<◌, Bool, ◌&&◌, T, ltb, sym, subst, arith, ltb→lt, lt→ltb, Option, Some, None}
use Rattle.quorum.specs.Counting.{count}
use Rattle.quorum.proofs.Counts.{both, join, bool_same, count_same, count_some}
use Rattle.values.specs.Entries.{SameEntry, entry_at}
use Rattle.selections.specs.Choices.{candidate}
use Rattle.selections.specs.Rules.{at_most}
use Rattle.selections.specs.Middle.{mid_rule, mid_bracketed}
use Rattle.protocol.specs.Setup.{Config}
use Rattle.protocol.specs.Model.{Model, readings, chosen_sensor, chosen_reading}
use Rattle.protocol.specs.Consistency.{TotalOrder, IsMidValue, Steady, Brackets, Steadiness}
use Rattle.protocol.proofs.Places.{has_value}
use Rattle.protocol.proofs.Quorums.{Admitted}
use Rattle.protocol.proofs.Cycle.{readings_length, readings_short, candidate_at, candidate_present, steady_candidate, steady_reading}

module _ {R M : Type 0} (means : R → M) (leq : R → R → Bool) (order : TotalOrder means leq) where
  at_most_low : (e d : Option R) (y x : R) → T (at_most leq e d) → SameEntry means e (Some y) → d ≡ Some x → T (leq y x)
  at_most_low None d y x t same is = absurd same
  at_most_low (Some z) d y x t same is =
      order.transitive y z x (order.congruent y z (sym same)) (subst (λ (b : Option R). T (at_most leq (Some z) b)) is t)

  at_most_high : (e d : Option R) (x y : R) → T (at_most leq e d) → e ≡ Some x → SameEntry means d (Some y) → T (leq x y)
  at_most_high e None x y t is same = absurd same
  at_most_high e (Some z) x y t is same =
      order.transitive x z y (subst (λ (b : Option R). T (at_most leq b (Some z))) is t) (order.congruent z y same)

module _ {R S C : Type 0} {g : Config R S C} (ok : Admitted g) (p : Model R S) where
  open g use {sensors, means_r}

  read : (k : ℕ) → k < sensors → (s : Steady g p k) → SameEntry means_r (entry_at (readings g p) k) (Some s.0)
  read k l s = subst (λ (e : Option R). SameEntry means_r e (Some s.0)) (sym (candidate_at ok p k l (steady_candidate ok p k s))) (steady_reading ok p k s)

  module _ (leq : R → R → Bool) (order : TotalOrder means_r leq) (rule : IsMidValue leq p.rule) (set : ℕ → Bool)
      (steady : (k : ℕ) → k < sensors → T (set k) → Steady g p k) (most : sensors < 2 * count sensors set) where
    -- the set, of sensors only
    inner : ℕ → Bool
    inner k = ltb k sensors && set k

    parts : (k : ℕ) → T (inner k) → (k < sensors) × T (set k)
    unfolding inner
    parts k t = let b = both (ltb k sensors) (set k) t in (ltb→lt k sensors b.0, b.1)

    inner_candidate : (k : ℕ) → T (inner k) → T (candidate (readings g p) k)
    inner_candidate k t = let b = parts k t in candidate_present ok p k b.0 (steady_candidate ok p k (steady k b.0 b.1))

    inner_most : sensors < 2 * count sensors inner
    unfolding inner
    inner_most =
        omega (arith, most, count_same sensors set inner (λ k l. bool_same (set k) (inner k) (λ t. join (ltb k sensors) (set k) (lt→ltb k sensors l) t) (λ t. (both (ltb k sensors) (set k) t).1)))

    bracketed : (x : R) × (chosen_reading g p ≡ Some x) × Brackets g p leq set x
    bracketed =
        let v = chosen_sensor g p in
        let mid = rule (readings g p) (readings_short ok p) in
        let w = count_some sensors inner (omega (arith, inner_most)) in
        let one = inner_candidate w.0 w.2 in
        let x = has_value (chosen_reading g p) (mid_rule means_r leq order.total order.transitive order.congruent (readings g p) v mid w.0 one).chosen in
        let many = subst (λ (n : ℕ). n < 2 * count n inner) (sym (readings_length ok p)) inner_most in
        let b = mid_bracketed means_r leq order.total order.transitive order.congruent (readings g p) v mid w.0 one inner inner_candidate many in
        let low = parts b.low.0 b.low.1 in
        let high = parts b.high.0 b.high.1 in (
          x.0,
          x.1,
          record {
            low = (b.low.0, low.0, low.1, λ s. at_most_low means_r leq order (entry_at (readings g p) b.low.0) (chosen_reading g p) s.0 x.0 b.low.2 (read b.low.0 low.0 s) x.1);
            high = (b.high.0, high.0, high.1, λ s. at_most_high means_r leq order (chosen_reading g p) (entry_at (readings g p) b.high.0) x.0 s.0 b.high.2 x.1 (read b.high.0 high.0 s));
          },
        )

  pub steadiness : Steadiness g p
  steadiness = record { candidates = λ k l s. steady_candidate ok p k s; brackets = bracketed }
