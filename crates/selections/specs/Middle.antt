-- The mid-value: it exists where there is a candidate, and lies within any set of candidates that is more than half of all sensors.
use Rattle.std.specs.Prelude.{◌≡◌, ℕ, zero, suc, ◌+◌, ◌*◌, ◌/◌, ◌<◌, ◌≤◌, Bool, true, false, not, ◌&&◌, ◌||◌, T, ◌⊎◌, List, length, ◌==◌, nat_le, slice_index_or, refl, Option, Some, None}
use Rattle.std.proofs.Common.{sym, ap, subst, ◌∙◌, arith, leb→le, le→leb, eqb→eq, T_not}
use Rattle.std.proofs.Math.Logic.{inl, inr}
use Rattle.std.proofs.lemmas.List.{get_or_read}
use Rattle.std.proofs.lemmas.Bool.{cases_lt, cases_eq}
use Rattle.quorum.specs.Counting.{count}
use Rattle.quorum.proofs.Counts.{both, join, bool_same, count_mono, count_same, count_le, count_within, count_split, count_some, count_pos, count_none}
use Rattle.values.specs.Entries.{present, entry_at, SameEntry}
use Rattle.values.proofs.Meanings.{same_present}
use Rattle.selections.specs.Choices.{no_sensor, candidate, Chooses}
use Rattle.selections.specs.Rules.{at_most, below, half, rank, reached, middle, mid_value, MidValued, Between, Bracketed}
use Rattle.selections.specs.Sensors.{candidate_below, sensor_some, sensor_none, sensor_same}

-- what code reads at j and k says how their readings compare
pub below_read : {R : Type 0} (leq : R → R → Bool) (readings : List (Option R)) (j k : ℕ) (e d : Option R) → j < length readings → k < length readings
    → e ≡ slice_index_or readings j e → d ≡ slice_index_or readings k d → at_most leq e d ≡ below leq readings j k
below_read {R} leq readings j k e d lj lk ej dk =
    ap (λ (z : Option R). at_most leq z d) (get_or_read readings j e lj ej None) ∙ ap (at_most leq (entry_at readings j)) (get_or_read readings k d lk dk None)

or_cases : (a b : Bool) → T (a || b) → T a ⊎ T b
or_cases true b t = inl tt
or_cases false b t = inr t

-- ---- one that is above all that pass p, by an order w that is total on c
abbrev Top : (ℕ → ℕ → Bool) → (ℕ → Bool) → ℕ → Type 0
Top w p n = ((j : ℕ) → j < n → T (p j) → ⊥) ⊎ ((k : ℕ) × (k < n) × T (p k) × ((j : ℕ) → j < n → T (p j) → T (w j k)))

pub top_of : (c : ℕ → Bool) (w : ℕ → ℕ → Bool) → ((j k : ℕ) → T (c j) → T (c k) → T (w j k) ⊎ T (w k j)) → ((i j k : ℕ) → T (w i j) → T (w j k) → T (w i k))
    → (p : ℕ → Bool) → ((j : ℕ) → T (p j) → T (c j)) → (n : ℕ) → Top w p n
top_of c w tot tr p sub zero = inl (λ j l t. omega arith)
top_of c w tot tr p sub (suc n) = go (p n) refl (top_of c w tot tr p sub n)
  where
    self : (k : ℕ) → T (c k) → T (w k k)
    self k t = elim (tot k k t t) [ inl u ↦ u | inr u ↦ u ]

    here : (P : ℕ → Type 0) → P n → ((j : ℕ) → j < n → T (p j) → P j) → (j : ℕ) → j < suc n → T (p j) → P j
    here P at below j l t = elim (cases_eq j n) [ inl e ↦ subst P (sym e) at | inr d ↦ below j (omega arith) t ]

    go : (b : Bool) → p n ≡ b → Top w p n → Top w p (suc n)
    go false e (inl f) = inl (λ j l t. elim (cases_eq j n) [ inl q ↦ subst T (ap p q ∙ e) t | inr d ↦ f j (omega arith) t ])
    go true e (inl f) =
        let t : T (p n) = subst T (sym e) tt in
        inr (n, omega arith, t, here (λ j. T (w j n)) (self n (sub n t)) (λ j l u. absurd (f j l u)))
    go false e (inr k) =
        inr (k.0, omega (arith, k.1), k.2, λ j l t. elim (cases_eq j n) [ inl q ↦ absurd (subst T (ap p q ∙ e) t) | inr d ↦ k.3 j (omega arith) t ])
    go true e (inr k) =
        let t : T (p n) = subst T (sym e) tt in
        elim (tot n k.0 (sub n t) (sub k.0 k.2)) [
          | inl u ↦ inr (k.0, omega (arith, k.1), k.2, here (λ j. T (w j k.0)) u k.3)
          | inr u ↦ inr (n, omega arith, t, here (λ j. T (w j n)) (self n (sub n t)) (λ j l v. tr j k.0 n (k.3 j l v) u))
        ]

module _ {R M : Type 0} (means : R → M) (leq : R → R → Bool)
    (total : (x y : R) → T (leq x y || leq y x))
    (transitive : (x y z : R) → T (leq x y) → T (leq y z) → T (leq x z))
    (congruent : (x y : R) → means x ≡ means y → T (leq x y)) where
  -- ---- the order, on entries

  entry_total : (e d : Option R) → T (present e) → T (present d) → T (at_most leq e d) ⊎ T (at_most leq d e)
  entry_total None d s t = absurd s
  entry_total (Some x) None s t = absurd t
  entry_total (Some x) (Some y) s t = or_cases (leq x y) (leq y x) (total x y)

  entry_along : (e d b : Option R) → T (at_most leq e d) → T (at_most leq d b) → T (at_most leq e b)
  entry_along None d b s t = absurd s
  entry_along (Some x) None b s t = absurd s
  entry_along (Some x) (Some y) None s t = absurd t
  entry_along (Some x) (Some y) (Some z) s t = transitive x y z s t

  entry_present : (e d : Option R) → T (at_most leq e d) → T (present e) × T (present d)
  entry_present None d t = absurd t
  entry_present (Some x) None t = absurd t
  entry_present (Some x) (Some y) t = (tt, tt)

  leq_moves : (x y z v : R) → means x ≡ means z → means y ≡ means v → T (leq x y) → T (leq z v)
  leq_moves x y z v p q t = transitive z x v (congruent z x (sym p)) (transitive x y v t (congruent y v q))

  entry_same : (e d b c : Option R) → SameEntry means e b → SameEntry means d c → at_most leq e d ≡ at_most leq b c
  entry_same None d None c p q = refl
  entry_same None d (Some z) c p q = absurd p
  entry_same (Some x) d None c p q = absurd p
  entry_same (Some x) None (Some z) None p q = refl
  entry_same (Some x) None (Some z) (Some v) p q = absurd q
  entry_same (Some x) (Some y) (Some z) None p q = absurd q
  entry_same (Some x) (Some y) (Some z) (Some v) p q = bool_same (leq x y) (leq z v) (leq_moves x y z v p q) (leq_moves z v x y (sym p) (sym q))

  module _ (readings : List (Option R)) where
    abbrev n : ℕ
    n = length readings

    abbrev c : ℕ → Bool
    c = candidate readings

    abbrev w : ℕ → ℕ → Bool
    w = below leq readings

    pub tot : (j k : ℕ) → T (c j) → T (c k) → T (w j k) ⊎ T (w k j)
    tot j k s t = entry_total (entry_at readings j) (entry_at readings k) s t

    pub tr : (i j k : ℕ) → T (w i j) → T (w j k) → T (w i k)
    tr i j k s t = entry_along (entry_at readings i) (entry_at readings j) (entry_at readings k) s t

    w_candidates : (j k : ℕ) → T (w j k) → T (c j) × T (c k)
    w_candidates j k t = entry_present (entry_at readings j) (entry_at readings k) t

    abbrev h : ℕ
    h = half leq readings

    pub reach : (k : ℕ) → T (c k) → h ≤ rank leq readings k → T (reached leq readings k)
    reach k t l = join (c k) _ t (le→leb _ _ l)

    pub reach_back : (k : ℕ) → T (reached leq readings k) → T (c k) × (h ≤ rank leq readings k)
    reach_back k t = let b = both (c k) (nat_le h (rank leq readings k)) t in (b.0, leb→le _ _ b.1)

    -- a candidate with the greatest reading is reached
    some_reached : (k : ℕ) → T (c k) → (j : ℕ) × T (reached leq readings j)
    some_reached k t =
        elim (top_of c w tot tr c (λ j u. u) n) [
          | inl f ↦ absurd (f k (candidate_below readings k t) t)
          | inr q ↦ (q.0, reach q.0 q.2 (omega (arith, count_mono n c (λ j. w j q.0) q.3)))
        ]

    pub middle_of : (k : ℕ) → T (reached leq readings k) → ((j : ℕ) → j < n → T (reached leq readings j) → T (w k j)) → T (middle leq readings k)
    middle_of k t least =
        let none = count_none n (λ j. reached leq readings j && not (w k j))
        (λ j l u. let b = both (reached leq readings j) (not (w k j)) u in T_not (w k j) b.1 (least j l b.0)) in
        join (reached leq readings k) _ t (subst (λ (v : ℕ). T (v == 0)) (sym none) tt)

    pub middle_back : (k : ℕ) → T (middle leq readings k) → T (reached leq readings k) × ((j : ℕ) → j < n → T (reached leq readings j) → T (w k j))
    middle_back k t =
        let b = both (reached leq readings k) (count n (λ j. reached leq readings j && not (w k j)) == 0) t in
        (b.0, λ j l u. least j l u b.1)
      where
        least : (j : ℕ) → j < n → T (reached leq readings j) → T (count n (λ j. reached leq readings j && not (w k j)) == 0) → T (w k j)
        least j l u z = yes_of (w k j) (λ no. omega (arith, eqb→eq _ 0 z, count_pos n (λ j. reached leq readings j && not (w k j)) j l (join (reached leq readings j) _ u no)))
          where
            yes_of : (b : Bool) → (T (not b) → ⊥) → T b
            yes_of true f = tt
            yes_of false f = absurd (f tt)

    some_middle : (k : ℕ) → T (c k) → (j : ℕ) × (j < n) × T (middle leq readings j)
    some_middle k t =
        let r = some_reached k t in
        elim (top_of c (λ j i. w i j) (λ j i s u. tot i j u s) (λ i j l s u. tr l j i u s) (reached leq readings) (λ j u. (reach_back j u).0) n) [
          | inl f ↦ absurd (f r.0 (candidate_below readings r.0 (reach_back r.0 r.1).0) r.1)
          | inr q ↦ (q.0, q.1, middle_of q.0 q.2 q.3)
        ]

    -- equal readings have one rank
    rank_up : (j k : ℕ) → T (w j k) → rank leq readings j ≤ rank leq readings k
    rank_up j k t = count_mono n (λ i. w i j) (λ i. w i k) (λ i l u. tr i j k u t)

    pub mid_valued : (k : ℕ) → T (c k) → MidValued leq readings (mid_value leq readings)
    unfolding mid_value
    mid_valued k t =
        let s = some_middle k t in
        let v = mid_value leq readings in
        let low = sensor_some n (middle leq readings) s.0 s.1 s.2 in
        let b = middle_back v low.1 in
        let r = reach_back v b.0 in
        record {
          chosen = r.0;
          enough = r.1;
          smallest = λ j u m. b.1 j (candidate_below readings j u) (reach j u m);
          lowest = λ j jv vj.
              elim (cases_lt j v) [
                | inl l ↦
                    let cj = (w_candidates j v jv).0 in
                    absurd (low.2 j l (middle_of j (reach j cj (omega (arith, rank_up v j vj, r.1))) (λ i m u. tr j v i jv (b.1 i m u))))
                | inr l ↦ l
              ];
        }

    pub mid_none : ((k : ℕ) → T (c k) → ⊥) → mid_value leq readings ≡ no_sensor
    unfolding mid_value
    mid_none none = sensor_none n (middle leq readings) (λ j l t. none j (reach_back j (middle_back j t).0).0)

    -- ---- the law

    module _ (v : ℕ) (mid : MidValued leq readings v) (set : ℕ → Bool) (inside : (j : ℕ) → T (set j) → T (c j)) (most : n < 2 * count n set) where
      low_one : (j : ℕ) × T (set j) × T (w j v)
      low_one =
          let o = count_within n set (λ j. w j v) c (λ j l t. inside j t) (λ j l t. (w_candidates j v t).0) in
          let r = count_some n (λ j. set j && w j v) (omega (arith, o, mid.enough, count_le n c)) in
          let b = both (set r.0) (w r.0 v) r.2 in
          (r.0, b.0, b.1)

      -- fewer than half of the candidates, rounded up, have a smaller reading
      few : (count n (λ j. c j && not (w v j)) < h) ⊎ (count n (λ j. c j && not (w v j)) ≡ 0)
      few =
          elim (top_of c w tot tr (λ j. c j && not (w v j)) (λ j u. (both (c j) (not (w v j)) u).0) n) [
            | inl f ↦ inr (count_none n (λ j. c j && not (w v j)) f)
            | inr q ↦
                let b = both (c q.0) (not (w v q.0)) q.2 in
                elim (cases_lt (rank leq readings q.0) h) [
                  | inl l ↦ inl (omega (arith, l, count_mono n (λ j. c j && not (w v j)) (λ i. w i q.0) q.3))
                  | inr l ↦ absurd (T_not (w v q.0) b.1 (mid.smallest q.0 b.0 l))
                ]
          ]

      high_one : (j : ℕ) × T (set j) × T (w v j)
      high_one =
          let s = count_split n c (w v) in
          let o = count_within n set (λ j. c j && w v j) c (λ j l t. inside j t) (λ j l t. (both (c j) (w v j) t).0) in
          let more : 0 < count n (λ j. set j && (c j && w v j)) =
          elim few [ inl f ↦ omega (arith, s, o, f, count_le n c, most) | inr f ↦ omega (arith, s, o, f, count_le n c, most) ] in
          let r = count_some n (λ j. set j && (c j && w v j)) more in
          let b = both (set r.0) (c r.0 && w v r.0) r.2 in
          (r.0, b.0, (both (c r.0) (w v r.0) b.1).1)

      pub between : Between leq readings set v
      between = record { low = low_one; high = high_one }

    -- all that is promised of an answer that is the mid-value
    pub mid_rule : (v : ℕ) → v ≡ mid_value leq readings → (k : ℕ) → T (c k) → MidValued leq readings v
    mid_rule v e k t = subst (MidValued leq readings) (sym e) (mid_valued k t)

    pub mid_bracketed : (v : ℕ) → v ≡ mid_value leq readings → (k : ℕ) → T (c k) → Bracketed leq readings v
    mid_bracketed v e k t set inside most = between v (mid_rule v e k t) set inside most

  -- ---- readings that mean the same are chosen from alike
  module _ (readings others : List (Option R)) (e : length readings ≡ length others) (same : (k : ℕ) → SameEntry means (entry_at readings k) (entry_at others k)) where
    below_same : (j k : ℕ) → below leq readings j k ≡ below leq others j k
    below_same j k = entry_same (entry_at readings j) (entry_at readings k) (entry_at others j) (entry_at others k) (same j) (same k)

    candidate_same : (k : ℕ) → candidate readings k ≡ candidate others k
    candidate_same k = same_present means (entry_at readings k) (entry_at others k) (same k)

    counted_same : (p q : ℕ → Bool) → ((k : ℕ) → p k ≡ q k) → count (length readings) p ≡ count (length others) q
    counted_same p q f = count_same (length readings) p q (λ k l. f k) ∙ ap (λ (m : ℕ). count m q) e

    reached_same : (k : ℕ) → reached leq readings k ≡ reached leq others k
    reached_same k =
        ap (λ (b : Bool). b && nat_le (half leq readings) (rank leq readings k)) (candidate_same k)
        ∙ ap (λ (m : ℕ). candidate others k && nat_le ((m + 1) / 2) (rank leq readings k)) (counted_same (candidate readings) (candidate others) candidate_same)
        ∙ ap (λ (m : ℕ). candidate others k && nat_le (half leq others) m) (counted_same (λ j. below leq readings j k) (λ j. below leq others j k) (λ j. below_same j k))

    middle_same : (k : ℕ) → middle leq readings k ≡ middle leq others k
    middle_same k =
        ap (λ (b : Bool). b && count (length readings) (λ j. reached leq readings j && not (below leq readings k j)) == 0) (reached_same k)
        ∙ ap (λ (m : ℕ). reached leq others k && m == 0)
        (counted_same (λ j. reached leq readings j && not (below leq readings k j)) (λ j. reached leq others j && not (below leq others k j))
        (λ j. ap (λ (b : Bool). b && not (below leq readings k j)) (reached_same j) ∙ ap (λ (b : Bool). reached leq others j && not b) (below_same k j)))

    pub mid_same : mid_value leq readings ≡ mid_value leq others
    unfolding mid_value
    mid_same = sensor_same (length readings) (length others) (middle leq readings) (middle leq others) e middle_same

  pub mid_chooses : Chooses means (mid_value leq)
  mid_chooses = record {
    some = λ readings s k t. (mid_valued readings k t).chosen;
    none = λ readings s none. mid_none readings none;
    congruent = λ readings others s e same. mid_same readings others e same;
  }
