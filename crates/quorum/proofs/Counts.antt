-- Laws of `count` and `lowest`.
use Rattle.std.proofs.Common.{◌≡◌, ℕ, zero, suc, ◌+◌, ◌<◌, ◌≤◌, Bool, true, false, cond, not, ◌&&◌, T, sym, refl, ap, subst, inl, inr, le_refl, eq-zero-or-pos, add-one, Option, Some, None, MatchOption, unwrap_or, arith}
use native.Mathlib.Decide.{le_ind}
use Rattle.std.proofs.lemmas.Bool.{cases_eq, cases_lt}
use Rattle.quorum.specs.Counting.{count, lowest}
use Rattle.quorum.specs.Laws.{CountingLaws, Lowest}

-- ---- tests

pub both : (a b : Bool) → T (a && b) → T a × T b
both true b t = (tt, t)
both false b t = absurd t

pub join : (a b : Bool) → T a → T b → T (a && b)
join true b s t = t
join false b s t = absurd s

pub yes : (b : Bool) → b ≡ true → T b
yes true e = tt
yes false e = subst T (sym e) tt

pub is_yes : (b : Bool) → T b → b ≡ true
is_yes true t = refl
is_yes false t = absurd t

pub is_no : (b : Bool) → (T b → ⊥) → b ≡ false
is_no true f = absurd (f tt)
is_no false f = refl

pub bool_same : (a b : Bool) → (T a → T b) → (T b → T a) → a ≡ b
bool_same true b f g = sym (is_yes b (f tt))
bool_same false b f g = sym (is_no b g)

-- ---- count

-- what one index adds
abbrev pub one : Bool → ℕ
one b = cond b 1 0

one_mono : (a b : Bool) → (T a → T b) → one a ≤ one b
one_mono true true h = omega arith
one_mono true false h = absurd (h tt)
one_mono false b h = omega arith

pub count_mono : (n : ℕ) (p q : ℕ → Bool) → ((i : ℕ) → i < n → T (p i) → T (q i)) → count n p ≤ count n q
unfolding count
count_mono zero p q h = omega arith
count_mono (suc n) p q h = omega (arith, count_mono n p q (λ i l t. h i (omega arith) t), one_mono (p n) (q n) (h n (omega arith)))

pub count_same : (n : ℕ) (p q : ℕ → Bool) → ((i : ℕ) → i < n → p i ≡ q i) → count n p ≡ count n q
count_same n p q h =
    omega (arith, count_mono n p q (λ i l t. subst T (h i l) t), count_mono n q p (λ i l t. subst T (sym (h i l)) t))

one_not : (a : Bool) → one a + one (not a) ≡ 1
one_not true = refl
one_not false = refl

pub count_not : (n : ℕ) (p : ℕ → Bool) → count n p + count n (λ i. not (p i)) ≡ n
unfolding count
count_not zero p = refl
count_not (suc n) p = omega (arith, count_not n p, one_not (p n))

pub count_le : (n : ℕ) (p : ℕ → Bool) → count n p ≤ n
count_le n p = omega (arith, count_not n p)

one_within : (a b c : Bool) → (T a → T c) → (T b → T c) → one a + one b ≤ one c + one (a && b)
one_within true true true f g = omega arith
one_within true false true f g = omega arith
one_within true b false f g = absurd (f tt)
one_within false true true f g = omega arith
one_within false true false f g = absurd (g tt)
one_within false false c f g = omega arith

-- two parts of a set overlap in at least what they pass it by
pub count_within : (n : ℕ) (p q r : ℕ → Bool) → ((i : ℕ) → i < n → T (p i) → T (r i)) → ((i : ℕ) → i < n → T (q i) → T (r i))
    → count n p + count n q ≤ count n r + count n (λ i. p i && q i)
unfolding count
count_within zero p q r f g = omega arith
count_within (suc n) p q r f g =
    omega (arith, count_within n p q r (λ i l. f i (omega arith)) (λ i l. g i (omega arith)), one_within (p n) (q n) (r n) (f n (omega arith)) (g n (omega arith)))

pub count_overlap : (n : ℕ) (p q : ℕ → Bool) → count n p + count n q ≤ n + count n (λ i. p i && q i)
count_overlap n p q = omega (arith, count_within n p q (λ _. true) (λ i l t. tt) (λ i l t. tt), count_le n (λ _. true))

one_split : (a b : Bool) → one a ≡ one (a && b) + one (a && not b)
one_split true true = refl
one_split true false = refl
one_split false b = refl

-- what passes p, parted by q
pub count_split : (n : ℕ) (p q : ℕ → Bool) → count n p ≡ count n (λ i. p i && q i) + count n (λ i. p i && not (q i))
unfolding count
count_split zero p q = refl
count_split (suc n) p q = omega (arith, count_split n p q, one_split (p n) (q n))

witness_at : (n : ℕ) (p : ℕ → Bool) (b : Bool) → p n ≡ b → (0 < count n p → (i : ℕ) × (i < n) × T (p i)) → 0 < count n p + one (p n) → (i : ℕ) × (i < suc n) × T (p i)
witness_at n p true e below h = (n, omega arith, subst T (sym e) tt)
witness_at n p false e below h =
    let w = below (let z : one (p n) ≡ 0 = ap one e in omega arith) in
    (w.0, omega (arith, w.1), w.2)

pub count_some : (n : ℕ) (p : ℕ → Bool) → 0 < count n p → (i : ℕ) × (i < n) × T (p i)
unfolding count
count_some zero p h = absurd (omega arith)
count_some (suc n) p h = witness_at n p (p n) refl (count_some n p) h

one_yes : (b : Bool) → T b → one b ≡ 1
one_yes true t = refl
one_yes false t = absurd t

pub count_pos : (n : ℕ) (p : ℕ → Bool) (i : ℕ) → i < n → T (p i) → 0 < count n p
unfolding count
count_pos zero p i l t = absurd (omega arith)
count_pos (suc n) p i l t =
    elim (cases_eq i n) [
      | inl e ↦ omega (arith, one_yes (p n) (subst (λ (k : ℕ). T (p k)) e t))
      | inr d ↦ omega (arith, count_pos n p i (omega arith) t)
    ]

pub count_none : (n : ℕ) (p : ℕ → Bool) → ((i : ℕ) → i < n → T (p i) → ⊥) → count n p ≡ 0
count_none n p h =
    elim (eq-zero-or-pos (count n p)) [ inl e ↦ e | inr q ↦ absurd (let w = count_some n p q in h w.0 w.1 w.2) ]

-- ---- a loop that counts

pub count_zero : (p : ℕ → Bool) → count 0 p ≡ 0
unfolding count
count_zero p = refl

pub count_more : (n : ℕ) (p : ℕ → Bool) → count (n + 1) p ≡ count n p + one (p n)
unfolding count
count_more n p = rw add-one

pub count_yes : (n : ℕ) (p : ℕ → Bool) → p n ≡ true → count (n + 1) p ≡ count n p + 1
count_yes n p h = let e : one (p n) ≡ 1 = ap one h in omega (arith, count_more n p)

pub count_no : (n : ℕ) (p : ℕ → Bool) → p n ≡ false → count (n + 1) p ≡ count n p
count_no n p h = let e : one (p n) ≡ 0 = ap one h in omega (arith, count_more n p)

-- the first of n + 1 indices, and then the others
pub count_first : (n : ℕ) (p : ℕ → Bool) → count (suc n) p ≡ one (p 0) + count n (λ i. p (suc i))
unfolding count
count_first zero p = omega arith
count_first (suc n) p = omega (arith, count_first n p)

-- fewer indices, no larger count
pub count_reach : (p : ℕ → Bool) (m n : ℕ) → m ≤ n → count m p ≤ count n p
count_reach p m n h = le_ind (λ (k : ℕ). count m p ≤ count k p) (le_refl (count m p)) (λ k _ ih. rw (← add-one k) (omega (arith, count_more k p))) n h

pub counting_laws : CountingLaws
counting_laws = record { monotone = count_mono; complement = count_not; overlap = count_overlap; witness = count_some }

-- ---- lowest

lowest_step : (n : ℕ) (p : ℕ → Bool) (b : Bool) → p 0 ≡ b → Lowest n (λ i. p (suc i)) (lowest n (λ i. p (suc i))) → Lowest (suc n) p (cond b 0 (suc (lowest n (λ i. p (suc i)))))
lowest_step n p true e low = record { within = omega arith; passes = λ l. subst T (sym e) tt; before = λ j l t. omega arith }
lowest_step n p false e low = record {
  within = omega (arith, low.within);
  passes = λ l. low.passes (omega arith);
  before = before;
}
  where
    before : (j : ℕ) → j < suc (lowest n (λ i. p (suc i))) → T (p j) → ⊥
    before zero l t = subst T e t
    before (suc j) l t = low.before j (omega arith) t

pub lowest_is : (n : ℕ) (p : ℕ → Bool) → Lowest n p (lowest n p)
unfolding lowest
lowest_is zero p = record { within = omega arith; passes = λ l. absurd (omega arith); before = λ j l t. omega arith }
lowest_is (suc n) p = lowest_step n p (p 0) refl (lowest_is n (λ i. p (suc i)))

-- there is only one
pub lowest_unique : (n : ℕ) (p : ℕ → Bool) (i : ℕ) → Lowest n p i → i ≡ lowest n p
lowest_unique n p i low = same (lowest n p) (lowest_is n p)
  where
    same : (j : ℕ) → Lowest n p j → i ≡ j
    same j is =
        elim (cases_lt i j) [
          | inl l ↦ absurd (is.before i l (low.passes (omega (arith, is.within))))
          | inr l ↦ elim (cases_lt j i) [
            | inl k ↦ absurd (low.before j k (is.passes (omega (arith, low.within))))
            | inr k ↦ omega arith
          ]
        ]

pub lowest_same : (n : ℕ) (p q : ℕ → Bool) → ((i : ℕ) → i < n → p i ≡ q i) → lowest n p ≡ lowest n q
lowest_same n p q h =
    let low = lowest_is n p in
    lowest_unique n q (lowest n p) record {
      within = low.within;
      passes = λ l. subst T (h (lowest n p) l) (low.passes l);
      before = λ j l t. low.before j l (subst T (sym (h j (omega (arith, low.within)))) t);
    }

-- where one passes, the lowest does
pub lowest_some : (n : ℕ) (p : ℕ → Bool) (i : ℕ) → i < n → T (p i) → (lowest n p < n) × T (p (lowest n p))
lowest_some n p i l t =
    let low = lowest_is n p in
    let inside : lowest n p < n =
    elim (cases_lt (lowest n p) n) [ inl k ↦ k | inr k ↦ absurd (low.before i (omega arith) t) ] in
    (inside, low.passes inside)

pub lowest_none : (n : ℕ) (p : ℕ → Bool) → ((i : ℕ) → i < n → T (p i) → ⊥) → lowest n p ≡ n
lowest_none n p h = sym (lowest_unique n p n record { within = omega arith; passes = λ l. absurd (omega arith); before = h })

-- what a search from below finds
pub lowest_found : (n : ℕ) (p : ℕ → Bool) (r : Option ℕ)
    → MatchOption r ((k : ℕ) → 0 ≤ k → k < n → p k ≡ false) (λ i. (0 ≤ i) × (i < n) × (p i ≡ true) × ((k : ℕ) → 0 ≤ k → k < i → p k ≡ false))
    → Lowest n p (unwrap_or r n)
lowest_found n p None none =
    record { within = omega arith; passes = λ l. absurd (omega arith); before = λ j l t. subst T (none j (omega arith) l) t }
lowest_found n p (Some i) found =
    record { within = omega (arith, found.1); passes = λ _. yes _ found.2; before = λ j l t. subst T (found.3 j (omega arith) l) t }
