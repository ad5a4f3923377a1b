-- What more than half of the present entries carry: there is one at most, and a linear vote finds it.
use Rattle.std.proofs.Common.{◌≡◌, ℕ, ◌+◌, ◌≤◌, Bool, ◌&&◌, T, ltb, Decides, sym, refl, ap, ◌∙◌, subst, inl, inr, arith, Option, Some, None, true, false, MatchOption, ◌/◌}
use Rattle.std.specs.Bool.{then_some}
use Rattle.std.proofs.lemmas.Bool.{cases_Bool, cases_lt, cond-true, cond-false, lt-ltb, le-ltb, ltb-true, ltb-false}
use Rattle.quorum.proofs.Counts.{both, yes, is_yes, one, count_same, count_within, count_some, count_zero, count_more, lowest_is, lowest_some}
use Rattle.values.specs.Entries.{present, carries, SameEntry, presence, matches}
use Rattle.values.specs.Majority.{Most, IsMajority, wins, winner, majority, Voted}
use Rattle.values.specs.Lead.{Weighed, Leads}
use Rattle.values.proofs.Meanings.{same_refl, same_sym, same_trans, same_present, carries_same, carries_present, carries_by}

module _ {V M : Type 0} (means : V → M) (alike : V → V → Bool) (law : (x y : V) → Decides (alike x y) (means x ≡ means y)) where
  -- ---- the lead

  pub lead_start : (entry : ℕ → Option V) → Leads alike 0 entry None 0
  lead_start entry y = record { leading = λ t. absurd t; trailing = λ _. omega (arith, count_zero (λ i. carries alike y (entry i))) }

  pub lead_step : (i : ℕ) (entry : ℕ → Option V) (e holder holder' : Option V) (margin margin' : ℕ)
      → SameEntry means e (entry i) → Leads alike i entry holder margin → Weighed alike holder margin e holder' margin' → Leads alike (i + 1) entry holder' margin'
  lead_step i entry e holder holder' margin margin' same led weighed y =
      let p : presence (i + 1) entry ≡ presence i entry + one (present e) =
      count_more i (λ j. present (entry j)) ∙ ap (λ (b : Bool). presence i entry + one b) (sym (same_present means e (entry i) same)) in
      let m : matches alike y (i + 1) entry ≡ matches alike y i entry + one (carries alike y e) =
      count_more i (λ j. carries alike y (entry j)) ∙ ap (λ (b : Bool). matches alike y i entry + one b) (carries_by means alike law y y (entry i) e refl (same_sym means e (entry i) same)) in
      let next = weighed.bounds y (presence i entry) (matches alike y i entry) (led y) in
      record { leading = λ t. omega (arith, p, m, next.leading t); trailing = λ f. omega (arith, p, m, next.trailing f) }

  module _ (n : ℕ) (entry : ℕ → Option V) where
    -- only the leading value can have more than half
    pub most_leads : (holder : Option V) (margin : ℕ) → Leads alike n entry holder margin → (x : V) → Most alike n entry x → T (carries alike x holder)
    most_leads holder margin led x most =
        elim (cases_Bool (carries alike x holder)) [
          | inl t ↦ yes _ t
          | inr f ↦ absurd (omega (arith, (led x).trailing (λ t. subst T f t)))
        ]

    -- ---- uniqueness

    pub most_by : (x y : V) → means x ≡ means y → Most alike n entry x → Most alike n entry y
    most_by x y p most =
        omega (arith, most, count_same n (λ i. carries alike x (entry i)) (λ i. carries alike y (entry i)) (λ i l. carries_by means alike law x y (entry i) (entry i) p (same_refl means (entry i))))

    -- two majorities share an entry
    pub most_same : (x y : V) → Most alike n entry x → Most alike n entry y → means x ≡ means y
    most_same x y mx my =
        let px : ℕ → Bool = λ i. carries alike x (entry i) in
        let py : ℕ → Bool = λ i. carries alike y (entry i) in
        let shared = count_within n px py (λ i. present (entry i)) (λ i l t. carries_present means alike law x (entry i) t) (λ i l t. carries_present means alike law y (entry i) t) in
        let w = count_some n (λ i. px i && py i) (omega (arith, shared, mx, my)) in
        let t = both (px w.0) (py w.0) w.2 in
        same_trans means (Some x) (entry w.0) (Some y)
        (same_sym means (entry w.0) (Some x) (carries_same means alike law x (entry w.0) t.0))
        (carries_same means alike law y (entry w.0) t.1)

    -- ---- the defined majority is one

    wins_most : (e : Option V) → T (wins alike n entry e) → (x : V) × (e ≡ Some x) × Most alike n entry x
    wins_most None t = absurd t
    wins_most (Some x) t = (x, refl, ltb-true _ _ (is_yes _ t))

    most_wins : (x : V) (e : Option V) → Most alike n entry x → T (carries alike x e) → T (wins alike n entry e)
    most_wins x None most t = t
    most_wins x (Some y) most t = yes _ (lt-ltb _ _ (most_by x y ((law x y).0 (is_yes _ t)) most))

    pub majority_is : IsMajority alike n entry (majority alike n entry)
    unfolding majority
    majority_is =
        let w = winner alike n entry in
        elim (cases_lt w n) [
          | inl l ↦
              let m = wins_most (entry w) ((lowest_is n (λ i. wins alike n entry (entry i))).passes l) in
              subst (IsMajority alike n entry) (sym (cond-true (ltb w n) (entry w) None (lt-ltb w n l) ∙ m.1)) m.2
          | inr l ↦ subst (IsMajority alike n entry) (sym (cond-false (ltb w n) (entry w) None (le-ltb w n l))) (none l)
        ]
      where
        none : n ≤ winner alike n entry → (x : V) → Most alike n entry x → ⊥
        none l x most =
            let s = count_some n (λ i. carries alike x (entry i)) (omega arith) in
            let low = lowest_some n (λ i. wins alike n entry (entry i)) s.0 s.1 (most_wins x (entry s.0) most s.2) in
            omega (arith, low.0)

    any_of : (e : Option V) → IsMajority alike n entry e → (x : V) → Most alike n entry x → SameEntry means e (Some x)
    any_of None is x most = absurd (is x most)
    any_of (Some y) is x most = most_same y x is most

    unique_of : (e d : Option V) → IsMajority alike n entry e → IsMajority alike n entry d → SameEntry means e d
    unique_of e (Some x) is most = any_of e is x most
    unique_of None None is none = tt
    unique_of (Some y) None is none = absurd (none y is)

    -- all that is promised follows from being a majority
    pub voted : (e : Option V) → IsMajority alike n entry e → Voted means alike n entry e
    voted e is = record { is = is; any = any_of e is; unique = λ d. unique_of e d is; defined = unique_of e (majority alike n entry) is majority_is }

    -- where the leading value has no majority, none has
    pub led_fails : (holder : Option V) (margin : ℕ) → Leads alike n entry holder margin → (z : V) → holder ≡ Some z → (Most alike n entry z → ⊥) → (x : V) → Most alike n entry x → ⊥
    led_fails holder margin led z p fails x most =
        let t = subst (λ (e : Option V). T (carries alike x e)) p (most_leads holder margin led x most) in
        fails (most_by x z ((law x z).0 (is_yes _ t)) most)

    pub led_missing : (holder : Option V) (margin : ℕ) → Leads alike n entry holder margin → holder ≡ None → (x : V) → Most alike n entry x → ⊥
    led_missing holder margin led p x most = subst (λ (e : Option V). T (carries alike x e)) p (most_leads holder margin led x most)

    -- the leading value, kept where more than half of the present entries carry it
    pub kept_lead : (holder : Option V) (margin : ℕ) (r : Option V) (passes : V → Bool → Type 0) → Leads alike n entry holder margin
        → MatchOption holder (r ≡ None) (λ x. (b : Bool) × passes x b × (r ≡ then_some b x)) → ((x : V) (b : Bool) → passes x b → b ≡ ltb (presence n entry / 2) (matches alike x n entry))
        → Voted means alike n entry r
    kept_lead None margin r passes led e is = subst (Voted means alike n entry) (sym e) (voted None (led_missing None margin led refl))
    kept_lead (Some x) margin r passes led (true, t, e) is =
        let more = ltb-true (presence n entry / 2) (matches alike x n entry) (sym (is x true t)) in
        subst (Voted means alike n entry) (sym e) (voted (Some x) (omega (arith, more)))
    kept_lead (Some x) margin r passes led (false, t, e) is =
        let less = ltb-false (presence n entry / 2) (matches alike x n entry) (sym (is x false t)) in
        subst (Voted means alike n entry) (sym e) (voted None (led_fails (Some x) margin led x refl (λ most. omega (arith, less))))
