-- Quorums of replicas, and that two replicas never accept different readings of a sensor.
use Rattle.std.proofs.Common.{◌≡◌, ℕ, ◌-◌, ◌<◌, ◌≤◌, Bool, not, ◌&&◌, T, sym, refl, subst, arith, le→leb, leb→le, Option, Some, None}
use Rattle.std.proofs.lemmas.Bool.{cond-false}
use Rattle.quorum.specs.Counting.{bit, count}
use Rattle.quorum.proofs.Counts.{both, count_mono, count_not, count_overlap, count_some, lowest_some}
use Rattle.layers.specs.Layers.{Sound}
use Rattle.values.specs.Entries.{SameEntry, carries, matches}
use Rattle.values.proofs.Meanings.{same_sym, same_trans, carries_same, same_carries}
use Rattle.protocol.specs.Setup.{Config, sound, lowest_sound}
use Rattle.protocol.specs.Model.{Model, accepts, own, heard, accept}
use Rattle.protocol.specs.Runs.{Valid, Lawful}
use Rattle.protocol.proofs.Places.{yes_no}

-- Making admits the numbers, and values, application and layer keep their laws.
pub record Admitted {R S C : Type 0} (g : Config R S C) : Type 0 where
  pub valid : Valid g
  pub laws : Lawful g

module _ {R S C : Type 0} {g : Config R S C} (ok : Admitted g) where
  open g use {n, f, marks, means_r, alike_r}

  pub many_sound : n - f ≤ count n (sound g)
  many_sound = omega (arith, count_not n (bit marks), ok.valid.faulty)

  pub few_faulty : count n (λ i. not (sound g i)) ≤ f
  few_faulty = omega (arith, count_not n (bit marks), count_not n (sound g), ok.valid.faulty)

  pub low_sound : (lowest_sound g < n) × Sound marks (lowest_sound g)
  low_sound =
      let s = count_some n (sound g) (omega (arith, many_sound, ok.valid.sized.1)) in
      let low = lowest_some n (sound g) s.0 s.1 s.2 in
      (low.0, yes_no (bit marks (lowest_sound g)) low.1)

  -- two quorums share a sound replica
  pub share : (a b : ℕ → Bool) → n - f ≤ count n a → n - f ≤ count n b → (j : ℕ) × (j < n) × Sound marks j × T (a j) × T (b j)
  share a b ha hb =
      let first = count_overlap n a b in
      let second = count_overlap n (λ i. a i && b i) (sound g) in
      let w = count_some n (λ i. (a i && b i) && sound g i) (omega (arith, many_sound, ok.valid.sized.1)) in
      let j = w.0 in
      let s = both (a j && b j) (sound g j) w.2 in
      let t = both (a j) (b j) s.0 in
      (j, w.1, yes_no (bit marks j) s.1, t.0, t.1)

  -- what is accepted is present, and a quorum has it
  accepts_is : (e : Option R) (h : ℕ → Option R) → T (accepts g e h) → (x : R) × (e ≡ Some x) × (n - f ≤ matches alike_r x n h)
  accepts_is None h t = absurd t
  accepts_is (Some x) h t = (x, refl, leb→le _ _ t)

  -- what all sound replicas say is accepted
  pub backed : (e : Option R) (h : ℕ → Option R) (x : R) → SameEntry means_r e (Some x) → ((j : ℕ) → j < n → Sound marks j → SameEntry means_r (h j) (Some x)) → T (accepts g e h)
  backed None h x same all = absurd same
  backed (Some y) h x same all =
      le→leb _ _ (omega (
        arith,
        many_sound,
        count_mono n (sound g) (λ j. carries alike_r y (h j))
            (λ j l t. same_carries means_r alike_r ok.laws.readings y (h j) (same_trans means_r (h j) (Some x) (Some y) (all j l (yes_no (bit marks j) t)) (sym same))),
      ))

  module _ (p : Model R S) where
    pub heard_sound : (i j k : ℕ) → Sound marks j → heard g p i j k ≡ own g p j k
    heard_sound i j k s = cond-false (bit marks j) _ _ s

    pub accept_is : (i k : ℕ) → T (accept g p i k) → (x : R) × (own g p i k ≡ Some x) × (n - f ≤ matches alike_r x n (λ j. heard g p i j k))
    unfolding accept
    accept_is i k t = accepts_is (own g p i k) (λ j. heard g p i j k) t

    -- what two replicas accept from one sensor is the same reading
    pub accepted_same : (i l k : ℕ) → T (accept g p i k) → T (accept g p l k) → SameEntry means_r (own g p i k) (own g p l k)
    accepted_same i l k a b =
        let x = accept_is i k a in
        let y = accept_is l k b in
        let q = share (λ j. carries alike_r x.0 (heard g p i j k)) (λ j. carries alike_r y.0 (heard g p l j k)) x.2 y.2 in
        let said = own g p q.0 k in
        let got : (m : ℕ) (z : R) → T (carries alike_r z (heard g p m q.0 k)) → SameEntry means_r said (Some z) = λ m z t.
        carries_same means_r alike_r ok.laws.readings z said (subst (λ (e : Option R). T (carries alike_r z e)) (heard_sound m q.0 k q.2) t) in
        rw (x.1, y.1) (same_trans means_r (Some x.0) said (Some y.0) (same_sym means_r said (Some x.0) (got i x.0 q.3)) (got l y.0 q.4))
