-- What a cycle's entries, claims, words and rule give at every sound replica.
use Rattle.std.proofs.Common.{◌≡◌, ℕ, ◌+◌, ◌-◌, ◌*◌, ◌<◌, ◌≤◌, Bool, cond, ◌&&◌, T, ◌⊎◌, length, sym, refl, ap, ◌∙◌, subst, inl, inr, arith, le→leb, leb→le, Option, Some, None}
use Rattle.quorum.specs.Counting.{bit, count}
use Rattle.quorum.proofs.Counts.{both, join, is_yes, count_mono, count_same, count_overlap, count_some, lowest_some}
use Rattle.layers.specs.Layers.{Sound}
use Rattle.values.specs.Entries.{present, SameEntry, entry_at, carries}
use Rattle.values.specs.Majority.{majority}
use Rattle.values.proofs.Meanings.{same_sym, same_trans, same_carries}
use Rattle.selections.specs.Choices.{no_sensor, Chooses}
use Rattle.protocol.specs.Setup.{Config, sound, lowest_sound}
use Rattle.protocol.specs.Model.{Model, words_of, own, heard, accept, yes_bit, is_candidate, acceptor, reading, readings, chosen_sensor, chosen_reading}
use Rattle.protocol.specs.Consistency.{Steady}
use Rattle.protocol.proofs.Places.{cond_yes, no_yes, yes_no, has_value, present_cond, none_or_some, inside, table_length, table_at, table_past}
use Rattle.protocol.proofs.Votes.{outvoted}
use Rattle.protocol.proofs.Quorums.{Admitted, many_sound, few_faulty, low_sound, backed, heard_sound, accept_is, accepted_same}

module _ {R S C : Type 0} (g : Config R S C) (p : Model R S) where
  -- the sound replicas that accept k
  abbrev pub good : ℕ → ℕ → Bool
  good k j = sound g j && accept g p j k

  -- what i heard from all whose bit is set
  abbrev pub heard_from : ℕ → ℕ → ℕ → Option R
  heard_from i k j = cond (yes_bit g p i k j) (heard g p i j k) None

  -- A sensor is chosen, and its reading is x.
  pub record Picked (x : R) : Type 0 where
    pub within : chosen_sensor g p < g.sensors
    pub candidate : T (is_candidate g p (chosen_sensor g p))
    pub read : reading g p (chosen_sensor g p) ≡ Some x
    pub is : chosen_reading g p ≡ Some x

module _ {R S C : Type 0} {g : Config R S C} (ok : Admitted g) (p : Model R S) where
  open g use {n, f, sensors, marks, means_r, alike_r}

  -- ---- the layer

  -- every sound replica gets the bits that the lowest gets
  pub yes_one : (i k j : ℕ) → i < n → Sound marks i → j < n → yes_bit g p i k j ≡ yes_bit g p (lowest_sound g) k j
  unfolding yes_bit
  yes_one i k j l s m =
      ok.laws.agreement j (sound g j && accept g p j k) (words_of g p.words (k * n + j)) m i (lowest_sound g) l (low_sound ok).0 s (low_sound ok).1

  -- a sound sender's bit is its accept
  pub yes_accept : (i k j : ℕ) → i < n → Sound marks i → j < n → Sound marks j → yes_bit g p i k j ≡ accept g p j k
  unfolding yes_bit
  yes_accept i k j l s m r =
      ok.laws.validity j (sound g j && accept g p j k) (words_of g p.words (k * n + j)) m r i l s
      ∙ ap (λ (b : Bool). b && accept g p j k) (is_yes (sound g j) (no_yes (bit marks j) r))

  -- ---- candidates

  -- of the bits that i gets for a candidate, at least n − 2f are of sound replicas
  candidate_bits : (i k : ℕ) → i < n → Sound marks i → T (is_candidate g p k) → n - 2 * f ≤ count n (λ j. sound g j && yes_bit g p i k j)
  unfolding is_candidate
  candidate_bits i k l s c =
      omega (arith, leb→le _ _ c, many_sound ok, count_overlap n (sound g) (yes_bit g p i k), count_same n (yes_bit g p i k) (yes_bit g p (lowest_sound g) k) (λ j m. yes_one i k j l s m))

  set_good : (i k j : ℕ) → i < n → Sound marks i → j < n → T (sound g j && yes_bit g p i k j) → T (good g p k j)
  set_good i k j l s m t =
      let b = both (sound g j) (yes_bit g p i k j) t in
      join (sound g j) (accept g p j k) b.0 (subst T (yes_accept i k j l s m (yes_no (bit marks j) b.0)) b.1)

  -- a candidate has at least n − 2f sound acceptors
  pub acceptors : (k : ℕ) → T (is_candidate g p k) → n - 2 * f ≤ count n (good g p k)
  acceptors k c =
      let low = low_sound ok in
      omega (arith, candidate_bits (lowest_sound g) k low.0 low.1 c, count_mono n _ (good g p k) (λ j m t. set_good (lowest_sound g) k j low.0 low.1 m t))

  pub more_than_f : (k : ℕ) → T (is_candidate g p k) → f < count n (good g p k)
  more_than_f k c = omega (arith, acceptors k c, ok.valid.sized.1)

  low_good : (k j : ℕ) → j < n → T (good g p k j) → T (accept g p (acceptor g p k) k)
  low_good k j l t = (both (sound g (acceptor g p k)) _ (lowest_some n (good g p k) j l t).1).1

  -- a sound acceptor has the reading
  pub good_reading : (k j : ℕ) → j < n → T (good g p k j) → SameEntry means_r (own g p j k) (reading g p k)
  good_reading k j l t = accepted_same ok p j (acceptor g p k) k (both (sound g j) _ t).1 (low_good k j l t)

  pub reading_is : (k : ℕ) → T (is_candidate g p k) → (x : R) × (reading g p k ≡ Some x)
  reading_is k c =
      let w = count_some n (good g p k) (omega (arith, more_than_f k c)) in
      let a = accept_is ok p (acceptor g p k) k (low_good k w.0 w.1 w.2) in
      (a.0, a.1)

  good_has : (k : ℕ) (x : R) → reading g p k ≡ Some x → (j : ℕ) → j < n → T (good g p k j) → SameEntry means_r (own g p j k) (Some x)
  good_has k x e j l t = rw e at (good_reading k j l t)

  -- at least n − 2f sound replicas had a candidate's reading from the sensor
  pub sourced : (k : ℕ) (x : R) → T (is_candidate g p k) → reading g p k ≡ Some x → n - 2 * f ≤ count n (λ i. sound g i && carries alike_r x (own g p i k))
  sourced k x c e =
      omega (
        arith,
        acceptors k c,
        count_mono n (good g p k) (λ i. sound g i && carries alike_r x (own g p i k))
            (λ j l t. join (sound g j) _ (both (sound g j) _ t).0 (same_carries means_r alike_r ok.laws.readings x (own g p j k) (good_has k x e j l t))),
      )

  -- the majority of heard from all whose bit is set is the reading
  pub heard_majority : (i k : ℕ) (entry : ℕ → Option R) → ((j : ℕ) → j < n → entry j ≡ heard_from g p i k j) → i < n → Sound marks i → T (is_candidate g p k)
      → SameEntry means_r (majority alike_r n entry) (reading g p k)
  heard_majority i k entry from l s c =
      let x = reading_is k c in
      let set : ℕ → Bool = λ j. sound g j && yes_bit g p i k j in
      rw x.1 (outvoted means_r alike_r ok.laws.readings n f entry (sound g) set x.0 (few_faulty ok) (omega (arith, ok.valid.sized.1, candidate_bits i k l s c))
      (λ j m t q. join (sound g j) (yes_bit g p i k j) t (present_cond (yes_bit g p i k j) (heard g p i j k) (subst (λ (e : Option R). T (present e)) (from j m) q)))
      (λ j m t.
      let b = both (sound g j) (yes_bit g p i k j) t in
      let e : entry j ≡ own g p j k = from j m ∙ cond_yes (yes_bit g p i k j) (heard g p i j k) None b.1 ∙ heard_sound ok p i j k (yes_no (bit marks j) b.0) in
      rw e (good_has k x.0 x.1 j m (set_good i k j l s m t))))

  -- ---- the readings to choose from

  pub readings_at : (k : ℕ) → k < sensors → entry_at (readings g p) k ≡ cond (is_candidate g p k) (reading g p k) None
  unfolding readings
  readings_at k l = table_at sensors (λ k. cond (is_candidate g p k) (reading g p k) None) None k l

  pub readings_past : (k : ℕ) → sensors ≤ k → entry_at (readings g p) k ≡ None
  unfolding readings
  readings_past k l = table_past sensors (λ k. cond (is_candidate g p k) (reading g p k) None) None k l

  pub readings_length : length (readings g p) ≡ sensors
  unfolding readings
  readings_length = table_length sensors (λ k. cond (is_candidate g p k) (reading g p k) None)

  pub readings_short : length (readings g p) < no_sensor
  readings_short = omega (arith, readings_length, ok.valid.sensors)

  pub candidate_at : (k : ℕ) → k < sensors → T (is_candidate g p k) → entry_at (readings g p) k ≡ reading g p k
  candidate_at k l c = readings_at k l ∙ cond_yes (is_candidate g p k) (reading g p k) None c

  pub candidate_present : (k : ℕ) → k < sensors → T (is_candidate g p k) → T (present (entry_at (readings g p) k))
  candidate_present k l c = rw (candidate_at k l c, (reading_is k c).1) tt

  pub picked : (x : R) → chosen_reading g p ≡ Some x → Picked g p x
  picked x e =
      let c = chosen_sensor g p in
      let t : T (present (chosen_reading g p)) = rw e tt in
      let l : c < sensors = omega (arith, inside (readings g p) c t, readings_length) in
      let h = present_cond (is_candidate g p c) (reading g p c) (subst (λ (d : Option R). T (present d)) (readings_at c l) t) in
      record { within = l; candidate = h; read = sym (candidate_at c l h) ∙ e; is = e }

  -- no sensor is chosen, or one that is a candidate
  pub none_or_picked : Chooses means_r p.rule → ((chosen_sensor g p ≡ no_sensor) × (chosen_reading g p ≡ None)) ⊎ ((x : R) × Picked g p x)
  none_or_picked rule =
      elim (none_or_some (readings g p)) [
        | inl h ↦ inl (rule.none (readings g p) readings_short h, missing (chosen_reading g p) (h (chosen_sensor g p)))
        | inr h ↦ inr (found (rule.some (readings g p) readings_short h.0 h.1))
      ]
    where
      found : T (present (chosen_reading g p)) → (x : R) × Picked g p x
      found t = let x = has_value (chosen_reading g p) t in (x.0, picked x.0 x.1)

      missing : (e : Option R) → (T (present e) → ⊥) → e ≡ None
      missing None h = refl
      missing (Some x) h = absurd (h tt)

  -- ---- steady sensors

  pub steady_accepted : (k : ℕ) → Steady g p k → (i : ℕ) → i < n → Sound marks i → T (accept g p i k)
  unfolding accept
  steady_accepted k s i l t =
      backed ok (own g p i k) (λ j. heard g p i j k) s.0 (s.1 i l t) (λ j m r. rw (heard_sound ok p i j k r) (s.1 j m r))

  pub steady_candidate : (k : ℕ) → Steady g p k → T (is_candidate g p k)
  unfolding is_candidate
  steady_candidate k s =
      let low = low_sound ok in
      le→leb _ _ (omega (
        arith,
        many_sound ok,
        count_mono n (sound g) (yes_bit g p (lowest_sound g) k)
            (λ j l t. let r = yes_no (bit marks j) t in subst T (sym (yes_accept (lowest_sound g) k j low.0 low.1 l r)) (steady_accepted k s j l r)),
      ))

  pub steady_reading : (k : ℕ) (s : Steady g p k) → SameEntry means_r (reading g p k) (Some s.0)
  steady_reading k s =
      let low = low_sound ok in
      let i = lowest_sound g in
      let r = good_reading k i low.0 (join (sound g i) (accept g p i k) (no_yes (bit marks i) low.1) (steady_accepted k s i low.0 low.1)) in
      same_trans means_r (reading g p k) (own g p i k) (Some s.0) (same_sym means_r (own g p i k) (reading g p k) r) (s.1 i low.0 low.1)
