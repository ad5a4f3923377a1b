-- What replicas hear in one round: from a sound one all hear the same, and the others are few.
use Rattle.std.specs.Prelude.{◌≡◌, ℕ, ◌+◌, ◌<◌, ◌≤◌, Bool, true, false, not, ◌&&◌, T}
use Rattle.std.proofs.Common.{sym, subst, ◌∙◌, arith}
use Rattle.std.proofs.lemmas.Bool.{cond-false, not-true}
use Rattle.quorum.specs.Counting.{bit, count}
use Rattle.quorum.proofs.Counts.{both, count_mono, count_none, count_not, count_some, count_split, is_yes}
use Rattle.layers.specs.declared.said.Said.{Said}
use Rattle.layers.specs.declared.said.Said.TheVariants.{Yes, No, Silent}
use Rattle.layers.specs.Layers.{Sound, FewFaulty}
use Rattle.layers.specs.King.{Given, says, aloud, heard, tally}

says_aloud : (b : Bool) → T (says b (aloud b))
says_aloud true = tt
says_aloud false = tt

-- nobody says both bits
says_one : (b : Bool) (s : Said) → T (says b s) → T (not (says (not b) s))
says_one true Yes t = tt
says_one true No t = absurd t
says_one true Silent t = tt
says_one false Yes t = absurd t
says_one false No t = tt
says_one false Silent t = tt

module _ (g : Given) (few : FewFaulty g.n g.f g.marks) where
  -- without the faulty, at most f fewer
  sound_part : (p : ℕ → Bool) → count g.n p ≤ count g.n (λ j. p j && not (bit g.marks j)) + g.f
  sound_part p =
      omega (arith, count_split g.n p (bit g.marks), count_mono g.n (λ j. p j && bit g.marks j) (bit g.marks) (λ j _ t. (both (p j) _ t).1))

  -- a test that at the sound implies another passes at most f times more
  nearly : (p q : ℕ → Bool) → ((j : ℕ) → j < g.n → Sound g.marks j → T (p j) → T (q j)) → count g.n p ≤ count g.n q + g.f
  nearly p q h =
      omega (arith, sound_part p, count_mono g.n (λ j. p j && not (bit g.marks j)) q (λ j l t. let w = both (p j) _ t in h j l (not-true _ (is_yes _ w.1)) w.0))

  -- One round: its words start at `at`, and the sound say `all`.
  module _ (at : ℕ) (all : ℕ → Said) where
    heard_sound : (i j : ℕ) → Sound g.marks j → heard g at all i j ≡ all j
    heard_sound i j s = cond-false _ _ _ s

    -- two replicas' tallies of a bit differ by at most f
    pub alike : (b : Bool) (i k : ℕ) → tally g at all i b ≤ tally g at all k b + g.f
    alike b i k =
        nearly (λ j. says b (heard g at all i j)) (λ j. says b (heard g at all k j))
        (λ j _ s t. subst (λ (v : Said). T (says b v)) (heard_sound i j s ∙ sym (heard_sound k j s)) t)

    -- two replicas' tallies of opposite bits overlap in the faulty alone
    pub opposed : (b : Bool) (i k : ℕ) → tally g at all i b + tally g at all k (not b) ≤ g.n + g.f
    opposed b i k =
        omega (
          arith,
          count_not g.n (λ j. says (not b) (heard g at all k j)),
          nearly (λ j. says b (heard g at all i j)) (λ j. not (says (not b) (heard g at all k j)))
              (λ j _ s t. says_one b (heard g at all k j) (subst (λ (v : Said). T (says b v)) (heard_sound i j s ∙ sym (heard_sound k j s)) t)),
        )

    -- what all the sound say, all hear from all but f
    pub unanimous : (b : Bool) → ((j : ℕ) → j < g.n → Sound g.marks j → all j ≡ aloud b) → (i : ℕ) → g.n ≤ tally g at all i b + g.f
    unanimous b h i =
        omega (
          arith,
          count_not g.n (λ _. true),
          count_none g.n (λ _. false) (λ j l t. t),
          nearly (λ _. true) (λ j. says b (heard g at all i j))
              (λ j l s _. subst (λ (v : Said). T (says b v)) (sym (heard_sound i j s ∙ h j l s)) (says_aloud b)),
        )

    -- of more than f that say a bit, one is sound
    pub some_sound : (b : Bool) (i : ℕ) → g.f < tally g at all i b → (j : ℕ) × T (says b (all j))
    some_sound b i h =
        let z = count_some g.n (λ j. says b (heard g at all i j) && not (bit g.marks j)) (omega (arith, sound_part (λ j. says b (heard g at all i j)))) in
        let w = both (says b (heard g at all i z.0)) _ z.2 in
        (z.0, subst (λ (v : Said). T (says b v)) (heard_sound i z.0 (not-true _ (is_yes _ w.1))) w.0)
