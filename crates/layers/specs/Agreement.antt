-- The phase king agrees, and a sound sender's bit is the one agreed on.
use Rattle.std.specs.Prelude.{◌≡◌, ℕ, suc, ◌+◌, ◌-◌, ◌*◌, ◌<◌, ◌≤◌, Bool, true, false, cond, not, T, List, nat_le, refl}
use Rattle.std.proofs.Common.{sym, ap, ◌∙◌, inl, inr, arith}
use Rattle.std.proofs.Math.Decide.{le_ind}
use Rattle.std.proofs.lemmas.Nat.{mul-le}
use Rattle.std.proofs.lemmas.Bool.{cases_lt, cond-true, cond-false, le-leb, lt-leb, leb-true, not-true}
use Rattle.quorum.specs.Counting.{bit}
use Rattle.quorum.proofs.Counts.{count_not, count_reach, count_some, is_yes}
use Rattle.layers.specs.declared.said.Said.{Said}
use Rattle.layers.specs.Layers.{Sized, Sound, FewFaulty, Agreed, AllGet}
use Rattle.layers.specs.King.{Given, says, aloud, enough, takes, votes_at, proposals_at, votes, proposal, proposals, taken, firm, kings_bit, phase, phase_size, king_size, bits_after, instance, king}
use Rattle.layers.specs.Hearing.{alike, opposed, unanimous, some_sound}

-- ---- thresholds

-- enough of one bit and too few of the other
enough_one : (least : ℕ) (counts : Bool → ℕ) (b : Bool) → least ≤ counts b → counts (not b) < least → enough least counts ≡ aloud b
enough_one least counts true h k = rw (le-leb least (counts true) h)
enough_one least counts false h k = rw (lt-leb least (counts true) k, le-leb least (counts false) h)

-- what is said was counted often enough
enough_said : (least : ℕ) (counts : Bool → ℕ) (b : Bool) → says b (enough least counts) ≡ true → least ≤ counts b
enough_said least counts true h = grind (arith, leb-true)
enough_said least counts false h = grind (arith, leb-true)

takes_aloud : (b own : Bool) (s : Said) → s ≡ aloud b → takes s own ≡ b
takes_aloud true own s e = ap (λ (s : Said). takes s own) e
takes_aloud false own s e = ap (λ (s : Said). takes s own) e

-- a choice whose answers come to the same
either_way : (t a b c : Bool) → (t ≡ true → a ≡ c) → b ≡ c → cond t a b ≡ c
either_way true a b c h k = h refl
either_way false a b c h k = k

module _ (g : Given) (few : FewFaulty g.n g.f g.marks) (most : 3 * g.f < g.n) where
  -- ---- one phase
  module _ (p : ℕ) (x : ℕ → Bool) where
    abbrev q : ℕ → Said
    q = proposal g p x

    -- no two replicas propose opposite bits
    one_side : (b : Bool) (i k : ℕ) → T (says b (q i)) → T (says (not b) (q k)) → ⊥
    one_side b i k s t =
        omega (arith, opposed g few (votes_at g p) (λ j. aloud (x j)) b i k, enough_said (g.n - g.f) (votes g p x i) b (is_yes _ s), enough_said (g.n - g.f) (votes g p x k) (not b) (is_yes _ t))

    -- where one saw n - f proposals of a bit, all take it
    carried : (b : Bool) (i : ℕ) → g.n - g.f ≤ proposals g p q i b → (k : ℕ) → taken g p q x k ≡ b
    carried b i h k =
        let up : g.f + 1 ≤ proposals g p q k b = omega (arith, alike g few (proposals_at g p) q b i k) in
        let down : proposals g p q k (not b) < g.f + 1 =
        elim (cases_lt g.f (proposals g p q k (not b))) [
          | inl l ↦
              let y = some_sound g few (proposals_at g p) q b i (omega arith) in
              let z = some_sound g few (proposals_at g p) q (not b) k l in
              absurd (one_side b y.0 z.0 y.1 z.1)
          | inr l ↦ omega arith
        ] in
        takes_aloud b (x k) _ (enough_one (g.f + 1) (proposals g p q k) b up down)

    -- a bit that all the sound have, all see proposed by n - f
    proposed : (b : Bool) → AllGet g.n g.marks x b → (k : ℕ) → g.n - g.f ≤ proposals g p q k b
    proposed b h k =
        let same : (j : ℕ) → j < g.n → Sound g.marks j → q j ≡ aloud b =
        λ j _ _.
        let most-votes = unanimous g few (votes_at g p) (λ j. aloud (x j)) b (λ j l s. ap aloud (h j l s)) j in
        let few-votes = opposed g few (votes_at g p) (λ j. aloud (x j)) b j j in
        enough_one (g.n - g.f) (votes g p x j) b (omega arith) (omega arith) in
        omega (arith, unanimous g few (proposals_at g p) q b same k)

    -- a common bit persists
    persists : (b : Bool) → AllGet g.n g.marks x b → (i : ℕ) → phase g p x i ≡ b
    persists b h i =
        let enough-of = proposed b h i in
        let took = carried b i enough-of i in
        let stays : firm g p q x i ≡ true = ap (λ (c : Bool). nat_le (g.n - g.f) (proposals g p q i c)) took ∙ le-leb (g.n - g.f) _ enough-of in
        cond-true _ (taken g p q x i) (kings_bit g p q x i) stays ∙ took

    -- a sound king brings all to one bit
    joins : Sound g.marks p → (i : ℕ) → phase g p x i ≡ taken g p q x p
    joins s i =
        either_way (firm g p q x i) (taken g p q x i) (kings_bit g p q x i) (taken g p q x p)
        (λ t. sym (carried (taken g p q x i) i (leb-true (g.n - g.f) _ t) p))
        (cond-false (bit g.marks p) _ (taken g p q x p) s)

  -- ---- all phases

  -- one of the f + 1 kings is sound
  sound_king : (p : ℕ) × (p < g.f + 1) × Sound g.marks p
  sound_king =
      let z = count_some (g.f + 1) (λ j. not (bit g.marks j)) (omega (arith, count_not (g.f + 1) (bit g.marks), count_reach (bit g.marks) (g.f + 1) g.n (omega arith))) in
      (z.0, z.1, not-true _ (is_yes _ z.2))

  module _ (sender : ℕ) (own : Bool) where
    -- a common bit lasts through any more phases
    lasts : (b : Bool) (m : ℕ) → AllGet g.n g.marks (bits_after g sender own m) b → (k : ℕ) → m ≤ k → AllGet g.n g.marks (bits_after g sender own k) b
    lasts b m h k le =
        le_ind (λ (k : ℕ). AllGet g.n g.marks (bits_after g sender own k) b) h
        (λ k _ ih j _ _. persists k (bits_after g sender own k) b ih j)
        k le

    valid : Sound g.marks sender → AllGet g.n g.marks (bits_after g sender own (g.f + 1)) own
    valid s = lasts own 0 (λ j _ _. cond-false (bit g.marks sender) _ own s) (g.f + 1) (omega arith)

    agreed : (b : Bool) × AllGet g.n g.marks (bits_after g sender own (g.f + 1)) b
    agreed =
        let p = sound_king.0 in
        let x = bits_after g sender own p in
        let b = taken g p (proposal g p x) x p in
        (b, lasts b (suc p) (λ j _ _. joins p x sound_king.2 j) (g.f + 1) (omega (arith, sound_king.1)))

-- ---- the laws of the layer

module _ (n f marks sender : ℕ) (own : Bool) (words : List ℕ) (sized : Sized n f) (few : FewFaulty n f marks) where
  pub king_agreement : Agreed n marks (king n f marks sender own words)
  king_agreement i k h l s t =
      let a = agreed (instance n f marks words) few sized.1 sender own in a.1 i h s ∙ sym (a.1 k l t)

  pub king_validity : Sound marks sender → AllGet n marks (king n f marks sender own words) own
  king_validity = valid (instance n f marks words) few sized.1 sender own

pub king_bounded : (n f : ℕ) → Sized n f → king_size n f ≤ 65536
king_bounded n f s =
    let square = mul-le n n 16 16 s.0 s.0 in
    omega (arith, mul-le (f + 1) (phase_size n) 6 528 (omega arith) (omega arith))
