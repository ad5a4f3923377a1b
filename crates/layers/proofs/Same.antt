-- A phase depends only on what the n replicas have, propose and took.
use Rattle.std.proofs.Common.{◌≡◌, ℕ, ◌+◌, ◌-◌, ◌*◌, ◌<◌, Bool, false, cond, List, leb, get_or, refl, ap, ◌∙◌, ap₂}
use mathlib.Core.Path.{fun_ext}
use Rattle.quorum.specs.Counting.{bit}
use Rattle.quorum.proofs.Counts.{count_same}
use Rattle.layers.specs.declared.said.Said.{Said}
use Rattle.layers.specs.declared.said.Taken.{Taken}
use Rattle.layers.specs.declared.said.Tally.{Tally}
use Rattle.layers.specs.Layers.{byte_at}
use Rattle.layers.specs.King.{Given, said, says, aloud, enough, takes, heard, tally, votes_at, proposals_at, proposal, phase}
use Rattle.layers.specs.Views.{counted, taken_at, settled_to}

-- what a replica took, by its place in a table
abbrev pub taken_of : List Taken → ℕ → Taken
taken_of table j = get_or table j record { bit = false; firm = false }

-- the bit of i once the king p has given the bit that it took, from what all took
abbrev pub settled_by : Given → ℕ → (ℕ → Taken) → ℕ → Bool
settled_by g p t i = settled_to g p (t i) (t p).bit i

-- what a replica with a bit of its own takes from its counts of proposals
abbrev pub taken_from : Given → (Bool → ℕ) → Bool → Taken
taken_from g counts own =
    let b = takes (enough (g.f + 1) counts) own in record { bit = b; firm = leb (g.n - g.f) (counts b) }

-- what code takes from a tally, step by step
pub taken_steps : (g : Given) (t : Tally) (own b : Bool) (s : Said) (c : ℕ) → s ≡ enough (g.f + 1) (counted t) → b ≡ takes s own → c ≡ counted t b
    → ◌≡◌ {A = Taken} (record { bit = b; firm = leb (g.n - g.f) c }) (taken_from g (counted t) own)
taken_steps g t own b s c es eb ec =
    let e : b ≡ takes (enough (g.f + 1) (counted t)) own = eb ∙ ap (λ (s : Said). takes s own) es in
    let at : Bool → ℕ → Taken = λ b c. record { bit = b; firm = leb (g.n - g.f) c } in
    ap₂ at e (ec ∙ ap (counted t) e)

module _ (g : Given) where
  tally_same : (at : ℕ) (q r : ℕ → Said) → ((j : ℕ) → j < g.n → q j ≡ r j) → (i : ℕ) → tally g at q i ≡ tally g at r i
  tally_same at q r h i =
      fun_ext (λ b. count_same g.n (λ j. says b (heard g at q i j)) (λ j. says b (heard g at r i j))
      (λ j l. ap (λ (s : Said). says b (cond (bit g.marks j) (said (byte_at g.words (at + (j * g.n + i)))) s)) (h j l)))

  module _ (p : ℕ) where
    taken_same : (q r : ℕ → Said) (x y : ℕ → Bool) → ((j : ℕ) → j < g.n → q j ≡ r j) → ((j : ℕ) → j < g.n → x j ≡ y j)
        → (i : ℕ) → i < g.n → taken_at g p q x i ≡ taken_at g p r y i
    taken_same q r x y qs xs i l = ap₂ (taken_from g) (tally_same (proposals_at g p) q r qs i) (xs i l)

    settled_same : (t u : ℕ → Taken) → ((j : ℕ) → j < g.n → t j ≡ u j) → p < g.n → (i : ℕ) → i < g.n → settled_by g p t i ≡ settled_by g p u i
    settled_same t u h k i l = ap₂ (λ (a b : Taken). settled_to g p a b.bit i) (h i l) (h p k)

    -- a phase, from tables of what was proposed and taken in it
    pub phase_tables : (x : ℕ → Bool) (q : ℕ → Said) (t : ℕ → Taken) → ((j : ℕ) → j < g.n → q j ≡ proposal g p x j) → ((j : ℕ) → j < g.n → t j ≡ taken_at g p q x j)
        → p < g.n → (i : ℕ) → i < g.n → settled_by g p t i ≡ phase g p x i
    phase_tables x q t qs ts = settled_same t (taken_at g p (proposal g p x) x) (λ j l. ts j l ∙ taken_same q (proposal g p x) x x qs (λ _ _. refl) j l)

    pub phase_same : (x y : ℕ → Bool) → ((j : ℕ) → j < g.n → x j ≡ y j) → p < g.n → (i : ℕ) → i < g.n → phase g p x i ≡ phase g p y i
    phase_same x y h =
        settled_same (taken_at g p (proposal g p x) x) (taken_at g p (proposal g p y) y) (taken_same (proposal g p x) (proposal g p y) x y
        (λ j _. ap (enough (g.n - g.f)) (tally_same (votes_at g p) (λ j. aloud (x j)) (λ j. aloud (y j)) (λ j l. ap aloud (h j l)) j)) h)
