-- A loop that tallies what one replica hears.
use Rattle.std.proofs.Common.{◌≡◌, ℕ, ◌+◌, ◌<◌, Bool, true, false, cond, ap, arith}
use mathlib.Core.Path.{fun_ext}
use Rattle.quorum.specs.Counting.{count}
use Rattle.quorum.proofs.Counts.{one, count_le, count_more}
use Rattle.layers.specs.declared.said.Said.{Said}
use Rattle.layers.specs.declared.said.Tally.{Tally}
use Rattle.layers.specs.King.{says}
use Rattle.layers.specs.Views.{counted}

-- the tally has counted what the first m replicas say
abbrev pub Counted : Tally → ℕ → (ℕ → Said) → Type 0
Counted t m v = (t.yes ≡ count m (λ j. says true (v j))) × (t.no ≡ count m (λ j. says false (v j)))

module _ (t : Tally) (m : ℕ) (v : ℕ → Said) (before : Counted t m v) where
  -- a tally never passes the place
  pub counted_small : m < 16 → (t.yes < 16) × (t.no < 16)
  counted_small h =
      (omega (arith, before.0, count_le m (λ j. says true (v j))), omega (arith, before.1, count_le m (λ j. says false (v j))))

  -- one turn: s is what is heard at m
  pub counted_more : (r : Tally) (s : Said) → r.yes ≡ t.yes + cond (says true s) 1 0 → r.no ≡ t.no + cond (says false s) 1 0 → s ≡ v m → Counted r (m + 1) v
  counted_more r s more_yes more_no e =
      let here : (b : Bool) → one (says b s) ≡ one (says b (v m)) = λ b. ap (λ (s : Said). one (says b s)) e in (
        omega (arith, before.0, here true, count_more m (λ j. says true (v j))),
        omega (arith, before.1, here false, count_more m (λ j. says false (v j))),
      )

-- a full tally holds the counts of both bits
pub counted_is : (t : Tally) (n : ℕ) (v : ℕ → Said) → Counted t n v → counted t ≡ (λ b. count n (λ j. says b (v j)))
counted_is t n v h = fun_ext at
  where
    at : (b : Bool) → counted t b ≡ count n (λ j. says b (v j))
    at true = h.0
    at false = h.1
