-- The majority of entries.
use Rattle.std.specs.Prelude.{ℕ, ◌*◌, ◌<◌, Bool, false, cond, nat_lt, Option, Some, None}
use Rattle.quorum.specs.Counting.{lowest}
use Rattle.values.specs.Entries.{SameEntry, presence, matches}

-- more than half of the present entries carry x
abbrev pub Most : {V : Type 0} → (V → V → Bool) → ℕ → (ℕ → Option V) → V → Type 0
Most alike n entry x = presence n entry < 2 * matches alike x n entry

-- The majority is a value that more than half of the present entries carry, and is missing exactly when there is none.
abbrev pub IsMajority : {V : Type 0} → (V → V → Bool) → ℕ → (ℕ → Option V) → Option V → Type 0
IsMajority alike n entry (Some x) = Most alike n entry x
IsMajority {V} alike n entry None = (x : V) → Most alike n entry x → ⊥

-- whether more than half of the present entries carry what this one does
abbrev pub wins : {V : Type 0} → (V → V → Bool) → ℕ → (ℕ → Option V) → Option V → Bool
wins alike n entry None = false
wins alike n entry (Some x) = nat_lt (presence n entry) (2 * matches alike x n entry)

-- the lowest place whose entry wins, or n
abbrev pub winner : {V : Type 0} → (V → V → Bool) → ℕ → (ℕ → Option V) → ℕ
winner alike n entry = lowest n (λ i. wins alike n entry (entry i))

-- the majority as an entry: the lowest that wins
unfoldable pub majority : {V : Type 0} → (V → V → Bool) → ℕ → (ℕ → Option V) → Option V
majority alike n entry = cond (nat_lt (winner alike n entry) n) (entry (winner alike n entry)) None

-- What is promised of an answer e.
pub record Voted {V M : Type 0} (means : V → M) (alike : V → V → Bool) (n : ℕ) (entry : ℕ → Option V) (e : Option V) : Type 0 where
  -- it is a majority
  pub is : IsMajority alike n entry e
  -- any value that more than half of the present entries carry is it
  pub any : (x : V) → Most alike n entry x → SameEntry means e (Some x)
  -- whatever else is a majority is the same by meaning
  pub unique : (d : Option V) → IsMajority alike n entry d → SameEntry means e d
  -- the definition above gives the same
  pub defined : SameEntry means e (majority alike n entry)
