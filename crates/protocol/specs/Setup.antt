-- What a cluster is made with, what its calls are given, and the tables lent to it.
use Rattle.std.specs.Prelude.{ℕ, ◌<◌, Bool, not, List, length, Option}
use Rattle.quorum.specs.Counting.{bit, lowest}
use Rattle.layers.specs.Layers.{Sound}

-- What making is given, with what readings, states and commands mean and what the application and the layer do.
pub record Config (R S C : Type 0) : Type 1 where
  -- replicas, how many of them may be faulty, sensors, the mask of the faulty, and the starting state
  pub n : ℕ
  pub f : ℕ
  pub sensors : ℕ
  pub marks : ℕ
  pub start : S
  pub MR : Type 0
  pub MS : Type 0
  pub MC : Type 0
  pub means_r : R → MR
  pub means_s : S → MS
  pub means_c : C → MC
  pub alike_r : R → R → Bool
  pub alike_s : S → S → Bool
  pub alike_c : C → C → Bool
  pub stepped : S → R → S
  pub commanded : S → C
  -- the bytes of words that an instance has
  pub size : ℕ
  -- the bit that a receiver gets, from the sender, its bit, the words and the receiver
  pub delivered : ℕ → Bool → List ℕ → ℕ → Bool

module _ {R S C : Type 0} (g : Config R S C) where
  open g use {n, marks}

  -- replica i is sound
  abbrev pub sound : ℕ → Bool
  sound i = not (bit marks i)

  -- the lowest sound replica
  abbrev pub lowest_sound : ℕ
  lowest_sound = lowest n sound

  -- for each sound replica
  abbrev pub EachSound : (ℕ → Type 0) → Type 0
  EachSound holds = (i : ℕ) → i < n → Sound marks i → holds i

-- A selection by its meaning: its answer on the sensors' entries, of which the present ones are the candidates.
abbrev pub Rule : Type 0 → Type 0
Rule R = List (Option R) → ℕ

-- The lent tables.
pub record Tables (R S : Type 0) : Type 0 where
  pub state : List S
  pub own : List (Option R)
  pub agreed : List (Option R)
  pub run : List S
  pub accept : List Bool
  pub yes : List ℕ
  pub heard : List (Option R)
  pub candidates : List ℕ
  pub chosen : List ℕ

-- the lent tables, in the order in which the calls take them
abbrev pub lent : {R S : Type 0} → List S → List (Option R) → List (Option R) → List S → List Bool → List ℕ → List (Option R) → List ℕ → List ℕ → Tables R S
lent state own settled run accept ones heard could picks =
    record { state = state; own = own; agreed = settled; run = run; accept = accept; yes = ones; heard = heard; candidates = could; chosen = picks }

-- How long the lent tables are.
pub record Sizes : Type 0 where
  pub state : ℕ
  pub own : ℕ
  pub agreed : ℕ
  pub run : ℕ
  pub accept : ℕ
  pub yes : ℕ
  pub heard : ℕ
  pub candidates : ℕ
  pub chosen : ℕ

-- the sizes of the tables
abbrev pub sizes : {R S : Type 0} → Tables R S → Sizes
sizes t = record {
  state = length t.state;
  own = length t.own;
  agreed = length t.agreed;
  run = length t.run;
  accept = length t.accept;
  yes = length t.yes;
  heard = length t.heard;
  candidates = length t.candidates;
  chosen = length t.chosen;
}

-- What each call is given.
pub data Call (R S C : Type 0) : Type 0 where
  intake : Sizes → (entries : List (Option R)) → Call R S C
  filter : Sizes → (claims : List (Option R)) → Call R S C
  agree : Sizes → (words : List ℕ) → Call R S C
  select : Sizes → Rule R → Call R S C
  commit : Sizes → (states : List (Option S)) → (commands : List (Option C)) → Call R S C
  abandon : Call R S C
  look : Sizes → (replica : ℕ) → Call R S C

-- The calls since making, the latest first.
abbrev pub History : Type 0 → Type 0 → Type 0 → Type 0
History R S C = List (Call R S C)

-- Where a cluster stands in its cycle.
pub data Stage : Type 0 where
  rest : Stage
  taken_in : Stage
  filtered : Stage
  agreed : Stage
  chosen : Stage

-- What commit answers.
pub record Outcome (C : Type 0) : Type 0 where
  pub vote : Option C
  pub chosen : ℕ
  pub candidates : ℕ
  pub dispersed : ℕ

-- What a call answers: nothing, the number of a refusal, what came of a commit, or a state.
pub data Answer (S C : Type 0) : Type 0 where
  nothing : Answer S C
  refusal : ℕ → Answer S C
  outcome : Outcome C → Answer S C
  told : S → Answer S C

-- A cluster between two calls: its stage, its tables, and what the last call answered.
pub record Moment (R S C : Type 0) : Type 0 where
  pub stage : Stage
  pub tables : Tables R S
  pub answer : Answer S C
