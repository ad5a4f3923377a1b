-- What becomes of a replica's state at commit.
use Rattle.std.specs.Prelude.{◌≡◌, ℕ, ◌<◌, Bool, true, false, cond, not, ◌&&◌, List, Option, Some, None}
use Rattle.quorum.specs.Counting.{bit}
use Rattle.values.specs.Entries.{SameEntry}
use Rattle.values.specs.Majority.{majority}
use Rattle.protocol.specs.declared.Turn.{Turn}
use Rattle.protocol.specs.declared.Turn.TheVariants.{Idle, Ran, Behind}
use Rattle.protocol.specs.Turns.{turn_at, dispersal, goes_on, takes}
use Rattle.dispersal.specs.declared.states.Next.{Next}
use Rattle.dispersal.specs.declared.states.Next.TheVariants.{Stays, Runs, Takes}

-- the place that a turn tells is below the bound
abbrev pub RanBelow : ℕ → Turn → Type 0
RanBelow bound Idle = Unit {0}
RanBelow bound (Ran p) = p < bound
RanBelow bound Behind = Unit {0}

-- the state that it goes on with, if any
abbrev pub next_of : {S : Type 0} → Next S → Option S
next_of Stays = None
next_of (Runs s) = Some s
next_of (Takes s) = Some s

-- whether that was dispersed
abbrev pub taken_by : {S : Type 0} → Next S → Bool
taken_by Stays = false
taken_by (Runs s) = false
taken_by (Takes s) = true

module _ {S : Type 0} (alike : S → S → Bool) (n sensors marks : ℕ) (run : List S) (accept : List Bool) (chosen : List ℕ) (states : List (Option S)) (i : ℕ) where
  -- the majority of what was dispersed to i
  abbrev pub offered : Option S
  offered = majority alike n (dispersal n sensors marks run accept chosen states i)

  -- the state that a sound i goes on with
  abbrev pub onward : Option S
  onward = goes_on (turn_at sensors accept chosen i) run offered

  -- i is sound and takes a dispersed state
  abbrev pub takes_over : Bool
  takes_over = not (bit marks i) && takes (turn_at sensors accept chosen i) offered

-- What comes next is what the turn gives, and for a faulty replica nothing.
pub record Follows {S M : Type 0} (means : S → M) (faulty : Bool) (goes : Option S) (took : Bool) (next : Next S) : Type 0 where
  -- the state that it goes on with, by meaning
  pub state : SameEntry means (next_of next) (cond faulty None goes)
  -- and whether that was dispersed
  pub taken : took ≡ taken_by next
