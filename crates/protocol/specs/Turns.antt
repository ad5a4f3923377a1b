-- What each sound replica does at commit, on its tables.
use Rattle.std.specs.Prelude.{ℕ, ◌+◌, ◌*◌, Bool, true, false, cond, List, ◌==◌, nat_lt, slice_index, slice_index_or, Option, Some, None}
use Rattle.quorum.specs.Counting.{bit}
use Rattle.values.specs.Entries.{present, entry_at}
use Rattle.values.specs.Majority.{majority}
use Rattle.selections.specs.Choices.{no_sensor}
use Rattle.protocol.specs.declared.Turn.{Turn}
use Rattle.protocol.specs.declared.Turn.TheVariants.{Idle, Ran, Behind}
use Rattle.protocol.specs.Tables.{value_at}
use Rattle.protocol.specs.Setup.{Config, Tables}

-- the turn by the chosen number c, where `first` is the replica's first place: none, a sensor that it accepted, or any other
abbrev pub turn_from : ℕ → ℕ → List Bool → ℕ → Turn
turn_from sensors first accept c =
    cond (c == no_sensor) Idle (cond (nat_lt c sensors) (cond (slice_index_or accept (first + c) false) (Ran (first + c)) Behind) Behind)

-- what a replica disperses, by whether it is faulty: a sound one the state that it ran, a faulty one what it says
abbrev pub disperses : {S : Type 0} → Bool → Turn → List S → Option S → Option S
disperses true turn run said = said
disperses false Idle run said = None
disperses false (Ran p) run said = value_at run p
disperses false Behind run said = None

-- the state that a sound replica goes on with, missing where it keeps its own
abbrev pub goes_on : {S : Type 0} → Turn → List S → Option S → Option S
goes_on Idle run dispersed = None
goes_on (Ran p) run dispersed = value_at run p
goes_on Behind run dispersed = dispersed

-- whether it takes a dispersed state
abbrev pub takes : {S : Type 0} → Turn → Option S → Bool
takes Idle dispersed = false
takes (Ran p) dispersed = false
takes Behind dispersed = present dispersed

-- what a replica sends, by whether it is faulty: a sound one its command unless it is behind, a faulty one what it says
abbrev pub sends : {C : Type 0} → Bool → Turn → Option C → Option C → Option C
sends true turn command said = said
sends false Idle command said = command
sends false (Ran p) command said = command
sends false Behind command said = None

-- the command of a state
abbrev pub command_of : {S C : Type 0} → (S → C) → Option S → Option C
command_of commanded None = None
command_of commanded (Some s) = Some (commanded s)

-- the turn of i
abbrev pub turn_at : ℕ → List Bool → List ℕ → ℕ → Turn
turn_at sensors accept chosen i = turn_from sensors (i * sensors) accept (slice_index chosen i)

-- what j disperses to i, of n replicas
abbrev pub dispersal : {S : Type 0} → ℕ → ℕ → ℕ → List S → List Bool → List ℕ → List (Option S) → ℕ → ℕ → Option S
dispersal n sensors marks run accept chosen states i j = disperses (bit marks j) (turn_at sensors accept chosen j) run (entry_at states (j * n + i))

-- what j sends, of the states that are then held
abbrev pub sending : {S C : Type 0} → (S → C) → ℕ → ℕ → List Bool → List ℕ → List S → List (Option C) → ℕ → Option C
sending commanded sensors marks accept chosen held commands j =
    sends (bit marks j) (turn_at sensors accept chosen j) (command_of commanded (value_at held j)) (entry_at commands j)

-- ---- the same on a cluster's tables

module _ {R S C : Type 0} (g : Config R S C) (before : Tables R S) where
  open g use {n, sensors, marks}

  -- the turn of i
  abbrev pub turn_of : ℕ → Turn
  turn_of i = turn_from sensors (i * sensors) before.accept (slice_index before.chosen i)

  -- what j disperses to i
  abbrev pub dispersed_to : List (Option S) → ℕ → ℕ → Option S
  dispersed_to states i j = disperses (bit marks j) (turn_of j) before.run (entry_at states (j * n + i))

  -- the majority of what was dispersed to i
  abbrev pub offered : List (Option S) → ℕ → Option S
  offered states i = majority g.alike_s n (dispersed_to states i)

  -- the state that i goes on with
  abbrev pub next_state : List (Option S) → ℕ → Option S
  next_state states i = goes_on (turn_of i) before.run (offered states i)

  -- whether i takes a dispersed state
  abbrev pub took : List (Option S) → ℕ → Bool
  took states i = takes (turn_of i) (offered states i)

  -- what j sends, of the states that are then held
  abbrev pub sent : List S → List (Option C) → ℕ → Option C
  sent held commands j = sends (bit marks j) (turn_of j) (command_of g.commanded (value_at held j)) (entry_at commands j)
