-- What the processors of the demonstration send.
use Rattle.std.specs.Prelude.{◌≡◌, ℕ, zero, suc, ◌*◌, ◌<◌, Bool, false, cond, not, T, List, [], ◌∷◌, length, ℤ, pos, Option, Some, None}
use Rattle.quorum.specs.Counting.{count}
use Rattle.values.specs.Entries.{entry_at}
use Rattle.values.specs.Majority.{Voted}
use Rattle.selections.specs.Rules.{mid_value}
use Rattle.applications.specs.Counts.{leq_count, same_torque}
use Rattle.applications.specs.Wheel.{turned, torque_of}
use Rattle.applications.specs.declared.wheel.Count.{Count}
use Rattle.applications.specs.declared.wheel.Torque.{Torque}
use Rattle.demo.specs.declared.processors.Processor.{Processor}

-- what a lying processor sends, whatever its state
abbrev pub lie : ℤ
lie = pos 7

-- the command that a processor sends
abbrev pub sent : Processor → Torque
sent p = record { value = cond p.lies lie (torque_of p.state.value) }

-- what each of a list of processors sends
abbrev pub sent_at : List Processor → ℕ → Option Torque
sent_at [] i = None
sent_at (p ∷ ps) zero = Some (sent p)
sent_at (p ∷ ps) (suc i) = sent_at ps i

-- the processor at place i is there, and tells the truth
abbrev pub sound_at : List Processor → ℕ → Bool
sound_at [] i = false
sound_at (p ∷ ps) zero = not p.lies
sound_at (p ∷ ps) (suc i) = sound_at ps i

-- every sound processor holds the state s
abbrev pub Hold : List Processor → Count → Type 0
Hold [] s = Unit {0}
Hold (p ∷ ps) s = (T (not p.lies) → p.state ≡ s) × Hold ps s

-- a state after a reading, if there is one
abbrev pub after : Count → Option Count → Count
after s None = s
after s (Some x) = record { value = turned s.value x.value }

-- more than half of the processors are sound
abbrev pub MostSound : List Processor → Type 0
MostSound ps = length ps < 2 * count (length ps) (sound_at ps)

-- the processor after a reading
abbrev pub taken : Option Count → Processor → Processor
taken reading p = record { state = after p.state reading; lies = p.lies }

-- the sensor that the mid-value rule chooses, and its reading
abbrev pub chosen_of : List (Option Count) → ℕ
chosen_of = mid_value leq_count

abbrev pub reading_of : List (Option Count) → Option Count
reading_of readings = entry_at readings (chosen_of readings)

-- the majority of what the processors send
abbrev pub VotedOn : List Processor → Option Torque → Type 0
VotedOn ps = Voted (λ (t : Torque). t.value) same_torque (length ps) (sent_at ps)

-- A cycle carries a common state on: the sound processors hold it stepped by the chosen reading, and its command is the vote.
pub record CarriedOn (readings : List (Option Count)) (ps : List Processor) (vote : Option Torque) (s : Count) : Type 0 where
  pub holds : Hold ps (after s (reading_of readings))
  pub voted : vote ≡ Some record { value = torque_of (after s (reading_of readings)).value }
