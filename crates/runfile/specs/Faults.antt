-- The questions of the reader and the runner: their numbers, and who asks them.
use Rattle.std.specs.Prelude.{ℕ, Bool, true, false, Option, Some, None, Result, Ok, Err}
use Rattle.runfile.specs.declared.fault.Fault.{Fault}
use Rattle.runfile.specs.declared.fault.Source.{Source}
use Rattle.runfile.specs.declared.fault.Source.TheVariants.{Reader, Runner}
use Rattle.runfile.specs.declared.fault.Question.{Question}
use Rattle.runfile.specs.declared.fault.Question.TheVariants.{Bytes, Magic, Version, Kinds, Zeros, Start, Tag, Length, Presence, Turn, FileSize}

-- the number of a question
abbrev pub number_of : Question → ℕ
number_of Bytes = 11
number_of Magic = 12
number_of Version = 13
number_of Kinds = 14
number_of Zeros = 15
number_of Start = 16
number_of Tag = 17
number_of Length = 18
number_of Presence = 19
number_of Turn = 20
number_of FileSize = 21

-- who asks it
abbrev pub source_of : Question → Source
source_of Bytes = Reader
source_of Magic = Reader
source_of Version = Reader
source_of Kinds = Reader
source_of Zeros = Reader
source_of Start = Reader
source_of Tag = Reader
source_of Length = Reader
source_of Presence = Reader
source_of Turn = Runner
source_of FileSize = Runner

-- a no to it, asked of the record that starts at `at`
abbrev pub fault_at : Question → ℕ → Fault
fault_at q at = record { number = number_of q; at = at; source = source_of q }

-- a question, and what follows a yes
abbrev pub asked : {X : Type 0} → Bool → Question → ℕ → Result X Fault → Result X Fault
asked true q at next = next
asked false q at next = Err (fault_at q at)

-- what there is, and where there is none a no to the question
abbrev pub given : {X : Type 0} → Question → ℕ → Option X → Result X Fault
given q at (Some x) = Ok x
given q at None = Err (fault_at q at)

-- what follows an answer
abbrev pub after : {X Y E : Type 0} → Result X E → (X → Result Y E) → Result Y E
after (Ok x) next = next x
after (Err e) next = Err e
