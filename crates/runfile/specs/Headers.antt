-- The header: its questions in their order, and what it then says.
use Rattle.std.specs.Prelude.{ℕ, ℤ, Bool, ◌&&◌, ◌==◌, cond, leb, List, length, get_or, Result, Ok, Err, Float}
use Rattle.std.specs.Int.{w32, cast_signed}
use Rattle.runfile.specs.declared.fault.Fault.{Fault}
use Rattle.runfile.specs.declared.fault.Question.TheVariants.{Bytes, Magic, Version, Kinds, Zeros, Start as Starting}
use Rattle.runfile.specs.declared.header.AppKind.{AppKind}
use Rattle.runfile.specs.declared.header.AppKind.TheVariants.{Wheel, Damped}
use Rattle.runfile.specs.declared.header.LayerKind.{LayerKind}
use Rattle.runfile.specs.declared.header.LayerKind.TheVariants.{Bus, King}
use Rattle.runfile.specs.declared.header.SelectionKind.{SelectionKind}
use Rattle.runfile.specs.declared.header.SelectionKind.TheVariants.{MidValue, First}
use Rattle.runfile.specs.declared.header.Start.{Start}
use Rattle.runfile.specs.declared.header.Start.TheVariants.{Count, Level}
use Rattle.runfile.specs.declared.header.Header.{Header}
use Rattle.runfile.specs.Faults.{fault_at, asked, given, after}
use Rattle.runfile.specs.Levels.{level_in}
use Rattle.runfile.specs.Numbers.{number_at}

-- a starting state: a signed 32-bit number, or a binary64 number
pub data Begins : Type 0 where
  count : ℤ → Begins
  level : Float → Begins

-- what a header says
pub record Says : Type 0 where
  pub n : ℕ
  pub f : ℕ
  pub sensors : ℕ
  pub marks : ℕ
  pub layer : LayerKind
  pub selection : SelectionKind
  pub start : Begins

-- the number in a starting state
abbrev pub begins : Start → Begins
begins (Count c) = count c.value
begins (Level l) = level l.value

-- what the reader's header says
abbrev pub says : Header → Says
says h = record { n = h.n; f = h.f; sensors = h.sensors; marks = h.marks; layer = h.layer; selection = h.selection; start = begins h.start }

-- the applications
abbrev pub app_of : ℕ → Result AppKind Fault
app_of b = cond (b == 1) (Ok Wheel) (cond (b == 2) (Ok Damped) (Err (fault_at Kinds 0)))

-- the agreement layers
abbrev pub layer_of : ℕ → Result LayerKind Fault
layer_of b = cond (b == 1) (Ok Bus) (cond (b == 2) (Ok King) (Err (fault_at Kinds 0)))

-- the selections
abbrev pub selection_of : ℕ → Result SelectionKind Fault
selection_of b = cond (b == 1) (Ok MidValue) (cond (b == 2) (Ok First) (Err (fault_at Kinds 0)))

-- byte 13, and for the wheel the last four bytes too, are zero
abbrev pub zeros_of : AppKind → List ℕ → Bool
zeros_of Wheel bytes = get_or bytes 13 0 == 0 && number_at 4 18 bytes == 0
zeros_of Damped bytes = get_or bytes 13 0 == 0

-- the starting state
abbrev pub start_of : AppKind → List ℕ → Result Begins Fault
start_of Wheel bytes = Ok (count (cast_signed w32 (number_at 4 14 bytes)))
start_of Damped bytes = after (given Starting 0 (level_in (number_at 8 14 bytes))) (λ x. Ok (level x))

-- the letters EGR
abbrev pub is_egr : List ℕ → Bool
is_egr bytes = get_or bytes 0 0 == 69 && (get_or bytes 1 0 == 71 && get_or bytes 2 0 == 82)

-- the header's questions in their order, and what it says
abbrev pub header_of : List ℕ → Result Says Fault
header_of bytes =
    asked (leb 22 (length bytes)) Bytes 0
    (asked (is_egr bytes) Magic 0
    (asked (number_at 2 3 bytes == 1) Version 0
    (after (app_of (get_or bytes 10 0)) (λ app.
    after (layer_of (get_or bytes 11 0)) (λ layer.
    after (selection_of (get_or bytes 12 0)) (λ selection.
    asked (zeros_of app bytes) Zeros 0
    (after (start_of app bytes) (λ start.
    Ok (record { n = get_or bytes 5 0; f = get_or bytes 6 0; sensors = get_or bytes 7 0; marks = number_at 2 8 bytes; layer = layer; selection = selection; start = start })))))))))
