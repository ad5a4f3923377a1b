-- Bodies: entries, one after another, each a presence byte and a thing of fixed width.
use Rattle.std.specs.Prelude.{◌≡◌, ℕ, ◌+◌, ◌*◌, ◌<◌, ◌==◌, ◌⊎◌, cond, List, length, get_or, take, drop, Option, Some, None, Result, Ok, Err}
use Rattle.std.specs.List.{slice_range}
use Rattle.std.specs.Option.{option_map}
use Rattle.runfile.specs.declared.fault.Fault.{Fault}
use Rattle.runfile.specs.declared.fault.Question.TheVariants.{Length, Presence}
use Rattle.runfile.specs.Faults.{fault_at}

module _ {W : Type 0} (size : ℕ) (decoded : List ℕ → Option (Option W)) where
  -- what so many bytes say, and nothing where there are more or fewer
  abbrev pub sized : List ℕ → Option (Option W)
  sized bytes = cond (length bytes == size) (decoded bytes) None

  -- what one entry's bytes say, an entry or nothing: 0 is a missing one, 1 a thing, and any other presence byte none
  abbrev pub entry_of : List ℕ → Option (Option W)
  entry_of bytes = cond (get_or bytes 0 0 == 0) (Some None) (cond (get_or bytes 0 0 == 1) (decoded (take size (drop 1 bytes))) None)

  -- the entry i of a body
  abbrev pub entry_in : List ℕ → ℕ → Option (Option W)
  entry_in body i = entry_of (slice_range body (i * (size + 1)) (i * (size + 1) + (size + 1)))

-- a table of entries decoded from a body: its entries are those of the body; or some entry of the body is none, which is the fault, and the table is left free but for its length
abbrev pub Decoded : {X W : Type 0} (says : X → W) (size : ℕ) (decoded : List ℕ → Option (Option W)) (body : List ℕ) (at n : ℕ) (after : List (Option X)) → Result Unit Fault → Type 0
Decoded says size decoded body at n after (Ok _) = (i : ℕ) → i < n → Some (option_map says (get_or after i None)) ≡ entry_in size decoded body i
Decoded says size decoded body at n after (Err e) = (e ≡ fault_at Presence at) × ((i : ℕ) × (i < n) × (entry_in size decoded body i ≡ None))

-- an answer of two parts: yes where both are, and otherwise a no to one of them
abbrev pub Both : (P Q : Result Unit Fault → Type 0) → Result Unit Fault → Type 0
Both P Q (Ok u) = P (Ok u) × Q (Ok u)
Both P Q (Err e) = P (Err e) ⊎ Q (Err e)

-- where the body is exactly as long as its entries, they are decoded; and otherwise that is the fault, and the table is as it was
pub record EntriesRead {X W : Type 0} (says : X → W) (size : ℕ) (decoded : List ℕ → Option (Option W)) (body : List ℕ) (at : ℕ) (before after : List (Option X)) (result : Result Unit Fault) : Type 0 where
  pub long : length after ≡ length before
  pub fits : length body ≡ length before * (size + 1) → Decoded says size decoded body at (length before) after result
  pub else : (length body ≡ length before * (size + 1) → ⊥) → (result ≡ Err (fault_at Length at)) × (after ≡ before)

-- what a commit is given: the states' part of the body, and then the commands', where it is exactly as long as both; and otherwise that is the fault, and the tables are as they were
pub record WordsRead {X Y V W : Type 0} (says_state : X → V) (state : ℕ) (decoded_state : List ℕ → Option (Option V)) (says_command : Y → W) (command : ℕ) (decoded_command : List ℕ → Option (Option W))
    (body : List ℕ) (at : ℕ) (before after : List (Option X)) (commands commands_after : List (Option Y)) (result : Result Unit Fault) : Type 0 where
  pub long : length after ≡ length before
  pub long_commands : length commands_after ≡ length commands
  pub fits : length body ≡ length before * (state + 1) + length commands * (command + 1) →
      Both (λ r. Decoded says_state state decoded_state (take (length before * (state + 1)) body) at (length before) after r)
      (λ r. Decoded says_command command decoded_command (drop (length before * (state + 1)) body) at (length commands) commands_after r) result
  pub else : (length body ≡ length before * (state + 1) + length commands * (command + 1) → ⊥) → (result ≡ Err (fault_at Length at)) × (after ≡ before) × (commands_after ≡ commands)
