-- The reference model: what the calls are given, worked out once for all replicas.
use Rattle.std.specs.Prelude.{ℕ, ◌+◌, ◌-◌, ◌*◌, Bool, true, false, cond, ◌&&◌, List, [], ◌∷◌, length, take, drop, ◌==◌, nat_le, nat_lt, Option, Some, None}
use Rattle.quorum.specs.Counting.{bit, count, lowest}
use Rattle.values.specs.Entries.{entry_at, matches}
use Rattle.values.specs.Majority.{majority}
use Rattle.selections.specs.Choices.{no_sensor}
use Rattle.protocol.specs.Tables.{table}
use Rattle.protocol.specs.Setup.{Config, sound, lowest_sound, Rule, Sizes, Call, intake, filter, agree, select, commit, abandon, look, History, Stage, rest, taken_in, filtered, agreed, chosen}

-- ---- what a replica works out, on its tables as in the model

module _ {R S C : Type 0} (g : Config R S C) where
  open g use {n, f, alike_r, size, delivered}

  -- own is accepted: it is present, and at least n − f of the entries heard are the same
  abbrev pub accepts : Option R → (ℕ → Option R) → Bool
  accepts None heard = false
  accepts (Some x) heard = nat_le (n - f) (matches alike_r x n heard)

  -- the words of an instance, fewer where the bytes end
  abbrev pub words_of : List ℕ → ℕ → List ℕ
  words_of words instance = take size (drop (instance * size) words)

  -- the bit that i gets of j's accept of sensor k; a faulty j has no for it
  abbrev pub delivers : List ℕ → (ℕ → ℕ → Bool) → ℕ → ℕ → ℕ → Bool
  delivers words accept i k j = delivered j (sound g j && accept j k) (words_of words (k * n + j)) i

  -- with at least n − f bits set, own where accepted, else the majority of heard from all whose bit is set
  abbrev pub agrees : (ℕ → Bool) → Bool → Option R → (ℕ → Option R) → Option R
  agrees bits accepted own heard =
      cond (nat_le (n - f) (count n bits)) (cond accepted own (majority alike_r n (λ j. cond (bits j) (heard j) None))) None

-- ---- the model

-- The common state, and what the open cycle was given so far.
pub record Model (R S : Type 0) : Type 0 where
  pub stage : Stage
  pub state : S
  pub entries : List (Option R)
  pub claims : List (Option R)
  pub words : List ℕ
  pub rule : Rule R

-- no cycle is open
abbrev pub resting : {R S : Type 0} → S → Model R S
resting s = record { stage = rest; state = s; entries = []; claims = []; words = []; rule = λ _. no_sensor }

module _ {R S C : Type 0} (g : Config R S C) (p : Model R S) where
  open g use {n, f, sensors, marks}

  -- what i gets from sensor k
  abbrev pub own : ℕ → ℕ → Option R
  own i k = entry_at p.entries (i * sensors + k)

  -- what i hears from j about k
  abbrev pub heard : ℕ → ℕ → ℕ → Option R
  heard i j k = cond (bit marks j) (entry_at p.claims ((j * n + i) * sensors + k)) (own j k)

  -- i accepts what it gets from k
  unfoldable pub accept : ℕ → ℕ → Bool
  accept i k = accepts g (own i k) (λ j. heard i j k)

  -- bit j of yes at replica i and sensor k
  unfoldable pub yes_bit : ℕ → ℕ → ℕ → Bool
  yes_bit i k j = delivers g p.words accept i k j

  -- sensor k is a candidate
  unfoldable pub is_candidate : ℕ → Bool
  is_candidate k = nat_le (n - f) (count n (yes_bit (lowest_sound g) k))

  -- the lowest sound replica that accepts sensor k
  abbrev pub acceptor : ℕ → ℕ
  acceptor k = lowest n (λ i. sound g i && accept i k)

  -- the reading of a candidate k: what that replica gets from it
  abbrev pub reading : ℕ → Option R
  reading k = own (acceptor k) k

  -- the candidates with their readings
  unfoldable pub readings : List (Option R)
  readings = table sensors (λ k. cond (is_candidate k) (reading k) None)

  -- the selection's answer on the readings
  abbrev pub chosen_sensor : ℕ
  chosen_sensor = p.rule readings

  -- its reading, missing where no sensor is chosen
  abbrev pub chosen_reading : Option R
  chosen_reading = entry_at readings chosen_sensor

-- ---- the questions, and the number of the first that is answered no

-- A call is granted, or refused with a number.
pub data Verdict : Type 0 where
  granted : Verdict
  refused : ℕ → Verdict

-- the next question, where this one is answered yes
abbrev pub ask : Bool → ℕ → Verdict → Verdict
ask true number next = next
ask false number next = refused number

-- a lent table has another size
abbrev pub tables_size : ℕ
tables_size = 7

-- an input has another size
abbrev pub input_size : ℕ
input_size = 8

-- there is no such replica
abbrev pub replica_number : ℕ
replica_number = 9

-- the replica is faulty
abbrev pub replica_faulty : ℕ
replica_faulty = 10

module _ {R S C : Type 0} (g : Config R S C) where
  open g use {n, sensors}

  -- every lent table has its size
  unfoldable pub tables_fit : Sizes → Bool
  tables_fit z =
      z.state == n && z.own == n * sensors && z.agreed == n * sensors && z.run == n * sensors && z.accept == n * sensors
      && z.yes == n * sensors && z.heard == n * n * sensors && z.candidates == n && z.chosen == n

  -- the questions of each call in their order
  unfoldable pub verdict : Call R S C → Verdict
  verdict (intake z es) = ask (tables_fit z) tables_size (ask (length es == n * sensors) input_size granted)
  verdict (filter z cs) = ask (tables_fit z) tables_size (ask (length cs == n * n * sensors) input_size granted)
  verdict (agree z ws) = ask (tables_fit z) tables_size granted
  verdict (select z r) = ask (tables_fit z) tables_size granted
  verdict (commit z ss cs) = ask (tables_fit z) tables_size (ask (length ss == n * n && length cs == n) input_size granted)
  verdict abandon = granted
  verdict (look z i) = ask (tables_fit z) tables_size (ask (nat_lt i n) replica_number (ask (sound g i) replica_faulty granted))

  -- ---- what the calls change

  -- the state after a reading, the same without one
  abbrev pub step_by : S → Option R → S
  step_by s None = s
  step_by s (Some x) = g.stepped s x

  -- what an accepted call changes
  unfoldable pub advance : Call R S C → Model R S → Model R S
  advance (intake z es) p = record { stage = taken_in; state = p.state; entries = es; claims = p.claims; words = p.words; rule = p.rule }
  advance (filter z cs) p = record { stage = filtered; state = p.state; entries = p.entries; claims = cs; words = p.words; rule = p.rule }
  advance (agree z ws) p = record { stage = agreed; state = p.state; entries = p.entries; claims = p.claims; words = ws; rule = p.rule }
  advance (select z r) p = record { stage = chosen; state = p.state; entries = p.entries; claims = p.claims; words = p.words; rule = r }
  advance (commit z ss cs) p = resting (step_by p.state (chosen_reading g p))
  advance abandon p = resting p.state
  advance (look z i) p = p

-- the stages in their order
abbrev pub order : Stage → ℕ
order rest = 0
order taken_in = 1
order filtered = 2
order agreed = 3
order chosen = 4

-- the two are the same stage
abbrev pub is_stage : Stage → Stage → Bool
is_stage s t = order s == order t

-- each call has its stage
unfoldable pub in_turn : {R S C : Type 0} → Call R S C → Stage → Bool
in_turn (intake z es) s = is_stage s rest
in_turn (filter z cs) s = is_stage s taken_in
in_turn (agree z ws) s = is_stage s filtered
in_turn (select z r) s = is_stage s agreed
in_turn (commit z ss cs) s = is_stage s chosen
in_turn abandon s = nat_lt 0 (order s)
in_turn (look z i) s = is_stage s rest

module _ {R S C : Type 0} (g : Config R S C) where
  -- what the call changes, which is nothing where it is refused
  abbrev pub decided : Verdict → Call R S C → Model R S → Model R S
  decided granted c p = advance g c p
  decided (refused number) c p = p

  -- The model after the calls; one out of turn is passed over.
  unfoldable pub model : History R S C → Model R S
  model [] = resting g.start
  model (c ∷ h) = cond (in_turn c (model h).stage) (decided (verdict g c) c (model h)) (model h)
