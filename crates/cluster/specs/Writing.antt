-- Tables that are written place by place.
use Rattle.std.specs.Prelude.{◌≡◌, ℕ, ◌+◌, ◌-◌, ◌*◌, ◌/◌, ◌%◌, ◌^◌, ◌<◌, Bool, false, cond, not, ◌&&◌, ◌||◌, List, take, drop, nat_le, slice_index, slice_index_or, Option, Some, None}
use Rattle.quorum.specs.Counting.{bit, count}
use Rattle.values.specs.Entries.{present, entry_at, SameEntry, matches}
use Rattle.values.specs.Majority.{majority}
use Rattle.protocol.specs.Setup.{Rule}
use Rattle.protocol.specs.Tables.{table, value_at, MaskOf, Written}

-- the place is a faulty replica's, where each has w places
abbrev pub faulty_at : ℕ → ℕ → ℕ → Bool
faulty_at marks w p = bit marks (p / w)

-- Each place that is not skipped holds what is wanted of it, and any other its very value.
pub record Wrote {X : Type 0} (n : ℕ) (skip : ℕ → Bool) (wants : ℕ → X → Type 0) (before after : List X) : Type 0 where
  pub written : Written n skip wants before after

-- Bit j of the mask is what was answered of j, and no bit from n on is set.
pub record Masked (n : ℕ) (answers : ℕ → Bool → Type 0) (mask : ℕ) : Type 0 where
  pub below : mask < 2 ^ n
  pub bits : (j : ℕ) → j < n → answers j (bit mask j)

-- own: the entry
abbrev pub Owns : {R : Type 0} → List (Option R) → ℕ → Option R → Type 0
Owns entries p v = v ≡ entry_at entries p

-- run: skipped also where the entry is missing
abbrev pub idle_at : {R : Type 0} → ℕ → ℕ → List (Option R) → ℕ → Bool
idle_at marks sensors entries p = faulty_at marks sensors p || not (present (entry_at entries p))

-- a state stepped by an entry, missing where that is
abbrev pub stepped_by : {R S : Type 0} → (S → R → S) → S → Option R → Option S
stepped_by step s None = None
stepped_by step s (Some x) = Some (step s x)

-- run: the replica's state stepped by the entry, by meaning
abbrev pub Runs : {R S M : Type 0} → (S → M) → (S → R → S) → ℕ → List S → List (Option R) → ℕ → S → Type 0
Runs {R} {S} means step sensors state entries p v = (x : R) (s : S) → entry_at entries p ≡ Some x → value_at state (p / sensors) ≡ Some s → means v ≡ means (step s x)

-- where replica i keeps what it heard from j about sensor k, and j's claims what it tells i
abbrev pub cell : ℕ → ℕ → ℕ → ℕ → ℕ → ℕ
cell n sensors i j k = (i * n + j) * sensors + k

-- what i hears from j about k: a sound replica's own, a faulty one's claim
abbrev pub heard_from : {R : Type 0} → ℕ → ℕ → ℕ → List (Option R) → List (Option R) → ℕ → ℕ → ℕ → Option R
heard_from n sensors marks own claims i j k = cond (bit marks j) (entry_at claims (cell n sensors j i k)) (entry_at own (j * sensors + k))

-- heard: skipped where the hearer is faulty
abbrev pub deaf_at : ℕ → ℕ → ℕ → ℕ → Bool
deaf_at n sensors marks p = bit marks (p / sensors / n)

-- heard: what its place's hearer hears from its sender
abbrev pub Hears : {R : Type 0} → ℕ → ℕ → ℕ → List (Option R) → List (Option R) → ℕ → Option R → Type 0
Hears n sensors marks own claims p v = v ≡ heard_from n sensors marks own claims (p / sensors / n) (p / sensors % n) (p % sensors)

-- what i heard about k, by the sender
abbrev pub heard_row : {R : Type 0} → ℕ → ℕ → List (Option R) → ℕ → ℕ → ℕ → Option R
heard_row n sensors heard i k j = entry_at heard (cell n sensors i j k)

-- own is accepted: it is present, and at least n - f of the entries heard are the same
abbrev pub accepts_own : {R : Type 0} → (R → R → Bool) → ℕ → ℕ → Option R → (ℕ → Option R) → Bool
accepts_own alike n f None heard = false
accepts_own alike n f (Some x) heard = nat_le (n - f) (matches alike x n heard)

-- accept: whether own is accepted
abbrev pub Accepts : {R : Type 0} → (R → R → Bool) → ℕ → ℕ → ℕ → List (Option R) → List (Option R) → ℕ → Bool → Type 0
Accepts alike n f sensors own heard p v = v ≡ accepts_own alike n f (entry_at own p) (heard_row n sensors heard (p / sensors) (p % sensors))

-- what a layer delivers: from the sender, its bit, the words and the receiver
abbrev pub Delivers : Type 0
Delivers = ℕ → Bool → List ℕ → ℕ → Bool

-- the bit that j gives of sensor k: its accept, and no where it is faulty
abbrev pub bit_of : ℕ → ℕ → List Bool → ℕ → ℕ → Bool
bit_of sensors marks accept j k = not (bit marks j) && slice_index_or accept (j * sensors + k) false

-- the words of instance m, fewer where the bytes end
abbrev pub instance_words : ℕ → List ℕ → ℕ → List ℕ
instance_words size words m = take size (drop (m * size) words)

-- what i gets in instance m, whose sender is m % n and whose sensor is m / n
abbrev pub gets : Delivers → ℕ → ℕ → ℕ → ℕ → List Bool → List ℕ → ℕ → ℕ → Bool
gets delivered size n sensors marks accept words m i = delivered (m % n) (bit_of sensors marks accept (m % n) (m / n)) (instance_words size words m) i

-- what i gets of j's bit of sensor k
abbrev pub got : Delivers → ℕ → ℕ → ℕ → ℕ → List Bool → List ℕ → ℕ → ℕ → ℕ → Bool
got delivered size n sensors marks accept words i k j = delivered j (bit_of sensors marks accept j k) (instance_words size words (k * n + j)) i

-- yes: the mask of what is delivered
abbrev pub Gets : Delivers → ℕ → ℕ → ℕ → ℕ → List Bool → List ℕ → ℕ → ℕ → Type 0
Gets delivered size n sensors marks accept words p v = MaskOf n (got delivered size n sensors marks accept words (p / sensors) (p % sensors)) v

-- the entries of the senders whose bit is set
abbrev pub heeded : {R : Type 0} → (ℕ → Bool) → (ℕ → Option R) → ℕ → Option R
heeded bits heard j = cond (bits j) (heard j) None

-- with at least n - f bits set, own where accepted, else the majority of what the others of the mask said
abbrev pub agrees_on : {R : Type 0} → (R → R → Bool) → ℕ → ℕ → (ℕ → Bool) → Bool → Option R → (ℕ → Option R) → Option R
agrees_on alike n f bits accepted own heard = cond (nat_le (n - f) (count n bits)) (cond accepted own (majority alike n (heeded bits heard))) None

-- agreed: so from the tables, by meaning
abbrev pub AgreesOn : {R M : Type 0} → (R → M) → (R → R → Bool) → ℕ → ℕ → ℕ → List (Option R) → List Bool → List ℕ → List (Option R) → ℕ → Option R → Type 0
AgreesOn means alike n f sensors own accept masks heard p v =
    SameEntry means v (agrees_on alike n f (bit (slice_index masks p)) (slice_index_or accept p false) (entry_at own p) (heard_row n sensors heard (p / sensors) (p % sensors)))

-- candidates: the mask of the sensors that are agreed on
abbrev pub Could : {R : Type 0} → ℕ → List (Option R) → ℕ → ℕ → Type 0
Could sensors agreed i v = MaskOf sensors (λ k. present (entry_at agreed (i * sensors + k))) v

-- what replica i agreed on, by the sensor
abbrev pub agreed_row : {R : Type 0} → ℕ → List (Option R) → ℕ → List (Option R)
agreed_row sensors agreed i = table sensors (λ k. entry_at agreed (i * sensors + k))

-- chosen: the selection's answer on it
abbrev pub Chooses : {R : Type 0} → Rule R → ℕ → List (Option R) → ℕ → ℕ → Type 0
Chooses rule sensors agreed i v = v ≡ rule (agreed_row sensors agreed i)
