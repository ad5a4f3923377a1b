-- The phase king, for n replicas of which at most f are faulty, n > 3f.
use Rattle.std.specs.Prelude.{ℕ, zero, suc, ◌+◌, ◌-◌, ◌*◌, Bool, true, false, cond, List, ◌==◌, nat_le}
use Rattle.quorum.specs.Counting.{bit, count}
use Rattle.layers.specs.declared.said.Said.{Said}
use Rattle.layers.specs.declared.said.Said.TheVariants.{Yes, No, Silent}
use Rattle.layers.specs.Layers.{byte_at, bit_from}

-- ---- what is said

-- it says the bit
abbrev pub says : Bool → Said → Bool
says true Yes = true
says true No = false
says true Silent = false
says false Yes = false
says false No = true
says false Silent = false

-- a bit, said
abbrev pub aloud : Bool → Said
aloud true = Yes
aloud false = No

-- a byte of votes or proposals: 1 is yes, 0 is no, and any other is silence
abbrev pub said : ℕ → Said
said byte = cond (byte == 1) Yes (cond (byte == 0) No Silent)

-- a bit that is counted at least so often, yes asked first
abbrev pub enough : ℕ → (Bool → ℕ) → Said
enough least counts = cond (nat_le least (counts true)) Yes (cond (nat_le least (counts false)) No Silent)

-- a replica takes what it heard enough of, and otherwise keeps its bit
abbrev pub takes : Said → Bool → Bool
takes Yes own = true
takes No own = false
takes Silent own = own

-- ---- the words of an instance

-- what an instance is given: its sizes, the marks of the faulty and their words
pub record Given : Type 0 where
  pub n : ℕ
  pub f : ℕ
  pub marks : ℕ
  pub words : List ℕ

-- an instance, from the numbers that a layer is handed
abbrev pub instance : ℕ → ℕ → ℕ → List ℕ → Given
instance n f marks words = record { n = n; f = f; marks = marks; words = words }

-- a phase has n² votes, n² proposals and n king bytes
abbrev pub phase_size : ℕ → ℕ
phase_size n = 2 * (n * n) + n

-- the sender's n bytes, and then f + 1 phases
abbrev pub king_size : ℕ → ℕ → ℕ
king_size n f = n + (f + 1) * phase_size n

-- where the votes of phase p stand, then its proposals, then its king's bytes
abbrev pub votes_at : Given → ℕ → ℕ
votes_at g p = g.n + p * phase_size g.n

abbrev pub proposals_at : Given → ℕ → ℕ
proposals_at g p = votes_at g p + g.n * g.n

abbrev pub king_at : Given → ℕ → ℕ
king_at g p = votes_at g p + 2 * (g.n * g.n)

-- What i hears from j in a round: a faulty j's word to i, and from a sound j what it says to all.
abbrev pub heard : Given → ℕ → (ℕ → Said) → ℕ → ℕ → Said
heard g at all i j = cond (bit g.marks j) (said (byte_at g.words (at + (j * g.n + i)))) (all j)

-- how many replicas, itself among them, tell i the bit in a round
abbrev pub tally : Given → ℕ → (ℕ → Said) → ℕ → Bool → ℕ
tally g at all i b = count g.n (λ j. says b (heard g at all i j))

-- ---- one phase p: x has the bits of the replicas, q their proposals

-- how many vote the bit to i
abbrev pub votes : Given → ℕ → (ℕ → Bool) → ℕ → Bool → ℕ
votes g p x = tally g (votes_at g p) (λ j. aloud (x j))

-- i proposes a bit with at least n - f votes
abbrev pub proposal : Given → ℕ → (ℕ → Bool) → ℕ → Said
proposal g p x i = enough (g.n - g.f) (votes g p x i)

-- how many propose the bit to i
abbrev pub proposals : Given → ℕ → (ℕ → Said) → ℕ → Bool → ℕ
proposals g p q = tally g (proposals_at g p) q

-- i takes a bit with more than f proposals
abbrev pub taken : Given → ℕ → (ℕ → Said) → (ℕ → Bool) → ℕ → Bool
taken g p q x i = takes (enough (g.f + 1) (proposals g p q i)) (x i)

-- i is firm: at least n - f proposed the bit that it now has
abbrev pub firm : Given → ℕ → (ℕ → Said) → (ℕ → Bool) → ℕ → Bool
firm g p q x i = nat_le (g.n - g.f) (proposals g p q i (taken g p q x i))

-- what the king, replica p, tells i: the bit that it took, if it is sound
abbrev pub kings_bit : Given → ℕ → (ℕ → Said) → (ℕ → Bool) → ℕ → Bool
kings_bit g p q x i = bit_from g.marks p (taken g p q x p) g.words (king_at g p + i)

-- a replica that is not firm takes the king's bit
abbrev pub settled : Given → ℕ → (ℕ → Said) → (ℕ → Bool) → ℕ → Bool
settled g p q x i = cond (firm g p q x i) (taken g p q x i) (kings_bit g p q x i)

-- the bit of i after the phase
abbrev pub phase : Given → ℕ → (ℕ → Bool) → ℕ → Bool
phase g p x = settled g p (proposal g p x) x

-- ---- the instance

-- the bits after the sender gave its own, and after k phases
abbrev pub bits_after : Given → ℕ → Bool → ℕ → ℕ → Bool
bits_after g sender own zero i = bit_from g.marks sender own g.words i
bits_after g sender own (suc k) i = phase g k (bits_after g sender own k) i

-- what i gets: its bit after f + 1 phases
abbrev pub king : ℕ → ℕ → ℕ → ℕ → Bool → List ℕ → ℕ → Bool
king n f marks sender own words = bits_after (instance n f marks words) sender own (f + 1)
