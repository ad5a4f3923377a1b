-- The code's tables as the functions that the algorithm speaks of.
use Rattle.std.specs.Prelude.{ℕ, ◌+◌, Bool, true, false, cond, List, slice_index_or}
use Rattle.layers.specs.declared.layer.Instance.{Instance}
use Rattle.layers.specs.declared.said.Said.{Said}
use Rattle.layers.specs.declared.said.Said.TheVariants.{Silent}
use Rattle.layers.specs.declared.said.Taken.{Taken}
use Rattle.layers.specs.declared.said.Tally.{Tally}
use Rattle.layers.specs.King.{Given, taken, firm, king_at}
use Rattle.layers.specs.Layers.{bit_from}

-- what an instance is given
abbrev pub given : Instance → Given
given s = record { n = s.n; f = s.f; marks = s.marks; words = s.words.now }

-- a replica's bit, and what it says, by its place in a table
abbrev pub bits_of : List Bool → ℕ → Bool
bits_of bits j = slice_index_or bits j false

abbrev pub said_of : List Said → ℕ → Said
said_of props j = slice_index_or props j Silent

-- what i takes from the proposals q in phase p
abbrev pub taken_at : Given → ℕ → (ℕ → Said) → (ℕ → Bool) → ℕ → Taken
taken_at g p q x i = record { bit = taken g p q x i; firm = firm g p q x i }

-- the bit of i, which took t, once the king p has given `kings` to all
abbrev pub settled_to : Given → ℕ → Taken → Bool → ℕ → Bool
settled_to g p t kings i = cond t.firm t.bit (bit_from g.marks p kings g.words (king_at g p + i))

-- a tally's count of a bit
abbrev pub counted : Tally → Bool → ℕ
counted t true = t.yes
counted t false = t.no
