-- A row of what was agreed on as a slice, and as what the record of select names.
use Rattle.std.proofs.Common.{◌≡◌, ℕ, ◌+◌, ◌-◌, ◌*◌, ◌<◌, ◌≤◌, List, length, get_or, take, drop, ap, ◌∙◌, arith, length-drop, length-take, Option, None}
use Rattle.std.proofs.lemmas.List.FromFn.{fill_by_all}
use Rattle.std.proofs.lemmas.List.{get_or-take, get_or-drop}
use Rattle.quorum.specs.Counting.{bit}
use Rattle.values.specs.Entries.{entry_at}
use Rattle.protocol.specs.Setup.{Rule}
use Rattle.protocol.specs.Tables.{table, Kept, ByBit, Written}
use Rattle.cluster.specs.Writing.{agreed_row, Chooses}
use Rattle.protocol.proofs.Sweep.{placed}

module _ {R : Type 0} (agreed : List (Option R)) (first sensors : ℕ) (h : first + sensors ≤ length agreed) where
  pub row_length : length (take (first + sensors - first) (drop first agreed)) ≡ sensors
  row_length = omega (arith, length-take (first + sensors - first) (drop first agreed), length-drop first agreed)

  pub row_is : (i : ℕ) → first ≡ i * sensors → take (first + sensors - first) (drop first agreed) ≡ agreed_row sensors agreed i
  unfolding table
  row_is i e =
      fill_by_all (λ (k : ℕ). entry_at agreed (i * sensors + k)) (take (first + sensors - first) (drop first agreed)) sensors None row_length
      (λ k lt. get_or-take (first + sensors - first) (drop first agreed) k None (omega arith) ∙ get_or-drop first agreed k None ∙ ap (λ (p : ℕ). entry_at agreed (p + k)) e)

pub chosen_placed : {R : Type 0} (rule : Rule R) (n sensors marks : ℕ) (agreed : List (Option R)) (before after : List ℕ) → Written n (bit marks) (Chooses rule sensors agreed) before after
    → (i : ℕ) → i < n → ByBit (bit marks i) (Kept before after i) (get_or after i 0 ≡ rule (agreed_row sensors agreed i))
chosen_placed rule n sensors marks agreed before after w i hi =
    placed (Chooses rule sensors agreed i) (get_or after i 0 ≡ rule (agreed_row sensors agreed i)) before after i (bit marks i) (λ _ h. h 0) (w i hi)
