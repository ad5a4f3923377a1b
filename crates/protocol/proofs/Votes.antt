-- What outvotes the faulty.
use Rattle.std.proofs.Common.{◌≡◌, ℕ, ◌<◌, ◌≤◌, Bool, not, ◌&&◌, T, Decides, arith, Option, Some}
use Rattle.quorum.specs.Counting.{count}
use Rattle.quorum.proofs.Counts.{both, count_mono, count_split}
use Rattle.values.specs.Entries.{present, carries, SameEntry}
use Rattle.values.specs.Majority.{majority}
use Rattle.values.proofs.Meanings.{same_carries}
use Rattle.values.proofs.Majorities.{majority_is, voted}

-- More than f good entries that carry x outvote at most f unsound ones: the majority is x.
pub outvoted : {V M : Type 0} (means : V → M) (alike : V → V → Bool) → ((x y : V) → Decides (alike x y) (means x ≡ means y))
    → (n f : ℕ) (entry : ℕ → Option V) (sound good : ℕ → Bool) (x : V) → count n (λ i. not (sound i)) ≤ f → f < count n good
    → ((i : ℕ) → i < n → T (sound i) → T (present (entry i)) → T (good i)) → ((i : ℕ) → i < n → T (good i) → SameEntry means (entry i) (Some x))
    → SameEntry means (majority alike n entry) (Some x)
outvoted means alike law n f entry sound good x few many silent say =
    let here : ℕ → Bool = λ i. present (entry i) in
    let parts = count_split n here sound in
    let heeded = count_mono n (λ i. here i && sound i) good (λ i l t. let b = both (here i) (sound i) t in silent i l b.1 b.0) in
    let others = count_mono n (λ i. here i && not (sound i)) (λ i. not (sound i)) (λ i l t. (both (here i) (not (sound i)) t).1) in
    let said = count_mono n good (λ i. carries alike x (entry i)) (λ i l t. same_carries means alike law x (entry i) (say i l t)) in
    (voted means alike law n entry (majority alike n entry) (majority_is means alike law n entry)).any x (omega (arith, parts, heeded, others, said))
