-- What is sent, place by place, and that a minority of liars does not turn the vote.
use Rattle.std.proofs.Common.{◌≡◌, ℕ, zero, suc, ◌<◌, Bool, true, cond, not, T, List, [], ◌∷◌, map, length, get_or, sym, refl, ap, ◌∙◌, subst, arith, Option, Some}
use Rattle.std.proofs.lemmas.Bool.{not-true}
use Rattle.std.proofs.lemmas.List.{length-map}
use Rattle.quorum.specs.Counting.{count}
use Rattle.quorum.proofs.Counts.{yes, is_yes, count_le, count_mono, count_same}
use Rattle.values.specs.Entries.{present, carries}
use Rattle.values.specs.Majority.{Most}
use Rattle.applications.specs.Wheel.{torque_of}
use Rattle.applications.specs.declared.wheel.Count.{Count}
use Rattle.applications.specs.declared.wheel.Torque.{Torque}
use Rattle.demo.specs.Processors.{lie, sent, sent_at, sound_at, Hold, MostSound, after, taken, reading_of, CarriedOn}
use Rattle.demo.specs.declared.processors.Processor.{Processor}

pub sent_read : (ps : List Processor) (i : ℕ) (d : Processor) → i < length ps → sent_at ps i ≡ Some (sent (get_or ps i d))
sent_read [] i d l = absurd (omega arith)
sent_read (p ∷ ps) zero d l = refl
sent_read (p ∷ ps) (suc i) d l = sent_read ps i d (omega arith)

-- a sound processor sends the command of the common state
told : (p : Processor) (s : Count) → T (not p.lies) → p.state ≡ s → sent p ≡ record { value = torque_of s.value }
told p s t e =
    ap (λ (b : Bool). record { value = cond b lie (torque_of p.state.value) }) (not-true _ (is_yes _ t)) ∙ ap (λ (c : Count). record { value = torque_of c.value }) e

pub sound_sent : (ps : List Processor) (s : Count) → Hold ps s → (i : ℕ) → T (sound_at ps i) → sent_at ps i ≡ Some record { value = torque_of s.value }
sound_sent [] s h i t = absurd t
sound_sent (p ∷ ps) s h zero t = ap (λ (c : Torque). Some c) (told p s t (h.0 t))
sound_sent (p ∷ ps) s h (suc i) t = sound_sent ps s h.1 i t

-- so more than half of the entries carry it
pub sound_most : (alike : Torque → Torque → Bool) → ((x : Torque) → alike x x ≡ true) → (ps : List Processor) (s : Count) → Hold ps s → MostSound ps
    → Most alike (length ps) (sent_at ps) record { value = torque_of s.value }
sound_most alike same ps s h most =
    let c : Torque = record { value = torque_of s.value } in
    let carried = count_mono (length ps) (sound_at ps) (λ i. carries alike c (sent_at ps i))
    (λ i l t. subst (λ (e : Option Torque). T (carries alike c e)) (sym (sound_sent ps s h i t)) (yes _ (same c))) in
    omega (arith, carried, count_le (length ps) (λ i. present (sent_at ps i)))

-- ---- a cycle

hold_taken : (reading : Option Count) (ps : List Processor) (s : Count) → Hold ps s → Hold (map (taken reading) ps) (after s reading)
hold_taken reading [] s h = tt
hold_taken reading (p ∷ ps) s h = (λ t. ap (λ (c : Count). after c reading) (h.0 t), hold_taken reading ps s h.1)

sound_taken : (reading : Option Count) (ps : List Processor) (i : ℕ) → sound_at (map (taken reading) ps) i ≡ sound_at ps i
sound_taken reading [] i = refl
sound_taken reading (p ∷ ps) zero = refl
sound_taken reading (p ∷ ps) (suc i) = sound_taken reading ps i

most_taken : (reading : Option Count) (ps : List Processor) → MostSound ps → MostSound (map (taken reading) ps)
most_taken reading ps most =
    let n = length-map ps (taken reading) in
    let same = count_same (length ps) (sound_at (map (taken reading) ps)) (sound_at ps) (λ i l. sound_taken reading ps i) in
    let moved = ap (λ (k : ℕ). count k (sound_at (map (taken reading) ps))) n in
    omega (arith, n, same, moved, most)

pub carried_on : (ps qs : List Processor) (readings : List (Option Count)) (vote : Option Torque)
    → qs ≡ map (taken (reading_of readings)) ps
    → ((s : Count) → Hold qs s → MostSound qs → vote ≡ Some record { value = torque_of s.value })
    → (s : Count) → Hold ps s → MostSound ps → CarriedOn readings qs vote s
carried_on ps qs readings vote is votes s hold most =
    let holds : Hold qs (after s (reading_of readings)) =
    subst (λ (zs : List Processor). Hold zs (after s (reading_of readings))) (sym is) (hold_taken (reading_of readings) ps s hold) in
    record { holds = holds; voted = votes (after s (reading_of readings)) holds (subst MostSound (sym is) (most_taken (reading_of readings) ps most)) }
