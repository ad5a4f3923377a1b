-- Entries by meaning.
use Rattle.std.proofs.Common.{◌≡◌, Bool, T, Decides, sym, refl, ap, ◌∙◌, Option, Some, None}
use Rattle.quorum.proofs.Counts.{yes, is_yes, bool_same}
use Rattle.values.specs.Entries.{present, carries, SameEntry}

module _ {V M : Type 0} (means : V → M) where
  pub same_refl : (e : Option V) → SameEntry means e e
  same_refl None = tt
  same_refl (Some x) = refl

  pub same_sym : (e d : Option V) → SameEntry means e d → SameEntry means d e
  same_sym None None h = tt
  same_sym None (Some y) h = absurd h
  same_sym (Some x) None h = absurd h
  same_sym (Some x) (Some y) h = sym h

  pub same_trans : (e d c : Option V) → SameEntry means e d → SameEntry means d c → SameEntry means e c
  same_trans None None c h k = k
  same_trans None (Some y) c h k = absurd h
  same_trans (Some x) None c h k = absurd h
  same_trans (Some x) (Some y) None h k = absurd k
  same_trans (Some x) (Some y) (Some z) h k = h ∙ k

  pub same_present : (e d : Option V) → SameEntry means e d → present e ≡ present d
  same_present None None h = refl
  same_present None (Some y) h = absurd h
  same_present (Some x) None h = absurd h
  same_present (Some x) (Some y) h = refl

  -- where only equal values mean the same, entries that are the same are equal
  pub same_equal : ((x y : V) → means x ≡ means y → x ≡ y) → (e d : Option V) → SameEntry means e d → e ≡ d
  same_equal equal None None h = refl
  same_equal equal None (Some y) h = absurd h
  same_equal equal (Some x) None h = absurd h
  same_equal equal (Some x) (Some y) h = ap (λ (z : V). Some z) (equal x y h)

module _ {V M : Type 0} (means : V → M) (alike : V → V → Bool) (law : (x y : V) → Decides (alike x y) (means x ≡ means y)) where
  pub carries_same : (x : V) (e : Option V) → T (carries alike x e) → SameEntry means e (Some x)
  carries_same x None t = absurd t
  carries_same x (Some y) t = sym ((law x y).0 (is_yes _ t))

  pub same_carries : (x : V) (e : Option V) → SameEntry means e (Some x) → T (carries alike x e)
  same_carries x None h = absurd h
  same_carries x (Some y) h = yes _ ((law x y).1 (sym h))

  -- what carries a value is present
  pub carries_present : (x : V) (e : Option V) → T (carries alike x e) → T (present e)
  carries_present x None t = t
  carries_present x (Some y) t = tt

  -- only meanings count
  pub carries_by : (x y : V) (e d : Option V) → means x ≡ means y → SameEntry means e d → carries alike x e ≡ carries alike y d
  carries_by x y e d p q =
      bool_same (carries alike x e) (carries alike y d)
      (λ t. same_carries y d (same_trans means d (Some x) (Some y) (same_trans means d e (Some x) (same_sym means e d q) (carries_same x e t)) p))
      (λ t. same_carries x e (same_trans means e (Some y) (Some x) (same_trans means e d (Some y) q (carries_same y d t)) (sym p)))

  pub carries_at : (x : V) (e d : Option V) → SameEntry means d e → carries alike x e ≡ carries alike x d
  carries_at x e d h = carries_by x x e d refl (same_sym means d e h)
