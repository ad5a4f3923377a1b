use Rattle.std.proofs.Common.{◌≡◌, ℕ, zero, suc, ◌<◌, ◌≤◌, false, sym, refl, ◌∙◌, arith}
use Rattle.quorum.specs.Counting.{bit, count}
use Rattle.demo.proofs.agreement.deliver.Goals as goal

-- of four replicas only replica 3 is marked
unmarked : (i : ℕ) → i < 3 → bit 8 i ≡ false
unmarked zero l = refl
unmarked (suc zero) l = refl
unmarked (suc (suc zero)) l = refl
unmarked (suc (suc (suc i))) l = absurd (omega arith)

few : count 4 (bit 8) ≤ 1
unfolding count
few = omega arith

pub returns : goal.returns
returns g c = record { value = value; agreed = agreed }
  where
    value : (i : ℕ) → i < 3 → bit c.deliver.result i ≡ g.L.Layer.delivered c.args.layer.now 4 1 8 3 false c.args.words.now i
    value i l = c.deliver.ensures i (omega arith) (unmarked i l)

    agreed : (i k : ℕ) → i < 3 → k < 3 → bit c.deliver.result i ≡ bit c.deliver.result k
    agreed i k l m =
        value i l
        ∙ g.met.L.Layer.agreement c.args.layer.now 4 1 8 3 false c.args.words.now (omega arith, omega arith) few (omega arith) i k (omega arith) (omega arith) (unmarked i l) (unmarked k m)
        ∙ sym (value k m)
