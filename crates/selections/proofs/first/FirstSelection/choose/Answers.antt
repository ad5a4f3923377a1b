use Rattle.std.proofs.Common.{◌≡◌, true, false, rules, tests}
use Rattle.std.proofs.lemmas.Iterator.{YieldsList-from_slice, IsFirst-from_position}
use Rattle.values.specs.Entries.{present}
use Rattle.selections.specs.Sensors.{first_some, first_none}
use Rattle.selections.proofs.first.FirstSelection.choose.Goals as goal

pub returns-in-Some : goal.returns-in-Some
returns-in-Some g c =
    let is = IsFirst-from_position _ _ c.position.result (λ e. present e ≡ true) (λ e. present e ≡ false) c.position.ensures.ran
    (YieldsList-from_slice c.args.readings.now (cc)) (λ x q k. search (rules, tests)) (λ x q k. search (rules, tests)) in
    first_some c.args.readings.now c.position.result c.in-Some.k is c.in-Some.is

pub returns-in-None : goal.returns-in-None
returns-in-None g c =
    let is = IsFirst-from_position _ _ c.position.result (λ e. present e ≡ true) (λ e. present e ≡ false) c.position.ensures.ran
    (YieldsList-from_slice c.args.readings.now (cc)) (λ x q k. search (rules, tests)) (λ x q k. search (rules, tests)) in
    first_none c.args.readings.now c.position.result is c.in-None.is
