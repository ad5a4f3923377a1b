-- A call's record from what it did: the run goes on.
use Rattle.std.proofs.Common.{◌≡◌, true, [], refl, ◌∙◌, subst}
use Rattle.protocol.specs.Setup.{Tables, sizes, Call, abandon, Stage, rest, Answer, nothing, refusal}
use Rattle.protocol.specs.Model.{granted, refused, verdict, in_turn}
use Rattle.protocol.specs.Calls.{Makes}
use Rattle.protocol.specs.Runs.{On, Valid, Owed, Does, made}
use Rattle.protocol.specs.Clusters.{Semantics, Cluster, config, Came, NeverPart, Carries}
use Rattle.protocol.proofs.Clusters.{carries, carries_refused}
use Rattle.questions.specs.Questions.{Admitted, fits}
use Rattle.questions.specs.declared.Parameters.{Parameters}
use Rattle.questions.specs.Refusals.{number_of}
use Rattle.questions.specs.declared.Refusal.{Refusal}
use Rattle.questions.proofs.Fitting.{fits_fit, making_granted}
use Rattle.cluster.specs.Answers.{kept, at, here, Made, Accepted, Rejected, Abandoned, Unseen}

-- the parameters are the numbers that were given
pub same_numbers : {P L : Type 0} (given : Cluster P L) (p : Parameters) → Admitted given.n given.f given.sensors given.marks p → kept p given.app given.layer ≡ given
same_numbers {P} {L} given p ok =
    let e : ◌≡◌ {A = Cluster P L} (kept p given.app given.layer) (record { n = given.n; f = given.f; sensors = given.sensors; marks = given.marks; app = given.app; layer = given.layer }) =
    cc (ok.n_is, ok.f_is, ok.sensors_is, ok.marks_is) in e

-- from the starting state in all places
pub started : {P L R S C : Type 0} (w : Semantics P L R S C) → NeverPart w → (given : Cluster P L) (start : S) (t t' : Tables R S) (p : Parameters)
    → Admitted given.n given.f given.sensors given.marks p → fits given.n given.sensors (sizes t) ≡ true → sizes t' ≡ sizes t
    → ((last : Answer S C) → Makes (config w given start) (at rest t' last)) → Made w given start t t' (kept p given.app given.layer)
started {P} {L} w never given start t t' p ok fit long makes =
    let c = kept p given.app given.layer in
    let same = same_numbers given p ok in
    let valid : Valid (config w c start) = record {
      many = p.sizable.0;
      sized = (p.sizable.1, p.bearable.1);
      some = p.bearable.0;
      sensed = p.sizable.2;
      sensors = p.sizable.3;
      marked = p.bearable.2;
      faulty = p.bearable.3;
    } in
    record {
      asked = making_granted _ _ ok.asked fit;
      kept = same;
      valid = subst (λ (x : Cluster P L). Valid (config w x start)) same valid;
      fit = fits_fit (config w given start) (sizes t) ∙ fit;
      sizes = long;
      makes = makes;
      begins = λ last.
          let came : Came w given start [] (here c rest t' last) = record { kept = same; run = made (subst (λ (x : Cluster P L). Valid (config w x start)) same valid) (makes last) } in
          (came, never given start [] (here c rest t' last) came);
    }

module _ {P L R S C : Type 0} (w : Semantics P L R S C) (never : NeverPart w) (call : Call R S C) (from : Stage) (turn : in_turn call from ≡ true) (c : Cluster P L) where
  pub accepted : (to : Stage) (t t' : Tables R S) (answer : Answer S C) (c' : Cluster P L) → On t call → ((start : S) → Owed (config w c start) call)
      → ((start : S) → verdict (config w c start) call ≡ granted) → c' ≡ c → ((start : S) (last : Answer S C) → Does (config w c start) call (at from t last) (at to t' answer))
      → Accepted w call from to c t t' answer c'
  accepted to t t' answer c' on owed asked kept does = record {
    asked = asked;
    kept = kept;
    does = does;
    carries = carries w never call (here c from t) (here c' to t' answer) (λ last. turn) (λ last. on) (λ start last. owed start) (λ start last. asked start) (λ last. kept) does;
  }

  module _ (why : Refusal) (asked : (start : S) → verdict (config w c start) call ≡ refused (number_of why)) where
    pub goes_on : (own : Tables R S) → Carries w call (here c from own) (here c from own (refusal (number_of why)))
    goes_on own = carries_refused w never call (here c from own) (here c from own (refusal (number_of why))) (λ last. turn) (number_of why) (λ start last. asked start) (λ last. refl)

    pub rejected : {X : Type 0} (t t' : Tables R S) → t' ≡ t → (cluster : X) → Rejected w call from c t t' cluster cluster why
    rejected t t' same cluster = record { asked = asked; kept = refl; tables = same; carries = goes_on }

-- a look that is refused
pub unseen : {P L R S C : Type 0} (w : Semantics P L R S C) → NeverPart w → (call : Call R S C) → in_turn call rest ≡ true → (c : Cluster P L) (why : Refusal)
    → ((start : S) → verdict (config w c start) call ≡ refused (number_of why)) → Unseen w call c why
unseen w never call turn c why asked = record { asked = asked; carries = goes_on w never call rest turn c why asked }

-- from any stage inside a cycle
pub abandoned : {P L R S C : Type 0} (w : Semantics P L R S C) → NeverPart w → (from : Stage) → in_turn {R = R} {S = S} {C = C} abandon from ≡ true → (c c' : Cluster P L) → c' ≡ c → Abandoned w from c c'
unfolding verdict
abandoned w never from turn c c' same t = accepted w never abandon from turn c rest t t nothing c' tt (λ start. tt) (λ start. refl) same (λ start last. record { stage = refl; tables = refl })
