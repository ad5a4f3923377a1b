-- The promise over the runs of a cluster, and a call's contract from what it does.
use Rattle.std.proofs.Common.{◌≡◌, ℕ, true, [], ◌∷◌, refl, ◌∙◌, subst}
use Rattle.protocol.specs.Setup.{Call, History, Answer}
use Rattle.protocol.specs.Model.{granted, refused, verdict, in_turn}
use Rattle.protocol.specs.Calls.{Makes}
use Rattle.protocol.specs.Runs.{On, refusing, Valid, Lawful, Owed, Does, made, done, declined}
use Rattle.protocol.specs.Clusters.{Semantics, Cluster, Snapshot, config, Came, ConsistentAt, NeverPart, Throughout, Carries}
use Rattle.protocol.proofs.Runs as runs

-- Sound replicas never part, where values, application and layer keep their laws.
pub runs_never_part : {P L R S C : Type 0} (w : Semantics P L R S C) → ((c : Cluster P L) (start : S) → Valid (config w c start) → Lawful (config w c start)) → NeverPart w
runs_never_part w laws origin start h q came =
    let g = config w origin start in
    runs.runs_never_part g (laws origin start (runs.valid_of g came.run)) h q.moment came.run

module _ {P L R S C : Type 0} (w : Semantics P L R S C) (never : NeverPart w) where
  -- making begins a run
  pub begins : (start : S) (q : Snapshot P L R S C) → Valid (config w q.cluster start) → Makes (config w q.cluster start) q.moment
      → Came w q.cluster start [] q × ConsistentAt w q.cluster start [] q
  begins start q valid makes =
      let came : Came w q.cluster start [] q = record { kept = refl; run = made valid makes } in
      (came, never q.cluster start [] q came)

  -- a run came through every moment before
  pub throughout : (origin : Cluster P L) (start : S) (h : History R S C) (q : Snapshot P L R S C) → Came w origin start h q → Throughout w origin start h
  throughout origin start h q came later past e =
      let g = config w origin start in
      let b = runs.before g later past h q.moment came.run e in
      let q₀ : Snapshot P L R S C = record { cluster = origin; moment = b.0 } in
      let came₀ : Came w origin start past q₀ = record { kept = refl; run = b.1 } in
      (q₀, came₀, never origin start past q₀ came₀)

  module _ (c : Call R S C) (q : Answer S C → Snapshot P L R S C) (q' : Snapshot P L R S C) where
    -- an accepted call
    pub carries : ((last : Answer S C) → in_turn c (q last).moment.stage ≡ true) → ((last : Answer S C) → On (q last).moment.tables c) → ((start : S) (last : Answer S C) → Owed (config w (q last).cluster start) c)
        → ((start : S) (last : Answer S C) → verdict (config w (q last).cluster start) c ≡ granted) → ((last : Answer S C) → q'.cluster ≡ (q last).cluster)
        → ((start : S) (last : Answer S C) → Does (config w (q last).cluster start) c (q last).moment q'.moment) → Carries w c q q'
    carries turn on owed v e d origin start h last came =
        let came' : Came w origin start (c ∷ h) q' = record {
          kept = e last ∙ came.kept;
          run = done c came.run (turn last) (on last)
              (subst (λ (x : Cluster P L). Owed (config w x start) c) came.kept (owed start last))
              (subst (λ (x : Cluster P L). verdict (config w x start) c ≡ granted) came.kept (v start last))
              (subst (λ (x : Cluster P L). Does (config w x start) c (q last).moment q'.moment) came.kept (d start last));
        } in
        (came', never origin start (c ∷ h) q' came')

    -- a refused call, on any tables
    pub carries_refused : ((last : Answer S C) → in_turn c (q last).moment.stage ≡ true) → (k : ℕ) → ((start : S) (last : Answer S C) → verdict (config w (q last).cluster start) c ≡ refused k)
        → ((last : Answer S C) → q' ≡ record { cluster = (q last).cluster; moment = refusing k (q last).moment }) → Carries w c q q'
    carries_refused turn k v e origin start h last came =
        let refusal : Snapshot P L R S C = record { cluster = (q last).cluster; moment = refusing k (q last).moment } in
        let came' : Came w origin start (c ∷ h) refusal = record {
          kept = came.kept;
          run = declined c came.run (turn last) (subst (λ (x : Cluster P L). verdict (config w x start) c ≡ refused k) came.kept (v start last));
        } in
        rw (e last) (came', never origin start (c ∷ h) refusal came')
