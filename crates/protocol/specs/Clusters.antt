-- Runs of a cluster, and what the contract of each call says of them.
use Rattle.std.specs.Prelude.{◌≡◌, ℕ, Bool, List, ◌∷◌, ◌++◌}
use Rattle.layers.specs.declared.layer.Layer.{Ghosts as LayerGhosts}
use Rattle.values.specs.declared.Value.{Ghosts as ValueGhosts}
use Rattle.values.specs.declared.Application.{Ghosts as ApplicationGhosts}
use Rattle.protocol.specs.Setup.{Config, Call, History, Answer, Moment}
use Rattle.protocol.specs.Consistency.{Consistent}
use Rattle.protocol.specs.Runs.{Run}

-- What values, an application of kind P and a layer of kind L mean.
pub record Semantics (P L R S C : Type 0) : Type 1 where
  pub MR : Type 0
  pub MS : Type 0
  pub MC : Type 0
  pub means_r : R → MR
  pub means_s : S → MS
  pub means_c : C → MC
  pub alike_r : R → R → Bool
  pub alike_s : S → S → Bool
  pub alike_c : C → C → Bool
  pub stepped : P → S → R → S
  pub commanded : P → S → C
  pub size : L → ℕ → ℕ → ℕ
  pub delivered : L → ℕ → ℕ → ℕ → ℕ → Bool → List ℕ → ℕ → Bool

-- by the ghost members of the traits
abbrev pub semantics : {P L R S C : Type 0} → ValueGhosts R → ValueGhosts S → ValueGhosts C → ApplicationGhosts P R S C → LayerGhosts L → Semantics P L R S C
semantics reading state command application layer = record {
  MR = reading.Meaning;
  MS = state.Meaning;
  MC = command.Meaning;
  means_r = reading.means;
  means_s = state.means;
  means_c = command.means;
  alike_r = reading.alike;
  alike_s = state.alike;
  alike_c = command.alike;
  stepped = application.stepped;
  commanded = application.commanded;
  size = layer.size;
  delivered = layer.delivered;
}

-- What a cluster keeps for life.
pub record Cluster (P L : Type 0) : Type 0 where
  pub n : ℕ
  pub f : ℕ
  pub sensors : ℕ
  pub marks : ℕ
  pub app : P
  pub layer : L

-- A cluster at a moment.
pub record Snapshot (P L R S C : Type 0) : Type 0 where
  pub cluster : Cluster P L
  pub moment : Moment R S C

module _ {P L R S C : Type 0} (w : Semantics P L R S C) where
  -- what making was given
  abbrev pub config : Cluster P L → S → Config R S C
  config c start = record {
    n = c.n;
    f = c.f;
    sensors = c.sensors;
    marks = c.marks;
    start = start;
    MR = w.MR;
    MS = w.MS;
    MC = w.MC;
    means_r = w.means_r;
    means_s = w.means_s;
    means_c = w.means_c;
    alike_r = w.alike_r;
    alike_s = w.alike_s;
    alike_c = w.alike_c;
    stepped = w.stepped c.app;
    commanded = w.commanded c.app;
    size = w.size c.layer c.n c.f;
    delivered = w.delivered c.layer c.n c.f c.marks;
  }

  -- A run of the cluster made as `origin` has come here; what it was made with is kept.
  pub record Came (origin : Cluster P L) (start : S) (h : History R S C) (q : Snapshot P L R S C) : Type 0 where
    pub kept : q.cluster ≡ origin
    pub run : Run (config origin start) h q.moment

  -- the sound replicas agree with the model here
  abbrev pub ConsistentAt : Cluster P L → S → History R S C → Snapshot P L R S C → Type 0
  ConsistentAt origin start h q = Consistent (config origin start) h q.moment

  -- The promise for every run.
  abbrev pub NeverPart : Type 0
  NeverPart = (origin : Cluster P L) (start : S) (h : History R S C) (q : Snapshot P L R S C) → Came origin start h q → ConsistentAt origin start h q

  -- At every moment on the way, from making on, a run had come so far and the sound replicas agreed with the model.
  abbrev pub Throughout : Cluster P L → S → History R S C → Type 0
  Throughout origin start h = (later past : History R S C) → h ≡ later ++ past → (q : Snapshot P L R S C) × Came origin start past q × ConsistentAt origin start past q

  -- Whatever run came to q, whatever was answered last, the call carries it on to q' and is consistent there.
  abbrev pub Carries : Call R S C → (Answer S C → Snapshot P L R S C) → Snapshot P L R S C → Type 0
  Carries c q q' = (origin : Cluster P L) (start : S) (h : History R S C) (last : Answer S C)
      → Came origin start h (q last) → Came origin start (c ∷ h) q' × ConsistentAt origin start (c ∷ h) q'
