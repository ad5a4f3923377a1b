-- Runs: making, and then calls that are accepted or refused.
use Rattle.std.specs.Prelude.{◌≡◌, ℕ, ◌^◌, ◌<◌, ◌≤◌, Bool, true, List, [], ◌∷◌, Decides}
use Rattle.layers.specs.Layers.{Sized, Sound, FewFaulty, Agreed, AllGet}
use Rattle.selections.specs.Choices.{Chooses}
use Rattle.protocol.specs.Setup.{Config, Tables, sizes, Call, intake, filter, agree, select, commit, abandon, look, History, refusal, Moment}
use Rattle.protocol.specs.Model.{granted, refused, verdict, in_turn}
use Rattle.protocol.specs.Calls.{Makes, TakesIn, Filters, Agrees, Selects, Commits, Abandons, Looks}

-- the call is one on these tables
abbrev pub On : {R S C : Type 0} → Tables R S → Call R S C → Type 0
On t (intake z es) = z ≡ sizes t
On t (filter z cs) = z ≡ sizes t
On t (agree z ws) = z ≡ sizes t
On t (select z r) = z ≡ sizes t
On t (commit z ss cs) = z ≡ sizes t
On t abandon = Unit {0}
On t (look z i) = z ≡ sizes t

-- the same stage and tables, and a refusal answered
abbrev pub refusing : {R S C : Type 0} → ℕ → Moment R S C → Moment R S C
refusing k m = record { stage = m.stage; tables = m.tables; answer = refusal k }

module _ {R S C : Type 0} (g : Config R S C) where
  open g use {n, f, marks, means_r, means_s, means_c}

  -- What making asks of its numbers.
  pub record Valid : Type 0 where
    pub many : 4 ≤ n
    pub sized : Sized n f
    pub some : 1 ≤ f
    pub sensed : 1 ≤ g.sensors
    pub sensors : g.sensors ≤ 4
    pub marked : marks < 2 ^ n
    pub faulty : FewFaulty n f marks

  -- What readings, states, commands, the application and the layer owe.
  pub record Lawful : Type 0 where
    pub readings : (x y : R) → Decides (g.alike_r x y) (means_r x ≡ means_r y)
    pub states : (x y : S) → Decides (g.alike_s x y) (means_s x ≡ means_s y)
    pub commands : (x y : C) → Decides (g.alike_c x y) (means_c x ≡ means_c y)
    pub stepping : (s t : S) (x y : R) → means_s s ≡ means_s t → means_r x ≡ means_r y → means_s (g.stepped s x) ≡ means_s (g.stepped t y)
    pub commanding : (s t : S) → means_s s ≡ means_s t → means_c (g.commanded s) ≡ means_c (g.commanded t)
    pub agreement : (sender : ℕ) (own : Bool) (words : List ℕ) → sender < n → Agreed n marks (g.delivered sender own words)
    pub validity : (sender : ℕ) (own : Bool) (words : List ℕ) → sender < n → Sound marks sender → AllGet n marks (g.delivered sender own words) own

  -- what the call is given owes
  abbrev pub Owed : Call R S C → Type 0
  Owed (intake z es) = Unit {0}
  Owed (filter z cs) = Unit {0}
  Owed (agree z ws) = Unit {0}
  Owed (select z r) = Chooses means_r r
  Owed (commit z ss cs) = Unit {0}
  Owed abandon = Unit {0}
  Owed (look z i) = Unit {0}

  -- what the accepted call does
  abbrev pub Does : Call R S C → Moment R S C → Moment R S C → Type 0
  Does (intake z es) m m' = TakesIn g m m' es
  Does (filter z cs) m m' = Filters g m m' cs
  Does (agree z ws) m m' = Agrees g m m' ws
  Does (select z r) m m' = Selects g m m' r
  Does (commit z ss cs) m m' = Commits g m m' ss cs
  Does abandon m m' = Abandons g m m'
  Does (look z i) m m' = Looks g m m' i

  -- A run: the calls since making, the latest first, and the moment that they have come to.
  pub data Run : History R S C → Moment R S C → Type 0 where
    made : {m : Moment R S C} → Valid → Makes g m → Run [] m
    done : {h : History R S C} {m m' : Moment R S C} (c : Call R S C) → Run h m
        → in_turn c m.stage ≡ true → On m.tables c → Owed c → verdict g c ≡ granted → Does c m m' → Run (c ∷ h) m'
    -- nothing has changed; refused for its tables, the call may have been lent others
    declined : {h : History R S C} {m : Moment R S C} (c : Call R S C) {k : ℕ} → Run h m
        → in_turn c m.stage ≡ true → verdict g c ≡ refused k → Run (c ∷ h) (refusing k m)
