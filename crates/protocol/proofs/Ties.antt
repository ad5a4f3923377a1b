-- How the tables stand to the model at each stage, and that intake, filter, agree and select keep it so.
use Rattle.std.proofs.Common.{◌≡◌, ℕ, zero, suc, ◌+◌, ◌-◌, ◌*◌, ◌<◌, Bool, true, false, cond, T, leb, List, length, get_or, sym, refl, ap, ◌∙◌, subst, inl, inr, arith, Option, Some, None}
use Rattle.std.proofs.lemmas.Bool.{cases_lt, eqb-true}
use Rattle.quorum.specs.Counting.{bit, count}
use Rattle.quorum.proofs.Counts.{join, is_yes, count_same}
use Rattle.layers.specs.Layers.{Sound}
use Rattle.values.specs.Entries.{present, SameEntry, entry_at, carries}
use Rattle.values.specs.Majority.{majority}
use Rattle.values.proofs.Meanings.{same_trans, same_present}
use Rattle.selections.specs.Choices.{Chooses}
use Rattle.protocol.specs.Tables.{table, value_at, Stored, MaskOf}
use Rattle.protocol.specs.Setup.{Config, sound, EachSound, Rule, Tables, Sizes, intake, filter, agree, select, Stage, rest, taken_in, filtered, agreed, chosen, Moment}
use Rattle.protocol.specs.Model.{accepts, words_of, Model, own, heard, accept, yes_bit, is_candidate, reading, readings, chosen_sensor, advance, order, is_stage}
use Rattle.protocol.specs.Calls.{step_of, TakesIn, heard_place, Filters, accepted, Agrees, Selects}
use Rattle.protocol.specs.Consistency.{Holds}
use Rattle.protocol.proofs.Places.{cond_under, and_under, no_yes, yes_no, clear_at, table_length, table_at, table_past}
use Rattle.protocol.proofs.Quorums.{Admitted}
use Rattle.protocol.proofs.Cycle.{yes_one, good_reading, reading_is, heard_from, heard_majority, readings_at, readings_past, readings_length}

-- ---- stages

stage_at : ℕ → Stage
stage_at zero = rest
stage_at (suc zero) = taken_in
stage_at (suc (suc zero)) = filtered
stage_at (suc (suc (suc zero))) = agreed
stage_at (suc (suc (suc (suc k)))) = chosen

order_back : (s : Stage) → stage_at (order s) ≡ s
unfolding stage_at
order_back rest = refl
order_back taken_in = refl
order_back filtered = refl
order_back agreed = refl
order_back chosen = refl

pub stage_is : (s t : Stage) → is_stage s t ≡ true → s ≡ t
stage_is s t e = sym (order_back s) ∙ ap stage_at (eqb-true (order s) (order t) e) ∙ order_back t

-- ---- ties, each on one table

module _ {R S C : Type 0} (g : Config R S C) where
  open g use {n, sensors, marks, means_r, means_s}

  -- for each sound replica and sensor, with their place
  abbrev pub EachSpot : (ℕ → ℕ → ℕ → Type 0) → Type 0
  EachSpot holds = (i k : ℕ) → i < n → Sound marks i → k < sensors → holds i k (i * sensors + k)

  module _ (p : Model R S) where
    abbrev pub OwnTie : List (Option R) → Type 0
    OwnTie xs = EachSpot (λ i k q. entry_at xs q ≡ own g p i k)

    abbrev pub RunTie : List S → Type 0
    RunTie xs = EachSpot (λ i k q. (x : R) → own g p i k ≡ Some x → SameEntry means_s (value_at xs q) (Some (g.stepped p.state x)))

    abbrev pub HeardTie : List (Option R) → Type 0
    HeardTie xs = EachSpot (λ i k q. (j : ℕ) → j < n → entry_at xs ((i * n + j) * sensors + k) ≡ heard g p i j k)

    abbrev pub AcceptTie : List Bool → Type 0
    AcceptTie xs = EachSpot (λ i k q. get_or xs q false ≡ accept g p i k)

    abbrev pub AgreedTie : List (Option R) → Type 0
    AgreedTie xs = EachSpot (λ i k q. SameEntry means_r (entry_at xs q) (cond (is_candidate g p k) (reading g p k) None))

    abbrev pub CandidatesTie : List ℕ → Type 0
    CandidatesTie xs = EachSound g (λ i. MaskOf sensors (is_candidate g p) (get_or xs i 0))

    abbrev pub ChosenTie : List ℕ → Type 0
    ChosenTie xs = EachSound g (λ i. get_or xs i 0 ≡ chosen_sensor g p)

    pub record AfterIntake (t : Tables R S) : Type 0 where
      pub own : OwnTie t.own
      pub run : RunTie t.run

    pub record AfterFilter (t : Tables R S) : Type 0 where
      pub own : OwnTie t.own
      pub run : RunTie t.run
      pub heard : HeardTie t.heard
      pub accept : AcceptTie t.accept

    pub record AfterAgree (t : Tables R S) : Type 0 where
      pub run : RunTie t.run
      pub accept : AcceptTie t.accept
      pub agreed : AgreedTie t.agreed
      pub candidates : CandidatesTie t.candidates

    pub record AfterSelect (t : Tables R S) : Type 0 where
      pub run : RunTie t.run
      pub accept : AcceptTie t.accept
      pub agreed : AgreedTie t.agreed
      pub candidates : CandidatesTie t.candidates
      pub chosen : ChosenTie t.chosen
      pub rule : Chooses means_r p.rule

    abbrev pub TiesAt : Stage → Tables R S → Type 0
    TiesAt rest t = Unit {0}
    TiesAt taken_in t = AfterIntake t
    TiesAt filtered t = AfterFilter t
    TiesAt agreed t = AfterAgree t
    TiesAt chosen t = AfterSelect t

  -- The moment stands to the model as its stage says.
  pub record Tied (p : Model R S) (m : Moment R S C) : Type 0 where
    pub stage : m.stage ≡ p.stage
    pub holds : Holds g p.state m
    pub ties : TiesAt p p.stage m.tables

  pub ties_at : (p : Model R S) (m : Moment R S C) → Tied p m → (s : Stage) → is_stage p.stage s ≡ true → TiesAt p s m.tables
  ties_at p m h s e = subst (λ (t : Stage). TiesAt p t m.tables) (stage_is p.stage s e) h.ties

  pub holds_kept : (s : S) (m m' : Moment R S C) → m'.tables.state ≡ m.tables.state → Holds g s m → Holds g s m'
  holds_kept s m m' e h i l t = subst (λ (xs : List S). SameEntry means_s (value_at xs i) (Some s)) (sym e) (h i l t)

-- ---- the calls

module _ {R S C : Type 0} {g : Config R S C} (ok : Admitted g) (p : Model R S) (m m' : Moment R S C) where
  open g use {n, f, sensors, marks, means_r, means_s, alike_r}

  stored_step : (e : Option S) (s : S) (o : Option R) (x : R) (q : ℕ) → SameEntry means_s e (Some s) → o ≡ Some x
      → Stored means_s (step_of g e o) m.tables.run m'.tables.run q → SameEntry means_s (value_at m'.tables.run q) (Some (g.stepped s x))
  stored_step None s o x q h e w = absurd h
  stored_step (Some t) s o x q h e w =
      same_trans means_s (value_at m'.tables.run q) (Some (g.stepped t x)) (Some (g.stepped s x))
      (subst (λ (d : Option R). Stored means_s (step_of g (Some t) d) m.tables.run m'.tables.run q) e w)
      (ok.laws.stepping t s x x h refl)

  pub intake_keeps : (z : Sizes) (es : List (Option R)) → Tied g p m → TakesIn g m m' es → Tied g (advance g (intake z es) p) m'
  unfolding advance
  intake_keeps z es h d = record {
    stage = d.stage;
    holds = holds_kept g p.state m m' d.state h.holds;
    ties = record {
      own = λ i k l s c. clear_at (bit marks i) _ _ s (d.own i k l c);
      run = λ i k l s c x e. stored_step (value_at m.tables.state i) p.state (entry_at es (i * sensors + k)) x (i * sensors + k) (h.holds i l s) e (clear_at (bit marks i) _ _ s (d.run i k l c));
    };
  }

  accepts_same : (e : Option R) (h h' : ℕ → Option R) → ((j : ℕ) → j < n → h j ≡ h' j) → accepts g e h ≡ accepts g e h'
  accepts_same None h h' same = refl
  accepts_same (Some x) h h' same =
      ap (λ (v : ℕ). leb (n - f) v) (count_same n (λ j. carries alike_r x (h j)) (λ j. carries alike_r x (h' j)) (λ j l. ap (λ (e : Option R). carries alike_r x e) (same j l)))

  pub filter_keeps : (z : Sizes) (cs : List (Option R)) → Tied g p m → AfterIntake g p m.tables → Filters g m m' cs → Tied g (advance g (filter z cs) p) m'
  unfolding advance accept
  filter_keeps z cs h a d =
      let p' = advance g (filter z cs) p in
      let hears : HeardTie g p' m'.tables.heard = λ i k l s c j lj.
      clear_at (bit marks i) _ _ s (d.heard j lj i k l c) ∙ cond_under (bit marks j) _ (entry_at m.tables.own (j * sensors + k)) (own g p j k) (λ r. a.own j k lj r c) in
      record {
        stage = d.stage;
        holds = holds_kept g p.state m m' d.state h.holds;
        ties = record {
          own = subst (OwnTie g p') (sym d.own) a.own;
          run = subst (RunTie g p') (sym d.run) a.run;
          heard = hears;
          accept = λ i k l s c.
              clear_at (bit marks i) _ _ s (d.accept i k l c)
              ∙ ap (λ (e : Option R). accepts g e (λ j. entry_at m'.tables.heard (heard_place g m m' i j k))) (a.own i k l s c)
              ∙ accepts_same (own g p i k) (λ j. entry_at m'.tables.heard (heard_place g m m' i j k)) (λ j. heard g p' i j k) (hears i k l s c);
        };
      }

  outcome_is : (c a : Bool) (o v r : Option R) → (T c → T a → SameEntry means_r o r) → (T c → SameEntry means_r v r) → SameEntry means_r (cond c (cond a o v) None) (cond c r None)
  outcome_is true true o v r h k = h tt tt
  outcome_is true false o v r h k = k tt
  outcome_is false a o v r h k = tt

  present_is : (b : Bool) (e : Option R) → (T b → T (present e)) → present (cond b e None) ≡ b
  present_is true e h = is_yes (present e) (h tt)
  present_is false e h = refl

  module _ (z : Sizes) (ws : List ℕ) (a : AfterFilter g p m.tables) (d : Agrees g m m' ws) where
    abbrev p' : Model R S
    p' = advance g (agree z ws) p

    -- the same in p', which has other words
    own_tie : OwnTie g p' m.tables.own
    unfolding advance
    own_tie = a.own

    heard_tie : HeardTie g p' m.tables.heard
    unfolding advance
    heard_tie = a.heard

    accept_tie : AcceptTie g p' m.tables.accept
    unfolding advance accept
    accept_tie = a.accept

    run_tie : RunTie g p' m.tables.run
    unfolding advance
    run_tie = a.run

    -- the bits of yes
    yes_is : (i k : ℕ) → i < n → Sound marks i → k < sensors → (j : ℕ) → j < n → bit (get_or m'.tables.yes (i * sensors + k) 0) j ≡ yes_bit g p' i k j
    unfolding advance accept yes_bit
    yes_is i k l s c j lj =
        (clear_at (bit marks i) _ _ s (d.yes i k l c)).bits j lj
        ∙ ap (λ (b : Bool). g.delivered j b (words_of g ws (k * n + j)) i) (and_under (sound g j) (accepted g m m' j k) (accept g p j k) (λ t. a.accept j k lj (yes_no (bit marks j) t) c))

    enough_is : (i k : ℕ) → i < n → Sound marks i → k < sensors → leb (n - f) (count n (bit (get_or m'.tables.yes (i * sensors + k) 0))) ≡ is_candidate g p' k
    unfolding is_candidate
    enough_is i k l s c = ap (λ (v : ℕ). leb (n - f) v) (count_same n _ _ (λ j lj. yes_is i k l s c j lj ∙ yes_one ok p' i k j l s lj))

    agreed_tie : AgreedTie g p' m'.tables.agreed
    agreed_tie i k l s c =
        let q = i * sensors + k in
        let y : ℕ → Bool = bit (get_or m'.tables.yes q 0) in
        let told : ℕ → Option R = λ j. cond (y j) (entry_at m.tables.heard (heard_place g m m' i j k)) None in
        let same_told : (j : ℕ) → j < n → told j ≡ heard_from g p' i k j = λ j lj.
        ap (λ (b : Bool). cond b (entry_at m.tables.heard (heard_place g m m' i j k)) None) (yes_is i k l s c j lj)
        ∙ ap (λ (e : Option R). cond (yes_bit g p' i k j) e None) (heard_tie i k l s c j lj) in
        let o = entry_at m.tables.own q in
        let v = majority alike_r n told in
        let r = reading g p' k in
        same_trans means_r (entry_at m'.tables.agreed q) _ (cond (is_candidate g p' k) r None)
        (clear_at (bit marks i) _ _ s (d.agreed i k l c))
        (subst (λ (b : Bool). SameEntry means_r (cond b (cond (accepted g m m' i k) o v) None) (cond (is_candidate g p' k) r None)) (sym (enough_is i k l s c))
        (outcome_is (is_candidate g p' k) (accepted g m m' i k) o v r
        (λ _ t. subst (λ (e : Option R). SameEntry means_r e r) (sym (own_tie i k l s c))
        (good_reading ok p' k i l (join (sound g i) (accept g p' i k) (no_yes (bit marks i) s) (subst T (accept_tie i k l s c) t))))
        (λ t. heard_majority ok p' i k told same_told l s t)))

    candidates_tie : CandidatesTie g p' m'.tables.candidates
    candidates_tie i l s =
        let w = clear_at (bit marks i) _ _ s (d.candidates i l) in
        record {
          below = w.below;
          bits = λ k c.
              w.bits k c
              ∙ same_present means_r (entry_at m'.tables.agreed (i * sensors + k)) (cond (is_candidate g p' k) (reading g p' k) None) (agreed_tie i k l s c)
              ∙ present_is (is_candidate g p' k) (reading g p' k) (λ t. subst (λ (e : Option R). T (present e)) (sym (reading_is ok p' k t).1) tt);
        }

    pub agree_keeps : Tied g p m → Tied g p' m'
    unfolding advance
    agree_keeps h = record {
      stage = d.stage;
      holds = holds_kept g p.state m m' d.state h.holds;
      ties = record {
        run = subst (RunTie g p') (sym d.run) run_tie;
        accept = subst (AcceptTie g p') (sym d.accept) accept_tie;
        agreed = agreed_tie;
        candidates = candidates_tie;
      };
    }

  module _ (z : Sizes) (r : Rule R) (rule : Chooses means_r r) (a : AfterAgree g p m.tables) (d : Selects g m m' r) where
    row : ℕ → List (Option R)
    row i = table sensors (λ k. entry_at m.tables.agreed (i * sensors + k))

    row_same : (i : ℕ) → i < n → Sound marks i → (k : ℕ) → SameEntry means_r (entry_at (row i) k) (entry_at (readings g p) k)
    unfolding row
    row_same i l s k =
        elim (cases_lt k sensors) [
          | inl c ↦ rw (table_at sensors (λ k. entry_at m.tables.agreed (i * sensors + k)) None k c, readings_at ok p k c) (a.agreed i k l s c)
          | inr c ↦ rw (table_past sensors (λ k. entry_at m.tables.agreed (i * sensors + k)) None k c, readings_past ok p k c) tt
        ]

    row_length : (i : ℕ) → length (row i) ≡ sensors
    unfolding row
    row_length i = table_length sensors (λ k. entry_at m.tables.agreed (i * sensors + k))

    pub select_keeps : Tied g p m → Tied g (advance g (select z r) p) m'
    unfolding advance readings is_candidate yes_bit accept row
    select_keeps h = record {
      stage = d.stage;
      holds = holds_kept g p.state m m' d.state h.holds;
      ties = record {
        run = subst (RunTie g p) (sym d.run) a.run;
        accept = subst (AcceptTie g p) (sym d.accept) a.accept;
        agreed = subst (AgreedTie g p) (sym d.agreed) a.agreed;
        candidates = subst (CandidatesTie g p) (sym d.candidates) a.candidates;
        chosen = λ i l s.
            clear_at (bit marks i) _ _ s (d.chosen i l)
            ∙ rule.congruent (row i) (readings g p) (omega (arith, row_length i, ok.valid.sensors)) (row_length i ∙ sym (readings_length ok p)) (row_same i l s);
        rule = rule;
      };
    }
