-- Commit: every sound replica goes on with the model's state, and the vote is its command.
use Rattle.std.proofs.Common.{◌≡◌, ℕ, ◌+◌, ◌*◌, ◌<◌, ◌≤◌, Bool, true, false, cond, not, ◌&&◌, T, ltb, List, get_or, Decides, sym, refl, ap, ◌∙◌, subst, inl, inr, arith, Option, Some, None}
use Rattle.std.proofs.lemmas.Bool.{lt-ltb, ne_eqb}
use Rattle.quorum.specs.Counting.{bit, count}
use Rattle.quorum.proofs.Counts.{both, join, count_same, count_none}
use Rattle.layers.specs.Layers.{Sound}
use Rattle.values.specs.Entries.{present, SameEntry, entry_at}
use Rattle.values.specs.Majority.{majority}
use Rattle.values.proofs.Meanings.{same_trans, same_present}
use Rattle.selections.specs.Choices.{no_sensor}
use Rattle.protocol.specs.declared.Turn.{Turn}
use Rattle.protocol.specs.declared.Turn.TheVariants.{Idle, Ran, Behind}
use Rattle.protocol.specs.Tables.{value_at, Stored, MaskOf}
use Rattle.protocol.specs.Setup.{Config, sound, lowest_sound, EachSound, Moment}
use Rattle.protocol.specs.Model.{Model, accept, is_candidate, reading, readings, chosen_sensor, chosen_reading, step_by}
use Rattle.protocol.specs.Turns.{turn_from, turn_of, disperses, dispersed_to, offered, goes_on, next_state, takes, took, command_of, sends, sent}
use Rattle.protocol.specs.Calls.{Commits}
use Rattle.protocol.specs.Consistency.{Holds, behind, Committed}
use Rattle.protocol.proofs.Places.{cond_yes, and_under, no_yes, yes_no, clear_at, present_cond, value_kept}
use Rattle.protocol.proofs.Votes.{outvoted}
use Rattle.protocol.proofs.Quorums.{Admitted, many_sound, few_faulty, low_sound, accept_is}
use Rattle.protocol.proofs.Cycle.{Picked, picked, none_or_picked, good, good_reading, more_than_f, sourced, readings_short, candidate_present}
use Rattle.protocol.proofs.Ties.{AfterSelect}

-- ---- turns

cond_ap : {A B : Type 0} (f : A → B) (b : Bool) (x y : A) → f (cond b x y) ≡ cond b (f x) (f y)
cond_ap f true x y = refl
cond_ap f false x y = refl

-- the turn where a sensor is chosen
turn_by : (sensors first : ℕ) (acc : List Bool) (c : ℕ) → c < sensors → sensors ≤ 4 → turn_from sensors first acc c ≡ cond (get_or acc (first + c) false) (Ran (first + c)) Behind
turn_by sensors first acc c l few =
    let ran = cond (get_or acc (first + c) false) (Ran (first + c)) Behind in
    let other : c ≡ no_sensor → ⊥ = λ e. omega arith in
    ap (λ (b : Bool). cond b Idle (cond (ltb c sensors) ran Behind)) (ne_eqb c no_sensor other) ∙ ap (λ (b : Bool). cond b ran Behind) (lt-ltb c sensors l)

module _ {S M : Type 0} (means : S → M) where
  either_way : (b : Bool) (e d : Option S) (s : S) → (T b → SameEntry means e (Some s)) → SameEntry means d (Some s) → SameEntry means (cond b e d) (Some s)
  either_way true e d s h k = h tt
  either_way false e d s h k = k

  stored_same : (e : Option S) (s : S) (xs ys : List S) (p : ℕ) → SameEntry means e (Some s) → Stored means e xs ys p → SameEntry means (value_at ys p) (Some s)
  stored_same None s xs ys p h w = absurd h
  stored_same (Some t) s xs ys p h w = same_trans means (value_at ys p) (Some t) (Some s) w h

module _ {R S C : Type 0} {g : Config R S C} (ok : Admitted g) (p : Model R S) (m m' : Moment R S C) (a : AfterSelect g p m.tables) (h : Holds g p.state m)
    (ss : List (Option S)) (cs : List (Option C)) (d : Commits g m m' ss cs) where
  open g use {n, f, sensors, marks, means_r, means_s, means_c, alike_s, alike_c}

  turn : ℕ → Turn
  turn = turn_of g m.tables

  -- what commit does when the state becomes s
  record Closed (s : S) : Type 0 where
    states : Holds g s m'
    vote : SameEntry means_c (majority alike_c n (sent g m.tables m'.tables.state cs)) (Some (g.commanded s))
    dispersed : count n (λ i. sound g i && took g m.tables ss i) ≡ behind g p

  command_same : (e : Option S) (s : S) → SameEntry means_s e (Some s) → SameEntry means_c (command_of g.commanded e) (Some (g.commanded s))
  command_same None s q = absurd q
  command_same (Some t) s q = ok.laws.commanding t s q

  stored : EachSound g (λ i. Stored means_s (next_state g m.tables ss i) m.tables.state m'.tables.state i)
  stored i l s = clear_at (bit marks i) _ _ s (d.state i l)

  -- ---- no sensor is chosen

  module _ (none : chosen_sensor g p ≡ no_sensor) (missing : chosen_reading g p ≡ None) where
    idle : EachSound g (λ i. turn i ≡ Idle)
    unfolding turn
    idle i l s = ap (turn_from sensors (i * sensors) m.tables.accept) (a.chosen i l s ∙ none)

    kept : Holds g p.state m'
    unfolding turn
    kept i l s =
        let w = subst (λ (t : Turn). Stored means_s (goes_on t m.tables.run (offered g m.tables ss i)) m.tables.state m'.tables.state i) (idle i l s) (stored i l s) in
        let e = value_kept m.tables.state m'.tables.state i (ap (λ z. z.state) d.sizes) w in
        subst (λ (x : Option S). SameEntry means_s x (Some p.state)) (sym e) (h i l s)

    sent_idle : EachSound g (λ j. sent g m.tables m'.tables.state cs j ≡ command_of g.commanded (value_at m'.tables.state j))
    unfolding turn
    sent_idle j l s =
        let command = command_of g.commanded (value_at m'.tables.state j) in
        ap (λ (b : Bool). sends b (turn j) command (entry_at cs j)) s ∙ ap (λ (t : Turn). sends false t command (entry_at cs j)) (idle j l s)

    closed_idle : Closed p.state
    unfolding turn
    closed_idle = record {
      states = kept;
      vote = outvoted means_c alike_c ok.laws.commands n f (sent g m.tables m'.tables.state cs) (sound g) (sound g) (g.commanded p.state) (few_faulty ok)
          (omega (arith, many_sound ok, ok.valid.sized.1))
          (λ j l t q. t)
          (λ j l t.
          let s = yes_no (bit marks j) t in
          subst (λ (e : Option C). SameEntry means_c e (Some (g.commanded p.state))) (sym (sent_idle j l s)) (command_same (value_at m'.tables.state j) p.state (kept j l s)));
      dispersed =
          count_none n _ (λ i l t. let b = both (sound g i) _ t in subst (λ (u : Turn). T (takes u (offered g m.tables ss i))) (idle i l (yes_no (bit marks i) b.0)) b.1)
          ∙ sym (ap (λ (e : Option R). cond (present e) (count n (λ i. sound g i && not (accept g p i (chosen_sensor g p)))) 0) missing);
    }

  -- ---- a sensor is chosen

  module _ (x : R) (pick : Picked g p x) where
    abbrev c : ℕ
    c = chosen_sensor g p

    abbrev place : ℕ → ℕ
    place j = j * sensors + c

    abbrev new : S
    new = g.stepped p.state x

    turn_is : EachSound g (λ j. turn j ≡ cond (accept g p j c) (Ran (place j)) Behind)
    unfolding turn
    turn_is j l s =
        ap (turn_from sensors (j * sensors) m.tables.accept) (a.chosen j l s)
        ∙ turn_by sensors (j * sensors) m.tables.accept c pick.within ok.valid.sensors
        ∙ ap (λ (b : Bool). cond b (Ran (place j)) Behind) (a.accept j c l s pick.within)

    by_turn : {X : Type 0} (of : Turn → X) → EachSound g (λ j. of (turn j) ≡ cond (accept g p j c) (of (Ran (place j))) (of Behind))
    by_turn of j l s = ap of (turn_is j l s) ∙ cond_ap of (accept g p j c) (Ran (place j)) Behind

    -- the run of a sound acceptor is the new state
    run_new : (j : ℕ) → j < n → T (good g p c j) → SameEntry means_s (value_at m.tables.run (place j)) (Some new)
    run_new j l t =
        let b = both (sound g j) (accept g p j c) t in
        let y = accept_is ok p j c b.1 in
        let same : means_r y.0 ≡ means_r x = rw (y.1, pick.read) at (good_reading ok p c j l t) in
        same_trans means_s (value_at m.tables.run (place j)) (Some (g.stepped p.state y.0)) (Some new)
        (a.run j c l (yes_no (bit marks j) b.0) pick.within y.0 y.1)
        (ok.laws.stepping p.state p.state y.0 x refl same)

    good_at : (j : ℕ) → Sound marks j → T (accept g p j c) → T (good g p c j)
    good_at j s t = join (sound g j) (accept g p j c) (no_yes (bit marks j) s) t

    -- what a sound acceptor gives, and no other sound replica, outvotes the faulty
    carried : {V M : Type 0} (means : V → M) (alike : V → V → Bool) → ((x y : V) → Decides (alike x y) (means x ≡ means y)) → (entry value : ℕ → Option V) (v : V)
        → EachSound g (λ j. entry j ≡ cond (accept g p j c) (value j) None) → ((j : ℕ) → j < n → T (good g p c j) → SameEntry means (value j) (Some v))
        → SameEntry means (majority alike n entry) (Some v)
    carried {V} means alike law entry value v is says =
        outvoted means alike law n f entry (sound g) (good g p c) v (few_faulty ok) (more_than_f ok p c pick.candidate)
        (λ j l t q. let s = yes_no (bit marks j) t in good_at j s (present_cond (accept g p j c) (value j) (subst (λ (e : Option V). T (present e)) (is j l s) q)))
        (λ j l t.
        let b = both (sound g j) (accept g p j c) t in
        subst (λ (e : Option V). SameEntry means e (Some v)) (sym (is j l (yes_no (bit marks j) b.0) ∙ cond_yes (accept g p j c) (value j) None b.1)) (says j l t))

    offer : (i : ℕ) → SameEntry means_s (offered g m.tables ss i) (Some new)
    unfolding turn
    offer i =
        carried means_s alike_s ok.laws.states (dispersed_to g m.tables ss i) (λ j. value_at m.tables.run (place j)) new
        (λ j l s.
        let said = entry_at ss (j * n + i) in
        ap (λ (b : Bool). disperses b (turn j) m.tables.run said) s ∙ by_turn (λ t. disperses false t m.tables.run said) j l s)
        run_new

    moved : Holds g new m'
    unfolding turn
    moved i l s =
        let o = offered g m.tables ss i in
        let next : SameEntry means_s (next_state g m.tables ss i) (Some new) =
        subst (λ (e : Option S). SameEntry means_s e (Some new)) (sym (by_turn (λ t. goes_on t m.tables.run o) i l s))
        (either_way means_s (accept g p i c) (value_at m.tables.run (place i)) o new (λ t. run_new i l (good_at i s t)) (offer i)) in
        stored_same means_s (next_state g m.tables ss i) new m.tables.state m'.tables.state i next (stored i l s)

    took_is : EachSound g (λ i. took g m.tables ss i ≡ not (accept g p i c))
    unfolding turn
    took_is i l s =
        let o = offered g m.tables ss i in
        by_turn (λ t. takes t o) i l s ∙ ap (λ (b : Bool). cond (accept g p i c) false b) (same_present means_s o (Some new) (offer i)) ∙ opposite (accept g p i c)
      where
        opposite : (b : Bool) → cond b false true ≡ not b
        opposite true = refl
        opposite false = refl

    closed_busy : Closed new
    unfolding turn
    closed_busy = record {
      states = moved;
      vote = carried means_c alike_c ok.laws.commands (sent g m.tables m'.tables.state cs) (λ j. command_of g.commanded (value_at m'.tables.state j)) (g.commanded new)
          (λ j l s.
          let command = command_of g.commanded (value_at m'.tables.state j) in
          ap (λ (b : Bool). sends b (turn j) command (entry_at cs j)) s ∙ by_turn (λ t. sends false t command (entry_at cs j)) j l s)
          (λ j l t. command_same (value_at m'.tables.state j) new (moved j l (yes_no (bit marks j) (both (sound g j) _ t).0)));
      dispersed =
          count_same n _ _ (λ i l. and_under (sound g i) _ _ (λ t. took_is i l (yes_no (bit marks i) t)))
          ∙ sym (ap (λ (e : Option R). cond (present e) (count n (λ i. sound g i && not (accept g p i c))) 0) pick.is);
    }

  -- ---- either way

  abbrev pub closing : S
  closing = step_by g p.state (chosen_reading g p)

  closed : Closed closing
  closed =
      elim (none_or_picked ok p a.rule) [
        | inl none ↦ subst (λ (e : Option R). Closed (step_by g p.state e)) (sym none.1) (closed_idle none.0 none.1)
        | inr pick ↦ subst (λ (e : Option R). Closed (step_by g p.state e)) (sym pick.1.is) (closed_busy pick.0 pick.1)
      ]

  pub commit_holds : Holds g closing m'
  commit_holds = closed.states

  pub committed : Committed g p closing m'
  committed =
      let low = low_sound ok in
      record {
        candidates = λ i l s. subst (λ (xs : List ℕ). MaskOf sensors (is_candidate g p) (get_or xs i 0)) (sym d.candidates) (a.candidates i l s);
        chosen = λ i l s. ap (λ (xs : List ℕ). get_or xs i 0) d.chosen ∙ a.chosen i l s;
        some = λ k l c. a.rule.some (readings g p) (readings_short ok p) k (candidate_present ok p k l c);
        reading = λ x e i l s.
            let pick = picked ok p x e in
            let q = i * sensors + chosen_sensor g p in
            let is = cond_yes (is_candidate g p (chosen_sensor g p)) (reading g p (chosen_sensor g p)) None pick.candidate ∙ pick.read in
            subst (λ (xs : List (Option R)). SameEntry means_r (entry_at xs q) (Some x)) (sym d.agreed)
            (subst (λ (y : Option R). SameEntry means_r (entry_at m.tables.agreed q) y) is (a.agreed i (chosen_sensor g p) l s pick.within));
        source = λ x e. let pick = picked ok p x e in sourced ok p (chosen_sensor g p) x pick.candidate pick.read;
        answer = d.answer;
        answered = d.answered;
        answer_candidates = subst (MaskOf sensors (is_candidate g p)) (sym d.answer_candidates) (a.candidates (lowest_sound g) low.0 low.1);
        answer_chosen = d.answer_chosen ∙ a.chosen (lowest_sound g) low.0 low.1;
        answer_vote = same_trans means_c d.answer.vote _ (Some (g.commanded closing)) d.vote closed.vote;
        answer_dispersed = d.answer_dispersed ∙ closed.dispersed;
      }
