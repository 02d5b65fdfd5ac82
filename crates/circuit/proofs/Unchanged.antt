-- Where no coded gate is a child, request F-1 changes nothing; where there is no NOT gate, or nothing greedy, F-5 changes nothing. Assumes nothing.
use Prim.Native.Nat.{ℕ, ◌<◌}
use mathlib.Core.Path.{◌≡◌, refl, sym, ap, ◌∙◌}
use mathlib.Core.Logic.{inl, inr}
use mathlib.Core.Bool.{Bool, true, false, true≢false}
use mathlib.Core.List.{List, [], ◌∷◌}
use mathlib.Core.List.Memᴰ.{head as here}
use mathlib.Core.List.Memᴰ.{tail as there}
use mathlib.Core.List.{Memᴰ as In}
use Rattle.folds.proofs.Tests.{which, same_test, and_left, and_both}
use Rattle.circuit.specs.declared.Choice.{Choice}
use Rattle.circuit.specs.declared.Choice.TheVariants.{Greedy, Down, Up}
use Rattle.circuit.specs.declared.Entry.{Entry}
use Rattle.circuit.specs.Tools.{up_to, select, is_empty, pick}
use Rattle.circuit.specs.Circuit.{Circuit, coded, WellFormed, justified}
use Rattle.circuit.specs.declared.Ending.TheVariants.{Found, Spent, Stuck}
use Rattle.circuit.specs.Evaluate.{KeepsCodes}
use Rattle.circuit.specs.Survey.{front, front_size, interesting, interest_set, interest_size}
use Rattle.circuit.specs.Run.{drawn, down_options, turns_no_coded, options_left, turn, lightest, greedy_options, Chosen, option, one_of, chosen, turned_by, is_stuck, entry_chosen, entry_turns, move, stop, after, run}
use Rattle.circuit.specs.Promise.{NotGreedy, run_with, StuckAt, NoCodedChild, turned_of_all, entry_of_all, UnchangedWithoutCodedChildren, NoNots, size_with_nots, chosen_with_nots, entry_with_nots, UnchangedWithoutNots, UnchangedWithoutGreedy}
use lib.ListN.{length}
use Rattle.circuit.proofs.Lists.{select_same, in_up_to, some_is_empty}
use Rattle.circuit.proofs.Gate.{weight_is}
use Rattle.circuit.proofs.Cone.{is_in_front}
use Rattle.circuit.proofs.Turns.{turns_no_coded_lem, option_kid, option_few}
use Rattle.circuit.proofs.Survey.{survey_is}
use Rattle.circuit.proofs.Moves.{some_greedy, one_of_some, none_is, drawn_in, no_front, stuck_is, entry_does}
use Rattle.circuit.proofs.Trace.{run_found, run_spent, run_sticks, run_step}
use Rattle.circuit.proofs.Finish.{runs_go}

select_all : {A : Type 0} (p : A → Bool) (xs : List A) → ((x : A) → In x xs → p x ≡ true) → select p xs ≡ xs
select_all p [] h = refl
select_all p (x ∷ xs) h = rw (h x (here refl), select_all p xs (λ y m. h y (there m)))

module _ (c : Circuit) (ok : WellFormed c) (none : NoCodedChild c) (s : List ℕ) where
  all_left : (g : ℕ) → g < c.gates → justified c s g ≡ false → options_left c s g ≡ down_options c s g
  unfolding options_left
  all_left g h u = select_all (turns_no_coded c) (down_options c s g) (λ o m. (turns_no_coded_lem c o).1 (λ x i. none g h x (option_kid c ok s g h u o m x i)))

  module _ (g : ℕ) (m : In g (front c s)) where
    unjust : (g < c.gates) × (justified c s g ≡ false)
    unjust = let (h, _, u) = is_in_front c ok s g m in (h, u)

    some_left : is_empty (options_left c s g) ≡ false
    some_left = rw (all_left g unjust.0 unjust.1) (some_is_empty (down_options c s g) (option_few c ok s g unjust.0 unjust.1).0)

    down_before : (i : ℕ) → one_of c g (options_left c s g) i ≡ option (pick (down_options c s g) i [])
    down_before i = one_of_some c g i (options_left c s g) some_left ∙ rw (all_left g unjust.0 unjust.1)

    choice_before : (h : Choice) → turned_by g (chosen c s g h) ≡ turned_of_all c s g h
    unfolding chosen
    choice_before (Greedy i) = ap (turned_by g) (one_of_some c g i (greedy_options c s (options_left c s g)) (some_greedy c s (options_left c s g) some_left))
        ∙ rw (all_left g unjust.0 unjust.1)
    choice_before (Down i) = ap (turned_by g) (down_before i)
    choice_before (Up i) = elim (which (coded c g)) [ inl q ↦ rw (q, down_before i) | inr q ↦ rw q ]

  no_entry_stuck : (e : Entry) → ¬ StuckAt c s e
  no_entry_stuck e t =
      let g = drawn c s e.draw in
      let m = ((survey_is c ok s).listed.has g).1 t.is_in_front in
      true≢false (sym ((none_is c ok s g m).1 t.none_left) ∙ some_left g m)

  module _ (q : is_empty (front c s) ≡ false) (e : Entry) where
    entry_before : entry_turns c s e ≡ entry_of_all c s e
    unfolding entry_turns entry_chosen entry_of_all
    entry_before = choice_before (drawn c s e.draw) (drawn_in c ok s e.draw q) e.choice

    goes : is_stuck (entry_chosen c s e) ≡ false
    goes = elim (which (is_stuck (entry_chosen c s e))) [
      | inl z ↦ absurd (no_entry_stuck e ((stuck_is c ok s q e).0 z))
      | inr z ↦ z
    ]

-- ---- runs

module _ (c : Circuit) (does : List ℕ → Entry → Chosen) where
  with_found : (s : List ℕ) (es : List Entry) → is_empty (front c s) ≡ true → run_with c does s es ≡ stop Found s
  unfolding run_with
  with_found s [] e = rw e
  with_found s (x ∷ es) e = rw (e, run_with)

  with_spent : (s : List ℕ) → is_empty (front c s) ≡ false → run_with c does s [] ≡ stop (Spent (front_size c s)) s
  unfolding run_with
  with_spent s e = rw e

  with_sticks : (s : List ℕ) (e : Entry) (es : List Entry) → is_empty (front c s) ≡ false → is_stuck (does s e) ≡ true → run_with c does s (e ∷ es) ≡ stop Stuck s
  unfolding run_with
  with_sticks s e es q z = rw (q, z, run_with)

  with_step : (s : List ℕ) (e : Entry) (es : List Entry) (o : List ℕ) → is_empty (front c s) ≡ false → is_stuck (does s e) ≡ false
      → turned_by (drawn c s e.draw) (does s e) ≡ o → run_with c does s (e ∷ es) ≡ after (length o) (run_with c does (turn o s) es)
  unfolding run_with
  with_step s e es o q z t = rw (q, z, run_with, t)

  -- what an entry does there is what `run` has it do
  record Alike (s : List ℕ) (e : Entry) : Type 0 where
    stuck : is_stuck (does s e) ≡ is_stuck (entry_chosen c s e)
    turns : turned_by (drawn c s e.draw) (does s e) ≡ entry_turns c s e

  -- so runs are alike, if that is so of all entries that stand on the tape, at all configurations that can come up
  module _ (Comes : List ℕ → Type 0) (Stands : Entry → Type 0)
      (alike : (s : List ℕ) → Comes s → is_empty (front c s) ≡ false → (e : Entry) → Stands e → Alike s e)
      (next : (s : List ℕ) → Comes s → is_empty (front c s) ≡ false → (e : Entry) → Comes (move c s e).next) where
    run_alike : (es : List Entry) → ((e : Entry) → In e es → Stands e) → (s : List ℕ) → Comes s → run c s es ≡ run_with c does s es
    run_alike [] all s k = elim (which (is_empty (front c s))) [
      | inl q ↦ run_found c s [] q ∙ sym (with_found s [] q)
      | inr q ↦ run_spent c s q ∙ sym (with_spent s q)
    ]
    run_alike (e ∷ es) all s k = elim (which (is_empty (front c s))) [
      | inl q ↦ run_found c s (e ∷ es) q ∙ sym (with_found s (e ∷ es) q)
      | inr q ↦ (let a = alike s k q e (all e (here refl)) in elim (which (is_stuck (entry_chosen c s e))) [
        | inl z ↦ run_sticks c s e es q z ∙ sym (with_sticks s e es q (a.stuck ∙ z))
        | inr z ↦ run_step c s e es q z
            ∙ ap (after (move c s e).flips) (run_alike es (λ x m. all x (there m)) (move c s e).next (next s k q e))
            ∙ sym (with_step s e es (entry_turns c s e) q (a.stuck ∙ z) a.turns)
      ])
    ]

-- ---- request F-1

pub unchanged : UnchangedWithoutCodedChildren
unchanged c ok none s k = record {
  all_left = all_left c ok none s;
  entries = λ f e. elim (which (is_empty (front c s))) [ inl q ↦ absurd (f (no_front c ok s q)) | inr q ↦ entry_before c ok none s q e ];
  runs = λ es. run_alike c (λ t e. option (entry_of_all c t e)) (KeepsCodes c) (λ e. Unit {0})
      (λ t l q e _. record { stuck = sym (goes c ok none t q e); turns = sym (entry_before c ok none t q e) })
      (λ t l q e. (entry_does c ok t q e l).keeps) es (λ e m. tt) s k;
  no_stuck = record { entries = no_entry_stuck c ok none s; runs = runs_go c ok s k (λ t l e. no_entry_stuck c ok none t e) };
}

-- ---- request F-5

module _ (c : Circuit) where
  pub same_turns : (s : List ℕ) (e : Entry) → entry_chosen c s e ≡ entry_with_nots c s e → entry_turns c s e ≡ turned_by (drawn c s e.draw) (entry_with_nots c s e)
  unfolding entry_turns
  same_turns s e q = ap (turned_by (drawn c s e.draw)) q

  -- entries that do the same are alike
  same_entries : (Stands : Entry → Type 0) → ((s : List ℕ) (e : Entry) → Stands e → entry_chosen c s e ≡ entry_with_nots c s e)
      → (es : List Entry) → ((e : Entry) → In e es → Stands e) → (s : List ℕ) → run c s es ≡ run_with c (entry_with_nots c) s es
  same_entries Stands same es all s = run_alike c (entry_with_nots c) (λ s. Unit {0}) Stands
      (λ t l q e k. record { stuck = ap is_stuck (sym (same t e k)); turns = sym (same_turns t e (same t e k)) })
      (λ t l q e. tt) es all s tt

  plain_same : (s : List ℕ) (e : Entry) → NotGreedy e.choice → entry_chosen c s e ≡ entry_with_nots c s e
  unfolding entry_chosen entry_with_nots chosen
  plain_same s e n = of_choice e.choice n
    where
      of_choice : (h : Choice) → NotGreedy h → chosen c s (drawn c s e.draw) h ≡ chosen_with_nots c s (drawn c s e.draw) h
      of_choice (Greedy i) n = absurd n
      of_choice (Down i) n = refl
      of_choice (Up i) n = refl

  module _ (none : NoNots c) where
    all_weigh : (s : List ℕ) → interest_size c s ≡ size_with_nots c s
    unfolding interest_size size_with_nots interest_set
    all_weigh s = ap length (select_same (interest_set c s) (interesting c s) (up_to c.gates) (λ x m.
        let w = (weight_is (c.kind x)).1 (none x (in_up_to x c.gates m)) in
        same_test _ _ (and_left _ _) (λ q. and_both _ _ q w)))

    all_same : (s : List ℕ) (e : Entry) → entry_chosen c s e ≡ entry_with_nots c s e
    unfolding entry_chosen entry_with_nots chosen greedy_options
    all_same s e = of_choice e.choice
      where
        g : ℕ
        g = drawn c s e.draw

        of_choice : (h : Choice) → chosen c s g h ≡ chosen_with_nots c s g h
        of_choice (Greedy i) = ap (λ (weight : List ℕ → ℕ). one_of c g (lightest weight (options_left c s g)) i) (λ k. λ o. all_weigh (turn o s) k)
        of_choice (Down i) = refl
        of_choice (Up i) = refl

pub unchanged_without_nots : UnchangedWithoutNots
unchanged_without_nots c none s = record {
  size = all_weigh c none s;
  entries = all_same c none s;
  runs = λ es. same_entries c (λ e. Unit {0}) (λ t e _. all_same c none t e) es (λ e m. tt) s;
}

pub unchanged_without_greedy : UnchangedWithoutGreedy
unchanged_without_greedy = record {
  entries = plain_same;
  runs = λ c s es plain. same_entries c (λ e. NotGreedy e.choice) (plain_same c) es plain s;
}
