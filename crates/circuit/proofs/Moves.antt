-- What a move does. Assumes nothing.
use Prim.Native.Nat.{ℕ, ◌≤◌, ◌<◌}
use mathlib.Core.Path.{◌≡◌, refl, sym, ap, ◌∙◌}
use mathlib.Core.Logic.{inl, inr, ◌↔◌}
use mathlib.Core.Bool.{Bool, true, false, true≢false}
use mathlib.Core.List.{List, [], ◌∷◌}
use mathlib.Core.List.Memᴰ.{not-nil as nowhere}
use mathlib.Core.List.{Memᴰ as In}
use native.Mathlib.Omega.{arith}
use lib.ListN.{length}
use lib.Dec.{leb}
use borrow.Author.Tests.{leb-true, le-leb, not-false}
use Rattle.folds.proofs.Tests.{which}
use Rattle.circuit.specs.declared.Choice.{Choice}
use Rattle.circuit.specs.declared.Choice.TheVariants.{Greedy, Down, Up}
use Rattle.circuit.specs.Tools.{holds_of_all, is_empty, pick}
use Rattle.circuit.specs.Circuit.{Circuit, coded, WellFormed, justified}
use Rattle.circuit.specs.Evaluate.{KeepsCodes}
use Rattle.circuit.specs.Survey.{front, front_size, interest_size}
use Rattle.circuit.specs.declared.Entry.{Entry}
use Rattle.circuit.specs.Run.{drawn, down_options, turns_no_coded, options_left, turn, greedy_options, Chosen, option, itself, stuck, none_left, one_of, chosen, turned_by, is_stuck, entry_chosen, entry_turns, move}
use Rattle.circuit.specs.Source001.{NoFront, OptionOf, Front}
use Rattle.circuit.specs.Promise.{GreedyOptionsAre, LeftOption, NoneLeft, DownTurns, OptionTurned, ChoiceDoes, StuckAt, EntryDoes, MoveIs}
use Rattle.circuit.proofs.Lists.{select_in, in_select, select_sub, all_in, in_all, some_fails, least, in_length, some_is_empty, is_empty_none, pick_in, sub_length}
use Rattle.circuit.proofs.Gate.{narrow}
use Rattle.circuit.proofs.Cone.{unjustified_seen, is_in_front}
use Rattle.circuit.proofs.Turns.{Turnable, keeps_turn, turn_turns, turn_differs, left_in, turns_no_coded_lem, option_sound, left_turnable, alone_turnable}
use Rattle.circuit.proofs.Source001.{down_options_are}
use Rattle.circuit.proofs.Survey.{survey_is}

-- ---- greedy

module _ (c : Circuit) (s : List ℕ) (os : List (List ℕ)) where
  -- no option has a smaller interest set after the move
  abbrev Best : List ℕ → Type 0
  Best o = (p : List ℕ) → In p os → interest_size c (turn o s) ≤ interest_size c (turn p s)

  abbrev best : List ℕ → Bool
  best o = holds_of_all (λ p. leb (interest_size c (turn o s)) (interest_size c (turn p s))) os

  best_is : (o : List ℕ) → (best o ≡ true) ↔ Best o
  best_is o = (λ q p n. leb-true (interest_size c (turn o s)) (interest_size c (turn p s)) (all_in _ os q p n), λ h. in_all _ os (λ p n. le-leb _ _ (h p n)))

  greedy_in : (o : List ℕ) → In o (greedy_options c s os) ↔ (In o os × Best o)
  unfolding greedy_options
  greedy_in o = (
    λ m. (let (i, q) = select_in best o os m in (i, (best_is o).0 q)),
    λ h. in_select best o os h.0 ((best_is o).1 h.1),
  )

pub greedy_options_are : GreedyOptionsAre
unfolding greedy_options
greedy_options_are c s os = record { has = greedy_in c s os; in_order = select_sub (best c s os) os }

-- there is a best option, if there is any
pub some_greedy : (c : Circuit) (s : List ℕ) (os : List (List ℕ)) → is_empty os ≡ false → is_empty (greedy_options c s os) ≡ false
some_greedy c s [] e = absurd (true≢false e)
some_greedy c s (x ∷ xs) e =
    let (o, i, h) = least (λ p. interest_size c (turn p s)) x xs in
    some_is_empty (greedy_options c s (x ∷ xs)) (in_length o (greedy_options c s (x ∷ xs)) ((greedy_in c s (x ∷ xs) o).1 (i, h)))

pub no_greedy : (c : Circuit) (s : List ℕ) (os : List (List ℕ)) → is_empty os ≡ true → is_empty (greedy_options c s os) ≡ true
unfolding greedy_options
no_greedy c s [] e = refl
no_greedy c s (x ∷ xs) e = absurd (true≢false (sym e))

-- ---- the option that a choice turns, if there is one

module _ (c : Circuit) (g i : ℕ) where
  pub one_of_some : (os : List (List ℕ)) → is_empty os ≡ false → one_of c g os i ≡ option (pick os i [])
  one_of_some [] e = absurd (true≢false e)
  one_of_some (o ∷ os) e = refl

  pub one_of_none : (os : List (List ℕ)) → is_empty os ≡ true → one_of c g os i ≡ none_left c g
  one_of_none [] e = refl
  one_of_none (o ∷ os) e = absurd (true≢false (sym e))

-- where none is left all choices do the same, but for up on an uncoded gate, which does that anyhow
pub none_chosen : (c : Circuit) (s : List ℕ) (g : ℕ) → is_empty (options_left c s g) ≡ true → (h : Choice) → chosen c s g h ≡ none_left c g
unfolding chosen
none_chosen c s g e (Greedy i) = one_of_none c g i (greedy_options c s (options_left c s g)) (no_greedy c s (options_left c s g) e)
none_chosen c s g e (Down i) = one_of_none c g i (options_left c s g) e
none_chosen c s g e (Up i) = elim (which (coded c g)) [
  | inl q ↦ rw q (one_of_none c g i (options_left c s g) e ∙ rw q)
  | inr q ↦ rw q
]

-- ---- a choice

module _ (c : Circuit) (ok : WellFormed c) (s : List ℕ) (g : ℕ) (m : In g (front c s)) where
  inside : g < c.gates
  inside = (is_in_front c ok s g m).0

  unjust : justified c s g ≡ false
  unjust = (is_in_front c ok s g m).2

  option_is : (o : List ℕ) → In o (down_options c s g) ↔ OptionOf c s g o
  option_is = (down_options_are c ok s g inside unjust).0

  left_is : (o : List ℕ) → In o (options_left c s g) ↔ LeftOption c s g o
  left_is o = (
    λ n. (let (i, u) = (left_in c s g o).0 n in record { is_option = (option_is o).0 i; uncoded = u }),
    λ l. (left_in c s g o).1 ((option_is o).1 l.is_option, l.uncoded),
  )

  pub none_is : (is_empty (options_left c s g) ≡ true) ↔ NoneLeft c s g
  none_is = (
    λ e o p. elim (which (turns_no_coded c o)) [
      | inl q ↦ absurd (is_empty_none o (options_left c s g) e ((left_in c s g o).1 ((option_is o).1 p, (turns_no_coded_lem c o).0 q)))
      | inr q ↦ (let (x, i, f) = some_fails _ o q in (x, i, not-false (coded c x) f))
    ],
    λ n. elim (which (is_empty (options_left c s g))) [
      | inl q ↦ q
      | inr q ↦ (let l = (left_is _).0 (pick_in (options_left c s g) 0 [] q) in
          let (x, i, f) = n _ l.is_option in absurd (true≢false (sym f ∙ l.uncoded x i)))
    ],
  )

  down_turns : (i : ℕ) → is_empty (options_left c s g) ≡ false → DownTurns c s g i (pick (options_left c s g) i [])
  down_turns i e = record { left = (left_is _).0 (pick_in (options_left c s g) i [] e); option_place = refl }

  -- where some option is left
  some_does : is_empty (options_left c s g) ≡ false → (h : Choice) → ChoiceDoes c s g h (chosen c s g h) (turned_by g (chosen c s g h))
  unfolding chosen
  some_does e (Greedy i) =
      let os = options_left c s g in
      let (n, f) = (greedy_in c s os _).0 (pick_in (greedy_options c s os) i [] (some_greedy c s os e)) in
      rw (one_of_some c g i (greedy_options c s os) (some_greedy c s os e))
      (refl, record { left = (left_is _).0 n; smallest = λ p q. f p ((left_is p).1 q); option_place = refl })
  some_does e (Down i) = rw (one_of_some c g i (options_left c s g) e) (refl, down_turns i e)
  some_does e (Up i) = elim (which (coded c g)) [
    | inl q ↦ rw (q, one_of_some c g i (options_left c s g) e) (refl, (q, down_turns i e))
    | inr q ↦ rw q (refl, (q, inl tt))
  ]

  -- where none is
  none_does : NoneLeft c s g → (h : Choice) → ChoiceDoes c s g h (none_left c g) (turned_by g (none_left c g))
  none_does n h = elim (which (coded c g)) [ inl q ↦ rw q (refl, (q, n)) | inr q ↦ rw q (refl, (q, inr n)) ]

  choice_does : (h : Choice) → ChoiceDoes c s g h (chosen c s g h) (turned_by g (chosen c s g h))
  choice_does h = elim (which (is_empty (options_left c s g))) [
    | inl e ↦ rw (none_chosen c s g e h) (none_does (none_is.0 e) h)
    | inr e ↦ some_does e h
  ]

  -- the gates that a choice turns: they may be turned, and are few, and none only where it is stuck
  record MayTurn (k : Chosen) : Type 0 where
    turnable : Turnable c (turned_by g k)
    few : length (turned_by g k) ≤ 8
    some : is_stuck k ≡ false → 1 ≤ length (turned_by g k)

  left_turns : (o : List ℕ) → LeftOption c s g o → MayTurn (option o)
  left_turns o l =
      let n = (option_is o).1 l.is_option in
      let (u, h) = option_sound c ok s g inside unjust o n in
      let e = unjustified_seen c ok s g inside unjust in
      record {
        turnable = left_turnable c ok s g inside unjust o ((left_is o).1 l);
        few = omega (arith, sub_length o (c.kids g) u, narrow (c.kind g) e.gate (length (c.kids g)) e.fits);
        some = λ z. h;
      }

  turned_left : (h : Choice) (o : List ℕ) → OptionTurned c s g h o → LeftOption c s g o
  turned_left (Greedy i) o t = t.left
  turned_left (Down i) o t = t.left
  turned_left (Up i) o t = t.1.left

  may_turn : (h : Choice) (k : Chosen) (xs : List ℕ) → ChoiceDoes c s g h k xs → MayTurn k
  may_turn h (option o) xs d = left_turns o (turned_left h o d.1)
  may_turn h itself xs d = record { turnable = alone_turnable c ok s g inside d.1.0; few = omega arith; some = λ z. omega arith }
  may_turn h stuck xs d = record {
    turnable = record { once = record { rising = tt; inside = λ x i. absurd (nowhere i) }; free = λ x i. absurd (nowhere i) };
    few = omega arith;
    some = λ z. absurd (true≢false z);
  }

  -- it is stuck exactly where the gate is coded and none is left
  stuck_does : (h : Choice) (k : Chosen) (xs : List ℕ) → ChoiceDoes c s g h k xs → (is_stuck k ≡ true) ↔ ((coded c g ≡ true) × NoneLeft c s g)
  stuck_does h (option o) xs d = (
    λ z. absurd (true≢false (sym z)),
    λ p. (let l = turned_left h o d.1 in
        let (x, i, f) = p.1 o l.is_option in absurd (true≢false (sym f ∙ l.uncoded x i))),
  )
  stuck_does h itself xs d = (λ z. absurd (true≢false (sym z)), λ p. absurd (true≢false (sym p.0 ∙ d.1.0)))
  stuck_does h stuck xs d = (λ z. d.1, λ p. refl)

-- ---- an entry

module _ (c : Circuit) (ok : WellFormed c) (s : List ℕ) where
  pub drawn_in : (d : ℕ) → is_empty (front c s) ≡ false → In (drawn c s d) (front c s)
  unfolding drawn
  drawn_in d e = pick_in (front c s) d 0 e

  pub no_front : is_empty (front c s) ≡ true → NoFront c s
  no_front e g f = is_empty_none g (front c s) e (((survey_is c ok s).listed.has g).1 f)

  pub some_front : is_empty (front c s) ≡ false → ¬ NoFront c s
  some_front e n = n (drawn c s 0) (((survey_is c ok s).listed.has (drawn c s 0)).0 (drawn_in 0 e))

  module _ (q : is_empty (front c s) ≡ false) (e : Entry) where
    drawn_front : In (drawn c s e.draw) (front c s)
    drawn_front = drawn_in e.draw q

    in_its_front : Front c s (drawn c s e.draw)
    in_its_front = ((survey_is c ok s).listed.has (drawn c s e.draw)).0 drawn_front

    as_said : ChoiceDoes c s (drawn c s e.draw) e.choice (entry_chosen c s e) (entry_turns c s e)
    unfolding entry_chosen entry_turns
    as_said = choice_does c ok s (drawn c s e.draw) drawn_front e.choice

    turning : MayTurn c ok s (drawn c s e.draw) drawn_front (entry_chosen c s e)
    turning = may_turn c ok s (drawn c s e.draw) drawn_front e.choice (entry_chosen c s e) (entry_turns c s e) as_said

    -- the entry is stuck where the definition says so
    pub stuck_is : (is_stuck (entry_chosen c s e) ≡ true) ↔ StuckAt c s e
    stuck_is =
        let w = stuck_does c ok s (drawn c s e.draw) drawn_front e.choice (entry_chosen c s e) (entry_turns c s e) as_said in (
          λ z. record { is_in_front = in_its_front; is_coded = (w.0 z).0; none_left = (w.0 z).1 },
          λ t. w.1 (t.is_coded, t.none_left),
        )

    -- and then it turns nothing
    pub stuck_turns : is_stuck (entry_chosen c s e) ≡ true → entry_turns c s e ≡ []
    unfolding entry_turns
    stuck_turns = nothing (entry_chosen c s e)
      where
        nothing : (k : Chosen) → is_stuck k ≡ true → turned_by (drawn c s e.draw) k ≡ []
        nothing (option o) z = absurd (true≢false (sym z))
        nothing itself z = absurd (true≢false (sym z))
        nothing stuck z = refl

    pub some_turned : is_stuck (entry_chosen c s e) ≡ false → 1 ≤ (move c s e).flips
    unfolding entry_turns
    some_turned z = turning.some z

    pub not_stuck_at : is_stuck (entry_chosen c s e) ≡ false → ¬ StuckAt c s e
    not_stuck_at z t = true≢false (sym (stuck_is.1 t) ∙ z)

    none_turned : (move c s e).flips ≡ 0 → StuckAt c s e
    none_turned z = elim (which (is_stuck (entry_chosen c s e))) [
      | inl w ↦ stuck_is.0 w
      | inr w ↦ absurd (omega (arith, some_turned w))
    ]

    pub entry_does : KeepsCodes c s → EntryDoes c s e
    unfolding entry_turns drawn front_size
    entry_does k = record {
      draw_place = refl;
      is_in_front = in_its_front;
      does = as_said;
      turns = turn_turns c (entry_turns c s e) s turning.turnable.once k.configuration;
      counts = refl;
      differs = turn_differs c (entry_turns c s e) s turning.turnable k;
      few = turning.few;
      none = (none_turned, λ t. ap length (stuck_turns (stuck_is.1 t)));
      undone = λ t. ap (λ (o : List ℕ). turn o s) (stuck_turns (stuck_is.1 t));
      keeps = keeps_turn c (entry_turns c s e) s turning.turnable.free k;
    }

pub move_is : MoveIs
move_is c ok s k n e = elim (which (is_empty (front c s))) [ inl q ↦ absurd (n (no_front c ok s q)) | inr q ↦ entry_does c ok s q e k ]
