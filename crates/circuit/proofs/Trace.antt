-- Demand 2 on circuits. Assumes nothing.
use Prim.Native.Nat.{ℕ, zero, suc, ◌+◌, ◌≤◌, ◌<◌}
use mathlib.Core.Path.{◌≡◌, refl, sym, ap}
use mathlib.Core.Logic.{inl, inr, ◌↔◌}
use Rattle.std.proofs.lemmas.Bool.{cases_order}
use mathlib.Core.Bool.{Bool, true, false, false≢true, true≢false}
use mathlib.Core.List.{List, [], ◌∷◌}
use native.Mathlib.Omega.{arith}
use lib.ListN.{length, get_or}
use Rattle.folds.proofs.Tests.{which}
use Rattle.circuit.specs.declared.Choice.TheVariants.{Down}
use Rattle.circuit.specs.declared.Ending.TheVariants.{Found, Spent, Stuck}
use Rattle.circuit.specs.Tools.{is_empty}
use Rattle.circuit.specs.Circuit.{Circuit, WellFormed}
use Rattle.circuit.specs.Evaluate.{Satisfying, KeepsCodes, differ}
use Rattle.circuit.specs.Survey.{front, front_size}
use Rattle.circuit.specs.declared.Entry.{Entry}
use Rattle.circuit.specs.Run.{is_stuck, entry_chosen, move, EndingValues, told, RunResult, stop, after, run, answer}
use Rattle.circuit.specs.Source001.{NoFront, Front, Size}
use Rattle.circuit.specs.Promise.{StuckAt, EntryDoes, config, differences, AllBefore, AtFound, AtStuck, EndsAt, RunPromised, InputsAreFree, Demand2OnCircuits}
use Rattle.circuit.proofs.Lists.{some_length, at_place}
use Rattle.circuit.proofs.Found.{answer_is, free_satisfies, answer_satisfies}
use Rattle.circuit.proofs.Gate.{functions}
use Rattle.circuit.proofs.Source001.{justified_is, smallest_is, down_options_are, down_options_in_order, pairs_are_set, options_justify}
use Rattle.circuit.proofs.Survey.{relevant_is, inputs_in_order, differ_is, survey_is}
use Rattle.circuit.proofs.Turns.{options_left_are}
use Rattle.circuit.proofs.Moves.{greedy_options_are, no_front, some_front, stuck_is, not_stuck_at, entry_does}

-- ---- one turn of a run

pub run_found : (c : Circuit) (s : List ℕ) (es : List Entry) → is_empty (front c s) ≡ true → run c s es ≡ stop Found s
unfolding run
run_found c s [] e = rw e
run_found c s (x ∷ es) e = rw (e, run)

pub run_spent : (c : Circuit) (s : List ℕ) → is_empty (front c s) ≡ false → run c s [] ≡ stop (Spent (front_size c s)) s
unfolding run
run_spent c s e = rw e

pub run_sticks : (c : Circuit) (s : List ℕ) (e : Entry) (es : List Entry) → is_empty (front c s) ≡ false → is_stuck (entry_chosen c s e) ≡ true
    → run c s (e ∷ es) ≡ stop Stuck s
unfolding run
run_sticks c s e es q z = rw (q, z, run)

pub run_step : (c : Circuit) (s : List ℕ) (e : Entry) (es : List Entry) → is_empty (front c s) ≡ false → is_stuck (entry_chosen c s e) ≡ false
    → run c s (e ∷ es) ≡ after (move c s e).flips (run c (move c s e).next es)
unfolding run
run_step c s e es q z = rw (q, z, run)

-- ---- the cases of a turn

-- what is promised, as far as it goes from entry to entry; the rest follows from it
record Went (c : Circuit) (s : List ℕ) (es : List Entry) (t : ℕ → List ℕ) (e : EndingValues) (moves flips : ℕ) (last : List ℕ) : Type 0 where
  accepted : (e.accepted ≡ true) × (e.number ≡ 0)
  moved : (d : Entry) (i : ℕ) → i < moves → EntryDoes c (t i) (get_or es i d) × (t (suc i) ≡ (move c (t i) (get_or es i d)).next)
  earlier : AllBefore c es t moves
  ends : EndsAt c es t moves e.front e.found e.stuck
  flips_are : flips ≡ differences c t moves
  last_is : last ≡ t moves
  keeps : KeepsCodes c last
  shows : e.found ≡ true → Satisfying c (answer c last)

abbrev RunWent : Circuit → List ℕ → List Entry → RunResult → Type 0
RunWent c s es r = Went c s es (config c s es) (told r.outcome.ending) r.outcome.moves r.outcome.flips r.last

-- one entry more before it
ends_later : (c : Circuit) (e : Entry) (es : List Entry) (t u : ℕ → List ℕ) (n size : ℕ) → ((i : ℕ) → u (suc i) ≡ t i) → (found stuck : Bool)
    → EndsAt c es t n size found stuck → EndsAt c (e ∷ es) u (suc n) size found stuck
ends_later c e es t u n size q true true p = p
ends_later c e es t u n size q true false p = record { within = omega (arith, p.within); empty = rw (q n) p.empty; no_size = p.no_size }
ends_later c e es t u n size q false true p = record { within = omega (arith, p.within); entry = λ d. rw (q n) (p.entry d); sticks = λ d. rw (q n) (p.sticks d); no_size = p.no_size }
ends_later c e es t u n size q false false p = record { all_done = ap suc p.all_done; size_is = rw (q n) p.size_is; some = p.some }

module _ (c : Circuit) (ok : WellFormed c) (s : List ℕ) (k : KeepsCodes c s) where
  at_found : (es : List Entry) → is_empty (front c s) ≡ true → RunWent c s es (stop Found s)
  at_found es e = record {
    accepted = (refl, refl);
    moved = λ d i h. absurd (omega arith);
    earlier = λ d j h. absurd (omega arith);
    ends = record { within = omega arith; empty = no_front c ok s e; no_size = refl };
    flips_are = refl;
    last_is = refl;
    keeps = k;
    shows = λ f. answer_satisfies c ok s k e;
  }

  at_spent : is_empty (front c s) ≡ false → RunWent c s [] (stop (Spent (front_size c s)) s)
  unfolding front_size
  at_spent e = record {
    accepted = (refl, refl);
    moved = λ d i h. absurd (omega arith);
    earlier = λ d j h. absurd (omega arith);
    ends = record { all_done = refl; size_is = (survey_is c ok s).size_of_front; some = some_length (front c s) e };
    flips_are = refl;
    last_is = refl;
    keeps = k;
    shows = λ f. absurd (false≢true f);
  }

  at_stuck : (e : Entry) (es : List Entry) → is_empty (front c s) ≡ false → is_stuck (entry_chosen c s e) ≡ true → RunWent c s (e ∷ es) (stop Stuck s)
  at_stuck e es q z = record {
    accepted = (refl, refl);
    moved = λ d i h. absurd (omega arith);
    earlier = λ d j h. absurd (omega arith);
    ends = record { within = omega arith; entry = λ d. entry_does c ok s q e k; sticks = λ d. (stuck_is c ok s q e).0 z; no_size = refl };
    flips_are = refl;
    last_is = refl;
    keeps = k;
    shows = λ f. absurd (false≢true f);
  }

  one_more : (e : Entry) (es : List Entry) (r : RunResult) → is_empty (front c s) ≡ false → is_stuck (entry_chosen c s e) ≡ false
      → RunWent c (move c s e).next es r → RunWent c s (e ∷ es) (after (move c s e).flips r)
  one_more e es r q z p = record {
    accepted = p.accepted;
    moved = each_move;
    earlier = before;
    ends = ends_later c e es (config c (move c s e).next es) (config c s (e ∷ es)) r.outcome.moves (told r.outcome.ending).front (λ i. refl) (told r.outcome.ending).found (told r.outcome.ending).stuck p.ends;
    flips_are = rw (sym (entry_does c ok s q e k).differs) (ap (λ (m : ℕ). differ c s (move c s e).next + m) p.flips_are);
    last_is = p.last_is;
    keeps = p.keeps;
    shows = p.shows;
  }
    where
      before : AllBefore c (e ∷ es) (config c s (e ∷ es)) (suc r.outcome.moves)
      before d zero h = record { some_front = some_front c ok s q; not_stuck = not_stuck_at c ok s q e z }
      before d (suc i) h = p.earlier d i (omega arith)

      each_move : (d : Entry) (i : ℕ) → i < suc r.outcome.moves
          → EntryDoes c (config c s (e ∷ es) i) (get_or (e ∷ es) i d) × (config c s (e ∷ es) (suc i) ≡ (move c (config c s (e ∷ es) i) (get_or (e ∷ es) i d)).next)
      each_move d zero h = (entry_does c ok s q e k, refl)
      each_move d (suc i) h = p.moved d i (omega arith)

  -- the two clauses of the recursion, as definitions of their own: written in place they cost the checker too many steps
  no_entry : RunWent c s [] (run c s [])
  no_entry = elim (which (is_empty (front c s))) [
    | inl q ↦ rw (run_found c s [] q) (at_found [] q)
    | inr q ↦ rw (run_spent c s q) (at_spent q)
  ]

  an_entry : (e : Entry) (es : List Entry)
      → (is_empty (front c s) ≡ false → RunWent c (move c s e).next es (run c (move c s e).next es)) → RunWent c s (e ∷ es) (run c s (e ∷ es))
  an_entry e es rest = elim (which (is_empty (front c s))) [
    | inl q ↦ rw (run_found c s (e ∷ es) q) (at_found (e ∷ es) q)
    | inr q ↦ elim (which (is_stuck (entry_chosen c s e))) [
      | inl z ↦ rw (run_sticks c s e es q z) (at_stuck e es q z)
      | inr z ↦ rw (run_step c s e es q z) (one_more e es (run c (move c s e).next es) q z (rest q))
    ]
  ]

went : (c : Circuit) → WellFormed c → (s : List ℕ) → KeepsCodes c s → (es : List Entry) → RunWent c s es (run c s es)
went c ok s k [] = no_entry c ok s k
went c ok s k (e ∷ es) = an_entry c ok s k e es (λ q. went c ok (move c s e).next (entry_does c ok s q e k).keeps es)

-- ---- which ending it is

-- what is known of the place reached, by the ending
module _ (c : Circuit) (es : List Entry) (t : ℕ → List ℕ) (n : ℕ) where
  by_found : (found stuck : Bool) (size : ℕ) → EndsAt c es t n size found stuck → found ≡ true → AtFound c es t n size
  by_found true true size p e = absurd p
  by_found true false size p e = p
  by_found false stuck size p e = absurd (false≢true e)

  by_stuck : (found stuck : Bool) (size : ℕ) → EndsAt c es t n size found stuck → stuck ≡ true → AtStuck c es t n size
  by_stuck true true size p e = absurd p
  by_stuck false true size p e = p
  by_stuck found false size p e = absurd (false≢true e)

  module _ (e : EndingValues) (p : EndsAt c es t n e.front e.found e.stuck) where
    pub found_ends : e.found ≡ true → AtFound c es t n e.front
    found_ends = by_found e.found e.stuck e.front p

    pub stuck_ends : e.stuck ≡ true → AtStuck c es t n e.front
    stuck_ends = by_stuck e.found e.stuck e.front p

-- any entry, where a statement needs one for a place past the tape
pub past_end : Entry
past_end = record { draw = 0; choice = Down 0 }

-- a front that has gates isn't empty
size_some : (P : ℕ → Type 0) (n : ℕ) → Size P n → 1 ≤ n → ¬ ((g : ℕ) → ¬ P g)
size_some P n z h none =
    let l = z.many in
    none (get_or z.elements 0 0) ((z.lists.has (get_or z.elements 0 0)).0 (at_place 0 z.elements 0 (omega (arith, l))))

module _ (c : Circuit) (es : List Entry) (t : ℕ → List ℕ) (n size : ℕ) (before : AllBefore c es t n) where
  -- the place reached is the only one at which a run can end: entries before it can be done, and the entry there can't
  not_empty : (i : ℕ) → i < n → ¬ NoFront c (t i)
  not_empty i h = (before past_end i h).some_front

  stuck_front : (i : ℕ) → ((d : Entry) → StuckAt c (t i) (get_or es i d)) → ¬ NoFront c (t i)
  stuck_front i w f = f (move c (t i) (get_or es i past_end)).gate (w past_end).is_in_front

  found_at : (found stuck : Bool) → EndsAt c es t n size found stuck
      → (found ≡ true) ↔ ((i : ℕ) × (i ≤ length es) × NoFront c (t i) × AllBefore c es t i)
  found_at true true p = absurd p
  found_at true false p = (λ f. (n, p.within, p.empty, before), λ w. refl)
  found_at false true p = (
    λ f. absurd (false≢true f),
    λ w. (let (i, h, f, l) = w in elim (cases_order i n) [
      | inl e ↦ absurd (stuck_front n p.sticks (rw e at f))
      | inr b ↦ elim b [
        | inl a ↦ absurd (not_empty i a f)
        | inr a ↦ absurd ((l past_end n a).not_stuck (p.sticks past_end))
      ]
    ]),
  )
  found_at false false p = (
    λ f. absurd (false≢true f),
    λ w. (let (i, h, f, l) = w in elim (cases_order i n) [
      | inl e ↦ absurd (size_some (Front c (t n)) size p.size_is p.some (rw e at f))
      | inr b ↦ elim b [
        | inl a ↦ absurd (not_empty i a f)
        | inr a ↦ absurd (let q = p.all_done in omega (arith, h, a, q))
      ]
    ]),
  )

  sticks_at : (found stuck : Bool) → EndsAt c es t n size found stuck
      → (stuck ≡ true) ↔ ((i : ℕ) × (i < length es) × ((d : Entry) → StuckAt c (t i) (get_or es i d)) × AllBefore c es t i)
  sticks_at true true p = absurd p
  sticks_at true false p = (
    λ f. absurd (false≢true f),
    λ w. (let (i, h, f, l) = w in elim (cases_order i n) [
      | inl e ↦ absurd (stuck_front i f (rw (← e) at p.empty))
      | inr b ↦ elim b [
        | inl a ↦ absurd ((before past_end i a).not_stuck (f past_end))
        | inr a ↦ absurd ((l past_end n a).some_front p.empty)
      ]
    ]),
  )
  sticks_at false true p = (λ f. (n, p.within, p.sticks, before), λ w. refl)
  sticks_at false false p = (
    λ f. absurd (false≢true f),
    λ w. absurd (let (i, h, f, l) = w in let q = p.all_done in (before past_end i (omega (arith, h, q))).not_stuck (f past_end)),
  )

  spent_at : (found stuck : Bool) → EndsAt c es t n size found stuck
      → ((found ≡ false) × (stuck ≡ false)) ↔ ((¬ NoFront c (t (length es))) × AllBefore c es t (length es))
  spent_at true true p = absurd p
  spent_at true false p = (
    λ f. absurd (true≢false f.0),
    λ w. absurd (elim (cases_order n (length es)) [
      | inl e ↦ w.0 (rw e at p.empty)
      | inr b ↦ elim b [ inl a ↦ (w.1 past_end n a).some_front p.empty | inr a ↦ (let q = p.within in omega (arith, a, q)) ]
    ]),
  )
  spent_at false true p = (λ f. absurd (true≢false f.1), λ w. absurd ((w.1 past_end n p.within).not_stuck (p.sticks past_end)))
  spent_at false false p = (
    λ f. (rw (← p.all_done) (size_some (Front c (t n)) size p.size_is p.some), rw (← p.all_done) before),
    λ w. (refl, refl),
  )

promised : (c : Circuit) → WellFormed c → (s : List ℕ) → KeepsCodes c s → (es : List Entry) → RunPromised c s es (run c s es)
promised c ok s k es =
    let w = went c ok s k es in
    let r = run c s es in
    let e = told r.outcome.ending in
    record {
      accepted = w.accepted;
      start = starts es;
      moved = w.moved;
      earlier = w.earlier;
      ends = w.ends;
      found = found_at c es (config c s es) r.outcome.moves e.front w.earlier e.found e.stuck w.ends;
      sticks = sticks_at c es (config c s es) r.outcome.moves e.front w.earlier e.found e.stuck w.ends;
      spent = spent_at c es (config c s es) r.outcome.moves e.front w.earlier e.found e.stuck w.ends;
      flips_are = w.flips_are;
      last_is = w.last_is;
      keeps = w.keeps;
      shows = w.shows;
    }
  where
    starts : (es : List Entry) → config c s es 0 ≡ s
    starts [] = refl
    starts (e ∷ es) = refl

inputs_are_free : InputsAreFree
inputs_are_free c ok s k n a w = elim (which (is_empty (front c s))) [
  | inl q ↦ free_satisfies c ok s k q a w.obeys w.kept w.configuration
  | inr q ↦ absurd (some_front c ok s q n)
]

pub demand2_on_circuits : Demand2OnCircuits
demand2_on_circuits = record {
  functions = functions;
  justified = justified_is;
  relevant = relevant_is;
  smallest = smallest_is;
  surveys = survey_is;
  options = down_options_are;
  order = down_options_in_order;
  pairs = pairs_are_set;
  justify = options_justify;
  left = options_left_are;
  greedy = greedy_options_are;
  inputs = inputs_in_order;
  answers = answer_is;
  free = inputs_are_free;
  differs = differ_is;
  runs = promised;
}
