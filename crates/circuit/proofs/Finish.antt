-- Demand 3 on circuits: the option toward a satisfying assignment, and runs of such steps. Assumes nothing.
use Prim.Native.Nat.{ℕ, zero, suc, ◌+◌, ◌≤◌, ◌<◌}
use mathlib.Core.Path.{◌≡◌, refl, sym, ap, ◌∙◌}
use mathlib.Core.Logic.{inl, inr}
use mathlib.Core.Bool.{Bool, true, false, not, true≢false}
use mathlib.Core.Option.{Option, none, some}
use mathlib.Core.List.{List, [], ◌∷◌, map}
use mathlib.Core.List.Memᴰ.{cases_cons as cases}
use mathlib.Core.List.Memᴰ.{map as map-in}
use mathlib.Core.List.Memᴰ.{not-nil as nowhere}
use mathlib.Core.List.{Memᴰ as In}
use native.Mathlib.Omega.{arith}
use lib.ListN.{length, replicate, length-replicate, length-map}
use Rattle.folds.proofs.Tests.{which, and_second_false}
use Rattle.circuit.specs.declared.Choice.{Choice}
use Rattle.circuit.specs.declared.Choice.TheVariants.{Down, Up}
use Rattle.circuit.specs.Tools.{up_to, is_empty}
use Rattle.circuit.specs.Circuit.{Circuit, is_some, coded, WellFormed, on}
use Rattle.circuit.specs.Evaluate.{Satisfying, KeepsCodes, differ}
use Rattle.circuit.specs.Survey.{in_front, front}
use Rattle.circuit.specs.declared.Entry.{Entry}
use Rattle.circuit.specs.Run.{drawn, down_options, options_left, turn, option, chosen, turned_by, is_stuck, entry_chosen, entry_turns, after, told, run, answer}
use Rattle.circuit.specs.Promise.{NotGreedy, option_byte, StuckAt, config, FinishingTape, Demand3OnCircuits, SatisfiableNeverStuck}
use Rattle.circuit.proofs.Values.{agree, unequal}
use Rattle.circuit.proofs.Lists.{place, pick_at, select_none, in_up_to, in_length, some_is_empty, is_empty_none}
use Rattle.circuit.proofs.Gate.{laws}
use Rattle.circuit.proofs.Evaluate.{justify}
use Rattle.circuit.proofs.Cone.{unjustified_seen, is_in_front}
use Rattle.circuit.proofs.Turns.{Turnable, keeps_turn, differ_most, differ_zero, differ_turn, left_in, left_few, option_sound, option_few, option_kid, left_turnable, alone_turnable}
use Rattle.circuit.proofs.Moves.{one_of_some, none_is, drawn_in}
use Rattle.circuit.proofs.Survey.{survey_is}
use Rattle.circuit.proofs.Trace.{run_found, run_step, past_end, stuck_ends, demand2_on_circuits}

-- ---- a step towards a satisfying assignment

pub has_code : (o : Option Bool) → is_some o ≡ true → (v : Bool) × (o ≡ some v)
has_code none e = absurd (true≢false (sym e))
has_code (some v) e = (v, refl)

-- a choice that turns only gates at which s and a differ
record Step (c : Circuit) (s a : List ℕ) (d : ℕ) : Type 0 where
  choice : Choice
  plain : NotGreedy choice × (option_byte choice < 256)
  gone : List ℕ
  goes : is_stuck (entry_chosen c s (record { draw = d; choice = choice })) ≡ false
  turns : entry_turns c s (record { draw = d; choice = choice }) ≡ gone
  some_gone : 1 ≤ length gone
  turnable : Turnable c gone
  near : (x : ℕ) → In x gone → on a x ≡ not (on s x)

module _ (c : Circuit) (ok : WellFormed c) (a : List ℕ) (sat : Satisfying c a) (s : List ℕ) (k : KeepsCodes c s) where
  -- a gate at which they differ is uncoded
  free_where : (x : ℕ) → x < c.gates → on a x ≡ not (on s x) → coded c x ≡ false
  free_where x h q = elim (which (coded c x)) [
    | inl e ↦ (let (v, w) = has_code (c.code x) e in absurd (unequal (on s x) v (k.shows x h v w) (sym q ∙ sat.shows x h v w)))
    | inr e ↦ e
  ]

  -- a front gate whose value agrees with a has an option that turns only gates at which they differ,
  near_option : (g : ℕ) → In g (front c s) → on a g ≡ on s g → (o : List ℕ) × In o (down_options c s g) × ((x : ℕ) → In x o → on a x ≡ not (on s x))
  unfolding down_options
  near_option g m q =
      let e = unjustified_seen c ok s g (is_in_front c ok s g m).0 (is_in_front c ok s g m).2 in
      (laws (c.kind g) (on s g) e.gate).toward (on s) (on a) (c.kids g) e (sat.obeys g (is_in_front c ok s g m).0 e.gate ∙ q)

  -- and that is left, as these gates are uncoded
  near_left : (g : ℕ) → In g (front c s) → on a g ≡ on s g → (o : List ℕ) × In o (options_left c s g) × ((x : ℕ) → In x o → on a x ≡ not (on s x))
  near_left g m q =
      let (h, _, u) = is_in_front c ok s g m in
      let (o, n, near) = near_option g m q in
      (o, (left_in c s g o).1 (n, λ x i. free_where x (omega (arith, ok.below g h x (option_kid c ok s g h u o n x i))) (near x i)), near)

  up_step : (d : ℕ) → In (drawn c s d) (front c s) → on a (drawn c s d) ≡ not (on s (drawn c s d)) → Step c s a d
  unfolding entry_turns entry_chosen chosen
  up_step d m q =
      let uncoded = free_where (drawn c s d) (is_in_front c ok s (drawn c s d) m).0 q in
      record {
        choice = Up 0;
        plain = (tt, omega arith);
        gone = drawn c s d ∷ [];
        goes = rw uncoded;
        turns = rw uncoded;
        some_gone = omega arith;
        turnable = alone_turnable c ok s (drawn c s d) (is_in_front c ok s (drawn c s d) m).0 uncoded;
        near = λ x n. elim (cases n) [ inl e ↦ rw e q | inr z ↦ absurd (nowhere z) ];
      }

  down_step : (d : ℕ) → In (drawn c s d) (front c s) → on a (drawn c s d) ≡ on s (drawn c s d) → Step c s a d
  unfolding entry_turns entry_chosen chosen
  down_step d m q =
      let (h, _, u) = is_in_front c ok s (drawn c s d) m in
      let (o, n, near) = near_left (drawn c s d) m q in
      let (i, l, e) = place [] o (options_left c s (drawn c s d)) n in
      let is : chosen c s (drawn c s d) (Down i) ≡ option o =
      one_of_some c (drawn c s d) i (options_left c s (drawn c s d)) (some_is_empty (options_left c s (drawn c s d)) (in_length o (options_left c s (drawn c s d)) n)) ∙ ap option (pick_at (options_left c s (drawn c s d)) i [] l ∙ e) in
      record {
        choice = Down i;
        plain = (tt, omega (arith, option_few c ok s (drawn c s d) h u, left_few c s (drawn c s d)));
        gone = o;
        goes = ap is_stuck is;
        turns = ap (turned_by (drawn c s d)) is;
        some_gone = (option_sound c ok s (drawn c s d) h u o ((left_in c s (drawn c s d) o).0 n).0).1;
        turnable = left_turnable c ok s (drawn c s d) h u o n;
        near = near;
      }

  step : (d : ℕ) → is_empty (front c s) ≡ false → Step c s a d
  step d e = elim (agree (on s (drawn c s d)) (on a (drawn c s d))) [
    | inl q ↦ down_step d (drawn_in c ok s d e) q
    | inr q ↦ up_step d (drawn_in c ok s d e) q
  ]

-- ---- whole runs

-- any entries do where the front is empty already
idle : ℕ → Entry
idle d = record { draw = d; choice = Down 0 }

idle_draws : (ds : List ℕ) → map (λ (e : Entry). e.draw) (map idle ds) ≡ ds
unfolding idle
idle_draws [] = refl
idle_draws (d ∷ ds) = ap (λ (l : List ℕ). d ∷ l) (idle_draws ds)

idle_plain : (ds : List ℕ) (e : Entry) → In e (map idle ds) → NotGreedy e.choice × (option_byte e.choice < 256)
unfolding idle
idle_plain [] e m = absurd (nowhere m)
idle_plain (d ∷ ds) e m = elim (cases m) [ inl q ↦ rw q (tt, omega arith) | inr n ↦ idle_plain ds e n ]

at_once : (c : Circuit) (s ds : List ℕ) (n : ℕ) → is_empty (front c s) ≡ true → FinishingTape c s ds n
at_once c s ds n e = record {
  tape = map idle ds;
  draws = idle_draws ds;
  plain = idle_plain ds;
  ends_found = rw (run_found c s (map idle ds) e);
  moves = rw (run_found c s (map idle ds) e) (omega arith);
  flips = rw (run_found c s (map idle ds) e) (omega arith);
}

onward : (c : Circuit) (s a : List ℕ) (d : ℕ) (ds : List ℕ) (m n : ℕ) → is_empty (front c s) ≡ false
    → (t : Step c s a d) → n ≡ length t.gone + m → FinishingTape c (turn t.gone s) ds m → FinishingTape c s (d ∷ ds) n
onward c s a d ds m n e t q r = record {
  tape = x ∷ r.tape;
  draws = ap (λ (l : List ℕ). d ∷ l) r.draws;
  plain = λ y i. elim (cases i) [ inl w ↦ rw w t.plain | inr j ↦ r.plain y j ];
  ends_found = rw same_run r.ends_found;
  moves = rw same_run (omega (arith, r.moves, t.some_gone));
  flips = rw same_run (omega (arith, r.flips));
}
  where
    x : Entry
    x = record { draw = d; choice = t.choice }

    same_run : run c s (x ∷ r.tape) ≡ after (length t.gone) (run c (turn t.gone s) r.tape)
    same_run = run_step c s x r.tape e t.goes ∙ rw t.turns

module _ (c : Circuit) (ok : WellFormed c) (a : List ℕ) (sat : Satisfying c a) where
  -- a satisfying assignment's own front is empty
  settled : is_empty (front c a) ≡ true
  unfolding front in_front
  settled = rw (select_none (in_front c a) (up_to c.gates) (λ x m. and_second_false _ _ (ap not (justify c a x (sat.obeys x (in_up_to x c.gates m))))))

  finish : (ds s : List ℕ) → KeepsCodes c s → differ c s a ≤ length ds → FinishingTape c s ds (differ c s a)
  finish [] s k l = at_once c s [] (differ c s a) (rw (differ_zero c s a k.configuration sat.configuration (omega arith)) settled)
  finish (d ∷ ds) s k l = elim (which (is_empty (front c s))) [
    | inl e ↦ at_once c s (d ∷ ds) (differ c s a) e
    | inr e ↦ (let t : Step c s a d = step c ok a sat s k d e in
        let q : differ c s a ≡ length t.gone + differ c (turn t.gone s) a = differ_turn c a sat.configuration t.gone s t.turnable k t.near in
        onward c s a d ds (differ c (turn t.gone s) a) (differ c s a) e t q
        (finish ds (turn t.gone s) (keeps_turn c t.gone s t.turnable.free k) (omega (arith, t.some_gone))))
  ]

-- ---- the demand

in_zeros : (n x : ℕ) → In x (replicate n 0) → x ≡ 0
in_zeros zero x m = absurd (nowhere m)
in_zeros (suc n) x m = elim (cases m) [ inl e ↦ e | inr i ↦ in_zeros n x i ]

-- a tape for the draws 0, 0, .., whose entries fit their bytes
module _ (c : Circuit) (ok : WellFormed c) (s : List ℕ) (k : KeepsCodes c s) (a : List ℕ) (sat : Satisfying c a) where
  zeros : FinishingTape c s (replicate (differ c s a) 0) (differ c s a)
  zeros = finish c ok a sat (replicate (differ c s a) 0) s k (omega (arith, length-replicate {A = ℕ} (differ c s a) 0))

  zeros_fit : (e : Entry) → In e zeros.tape → e.draw < 65536
  zeros_fit e m = let z : e.draw ≡ 0 = in_zeros (differ c s a) e.draw (rw zeros.draws at (map-in (λ (x : Entry). x.draw) m)) in omega arith

  zeros_few : length zeros.tape ≤ c.gates
  zeros_few =
      let l = length-map zeros.tape (λ (x : Entry). x.draw) in
      let d = ap length zeros.draws in
      omega (arith, length-replicate {A = ℕ} (differ c s a) 0, differ_most c s a)

pub demand3_on_circuits : Demand3OnCircuits
demand3_on_circuits c ok s k = record {
  only = λ tape f. (answer c (run c s tape).last, (demand2_on_circuits.runs c ok s k tape).shows f);
  some_tape = λ r. (let z = zeros c ok s k r.0 r.1 in
      (z.tape, λ e m. (zeros_fit c ok s k r.0 r.1 e m, (z.plain e m).1), zeros_few c ok s k r.0 r.1, z.ends_found));
  bounded = λ a sat ds l. finish c ok a sat ds s k (omega arith);
}

-- ---- never stuck

module _ (c : Circuit) (ok : WellFormed c) (a : List ℕ) (sat : Satisfying c a) (s : List ℕ) (k : KeepsCodes c s) where
  -- a coded gate has the same value in both
  coded_agrees : (g : ℕ) → g < c.gates → coded c g ≡ true → on a g ≡ on s g
  coded_agrees g h e = let (v, w) = has_code (c.code g) e in sat.shows g h v w ∙ sym (k.shows g h v w)

  -- so a coded gate of the front has an option left
  no_entry_stuck : (e : Entry) → ¬ StuckAt c s e
  no_entry_stuck e t =
      let g = drawn c s e.draw in
      let m = ((survey_is c ok s).listed.has g).1 t.is_in_front in
      let (o, n, near) = near_left c ok a sat s k g m (coded_agrees g (is_in_front c ok s g m).0 t.is_coded) in
      is_empty_none o (options_left c s g) ((none_is c ok s g m).1 t.none_left) n

-- a run whose entries are never stuck isn't
pub runs_go : (c : Circuit) → WellFormed c → (s : List ℕ) → KeepsCodes c s → ((t : List ℕ) → KeepsCodes c t → (e : Entry) → ¬ StuckAt c t e)
    → (es : List Entry) → (told (run c s es).outcome.ending).stuck ≡ false
runs_go c ok s k free es = elim (which (told (run c s es).outcome.ending).stuck) [
  | inl q ↦ (let p = demand2_on_circuits.runs c ok s k es in
      let w = stuck_ends c es (config c s es) (run c s es).outcome.moves (told (run c s es).outcome.ending) p.ends q in
      absurd (free _ (rw p.last_is at p.keeps) _ (w.sticks past_end)))
  | inr q ↦ q
]

pub never_stuck : SatisfiableNeverStuck
never_stuck c ok w s k = record {
  entries = no_entry_stuck c ok w.0 w.1 s k;
  runs = runs_go c ok s k (λ t l e. no_entry_stuck c ok w.0 w.1 t l e);
}
