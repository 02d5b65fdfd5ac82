-- Demands 2 and 3, on bytes. Assumes nothing.
use Prim.Native.Nat.{ℕ, zero, suc, ◌*◌, ◌≤◌, ◌<◌}
use mathlib.Core.Path.{◌≡◌, refl, sym, ap, ◌∙◌}
use mathlib.Core.Bool.{true, false, false≢true, true≢false}
use mathlib.Core.Logic.{inl, inr}
use mathlib.Core.List.{List, ◌++◌}
use mathlib.Core.List.Memᴰ.{cases_cons as cases}
use mathlib.Core.List.Memᴰ.{not-nil as nowhere}
use mathlib.Core.List.{Memᴰ as In}
use native.Mathlib.Omega.{arith}
use lib.Dec.{eqb}
use lib.ListN.{length, get_or, take, replicate, length-map, length-replicate, get_or-append}
use Rattle.folds.proofs.Tests.{which}
use Rattle.circuit.specs.Tools.{over}
use Rattle.circuit.specs.declared.Ending.{Ending}
use Rattle.circuit.specs.declared.Ending.TheVariants.{Found, Spent, Stuck, Refused}
use Rattle.circuit.specs.declared.Entry.{Entry}
use Rattle.circuit.specs.Circuit.{WellFormed}
use Rattle.circuit.specs.Evaluate.{Satisfying, differ}
use Rattle.circuit.specs.Survey.{survey}
use Rattle.circuit.specs.Run.{RunResult, run, answer, EndingValues, told}
use Rattle.circuit.specs.Source001.{NoFront}
use Rattle.circuit.specs.Promise.{StuckAt, config, RunPromised, FinishingTape}
use Rattle.circuit.proofs.Values.{bit_same}
use Rattle.circuit.proofs.Evaluate.{row_is, row_first, evaluate_again}
use Rattle.circuit.proofs.Survey.{differ_is}
use Rattle.circuit.proofs.Found.{answer_is}
use Rattle.circuit.proofs.Trace.{found_ends, stuck_ends, demand2_on_circuits}
use Rattle.circuit.proofs.Turns.{differ_most}
use Rattle.circuit.proofs.Finish.{demand3_on_circuits}
use Rattle.map.specs.Map.{most_gates, gate_count, code_count, code_gate, code_value, circuit}
use Rattle.map.specs.Check.{first_failed, map_tests}
use Rattle.map.specs.Inner.{IsMap}
use Rattle.map.proofs.Facts.{facts, well_formed}
use Rattle.map.proofs.Codes.{code_found}
use Rattle.map.proofs.Described.{map_accepts, accepted_maps}
use Rattle.state.specs.State.{Satisfies}
use Rattle.circuit.proofs.Over.{over_first, over_rest, over_long}
use Rattle.state.proofs.Meaning.{mark_does}
use Rattle.survey.specs.Survey.{IsStart}
use Rattle.survey.proofs.Meaning.{survey_does, survey_accepts}
use Rattle.tape.specs.Tape.{most_entries, entries}
use Rattle.search.specs.Run.{tape_tests, run_tests, answer_memory, run_answer, run_ended, run_by, run_effect, Room, Runnable}
use Rattle.search.proofs.Runs.{survey_length, answer_length}
use Rattle.search.proofs.Endings.{run_ends}
use Rattle.demands.specs.Demands.{FoundWrites, RunMeans, RunDoes, Demand2, SameRun, SameForAllMemories, AreDraws, Way, Plain, tape_of, Finishing, Demand3}
use Rattle.demands.proofs.Moves.{move_does, move_accepts}
use Rattle.demands.proofs.Runs.{of_room, none, written, runnable, of_runnable, found_accepted, run_accepts, run_few, front_few}
use Rattle.demands.proofs.Tapes.{entries_length, entry_is, entry_read, ways_of, ways_length, ways_plain, entries_back, tape_length, tape_kinds, tape_bytes}

-- ---- demand 2

-- each code record finds its value in a satisfying assignment, whatever bytes stand behind it
shown : (m : List ℕ) → IsMap m → (a rest : List ℕ) → Satisfying (circuit m) a → (r : ℕ) → r < code_count m → get_or (a ++ rest) (code_gate m r) 0 ≡ code_value m r
shown m k a rest w r h =
    let g = k.sound.coded_gate r h in
    let v = w.shows (code_gate m r) g (eqb (code_value m r) 1) (code_found m k.codes_ascend (code_count m) r h (omega arith)) in
    get_or-append a rest 0 (code_gate m r) (omega (arith, w.configuration.long))
    ∙ bit_same (get_or a (code_gate m r) 0) (code_value m r) (w.configuration.bits (code_gate m r)) (k.code_values r h) v

-- what an ending leaves in the answer memory
answered : (e : Ending) (x ans : List ℕ) → (told e).found ≡ true → answer_memory e x ans ≡ over x ans
answered Found x ans f = refl
answered (Spent k) x ans f = absurd (false≢true f)
answered Stuck x ans f = absurd (false≢true f)
answered (Refused k) x ans f = absurd (false≢true f)

not_answered : (e : Ending) (x ans : List ℕ) → (told e).found ≡ false → answer_memory e x ans ≡ ans
not_answered Found x ans n = absurd (true≢false n)
not_answered (Spent f) x ans n = refl
not_answered Stuck x ans n = refl
not_answered (Refused k) x ans n = refl

module _ (m s tape work ans : List ℕ) (a : Runnable m s tape work ans) where
  abbrev end : RunResult
  end = run (circuit m) s (entries tape)

  ok : WellFormed (circuit m)
  ok = well_formed m (facts m a.start.accepted)

  promised : RunPromised (circuit m) s (entries tape) end
  promised = demand2_on_circuits.runs (circuit m) ok s a.start.keeps (entries tape)

  found_writes : (told end.outcome.ending).found ≡ true → FoundWrites m end.last ans (over (answer (circuit m) end.last) ans)
  found_writes f =
      let w = (answer_is (circuit m) ok end.last).0 in
      let l : length (answer (circuit m) end.last) ≡ gate_count m = w.configuration.long in
      let first = over_first (answer (circuit m) end.last) ans (gate_count m) l in
      let no_front_left : NoFront (circuit m) end.last = rw promised.last_is (found_ends (circuit m) (entries tape) (config (circuit m) s (entries tape)) end.outcome.moves (told end.outcome.ending) promised.ends f).empty in
      record {
        answered = rw first w;
        marked = rw first ((mark_does m (answer (circuit m) end.last)).1 (a.start.accepted, promised.shows f));
        row = rw (row_first (circuit m) (answer (circuit m) end.last) _ l, first)
            (row_is (circuit m) (answer (circuit m) end.last) w.configuration, evaluate_again (circuit m) ok (answer (circuit m) end.last) w.configuration w.obeys);
        codes = λ r h. shown m (facts m a.start.accepted) (answer (circuit m) end.last) _ (promised.shows f) r h;
        free = λ b w. (mark_does m b).1 (a.start.accepted, demand2_on_circuits.free (circuit m) ok end.last promised.keeps no_front_left b w);
        surplus = over_rest (answer (circuit m) end.last) ans (gate_count m) l;
        long = over_long (answer (circuit m) end.last) ans (gate_count m) l a.room.answer_room;
      }

  sticks : (told end.outcome.ending).stuck ≡ true → (d : Entry)
      → (end.outcome.moves < length (entries tape)) × StuckAt (circuit m) end.last (get_or (entries tape) end.outcome.moves d)
  sticks z d =
      let w = stuck_ends (circuit m) (entries tape) (config (circuit m) s (entries tape)) end.outcome.moves (told end.outcome.ending) promised.ends z in
      (w.within, rw promised.last_is (w.sticks d))

  -- the front that an ending carries
  front_carried : (told end.outcome.ending).front ≤ gate_count m
  front_carried = rw (ap (λ (t : EndingValues). t.front) (run_ends (circuit m) s (entries tape))) (elim (which (told end.outcome.ending).stuck) [
    | inl q ↦ rw q (omega arith)
    | inr q ↦ rw q (front_few (circuit m) end.last)
  ])

  bounds : (end.outcome.moves ≤ most_entries) × ((end.outcome.flips ≤ 8 * end.outcome.moves) × ((told end.outcome.ending).front ≤ most_gates))
  bounds =
      let (i, j) = run_few (circuit m) ok s a.start.keeps (entries tape) in
      (omega (arith, i, entries_length tape a.tape_length.0, a.tape_length), (j, omega (arith, front_carried, (facts m a.start.accepted).sound.placed.shaped.few)))

  means : RunMeans m s tape work ans (run_ended (circuit m) end work ans)
  unfolding run_ended run_answer
  means =
      let l = survey_length (circuit m) end.last in
      record {
        start = a.start;
        entries_are = entries_length tape a.tape_length.0;
        entry_is = λ d i h. rw (entry_is tape a.tape_length.0 d i h) (entry_read tape (4 * i) (a.kinds i h));
        promised = promised;
        ending = run_ends (circuit m) s (entries tape);
        stuck = sticks;
        bounds = bounds;
        surveyed = over_first (survey (circuit m) end.last) work (gate_count m) l;
        work_surplus = over_rest (survey (circuit m) end.last) work (gate_count m) l;
        work_long = over_long (survey (circuit m) end.last) work (gate_count m) l a.room.work_room;
        found = λ f. rw (answered end.outcome.ending (answer (circuit m) end.last) ans f) (found_writes f);
        not_found = not_answered end.outcome.ending (answer (circuit m) end.last) ans;
      }

pub run_does : RunDoes
run_does m s tape work ans e = let n = none m s tape work ans e in rw (written m s tape work ans n) (means m s tape work ans (runnable m s tape work ans n))

-- ---- all memories: the tests of two calls are the same, and what their number gives too

module _ (m s tape work ans work' ans' : List ℕ) where
  same_tests : Room m work ans → Room m work' ans' → run_tests m s tape work ans ≡ run_tests m s tape work' ans'
  unfolding run_tests tape_tests
  same_tests r r' = rw (of_room m work ans r, of_room m work' ans' r')

  -- two accepted calls, and two calls with the same number
  same_ran : (r : RunResult) → SameRun m (run_ended (circuit m) r work ans) (run_ended (circuit m) r work' ans')
  unfolding run_ended run_answer
  same_ran r =
      let l = survey_length (circuit m) r.last in
      let k = answer_length (circuit m) r.last in
      record {
        ending = refl;
        moves = refl;
        flips = refl;
        configuration = refl;
        surveyed = λ e. over_first (survey (circuit m) r.last) work (gate_count m) l ∙ sym (over_first (survey (circuit m) r.last) work' (gate_count m) l);
        answered = λ e. rw (answered r.outcome.ending (answer (circuit m) r.last) ans e, answered r.outcome.ending (answer (circuit m) r.last) ans' e)
            (over_first (answer (circuit m) r.last) ans (gate_count m) k ∙ sym (over_first (answer (circuit m) r.last) ans' (gate_count m) k));
      }

  same_by : (n : ℕ) → SameRun m (run_by n m s tape work ans) (run_by n m s tape work' ans')
  unfolding run_by run_answer
  same_by n = elim (which (eqb n 0)) [
    | inl q ↦ rw q (same_ran (run (circuit m) s (entries tape)))
    | inr q ↦ rw q (record {
      ending = refl;
      moves = refl;
      flips = refl;
      configuration = refl;
      surveyed = λ e. absurd (false≢true e);
      answered = λ e. absurd (false≢true e);
    })
  ]

pub same_for_all_memories : SameForAllMemories
unfolding run_effect
same_for_all_memories m s tape work ans work' ans' r r' =
    rw (same_tests m s tape work ans work' ans' r r') (same_by m s tape work ans work' ans' (first_failed (map_tests m ++ run_tests m s tape work' ans')))

pub demand2 : Demand2
demand2 = record {
  maps = accepted_maps;
  notions = demand2_on_circuits;
  survey_accepts = survey_accepts;
  surveys = survey_does;
  move_accepts = move_accepts;
  moves = move_does;
  run_accepts = run_accepts;
  runs = run_does;
  memories = same_for_all_memories;
}

-- ---- demand 3

-- what Found leaves in the answer memory satisfies the map
only : (m s tape work ans : List ℕ) → (run_effect m s tape work ans).found ≡ true → (a : List ℕ) × Satisfies m a
only m s tape work ans f = (take (gate_count m) (run_effect m s tape work ans).answer, ((run_does m s tape work ans (found_accepted m s tape work ans f)).found f).marked)

module _ (m s : List ℕ) (k : IsStart m s) where
  -- a tape of entries that ends Found, as bytes
  module _ (ds : List ℕ) (n : ℕ) (d : AreDraws ds) (short : length ds ≤ most_entries) (f : FinishingTape (circuit m) s ds n) where
    abbrev ways : List Way
    ways = ways_of f.tape

    one_each : length ways ≡ length ds
    one_each = ways_length f.tape ∙ sym (length-map f.tape (λ (e : Entry). e.draw)) ∙ ap length f.draws

    plain : (w : Way) → In w ways → Plain w
    plain = ways_plain f.tape f.plain

    reads : entries (tape_of ds ways) ≡ f.tape
    reads = rw f.draws at (entries_back f.tape)

    long : length (tape_of ds ways) ≡ 4 * length ds
    long = tape_length ds ways one_each

    can_run : (work ans : List ℕ) → Room m work ans → Runnable m s (tape_of ds ways) work ans
    can_run work ans r = record {
      start = k;
      tape_length = rw long (omega arith, omega arith);
      kinds = λ i h. tape_kinds ds ways plain i;
      room = r;
    }

    runs : (work ans : List ℕ) → Room m work ans → run_effect m s (tape_of ds ways) work ans ≡ run_ended (circuit m) (run (circuit m) s f.tape) work ans
    runs work ans r = written m s (tape_of ds ways) work ans (of_runnable m s (tape_of ds ways) work ans (can_run work ans r)) ∙ rw reads

    finishing : Finishing m s ds n
    unfolding run_ended run_answer
    finishing = record {
      ways = ways;
      one_each = one_each;
      plain = plain;
      bytes = tape_bytes ds ways d plain;
      draws = rw reads f.draws;
      run_finds = λ work ans r. rw (runs work ans r) (record { found = f.ends_found; moves = f.moves; flips = f.flips });
    }

  bounded : (a : List ℕ) → Satisfies m a → (ds : List ℕ) → AreDraws ds → length ds ≡ differ (circuit m) s a → Finishing m s ds (differ (circuit m) s a)
  bounded a y ds d l =
      finishing ds (differ (circuit m) s a) d (omega (arith, (facts m k.accepted).sound.placed.shaped.few, differ_most (circuit m) s a))
      ((demand3_on_circuits (circuit m) (well_formed m (facts m k.accepted)) s k.keeps).bounded a ((mark_does m a).0 y).1 ds l)

zeros_are_draws : (n : ℕ) → AreDraws (replicate n 0)
zeros_are_draws zero = λ d i. absurd (nowhere i)
zeros_are_draws (suc n) = λ d i. elim (cases i) [ inl q ↦ rw q (omega arith) | inr j ↦ zeros_are_draws n d j ]

pub demand3 : Demand3
demand3 = record {
  maps = map_accepts;
  circuits = accepted_maps;
  satisfying = mark_does;
  counted = differ_is;
  from = λ m s k. record {
    only = only m s;
    some_tape = λ a y. (let n = differ (circuit m) s a in
        let f = bounded m s k a y (replicate n 0) (zeros_are_draws n) (length-replicate n 0) in
        (tape_of (replicate n 0) f.ways, f.bytes, λ work ans r. (f.run_finds work ans r).found));
    bounded = bounded m s k;
  };
}
