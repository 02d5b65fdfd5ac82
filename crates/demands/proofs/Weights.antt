-- Request F-5, on bytes. Assumes nothing.
use Prim.Native.Nat.{ℕ, ◌+◌, ◌*◌, ◌≤◌, ◌<◌}
use mathlib.Core.Path.{◌≡◌, refl, sym, ap, ◌∙◌}
use mathlib.Core.Bool.{Bool, true, false, false≢true, true≢false}
use mathlib.Core.Logic.{◌↔◌, inl, inr}
use mathlib.Core.List.{List}
use native.Mathlib.Omega.{arith}
use Rattle.circuit.specs.declared.Choice.{Choice}
use Rattle.circuit.specs.declared.Choice.TheVariants.{Greedy}
use Rattle.circuit.specs.declared.Kind.TheVariants.{Not}
use Rattle.circuit.specs.Tools.{byte}
use Rattle.circuit.specs.Gate.{kind_of, kind_number}
use Rattle.circuit.specs.Circuit.{Circuit}
use Rattle.circuit.specs.Survey.{interest_size}
use Rattle.circuit.specs.Source001.{Interesting, InterestSet, Size}
use Rattle.circuit.specs.Run.{turn, Chosen, option, itself, stuck, entry_chosen, entry_turns}
use Rattle.circuit.specs.Promise.{LeftOption, ChoiceDoes, entry_with_nots, AsWithNots}
use Rattle.circuit.proofs.Values.{byte_bit}
use Rattle.circuit.proofs.Survey.{survey_is, interest_from}
use Rattle.circuit.proofs.Moves.{greedy_options_are}
use Rattle.circuit.proofs.Unchanged.{same_turns, unchanged_without_nots, unchanged_without_greedy}
use Rattle.kinds.proofs.Fans.{kind_is, fits_allowed}
use Rattle.map.specs.Map.{gate_count, kind_byte, fan_in, circuit}
use Rattle.map.specs.Check.{kind_test}
use Rattle.map.specs.Inner.{IsMap}
use Rattle.map.proofs.Facts.{facts, well_formed}
use Rattle.survey.specs.Survey.{SurveyEffect, SurveyByte, survey_effect}
use Rattle.survey.proofs.Meaning.{none as survey-none, written as survey-written, survey_does}
use Rattle.tape.specs.Tape.{entry_at, entries}
use Rattle.search.specs.Move.{MoveEffect, move_effect}
use Rattle.demands.specs.Before.{moved_with_nots, MoveIsAs}
use Rattle.demands.specs.Weights.{HasMark4, IsNot, MarksAndSizes, GreedyCompares, UnchangedOnMaps, UnchangedOnEntries, Weights}
use Rattle.demands.proofs.Moves.{none as move-none, written as move-written, move_does}
use Rattle.demands.proofs.Runs.{none as run_none, written as run-written}
use Rattle.demands.proofs.Demands.{demand2}
use Rattle.demands.proofs.Table.{p1_to_p12, example_f5}

-- a set by another name
same_size : (P Q : ℕ → Type 0) → ((x : ℕ) → P x ↔ Q x) → (n : ℕ) → Size P n → Size Q n
same_size P Q h n z = record {
  elements = z.elements;
  lists = record { rising = z.lists.rising; has = λ x. (λ i. (h x).0 ((z.lists.has x).0 i), λ q. (z.lists.has x).1 ((h x).1 q)) };
  many = z.many;
}

-- ---- marks

-- the 4 tells
four : (k f t : Bool) → (4 ≤ byte k + 2 * byte f + 4 * byte t) ↔ (t ≡ true)
four k f true = (λ l. refl, λ e. omega arith)
four k f false = (λ l. absurd (omega (arith, byte_bit k, byte_bit f)), λ e. absurd (false≢true e))

mark_tells : (b : ℕ) (P Q R : Type 0) → SurveyByte b P Q R → (4 ≤ b) ↔ R
mark_tells b P Q R z = (
  λ l. z.interest_is.0 ((four z.cone z.front z.interest).0 (omega (arith, z.is))),
  λ r. (let l = (four z.cone z.front z.interest).1 (z.interest_is.1 r) in omega (arith, z.is)),
)

-- a NOT gate by its kind byte
module _ (m : List ℕ) (k : IsMap m) (g : ℕ) (h : g < gate_count m) where
  not_is : (kind_of (kind_byte m g) ≡ Not) ↔ (kind_byte m g ≡ 1)
  unfolding kind_test
  not_is = (λ e. sym (kind_is _ _ (fits_allowed (kind_byte m g) (fan_in m g) (k.kinds g h))) ∙ ap kind_number e, λ e. rw e)

marks_and_sizes : MarksAndSizes
marks_and_sizes m s out e =
    let d = survey_does m s out e in
    let k = facts m d.start.accepted in
    let marks : (g : ℕ) → g < gate_count m → HasMark4 (survey_effect m s out) g ↔ Interesting (circuit m) s g = λ g h. mark_tells _ _ _ _ (d.bytes g h) in
    let set : (g : ℕ) → g < gate_count m → InterestSet (circuit m) s g ↔ (HasMark4 (survey_effect m s out) g × ¬ IsNot m g) = λ g h. (
      λ p. ((marks g h).1 p.0, λ b. p.1 ((not_is m k g h).1 b)),
      λ p. ((marks g h).0 p.0, λ z. p.1 ((not_is m k g h).0 z)),
    ) in
    record {
      marks = marks;
      set = set;
      size = same_size _ _ (λ g. (
        λ p. (let h = (interest_from (circuit m) (well_formed m k) s g p.0).0 in (h, (set g h).0 p)),
        λ p. (set g p.0).1 p.1,
      )) _ d.size_of_interest;
    }

-- ---- greedy

-- an option that is left is one that a greedy choice weighed
greedy_least : (c : Circuit) (s : List ℕ) (g i : ℕ) (h : Choice) → h ≡ Greedy i → (k : Chosen) (xs o : List ℕ) → ChoiceDoes c s g h k xs → LeftOption c s g o
    → interest_size c (turn xs s) ≤ interest_size c (turn o s)
greedy_least c s g i h e (option x) xs o d l = rw d.0 ((rw e at d.1).smallest o l)
greedy_least c s g i h e itself xs o d l = elim d.1.1 [
  | inl u ↦ absurd (rw e at u)
  | inr n ↦ (let (x, m, q) = n o l.is_option in absurd (true≢false (sym q ∙ l.uncoded x m)))
]
greedy_least c s g i h e stuck xs o d l = let (x, m, q) = d.1.1 o l.is_option in absurd (true≢false (sym q ∙ l.uncoded x m))

-- the size that Survey returns
returned : (m s out : List ℕ) → (survey_effect m s out).accepted ≡ true → (survey_effect m s out).interest ≡ interest_size (circuit m) s
returned m s out e = ap (λ (r : SurveyEffect). r.interest) (survey-written m s out (survey-none m s out e))

greedy_compares : GreedyCompares
greedy_compares m s entry work i e a o l out p q =
    let w = move-written m s entry work (move-none m s entry work a) in
    let d = move_does m s entry work a in
    let t : (move_effect m s entry work).configuration ≡ turn (entry_turns (circuit m) s (entry_at entry 0)) s = ap (λ (r : MoveEffect). r.configuration) w in
    let n = greedy_least (circuit m) s _ i _ e _ _ o d.does.does (rw d.gate.0 at l) in
    let x = returned m _ out p in
    let y = returned m _ out q in
    rw (x, y, t) n

-- ---- what did not change

moves_same : (m s entry work : List ℕ) → entry_chosen (circuit m) s (entry_at entry 0) ≡ entry_with_nots (circuit m) s (entry_at entry 0) → MoveIsAs moved_with_nots m s entry work
moves_same m s entry work q e = move-written m s entry work (move-none m s entry work e) ∙ rw (same_turns (circuit m) s (entry_at entry 0) q)

unchanged_on_maps : UnchangedOnMaps
unchanged_on_maps m v none = record {
  circuits = same;
  surveys = λ s out e. same_size _ _ (λ g. (λ p. (p.0, p.1.0), λ p. (p.0, (p.1, none g p.0)))) _ (marks_and_sizes m s out e).size;
  moves = λ s entry work. moves_same m s entry work ((same s).entries (entry_at entry 0));
  runs = λ s tape work ans e. run-written m s tape work ans (run_none m s tape work ans e) ∙ rw ((same s).runs (entries tape));
}
  where
    same : (s : List ℕ) → AsWithNots (circuit m) s
    same = unchanged_without_nots (circuit m) (λ g h z. none g h ((not_is m (facts m v) g h).0 z))

unchanged_on_entries : UnchangedOnEntries
unchanged_on_entries = record {
  moves = λ m s entry work n. moves_same m s entry work (unchanged_without_greedy.entries (circuit m) s (entry_at entry 0) n);
  runs = λ m s tape work ans plain e. run-written m s tape work ans (run_none m s tape work ans e) ∙ rw (unchanged_without_greedy.runs (circuit m) s (entries tape) plain);
}

pub weights : Weights
weights = record {
  surveys = survey_does;
  apart = marks_and_sizes;
  compares = greedy_compares;
  greedy = greedy_options_are;
  sets = survey_is;
  table = p1_to_p12;
  example = example_f5;
  demand2 = demand2;
  maps = unchanged_on_maps;
  entries = unchanged_on_entries;
}
