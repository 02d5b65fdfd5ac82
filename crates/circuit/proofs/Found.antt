-- The answer of Found: what it is, and that it is a satisfying assignment where the front is empty. Assumes nothing.
use Prim.Native.Nat.{ℕ, zero, suc, ◌<◌}
use mathlib.Core.Path.{◌≡◌, sym, ap, ◌∙◌}
use mathlib.Core.Logic.{inl, inr}
use mathlib.Core.Bool.{Bool, true, true≢false}
use mathlib.Core.List.{List}
use native.Mathlib.Omega.{arith}
use Rattle.folds.specs.Folds.{◌and◌}
use Rattle.folds.proofs.Tests.{which, and_past, and_first_false}
use Rattle.circuit.specs.Tools.{is_empty}
use Rattle.circuit.specs.Gate.{is_input}
use Rattle.circuit.specs.Circuit.{Circuit, is_some, WellFormed, Configuration, on}
use Rattle.circuit.specs.Evaluate.{Obeys, Satisfying, KeepsCodes}
use Rattle.circuit.specs.Survey.{cone, front}
use Rattle.circuit.specs.Run.{answer}
use Rattle.circuit.specs.Source001.{Cone}
use Rattle.circuit.specs.Promise.{FoundAnswer, AnswerIs}
use Rattle.circuit.proofs.Gate.{laws}
use Rattle.circuit.proofs.Evaluate.{values_configuration, values_input, values_obey, same_configuration}
use Rattle.circuit.proofs.Cone.{justified_seen, cone_coded, cone_child, cone_justified}
use Rattle.circuit.proofs.Survey.{survey_is}

module _ (c : Circuit) (ok : WellFormed c) (s : List ℕ) where
  -- the values of the inputs
  abbrev kept : ℕ → Bool
  kept g = cone c s g and on s g

  answered : FoundAnswer c s (answer c s)
  unfolding answer
  answered = record {
    configuration = values_configuration c kept;
    kept = λ g h i k. values_input c kept g h i ∙ and_past _ _ (((survey_is c ok s).cone_is g h).1 k);
    others = λ g h i n. values_input c kept g h i ∙ and_first_false _ _ (elim (which (cone c s g)) [
      | inl q ↦ absurd (n (((survey_is c ok s).cone_is g h).0 q))
      | inr q ↦ q
    ]);
    obeys = values_obey c kept ok;
  }

  inputs_agree : (a : List ℕ) → FoundAnswer c s a → (g : ℕ) → g < c.gates → is_input (c.kind g) ≡ true → on a g ≡ on (answer c s) g
  inputs_agree a r g h i = elim (which (cone c s g)) [
    | inl q ↦ (let k = ((survey_is c ok s).cone_is g h).0 q in r.kept g h i k ∙ sym (answered.kept g h i k))
    | inr q ↦ (let n : ¬ Cone c s g = λ k. true≢false (sym (((survey_is c ok s).cone_is g h).1 k) ∙ q) in r.others g h i n ∙ sym (answered.others g h i n))
  ]

pub answer_is : AnswerIs
answer_is c ok s =
    (answered c ok s, λ a r. same_configuration c ok a (answer c s) r.obeys (answered c ok s).obeys (inputs_agree c ok s a r) r.configuration (answered c ok s).configuration)

-- ---- an empty front

module _ (c : Circuit) (ok : WellFormed c) (s : List ℕ) (k : KeepsCodes c s) (e : is_empty (front c s) ≡ true) where
  module _ (a : List ℕ) (o : Obeys c a) (same : (g : ℕ) → g < c.gates → is_input (c.kind g) ≡ true → Cone c s g → on a g ≡ on s g) where
    -- every gate of the cone has its value in the configuration, if the cone's inputs have theirs
    cone_shows : (b g : ℕ) → g < b → g < c.gates → cone c s g ≡ true → on a g ≡ on s g
    cone_shows zero g l h m = absurd (omega arith)
    cone_shows (suc b) g l h m = elim (which (is_input (c.kind g))) [
      | inl i ↦ same g h i (((survey_is c ok s).cone_is g h).0 m)
      | inr i ↦ (let j = cone_justified c ok s e g h m in
          sym (o g h i)
          ∙ (laws (c.kind g) (on s g) i).force (on s) (on a) (c.kids g) (justified_seen c ok s g h i j)
          (λ x n r. let w = ok.below g h x n in cone_shows b x (omega arith) (omega arith) (cone_child c ok s g h m j x n r)))
    ]

    pub free_satisfies : Configuration c a → Satisfying c a
    free_satisfies n = record {
      configuration = n;
      obeys = o;
      shows = λ g h v q. cone_shows (suc g) g (omega arith) h (cone_coded c ok s g (ap is_some q)) ∙ k.shows g h v q;
    }

  pub answer_satisfies : Satisfying c (answer c s)
  answer_satisfies = let w = answered c ok s in free_satisfies (answer c s) w.obeys w.kept w.configuration
