-- Evaluate and Mark. Assumes nothing.
use Prim.Native.Nat.{ℕ, zero, suc, ◌≤◌, ◌<◌}
use mathlib.Core.Path.{◌≡◌, refl, sym, ap, ◌∙◌}
use mathlib.Core.Logic.{inl, inr, ◌↔◌}
use mathlib.Core.Bool.{Bool, true, false, cond}
use mathlib.Core.Option.{Option, none, some}
use mathlib.Core.List.{List, [], ◌∷◌, ◌++◌, map}
use mathlib.Core.List.{Memᴰ as In}
use native.Mathlib.Omega.{arith}
use lib.ListN.{length, get_or, length-append, length-map, get_or-append, get_or-eq_default}
use lib.Seq.{get_or_at, ext_get_or, take-length}
use lib.Dec.{eqb, ltb}
use borrow.Author.Tests.{eqb-true, eqb-false, ltb-true, ltb-false}
use Rattle.folds.proofs.Tests.{which, and_left, and_right, and_both, or_first, or_past}
use Rattle.folds.proofs.Loops.{all_at, all_of}
use Rattle.circuit.specs.Tools.{byte, up_to}
use Rattle.circuit.specs.Gate.{is_input, gives}
use Rattle.circuit.specs.Circuit.{Circuit, WellFormed, Configuration, on, given, justified}
use Rattle.circuit.specs.Evaluate.{inputs, inputs_before, Row, row_of, values, evaluate, shows_code, mark, Obeys, EvaluateIs, MarkIs}
use Rattle.circuit.proofs.Values.{byte_bit, on_byte, bit_same, same_true, same_refl}
use Rattle.circuit.proofs.Lists.{select_in, in_up_to, map_same, table_at, table_is}

-- ---- justified gates

module _ (c : Circuit) (s : List ℕ) (g : ℕ) where
  pub agrees : is_input (c.kind g) ≡ false → justified c s g ≡ true → given c s g ≡ on s g
  unfolding justified
  agrees i e = same_true (given c s g) (on s g) (sym (or_past _ _ i) ∙ e)

  pub justify : (is_input (c.kind g) ≡ false → given c s g ≡ on s g) → justified c s g ≡ true
  unfolding justified
  justify f = elim (which (is_input (c.kind g))) [
    | inl i ↦ or_first _ _ i
    | inr i ↦ or_past _ _ i ∙ rw (f i) (same_refl (on s g))
  ]

-- ---- Mark

pub shows_code_lem : (o : Option Bool) (b : Bool) → (shows_code o b ≡ true) ↔ ((v : Bool) → o ≡ some v → b ≡ v)
shows_code_lem none b = (λ e v q. absurd (let z : ◌≡◌ {A = ℕ} 0 1 = cc in omega arith), λ f. refl)
shows_code_lem (some w) b = (λ e v q. sym (same_true w b e) ∙ (let r : w ≡ v = cc in r), λ f. rw (f w refl) (same_refl w))

pub mark_is : MarkIs
unfolding mark
mark_is c s k = (
  λ e. record {
    configuration = k;
    obeys = λ g h i. agrees c s g i (and_left _ _ (all_at _ c.gates g e h));
    shows = λ g h. (shows_code_lem (c.code g) (on s g)).0 (and_right _ _ (all_at _ c.gates g e h));
  },
  λ a. all_of _ c.gates (λ g h. and_both _ _ (justify c s g (a.obeys g h)) ((shows_code_lem (c.code g) (on s g)).1 (a.shows g h))),
)

-- ---- values

module _ (c : Circuit) (at : ℕ → Bool) where
  pub values_length : (n : ℕ) → length (values c at n) ≡ n
  unfolding values
  values_length zero = refl
  values_length (suc n) = simp length-append (omega (arith, values_length n))

  abbrev value : ℕ → Bool
  value g = cond (is_input (c.kind g)) (at g) (given c (values c at g) g)

  values_at : (n g : ℕ) → g < n → get_or (values c at n) g 0 ≡ byte (value g)
  unfolding values
  values_at zero g h = absurd (omega arith)
  values_at (suc n) g h = elim (which (eqb g n)) [
    | inl q ↦ rw (eqb-true g n q) (get_or_at (values c at n) (byte (value n)) [] 0 n (values_length n))
    | inr q ↦ get_or-append (values c at n) (byte (value n) ∷ []) 0 g (omega (arith, values_length n, eqb-false g n q))
        ∙ values_at n g (omega (arith, eqb-false g n q))
  ]

  values_bits : (n g : ℕ) → get_or (values c at n) g 0 ≤ 1
  values_bits n g = elim (which (ltb g n)) [
    | inl q ↦ rw (values_at n g (ltb-true g n q)) (byte_bit (value g))
    | inr q ↦ rw (get_or-eq_default (values c at n) 0 {n = g} (omega (arith, values_length n, ltb-false g n q))) (omega arith)
  ]

  values_on : (n g : ℕ) → g < n → on (values c at n) g ≡ value g
  values_on n g h = rw (values_at n g h) (on_byte (value g))

  pub values_configuration : Configuration c (values c at c.gates)
  values_configuration = record { long = values_length c.gates; bits = values_bits c.gates }

  pub values_input : (g : ℕ) → g < c.gates → is_input (c.kind g) ≡ true → on (values c at c.gates) g ≡ at g
  values_input g h i = values_on c.gates g h ∙ rw i

  module _ (ok : WellFormed c) where
    -- a gate's children have their values by the time it is its turn
    values_given : (g : ℕ) → g < c.gates → given c (values c at c.gates) g ≡ given c (values c at g) g
    values_given g h = ap (gives (c.kind g)) (map_same (on (values c at c.gates)) (on (values c at g)) (c.kids g) each)
      where
        each : (x : ℕ) → In x (c.kids g) → on (values c at c.gates) x ≡ on (values c at g) x
        each x m = let b = ok.below g h x m in values_on c.gates x (omega arith) ∙ sym (values_on g x b)

    pub values_obey : Obeys c (values c at c.gates)
    values_obey g h i = values_given g h ∙ sym (values_on c.gates g h ∙ rw i)

-- ---- there is one assignment for a row

module _ (c : Circuit) (ok : WellFormed c) (s t : List ℕ) (u : Obeys c s) (w : Obeys c t)
    (inputs_agree : (g : ℕ) → g < c.gates → is_input (c.kind g) ≡ true → on s g ≡ on t g) where
  gates_agree : (b g : ℕ) → g < b → g < c.gates → on s g ≡ on t g
  gates_agree zero g l h = absurd (omega arith)
  gates_agree (suc b) g l h = elim (which (is_input (c.kind g))) [
    | inl i ↦ inputs_agree g h i
    | inr i ↦ sym (u g h i)
        ∙ ap (gives (c.kind g)) (map_same (on s) (on t) (c.kids g) (λ x m. let k = ok.below g h x m in gates_agree b x (omega arith) (omega arith)))
        ∙ w g h i
  ]

  pub same_configuration : Configuration c s → Configuration c t → s ≡ t
  same_configuration k l =
      ext_get_or 0 s t (k.long ∙ sym l.long) (λ g h. bit_same (get_or s g 0) (get_or t g 0) (k.bits g) (l.bits g) (gates_agree (suc g) g (omega arith) (rw k.long at h)))

module _ (c : Circuit) (row : List ℕ) where
  pub evaluate_input : (g : ℕ) → g < c.gates → is_input (c.kind g) ≡ true → on (evaluate c row) g ≡ on row (inputs_before c g)
  unfolding evaluate
  evaluate_input = values_input c (λ g. on row (inputs_before c g))

  -- an input's value in a row that a configuration has
  row_input : (s : List ℕ) → row_of c s ≡ row → (g : ℕ) → g < c.gates → is_input (c.kind g) ≡ true → get_or s g 0 ≡ get_or row (inputs_before c g) 0
  unfolding row_of inputs_before
  row_input s e g h i = rw (← e) (sym (table_at (λ x. is_input (c.kind x)) (λ x. get_or s x 0) c.gates g h i))

  evaluate_row : Row c row → row_of c (evaluate c row) ≡ row
  unfolding row_of inputs_before evaluate
  evaluate_row r = table_is (λ x. is_input (c.kind x)) (λ x. get_or (evaluate c row) x 0) row c.gates (omega (arith, r.long))
      (λ g h i. bit_same _ _ (r.bits (inputs_before c g)) ((values_configuration c (λ x. on row (inputs_before c x))).bits g) (sym (evaluate_input g h i)))
      ∙ rw (← r.long) (take-length row)

pub evaluate_is : EvaluateIs
unfolding evaluate
evaluate_is c ok row r = (
  record {
    configuration = values_configuration c (λ g. on row (inputs_before c g));
    obeys = values_obey c (λ g. on row (inputs_before c g)) ok;
    agrees = evaluate_row c row r;
  },
  λ s e. same_configuration c ok s (evaluate c row) e.obeys (values_obey c (λ g. on row (inputs_before c g)) ok)
      (λ g h i. ap (λ (n : ℕ). eqb n 1) (row_input c row s e.agrees g h i) ∙ sym (evaluate_input c row g h i))
      e.configuration (values_configuration c (λ g. on row (inputs_before c g))),
)

-- ---- the row of a configuration

pub row_is : (c : Circuit) (s : List ℕ) → Configuration c s → Row c (row_of c s)
unfolding row_of
row_is c s k = record { long = length-map (inputs c) (λ g. get_or s g 0); bits = bits (inputs c) }
  where
    bits : (xs : List ℕ) (i : ℕ) → get_or (map (λ g. get_or s g 0) xs) i 0 ≤ 1
    bits [] i = omega arith
    bits (x ∷ xs) zero = k.bits x
    bits (x ∷ xs) (suc i) = bits xs i

-- bytes behind it don't count
pub row_first : (c : Circuit) (s rest : List ℕ) → length s ≡ c.gates → row_of c (s ++ rest) ≡ row_of c s
unfolding row_of
row_first c s rest l = map_same (λ g. get_or (s ++ rest) g 0) (λ g. get_or s g 0) (inputs c)
    (λ g i. get_or-append s rest 0 g (omega (arith, l, in_up_to g c.gates (select_in (λ x. is_input (c.kind x)) g (up_to c.gates) i).0)))

-- Evaluate makes it again
pub evaluate_again : (c : Circuit) → WellFormed c → (s : List ℕ) → Configuration c s → Obeys c s → evaluate c (row_of c s) ≡ s
evaluate_again c ok s k o = sym ((evaluate_is c ok (row_of c s) (row_is c s k)).1 s (record { configuration = k; obeys = o; agrees = refl }))
