-- What turning values does: to the codes, and to the distance from an assignment. And what the gates are that an entry turns. Assumes nothing.
use Prim.Native.Nat.{ℕ, suc, ◌+◌, ◌≤◌, ◌<◌}
use mathlib.Core.Path.{◌≡◌, refl, sym, ap, ◌∙◌}
use mathlib.Core.Logic.{◌⊎◌, inl, inr, ◌↔◌}
use mathlib.Core.Bool.{Bool, true, false, not, true≢false}
use mathlib.Core.List.{List, [], ◌∷◌}
use mathlib.Core.List.Memᴰ.{cases_cons as cases}
use mathlib.Core.List.Memᴰ.{head as here}
use mathlib.Core.List.Memᴰ.{not-nil as nowhere}
use mathlib.Core.List.Memᴰ.{tail as there}
use mathlib.Core.List.{Memᴰ as In}
use mathlib.Core.List.{Sublistᴰ as Sub}
use native.Mathlib.Omega.{arith}
use lib.ListN.{length, get_or, set, length-set}
use lib.Seq.{get_or-set_same, get_or-set_other, set_out, ext_get_or}
use lib.Dec.{eqb, ltb}
use borrow.Author.Tests.{eqb-true, eqb-false, eq-eqb, ltb-true, ltb-false, not-true, not-false}
use Rattle.folds.proofs.Tests.{which}
use Rattle.circuit.specs.Tools.{byte, Rising, up_to}
use Rattle.circuit.specs.Circuit.{Circuit, is_some, coded, WellFormed, Configuration, on, justified}
use Rattle.circuit.specs.Evaluate.{KeepsCodes, differ}
use Rattle.circuit.specs.Source001.{TurnsExactly}
use Rattle.circuit.specs.Run.{down_options, turns_no_coded, options_left, turn}
use Rattle.circuit.specs.Promise.{TurnsNoCoded, OptionsLeftAre}
use Rattle.circuit.proofs.Values.{byte_bit, on_byte, bit_byte, bit_turned}
use Rattle.circuit.proofs.Lists.{sub_in, sub_rising, up_to_in, length_up_to, rising_up_to, select_in, in_select, select_sub, select_none, select_length, select_less, select_zero, all_in, in_all}
use Rattle.circuit.proofs.Gate.{laws}
use Rattle.circuit.proofs.Cone.{unjustified_seen}

-- ---- turning

-- the list with place x set to b has b or its old element at each place
set_cases : (s : List ℕ) (x b g : ℕ) → (get_or (set s x b) g 0 ≡ b) ⊎ (get_or (set s x b) g 0 ≡ get_or s g 0)
set_cases s x b g = elim (which (eqb g x)) [
  | inl q ↦ elim (which (ltb x (length s))) [
    | inl l ↦ inl (rw (eqb-true g x q) (get_or-set_same s x b 0 (ltb-true x (length s) l)))
    | inr l ↦ inr (rw (set_out s x b (ltb-false x (length s) l)))
  ]
  | inr q ↦ inr (get_or-set_other s x g b 0 (eqb-false g x q))
]

module _ (c : Circuit) where
  keeps_set : (s : List ℕ) (x : ℕ) (v : Bool) → coded c x ≡ false → KeepsCodes c s → KeepsCodes c (set s x (byte v))
  keeps_set s x v u k = record {
    configuration = record {
      long = length-set s x (byte v) ∙ k.configuration.long;
      bits = λ g. elim (set_cases s x (byte v) g) [ inl q ↦ rw q (byte_bit v) | inr q ↦ rw q (k.configuration.bits g) ];
    };
    shows = λ g h w q. ap (λ (n : ℕ). eqb n 1) (get_or-set_other s x g (byte v) 0 (λ e. true≢false (sym (ap is_some q) ∙ ap (coded c) e ∙ u))) ∙ k.shows g h w q;
  }

  pub keeps_turn : (o s : List ℕ) → ((x : ℕ) → In x o → coded c x ≡ false) → KeepsCodes c s → KeepsCodes c (turn o s)
  keeps_turn [] s u k = k
  keeps_turn (x ∷ o) s u k = keeps_turn o (set s x (byte (not (on s x)))) (λ y m. u y (there m)) (keeps_set s x (not (on s x)) (u x (here refl)) k)

pub turn_out : (o s : List ℕ) (x : ℕ) → ¬ In x o → get_or (turn o s) x 0 ≡ get_or s x 0
turn_out [] s x n = refl
turn_out (y ∷ o) s x n = turn_out o (set s y (byte (not (on s y)))) x (λ m. n (there m)) ∙ get_or-set_other s y x (byte (not (on s y))) 0 (λ e. n (here e))

turn_in : (o s : List ℕ) (x : ℕ) → Rising o → x < length s → In x o → on (turn o s) x ≡ not (on s x)
turn_in [] s x r h m = absurd (nowhere m)
turn_in (y ∷ o) s x r h m = elim (cases m) [
  | inl e ↦ ap (λ (n : ℕ). eqb n 1) (turn_out o (set s y b) x (λ i. omega (arith, r.0 x i)))
      ∙ rw (e, get_or-set_same s y b 0 (omega arith)) (on_byte (not (on s y)))
  | inr n ↦ turn_in o (set s y b) x r.1 (rw (length-set s y b) h) n
      ∙ rw (get_or-set_other s y x b 0 (λ e. omega (arith, r.0 x n)))
]
  where
    b : ℕ
    b = byte (not (on s y))

-- ---- the distance

module _ (c : Circuit) (s a : List ℕ) where
  pub differ_most : differ c s a ≤ c.gates
  unfolding differ
  differ_most = omega (arith, select_length (λ g. not (eqb (get_or s g 0) (get_or a g 0))) (up_to c.gates), length_up_to c.gates)

  pub differ_zero : Configuration c s → Configuration c a → differ c s a ≡ 0 → s ≡ a
  unfolding differ
  differ_zero k l e = ext_get_or 0 s a (k.long ∙ sym l.long) (λ g h. eqb-true (get_or s g 0) (get_or a g 0)
      (not-false (eqb (get_or s g 0) (get_or a g 0)) (select_zero _ (up_to c.gates) e g (up_to_in g c.gates (rw k.long at h)))))

  -- one byte made equal
  differ_one : (x b : ℕ) → x < c.gates → x < length s → get_or a x 0 ≡ b → eqb (get_or s x 0) b ≡ false → differ c s a ≡ suc (differ c (set s x b) a)
  unfolding differ
  differ_one x b h l p q = select_less _ _ x (up_to c.gates) (rising_up_to c.gates) (up_to_in x c.gates h)
      (rw (p, q))
      (rw (p, get_or-set_same s x b 0 l, eq-eqb b b refl))
      (λ y m n. rw (get_or-set_other s x y b 0 n))

differ_self : (c : Circuit) (s : List ℕ) → differ c s s ≡ 0
unfolding differ
differ_self c s = ap length (select_none _ (up_to c.gates) (λ x m. rw (eq-eqb (get_or s x 0) (get_or s x 0) refl)))

-- Gates of the circuit, each once.
pub record EachOnce (c : Circuit) (o : List ℕ) : Type 0 where
  pub rising : Rising o
  pub inside : (x : ℕ) → In x o → x < c.gates

-- Gates that may be turned: none is coded.
pub record Turnable (c : Circuit) (o : List ℕ) : Type 0 where
  pub once : EachOnce c o
  pub free : TurnsNoCoded c o

module _ (c : Circuit) (a : List ℕ) (ka : Configuration c a) where
  -- turning gates at which s and a differ takes s nearer to a by their number
  pub differ_turn : (o s : List ℕ) → Turnable c o → KeepsCodes c s → ((x : ℕ) → In x o → on a x ≡ not (on s x)) → differ c s a ≡ length o + differ c (turn o s) a
  differ_turn [] s t k f = omega arith
  differ_turn (x ∷ o) s t k f =
      one ∙ (let ih = differ_turn o (set s x b) later (keeps_set c s x (not (on s x)) (t.free x (here refl)) k) rest in omega arith)
    where
      b : ℕ
      b = byte (not (on s x))

      is : get_or a x 0 ≡ b
      is = bit_byte (get_or a x 0) (ka.bits x) ∙ ap byte (f x (here refl))

      isnt : eqb (get_or s x 0) b ≡ false
      isnt = bit_turned (get_or s x 0) (k.configuration.bits x)

      one : differ c s a ≡ suc (differ c (set s x b) a)
      one = differ_one c s a x b (t.once.inside x (here refl)) (rw k.configuration.long (t.once.inside x (here refl))) is isnt

      rest : (y : ℕ) → In y o → on a y ≡ not (on (set s x b) y)
      rest y m = rw (get_or-set_other s x y b 0 (λ e. omega (arith, t.once.rising.0 y m))) (f y (there m))

      later : Turnable c o
      later = record { once = record { rising = t.once.rising.1; inside = λ y m. t.once.inside y (there m) }; free = λ y m. t.free y (there m) }

pub turn_turns : (c : Circuit) (o s : List ℕ) → EachOnce c o → Configuration c s → TurnsExactly o s (turn o s)
turn_turns c o s t k = record { these = λ x i. turn_in o s x t.rising (rw k.long (t.inside x i)) i; others = turn_out o s }

-- as many bytes differ as are turned
pub turn_differs : (c : Circuit) (o s : List ℕ) → Turnable c o → KeepsCodes c s → differ c s (turn o s) ≡ length o
turn_differs c o s t k =
    let far = differ_turn c (turn o s) (keeps_turn c o s t.free k).configuration o s t k (turn_turns c o s t.once k.configuration).these in
    let near = differ_self c (turn o s) in omega arith

-- ---- the options left

pub turns_no_coded_lem : (c : Circuit) (o : List ℕ) → (turns_no_coded c o ≡ true) ↔ TurnsNoCoded c o
turns_no_coded_lem c o = (λ q x i. not-true (coded c x) (all_in _ o q x i), λ u. in_all _ o (λ x i. rw (u x i)))

pub left_in : (c : Circuit) (s : List ℕ) (g : ℕ) (o : List ℕ) → In o (options_left c s g) ↔ (In o (down_options c s g) × TurnsNoCoded c o)
unfolding options_left
left_in c s g o = (
  λ m. (let (i, q) = select_in (turns_no_coded c) o (down_options c s g) m in (i, (turns_no_coded_lem c o).0 q)),
  λ p. in_select (turns_no_coded c) o (down_options c s g) p.0 ((turns_no_coded_lem c o).1 p.1),
)

pub left_few : (c : Circuit) (s : List ℕ) (g : ℕ) → length (options_left c s g) ≤ length (down_options c s g)
unfolding options_left
left_few c s g = select_length (turns_no_coded c) (down_options c s g)

pub options_left_are : OptionsLeftAre
unfolding options_left
options_left_are c s g = record { has = left_in c s g; in_order = select_sub (turns_no_coded c) (down_options c s g) }

-- ---- the gates that an entry turns

module _ (c : Circuit) (ok : WellFormed c) (s : List ℕ) (g : ℕ) (h : g < c.gates) where
  module _ (u : justified c s g ≡ false) where
    pub option_sound : (o : List ℕ) → In o (down_options c s g) → Sub o (c.kids g) × (1 ≤ length o)
    unfolding down_options
    option_sound = (let e = unjustified_seen c ok s g h u in (laws (c.kind g) (on s g) e.gate).sound (on s) (c.kids g) e)

    pub option_few : (1 ≤ length (down_options c s g)) × (length (down_options c s g) ≤ 8)
    unfolding down_options
    option_few = (let e = unjustified_seen c ok s g h u in (laws (c.kind g) (on s g) e.gate).few (on s) (c.kids g) e)

    -- an option turns children
    pub option_kid : (o : List ℕ) → In o (down_options c s g) → (x : ℕ) → In x o → In x (c.kids g)
    option_kid o n x i = sub_in x o (c.kids g) (option_sound o n).0 i

    pub option_once : (o : List ℕ) → In o (down_options c s g) → EachOnce c o
    option_once o n = record {
      rising = sub_rising o (c.kids g) (option_sound o n).0 (ok.rising g h);
      inside = λ x i. omega (arith, ok.below g h x (option_kid o n x i));
    }

    -- and one that is left no coded ones
    pub left_turnable : (o : List ℕ) → In o (options_left c s g) → Turnable c o
    left_turnable o n = (let (i, u) = (left_in c s g o).0 n in record { once = option_once o i; free = u })

  pub alone_turnable : coded c g ≡ false → Turnable c (g ∷ [])
  alone_turnable u = record {
    once = record { rising = (nowhere_below, tt); inside = λ x n. elim (cases n) [ inl e ↦ rw e h | inr z ↦ absurd (nowhere z) ] };
    free = λ x n. elim (cases n) [ inl e ↦ rw e u | inr z ↦ absurd (nowhere z) ];
  }
    where
      nowhere_below : (y : ℕ) → In y [] → g < y
      nowhere_below y n = absurd (nowhere n)
