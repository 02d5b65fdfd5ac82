-- The survey is that of source document 001. Assumes nothing.
use Prim.Native.Nat.{ℕ, zero, suc, ◌<◌}
use mathlib.Core.Path.{◌≡◌, refl, sym, ◌∙◌}
use mathlib.Core.Logic.{inl, inr, ◌↔◌}
use mathlib.Core.Bool.{Bool, true, not, true≢false}
use mathlib.Core.List.{List, [], ◌∷◌}
use mathlib.Core.List.Memᴰ.{head as here}
use mathlib.Core.List.Memᴰ.{not-nil as nowhere}
use mathlib.Core.List.{Memᴰ as In}
use native.Mathlib.Omega.{arith}
use lib.ListN.{length, get_or, length-map}
use lib.Dec.{eqb}
use borrow.Author.Tests.{not-true, eqb-false, ne_eqb}
use Rattle.folds.proofs.Tests.{which, and_left, and_right, and_both}
use Rattle.circuit.specs.Tools.{up_to}
use Rattle.circuit.specs.Gate.{is_input, relevant, carries_weight}
use Rattle.circuit.specs.Circuit.{Circuit, coded, gates_in, WellFormed, on, justified}
use Rattle.circuit.specs.Evaluate.{differ}
use Rattle.circuit.specs.Survey.{reasons, cone, in_front, front, interesting, survey, front_size, interest_set, interest_size}
use Rattle.circuit.specs.Source001.{first, then, Descendant, child, further, Brings, Cone, Front, Interesting, InterestSet, NoFront, Lists, Size, RelevantIs001, InputsInOrder, DifferIs, SurveyOf001, SurveyIs001}
use Rattle.circuit.proofs.Lists.{some_is_empty, in_length, pick_in, select_in, in_select, select_sub, sub_rising, in_up_to, up_to_in, length_up_to, rising_up_to, map_at}
use Rattle.circuit.proofs.Gate.{laws, no_part, weight_is, weightless_child}
use Rattle.circuit.proofs.Spread.{spread_start, spread_closed, spread_least}
use Rattle.circuit.proofs.Cone.{justified_seen, cone_coded, cone_child}
use Rattle.circuit.proofs.Source001.{justified_is}

-- a set of gates, as a test and as a predicate
pub lists_set : (c : Circuit) (p : ℕ → Bool) (P : ℕ → Type 0) → ((x : ℕ) → x < c.gates → p x ≡ true → P x) → ((x : ℕ) → P x → (x < c.gates) × (p x ≡ true))
    → Lists P (gates_in c p)
lists_set c p P to from = record {
  rising = sub_rising (gates_in c p) (up_to c.gates) (select_sub p (up_to c.gates)) (rising_up_to c.gates);
  has = λ x. (
    λ m. (let (i, q) = select_in p x (up_to c.gates) m in to x (in_up_to x c.gates i) q),
    λ h. (let (l, q) = from x h in in_select p x (up_to c.gates) (up_to_in x c.gates l) q),
  );
}

-- a set of size 0 has no element
pub none_sized : (P : ℕ → Type 0) (n : ℕ) → Size P n → (n ≡ 0) ↔ ((x : ℕ) → ¬ P x)
none_sized P n z = (
  λ e x p. (let l = in_length x z.elements ((z.lists.has x).1 p) in omega (arith, z.many)),
  λ f. z.many ∙ no_element z.elements (λ x m. f x ((z.lists.has x).0 m)),
)
  where
    no_element : (xs : List ℕ) → ((x : ℕ) → ¬ In x xs) → length xs ≡ 0
    no_element [] f = refl
    no_element (x ∷ xs) f = absurd (f x (here refl))

pub inputs_in_order : InputsInOrder
inputs_in_order c = lists_set c (λ g. is_input (c.kind g)) _ (λ x h q. (h, q)) (λ x p. p)

pub differ_is : DifferIs
unfolding differ
differ_is c s a = record {
  elements = gates_in c apart;
  lists = lists_set c apart _
      (λ x h q. (h, eqb-false (get_or s x 0) (get_or a x 0) (not-true _ q)))
      (λ x d. (d.0, rw (ne_eqb (get_or s x 0) (get_or a x 0) d.1)));
  many = refl;
}
  where
    apart : ℕ → Bool
    apart g = not (eqb (get_or s g 0) (get_or a g 0))

module _ (c : Circuit) (ok : WellFormed c) (s : List ℕ) where
  -- ---- the cone

  brings : (g x : ℕ) → g < c.gates → In x (reasons c s g) → Brings c s g x
  unfolding reasons
  brings g x h m = elim (which (justified c s g)) [
    | inl j ↦ (let (i, q) = select_in (λ y. relevant (c.kind g) (on s g) (on s y)) x (c.kids g) (rw j at m) in
        elim (which (is_input (c.kind g))) [
          | inl n ↦ absurd (no_part (c.kind g) (on s g) (on s x) n q)
          | inr n ↦ record {
            gate = n;
            justified = (justified_is c s g).0 j;
            part = ((laws (c.kind g) (on s g) n).part (on s) (c.kids g) (justified_seen c ok s g h n j) x).0 (i, q);
          }
        ])
    | inr j ↦ absurd (nowhere (rw j at m))
  ]

  is_reason : (g x : ℕ) → g < c.gates → Brings c s g x → In x (reasons c s g)
  unfolding reasons
  is_reason g x h b =
      let j : justified c s g ≡ true = (justified_is c s g).1 b.justified in
      let (i, q) = ((laws (c.kind g) (on s g) b.gate).part (on s) (c.kids g) (justified_seen c ok s g h b.gate j) x).1 b.part in
      rw j (in_select (λ y. relevant (c.kind g) (on s g) (on s y)) x (c.kids g) i q)

  cone_to : (x : ℕ) → x < c.gates → cone c s x ≡ true → Cone c s x
  unfolding cone
  cone_to x h e = spread_least (reasons c s) c.gates (coded c) (λ y. y < c.gates → Cone c s y)
      (λ y q l. first (l, q))
      (λ g l p y i w. then (p l) (brings g y l i)) x e h

  cone_from : (x : ℕ) → Cone c s x → (x < c.gates) × (cone c s x ≡ true)
  cone_from x (first e) = (e.0, cone_coded c ok s x e.1)
  cone_from x (then {g} r b) =
      let (h, e) = cone_from g r in
      let j : justified c s g ≡ true = (justified_is c s g).1 b.justified in
      let (i, q) = ((laws (c.kind g) (on s g) b.gate).part (on s) (c.kids g) (justified_seen c ok s g h b.gate j) x).1 b.part in
      (omega (arith, ok.below g h x i), cone_child c ok s g h e j x i q)

  -- ---- the front

  front_to : (x : ℕ) → x < c.gates → in_front c s x ≡ true → Front c s x
  unfolding in_front
  front_to x h e = (cone_to x h (and_left _ _ e), λ j. true≢false (sym ((justified_is c s x).1 j) ∙ not-true (justified c s x) (and_right _ _ e)))

  front_from : (x : ℕ) → Front c s x → (x < c.gates) × (in_front c s x ≡ true)
  unfolding in_front
  front_from x f = (
    (cone_from x f.0).0,
    and_both _ _ (cone_from x f.0).1 (elim (which (justified c s x)) [
      | inl j ↦ absurd (f.1 ((justified_is c s x).0 j))
      | inr j ↦ rw j
    ]),
  )

  -- ---- the interest set

  below_interesting : (g x : ℕ) → Interesting c s g → In x (c.kids g) → Interesting c s x
  below_interesting g x (inl f) i = inr (g, f, child i)
  below_interesting g x (inr d) i = inr (d.0, d.1, further d.2 i)

  interest_to : (x : ℕ) → x < c.gates → interesting c s x ≡ true → Interesting c s x
  unfolding interesting
  interest_to x h e = spread_least c.kids c.gates (in_front c s) (λ y. y < c.gates → Interesting c s y)
      (λ y q l. inl (front_to y l q))
      (λ g l p y i w. below_interesting g y (p l) i) x e h

  interest_front : (x : ℕ) → Front c s x → (x < c.gates) × (interesting c s x ≡ true)
  unfolding interesting
  interest_front x f = ((front_from x f).0, spread_start c.kids c.gates (in_front c s) x (front_from x f).1)

  interest_child : (g x : ℕ) → (g < c.gates) × (interesting c s g ≡ true) → In x (c.kids g) → (x < c.gates) × (interesting c s x ≡ true)
  unfolding interesting
  interest_child g x p i = (let w = ok.below g p.0 x i in omega (arith, p.0), spread_closed c.kids c.gates ok.below (in_front c s) g p.0 p.1 x i)

  interest_below : (g x : ℕ) → (g < c.gates) × (interesting c s g ≡ true) → Descendant c g x → (x < c.gates) × (interesting c s x ≡ true)
  interest_below g x p (child i) = interest_child g x p i
  interest_below g x p (further {y} d i) = interest_child y x (interest_below g y p d) i

  pub interest_from : (x : ℕ) → Interesting c s x → (x < c.gates) × (interesting c s x ≡ true)
  interest_from x (inl f) = interest_front x f
  interest_from x (inr d) = interest_below d.0 x (interest_front d.0 d.1) d.2

  -- ---- the size of the interest set

  set_to : (x : ℕ) → x < c.gates → interest_set c s x ≡ true → InterestSet c s x
  unfolding interest_set
  set_to x h e = (interest_to x h (and_left _ _ e), (weight_is (c.kind x)).0 (and_right _ _ e))

  set_from : (x : ℕ) → InterestSet c s x → (x < c.gates) × (interest_set c s x ≡ true)
  unfolding interest_set
  set_from x p = let (h, e) = interest_from x p.0 in (h, and_both _ _ e ((weight_is (c.kind x)).1 p.1))

  interest_sized : Size (InterestSet c s) (interest_size c s)
  unfolding interest_size
  interest_sized = record { elements = gates_in c (interest_set c s); lists = lists_set c (interest_set c s) (InterestSet c s) set_to set_from; many = refl }

  -- an interesting gate carries weight, or one below it does
  some_in_set : (n x : ℕ) → x < n → Interesting c s x → (y : ℕ) × InterestSet c s y
  some_in_set zero x l t = absurd (omega arith)
  some_in_set (suc n) x l t = elim (which (carries_weight (c.kind x))) [
    | inl q ↦ (x, (t, (weight_is (c.kind x)).0 q))
    | inr q ↦ (let h = (interest_from x t).0 in
        let i = pick_in (c.kids x) 0 0 (some_is_empty (c.kids x) (weightless_child (c.kind x) (length (c.kids x)) q (ok.fits x h))) in
        some_in_set n _ (omega (arith, ok.below x h _ i)) (below_interesting x _ t i))
  ]

  no_interest : (interest_size c s ≡ 0) ↔ NoFront c s
  no_interest = (
    λ e g f. (let (y, p) = some_in_set (suc g) g (omega arith) (inl f) in (none_sized _ _ interest_sized).0 e y p),
    λ n. (none_sized _ _ interest_sized).1 (λ x p. elim p.0 [ inl f ↦ n x f | inr d ↦ n d.0 d.1 ]),
  )

  -- ---- the survey

  front_lists : Lists (Front c s) (front c s)
  unfolding front
  front_lists = lists_set c (in_front c s) (Front c s) front_to front_from

  surveyed : SurveyOf001 c s
  unfolding survey front_size
  surveyed = record {
    cone_is = λ g h. (cone_to g h, λ t. (cone_from g t).1);
    front_is = λ g h. (front_to g h, λ t. (front_from g t).1);
    interesting_is = λ g h. (interest_to g h, λ t. (interest_from g t).1);
    long = length-map (up_to c.gates) _ ∙ length_up_to c.gates;
    bytes = λ g h. map_at _ c.gates g 0 h;
    listed = front_lists;
    size_of_front = record { elements = front c s; lists = front_lists; many = refl };
    size_of_interest = interest_sized;
    no_interest = no_interest;
  }

pub survey_is : SurveyIs001
survey_is = surveyed

pub relevant_is : RelevantIs001
relevant_is c ok s g h x = (brings c ok s g x h, is_reason c ok s g x h)
