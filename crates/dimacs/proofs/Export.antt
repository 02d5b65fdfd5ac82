-- What the text of a circuit says. Assumes nothing.
use Prim.Native.Nat.{ℕ, zero, suc, ◌+◌, ◌*◌, ◌-◌, ◌≤◌, ◌<◌}
use mathlib.Core.Path.{◌≡◌, refl, sym, ap, ◌∙◌}
use mathlib.Core.Logic.{inl, inr}
use mathlib.Core.Bool.{Bool, true, false}
use Rattle.std.proofs.Math.Option.{Option, none, some}
use mathlib.Core.List.{List, [], ◌∷◌, ◌++◌, map}
use mathlib.Core.List.Memᴰ.{append_cases}
use mathlib.Core.List.Memᴰ.{cases_cons as cases}
use mathlib.Core.List.Memᴰ.{head as here}
use mathlib.Core.List.Memᴰ.{not-nil as nowhere}
use mathlib.Core.List.Memᴰ.{tail as there}
use mathlib.Core.List.{Memᴰ as In}
use native.Mathlib.Omega.{arith}
use lib.ListN.{length, get_or, length-append, length-map}
use borrow.Author.Tests.{eqb-true}
use Rattle.circuit.specs.declared.Kind.{Kind}
use Rattle.circuit.specs.declared.Kind.TheVariants.{Input, Not, And, Or, Xor, Voter}
use Rattle.circuit.specs.Tools.{byte, up_to, pairs}
use Rattle.circuit.specs.Gate.{fan_in_fits}
use Rattle.circuit.specs.Circuit.{Circuit, WellFormed, Configuration}
use Rattle.circuit.specs.Evaluate.{mark}
use Rattle.circuit.proofs.Values.{on_byte, byte_bit}
use Rattle.circuit.proofs.Lists.{map_at, at_place, length_up_to}
use Rattle.circuit.proofs.Gate.{narrow}
use Rattle.circuit.proofs.Evaluate.{mark_is}
use Rattle.dimacs.specs.declared.Literal.{Literal}
use Rattle.dimacs.specs.declared.Literal.TheVariants.{Plain, Negated}
use Rattle.dimacs.specs.Cnf.{variable_of, Clause, clause_holds, clauses_hold}
use Rattle.dimacs.specs.Clauses.{at_1, at_0, each, wide, each_pair, xor_clauses, tseitin, unit, gather, gate_clauses, unit_clauses, clauses, assigned}
use Rattle.dimacs.specs.Export.{export_text, configuration_of, ExportSays}
use Rattle.dimacs.proofs.Clauses.{clauses_are_mark}
use Rattle.dimacs.proofs.Dimacs.{reads_back}

-- ---- which variables clauses name

-- every literal of a clause names one of the gates xs
abbrev Names : List ℕ → Clause → Type 0
Names xs d = (l : Literal) → In l d → (x : ℕ) × In x xs × (variable_of l ≡ x + 1)

abbrev AllName : List ℕ → List Clause → Type 0
AllName xs ds = (d : Clause) → In d ds → Names xs d

names_none : (xs : List ℕ) → Names xs []
names_none xs l m = absurd (nowhere m)

names_more : (x : ℕ) (xs : List ℕ) (f : Literal) (d : Clause) → In x xs → variable_of f ≡ x + 1 → Names xs d → Names xs (f ∷ d)
names_more x xs f d i e n l m = elim (cases m) [ inl q ↦ (x, i, ap variable_of q ∙ e) | inr o ↦ n l o ]

-- a literal of a gate as its value, for each of some gates
module _ (xs : List ℕ) (f : ℕ → Literal) (e : (x : ℕ) → variable_of (f x) ≡ x + 1) where
  names_map : (ys : List ℕ) → ((y : ℕ) → In y ys → In y xs) → Names xs (map f ys)
  names_map [] h = names_none xs
  names_map (y ∷ ys) h = names_more y xs (f y) (map f ys) (h y (here refl)) (e y) (names_map ys (λ z m. h z (there m)))

all_none : (xs : List ℕ) → AllName xs []
all_none xs d m = absurd (nowhere m)

all_more : (xs : List ℕ) (d : Clause) (ds : List Clause) → Names xs d → AllName xs ds → AllName xs (d ∷ ds)
all_more xs d ds n a e m = elim (cases m) [ inl q ↦ rw q n | inr o ↦ a e o ]

all_both : (xs : List ℕ) (ds es : List Clause) → AllName xs ds → AllName xs es → AllName xs (ds ++ es)
all_both xs ds es a b d m = elim (append_cases ds m) [ inl o ↦ a d o | inr o ↦ b d o ]

-- pairs are made of what they are pairs of
pairs_of : (xs ys : List ℕ) → In ys (pairs xs) → (y : ℕ) → In y ys → In y xs
pairs_of [] ys m y i = absurd (nowhere m)
pairs_of (x ∷ xs) ys m y i = elim (append_cases (map (λ z. x ∷ z ∷ []) xs) m) [
  | inl o ↦ with_first x xs ys o y i
  | inr o ↦ there (pairs_of xs ys o y i)
]
  where
    with_first : (x : ℕ) (zs ys : List ℕ) → In ys (map (λ z. x ∷ z ∷ []) zs) → (y : ℕ) → In y ys → In y (x ∷ zs)
    with_first x [] ys m y i = absurd (nowhere m)
    with_first x (z ∷ zs) ys m y i = elim (cases m) [
      | inl q ↦ elim (cases (rw q at i)) [
        | inl e ↦ here e
        | inr j ↦ elim (cases j) [ inl e ↦ there (here e) | inr n ↦ absurd (nowhere n) ]
      ]
      | inr o ↦ elim (cases (with_first x zs ys o y i)) [ inl e ↦ here e | inr n ↦ there (there n) ]
    ]

module _ (g : ℕ) (xs : List ℕ) where
  -- clauses of the gate's literal and of one of each child, made in the three ways
  module _ (first : Literal) (f : ℕ → Literal) (p : variable_of first ≡ g + 1) (e : (x : ℕ) → variable_of (f x) ≡ x + 1) where
    wide_names : (ys : List ℕ) → ((y : ℕ) → In y ys → In y xs) → Names (g ∷ xs) (wide first f ys)
    wide_names ys h = names_more g (g ∷ xs) first (map f ys) (here refl) p (names_map (g ∷ xs) f e ys (λ y m. there (h y m)))

    each_names : (ys : List ℕ) → ((y : ℕ) → In y ys → In y xs) → AllName (g ∷ xs) (each first f ys)
    each_names [] h = all_none (g ∷ xs)
    each_names (y ∷ ys) h =
        all_more (g ∷ xs) (wide first f (y ∷ [])) (each first f ys) (wide_names (y ∷ []) (λ z m. elim (cases m) [ inl q ↦ rw q (h y (here refl)) | inr o ↦ absurd (nowhere o) ]))
        (each_names ys (λ z m. h z (there m)))

    wides_names : (yss : List (List ℕ)) → ((ys : List ℕ) → In ys yss → (y : ℕ) → In y ys → In y xs) → AllName (g ∷ xs) (map (wide first f) yss)
    wides_names [] h = all_none (g ∷ xs)
    wides_names (ys ∷ yss) h = all_more (g ∷ xs) (wide first f ys) _ (wide_names ys (h ys (here refl))) (wides_names yss (λ zs m. h zs (there m)))

  two_names : (first f h : Literal) (a b : ℕ) → variable_of first ≡ g + 1 → In a xs → In b xs → variable_of f ≡ a + 1 → variable_of h ≡ b + 1 → Names (g ∷ xs) (first ∷ f ∷ h ∷ [])
  two_names first f h a b o i j p q =
      names_more g _ first _ (here refl) o (names_more a _ f _ (there i) p (names_more b _ h [] (there j) q (names_none _)))

  xor_names : (a b : ℕ) → In a xs → In b xs → AllName (g ∷ xs) (xor_clauses g a b)
  xor_names a b i j =
      all_more _ _ _ (two_names _ _ _ a b refl i j refl refl) (all_more _ _ _ (two_names _ _ _ a b refl i j refl refl)
      (all_more _ _ _ (two_names _ _ _ a b refl i j refl refl) (all_more _ _ [] (two_names _ _ _ a b refl i j refl refl) (all_none _))))

  abbrev whole : (y : ℕ) → In y xs → In y xs
  whole y m = m

  tseitin_names : (k : Kind) → fan_in_fits k (length xs) ≡ true → AllName (g ∷ xs) (tseitin k g xs)
  tseitin_names Input f = all_none _
  tseitin_names Not f =
      all_more _ _ _ (wide_names (at_0 g) at_0 refl (λ x. refl) xs whole) (all_more _ _ [] (wide_names (at_1 g) at_1 refl (λ x. refl) xs whole) (all_none _))
  tseitin_names And f =
      all_both _ (each (at_0 g) at_1 xs) _ (each_names (at_0 g) at_1 refl (λ x. refl) xs whole) (all_more _ _ [] (wide_names (at_1 g) at_0 refl (λ x. refl) xs whole) (all_none _))
  tseitin_names Or f = all_more _ _ _ (wide_names (at_0 g) at_1 refl (λ x. refl) xs whole) (each_names (at_1 g) at_0 refl (λ x. refl) xs whole)
  tseitin_names Xor f =
      let l : length xs ≡ 2 = eqb-true (length xs) 2 f in
      xor_names (get_or xs 0 0) (get_or xs 1 0) (at_place 0 xs 0 (omega arith)) (at_place 0 xs 1 (omega arith))
  tseitin_names Voter f =
      all_both _ (each_pair (at_0 g) at_1 xs) _ (wides_names (at_0 g) at_1 refl (λ x. refl) (pairs xs) (pairs_of xs)) (wides_names (at_1 g) at_0 refl (λ x. refl) (pairs xs) (pairs_of xs))

  unit_names : (o : Option Bool) → AllName (g ∷ xs) (unit o g)
  unit_names none = all_none _
  unit_names (some true) = all_more _ _ [] (names_more g _ (at_1 g) [] (here refl) refl (names_none _)) (all_none _)
  unit_names (some false) = all_more _ _ [] (names_more g _ (at_0 g) [] (here refl) refl (names_none _)) (all_none _)

-- what is gathered comes from one of the numbers
gathered : {A : Type 0} (f : ℕ → List A) (n : ℕ) (x : A) → In x (gather f n) → (g : ℕ) × (g < n) × In x (f g)
unfolding gather
gathered f zero x m = absurd (nowhere m)
gathered f (suc n) x m = elim (append_cases (gather f n) m) [
  | inl o ↦ (let (g, l, i) = gathered f n x o in (g, omega arith, i))
  | inr o ↦ (n, omega arith, o)
]

module _ (c : Circuit) (ok : WellFormed c) where
  in_range : (g : ℕ) → g < c.gates → (d : Clause) → Names (g ∷ c.kids g) d → (l : Literal) → In l d → (1 ≤ variable_of l) × (variable_of l ≤ c.gates)
  in_range g h d n l m =
      let (x, i, e) = n l m in
      elim (cases i) [ inl q ↦ (omega arith, omega arith) | inr o ↦ (omega arith, omega (arith, ok.below g h x o)) ]

  clauses_range : (d : Clause) → In d (clauses c) → (l : Literal) → In l d → (1 ≤ variable_of l) × (variable_of l ≤ c.gates)
  unfolding clauses
  clauses_range d m l i = elim (append_cases (gather (gate_clauses c) c.gates) m) [
    | inl o ↦ (let (g, h, j) = gathered (gate_clauses c) c.gates d o in in_range g h d (tseitin_names g (c.kids g) (c.kind g) (ok.fits g h) d j) l i)
    | inr o ↦ (let (g, h, j) = gathered (unit_clauses c) c.gates d o in in_range g h d (unit_names g (c.kids g) (c.code g) d j) l i)
  ]

-- ---- how many clauses there are

pub each_length : (first : Literal) (f : ℕ → Literal) (xs : List ℕ) → length (each first f xs) ≡ length xs
each_length first f [] = refl
each_length first f (x ∷ xs) = ap suc (each_length first f xs)

-- a voter has three children, so three pairs
pairs_length : (xs : List ℕ) → length xs ≡ 3 → length (pairs xs) ≡ 3
pairs_length [] l = absurd (omega arith)
pairs_length (x ∷ []) l = absurd (omega arith)
pairs_length (x ∷ y ∷ []) l = absurd (omega arith)
pairs_length (x ∷ y ∷ z ∷ []) l = refl
pairs_length (x ∷ y ∷ z ∷ w ∷ xs) l = absurd (omega arith)

tseitin_few : (k : Kind) (g : ℕ) (xs : List ℕ) → fan_in_fits k (length xs) ≡ true → length (tseitin k g xs) ≤ 9
tseitin_few Input g xs f = omega arith
tseitin_few Not g xs f = omega arith
tseitin_few And g xs f = simp length-append (omega (arith, each_length (at_0 g) at_1 xs, (narrow And refl (length xs) f).1))
tseitin_few Or g xs f = omega (arith, each_length (at_1 g) at_0 xs, (narrow Or refl (length xs) f).1)
tseitin_few Xor g xs f = omega arith
tseitin_few Voter g xs f = simp (length-append, length-map) (omega (arith, pairs_length xs (eqb-true (length xs) 3 f)))

unit_few : (o : Option Bool) (g : ℕ) → length (unit o g) ≤ 1
unit_few none g = omega arith
unit_few (some true) g = omega arith
unit_few (some false) g = omega arith

pub gather_few : {A : Type 0} (f : ℕ → List A) (b n : ℕ) → ((g : ℕ) → g < n → length (f g) ≤ b) → length (gather f n) ≤ b * n
unfolding gather
gather_few f b zero h = omega arith
gather_few f b (suc n) h =
    let e : b * suc n ≡ b * n + b = omega arith in
    rw e (simp length-append (omega (arith, gather_few f b n (λ g l. h g (omega arith)), h n (omega arith))))

pub clauses_few : (c : Circuit) → WellFormed c → length (clauses c) ≤ 10 * c.gates
unfolding clauses
clauses_few c ok =
    let a = gather_few (gate_clauses c) 9 c.gates (λ g h. tseitin_few (c.kind g) g (c.kids g) (ok.fits g h)) in
    let b = gather_few (unit_clauses c) 1 c.gates (λ g h. unit_few (c.code g) g) in
    simp length-append (omega arith)

-- ---- any values of the variables

module _ (α β : ℕ → Bool) where
  clause_same : (d : Clause) → ((l : Literal) → In l d → α (variable_of l) ≡ β (variable_of l)) → clause_holds α d ≡ clause_holds β d
  clause_same [] e = refl
  clause_same (Plain v ∷ d) e = rw (e (Plain v) (here refl), clause_same d (λ l m. e l (there m))) refl
  clause_same (Negated v ∷ d) e = rw (e (Negated v) (here refl), clause_same d (λ l m. e l (there m))) refl

  clauses_same : (ds : List Clause) → ((d : Clause) → In d ds → (l : Literal) → In l d → α (variable_of l) ≡ β (variable_of l)) → clauses_hold α ds ≡ clauses_hold β ds
  clauses_same [] e = refl
  clauses_same (d ∷ ds) e = rw (clause_same d (e d (here refl)), clauses_same ds (λ f m. e f (there m))) refl

bits : (f : ℕ → Bool) (xs : List ℕ) (g : ℕ) → get_or (map (λ x. byte (f x)) xs) g 0 ≤ 1
bits f [] g = omega arith
bits f (x ∷ xs) zero = byte_bit (f x)
bits f (x ∷ xs) (suc g) = bits f xs g

module _ (c : Circuit) (α : ℕ → Bool) where
  solver_value : (v : ℕ) → 1 ≤ v → v ≤ c.gates → assigned (configuration_of c α) v ≡ α v
  solver_value v o h =
      let e : (v - 1) + 1 ≡ v = omega arith in
      rw (map_at (λ g. byte (α (g + 1))) c.gates (v - 1) 0 (omega arith), on_byte (α ((v - 1) + 1)), e) refl

  -- what values of the variables are is a configuration
  pub is_configuration : Configuration c (configuration_of c α)
  is_configuration = record { long = length-map (up_to c.gates) (λ g. byte (α (g + 1))) ∙ length_up_to c.gates; bits = bits (λ g. α (g + 1)) (up_to c.gates) }

-- ---- the text

pub export_says : ExportSays
unfolding export_text
export_says c ok few =
    let solved : (α : ℕ → Bool) → clauses_hold α (clauses c) ≡ mark c (configuration_of c α) = λ α.
    clauses_same α (assigned (configuration_of c α)) (clauses c)
    (λ d m l i. let r = clauses_range c ok d m l i in sym (solver_value c α (variable_of l) r.0 r.1))
    ∙ clauses_are_mark c ok (configuration_of c α) in (
      record { variables = c.gates; count = length (clauses c); clauses = clauses c },
      reads_back c.gates (clauses c) (omega arith) (omega (arith, clauses_few c ok)) (λ d m l i. let r = clauses_range c ok d m l i in (r.0, omega arith)),
      record {
        variables = refl;
        count = refl;
        range = clauses_range c ok;
        satisfied = clauses_are_mark c ok;
        solved = solved;
        satisfiable = (
          λ h. (let (α, e) = h in (configuration_of c α, (mark_is c (configuration_of c α) (is_configuration c α)).0 (sym (solved α) ∙ e))),
          λ h. (let (s, k) = h in (assigned s, clauses_are_mark c ok s ∙ (mark_is c s k.configuration).1 k)),
        );
      },
    )
