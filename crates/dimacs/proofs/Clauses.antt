-- The clauses of a circuit hold exactly where Mark says yes. Assumes nothing.
use Prim.Native.Nat.{ℕ, zero, suc, ◌+◌, ◌-◌, ◌<◌}
use mathlib.Core.Path.{◌≡◌, refl, sym, ◌∙◌}
use mathlib.Core.Bool.{Bool, true, false, not}
use Rattle.std.proofs.Math.Option.{Option, none, some}
use mathlib.Core.List.{List, [], ◌∷◌, ◌++◌, map}
use native.Mathlib.Omega.{arith}
use lib.ListN.{length}
use borrow.Author.Tests.{eqb-true}
use Rattle.folds.specs.Folds.{◌and◌, ◌or◌, all_below}
use Rattle.folds.proofs.Tests.{same_test, and_left, and_right, and_both}
use Rattle.folds.proofs.Loops.{all_at, all_of}
use Rattle.circuit.specs.declared.Kind.{Kind}
use Rattle.circuit.specs.declared.Kind.TheVariants.{Input, Not, And, Or, Xor, Voter}
use Rattle.circuit.specs.Tools.{same, holds_of_all}
use Rattle.circuit.specs.Gate.{is_input, fan_in_fits, all_on, some_on, gives}
use Rattle.circuit.specs.Circuit.{on, justified}
use Rattle.circuit.specs.Evaluate.{shows_code, mark}
use Rattle.dimacs.specs.declared.Literal.{Literal}
use Rattle.dimacs.specs.Cnf.{literal_holds, clause_holds, clauses_hold}
use Rattle.dimacs.specs.Clauses.{at_1, at_0, each, tseitin, unit, gather, gate_clauses, unit_clauses, clauses, assigned, ClausesAreMark}

-- ---- lists of clauses

module _ {A : Type 0} (p : A → Bool) where
  holds_append : (xs ys : List A) → holds_of_all p (xs ++ ys) ≡ (holds_of_all p xs and holds_of_all p ys)
  unfolding ◌and◌
  holds_append [] ys = refl
  holds_append (x ∷ xs) ys = rw (holds_append xs ys) (regroup (p x) (holds_of_all p xs) (holds_of_all p ys))
    where
      regroup : (a b d : Bool) → (a and (b and d)) ≡ ((a and b) and d)
      regroup true b d = refl
      regroup false b d = refl

  gather_holds : (f : ℕ → List A) (n : ℕ) → holds_of_all p (gather f n) ≡ all_below n (λ g. holds_of_all p (f g))
  unfolding gather all_below
  gather_holds f zero = refl
  gather_holds f (suc n) = rw (holds_append (gather f n) (f n), gather_holds f n) refl

-- tests of every number below n, equal there
all_same : (n : ℕ) (p q : ℕ → Bool) → ((g : ℕ) → g < n → p g ≡ q g) → all_below n p ≡ all_below n q
all_same n p q e = same_test _ _ (λ h. all_of q n (λ g l. sym (e g l) ∙ all_at p n g h l)) (λ h. all_of p n (λ g l. e g l ∙ all_at q n g h l))

all_and : (n : ℕ) (p q : ℕ → Bool) → (all_below n p and all_below n q) ≡ all_below n (λ g. p g and q g)
all_and n p q = same_test _ _
    (λ h. all_of _ n (λ g l. and_both _ _ (all_at p n g (and_left _ _ h) l) (all_at q n g (and_right _ _ h) l)))
    (λ h. and_both _ _ (all_of p n (λ g l. and_left _ _ (all_at _ n g h l))) (all_of q n (λ g l. and_right _ _ (all_at _ n g h l))))

-- ---- one gate

-- "gate negated or a, and gate plain or not a" says that the gate has the value a
both_ways : (a v : Bool) → ((not v or a) and (v or not a)) ≡ same a v
unfolding ◌and◌ ◌or◌
both_ways true true = refl
both_ways true false = refl
both_ways false true = refl
both_ways false false = refl

last_one : (a : Bool) → (a or false) ≡ a
unfolding ◌or◌
last_one true = refl
last_one false = refl

last_all : (a : Bool) → (a and true) ≡ a
unfolding ◌and◌
last_all true = refl
last_all false = refl

module _ (β : ℕ → Bool) where
  -- the values of the variables where gate g has the value β g
  abbrev α : ℕ → Bool
  α v = β (v - 1)

  value_of : (g : ℕ) → α (g + 1) ≡ β g
  value_of g = let e : (g + 1) - 1 ≡ g = omega arith in rw e refl

  some_at_1 : (xs : List ℕ) → some_on (map (literal_holds α) (map at_1 xs)) ≡ some_on (map β xs)
  some_at_1 [] = refl
  some_at_1 (x ∷ xs) = rw (value_of x, some_at_1 xs) refl

  some_at_0 : (xs : List ℕ) → some_on (map (literal_holds α) (map at_0 xs)) ≡ not (all_on (map β xs))
  unfolding ◌and◌ ◌or◌
  some_at_0 [] = refl
  some_at_0 (x ∷ xs) = rw (value_of x, some_at_0 xs) (de_morgan (β x) (all_on (map β xs)))
    where
      de_morgan : (a b : Bool) → (not a or not b) ≡ not (a and b)
      de_morgan true b = refl
      de_morgan false b = refl

  or_true : (a : Bool) → true ≡ (a or true)
  unfolding ◌or◌
  or_true true = refl
  or_true false = refl

  each_at_1 : (f : Literal) (xs : List ℕ) → clauses_hold α (each f at_1 xs) ≡ (literal_holds α f or all_on (map β xs))
  unfolding ◌and◌ ◌or◌
  each_at_1 f [] = or_true (literal_holds α f)
  each_at_1 f (x ∷ xs) = rw (value_of x, each_at_1 f xs, last_one (β x)) (spread (literal_holds α f) (β x) (all_on (map β xs)))
    where
      spread : (a b d : Bool) → ((a or b) and (a or d)) ≡ (a or (b and d))
      spread true b d = refl
      spread false b d = refl

  each_at_0 : (f : Literal) (xs : List ℕ) → clauses_hold α (each f at_0 xs) ≡ (literal_holds α f or not (some_on (map β xs)))
  unfolding ◌and◌ ◌or◌
  each_at_0 f [] = or_true (literal_holds α f)
  each_at_0 f (x ∷ xs) = rw (value_of x, each_at_0 f xs, last_one (not (β x))) (spread (literal_holds α f) (β x) (some_on (map β xs)))
    where
      spread : (a b d : Bool) → ((a or not b) and (a or not d)) ≡ (a or not (b or d))
      spread true b d = refl
      spread false true d = refl
      spread false false d = refl

  and_clauses : (g : ℕ) (xs : List ℕ) → clauses_hold α (tseitin And g xs) ≡ same (gives And (map β xs)) (β g)
  and_clauses g xs =
      holds_append (clause_holds α) (each (at_0 g) at_1 xs) ((at_1 g ∷ map at_0 xs) ∷ [])
      ∙ rw (each_at_1 (at_0 g) xs, value_of g, some_at_0 xs, last_all) (both_ways (all_on (map β xs)) (β g))

  or_clauses : (g : ℕ) (xs : List ℕ) → clauses_hold α (tseitin Or g xs) ≡ same (gives Or (map β xs)) (β g)
  or_clauses g xs = rw (each_at_0 (at_1 g) xs, value_of g, some_at_1 xs) (both_ways (some_on (map β xs)) (β g))

  not_clauses : (g : ℕ) (xs : List ℕ) → length xs ≡ 1 → clauses_hold α (tseitin Not g xs) ≡ same (gives Not (map β xs)) (β g)
  unfolding ◌and◌ ◌or◌
  not_clauses g [] l = absurd (omega arith)
  not_clauses g (x ∷ []) l = rw (value_of g, value_of x) (table (β x) (β g))
    where
      table : (a v : Bool) → ((not v or (not a or false)) and ((v or (a or false)) and true)) ≡ same (gives Not (a ∷ [])) v
      table true true = refl
      table true false = refl
      table false true = refl
      table false false = refl
  not_clauses g (x ∷ y ∷ xs) l = absurd (omega arith)

  xor_clauses_lem : (g : ℕ) (xs : List ℕ) → length xs ≡ 2 → clauses_hold α (tseitin Xor g xs) ≡ same (gives Xor (map β xs)) (β g)
  unfolding ◌and◌ ◌or◌
  xor_clauses_lem g [] l = absurd (omega arith)
  xor_clauses_lem g (x ∷ []) l = absurd (omega arith)
  xor_clauses_lem g (x ∷ y ∷ []) l = rw (value_of g, value_of x, value_of y) (table (β x) (β y) (β g))
    where
      table : (a b v : Bool) → ((not v or (a or (b or false))) and ((not v or (not a or (not b or false))) and ((v or (a or (not b or false))) and ((v or (not a or (b or false))) and true))))
          ≡ same (gives Xor (a ∷ b ∷ [])) v
      table true true true = refl
      table true true false = refl
      table true false true = refl
      table true false false = refl
      table false true true = refl
      table false true false = refl
      table false false true = refl
      table false false false = refl
  xor_clauses_lem g (x ∷ y ∷ z ∷ xs) l = absurd (omega arith)

  voter_clauses : (g : ℕ) (xs : List ℕ) → length xs ≡ 3 → clauses_hold α (tseitin Voter g xs) ≡ same (gives Voter (map β xs)) (β g)
  unfolding ◌and◌ ◌or◌
  voter_clauses g [] l = absurd (omega arith)
  voter_clauses g (x ∷ []) l = absurd (omega arith)
  voter_clauses g (x ∷ y ∷ []) l = absurd (omega arith)
  voter_clauses g (x ∷ y ∷ z ∷ []) l = rw (value_of g, value_of x, value_of y, value_of z) (table (β x) (β y) (β z) (β g))
    where
      table : (a b d v : Bool) → ((not v or (a or (b or false))) and ((not v or (a or (d or false))) and ((not v or (b or (d or false)))
          and ((v or (not a or (not b or false))) and ((v or (not a or (not d or false))) and ((v or (not b or (not d or false))) and true))))))
          ≡ same (gives Voter (a ∷ b ∷ d ∷ [])) v
      table true true true true = refl
      table true true true false = refl
      table true true false true = refl
      table true true false false = refl
      table true false true true = refl
      table true false true false = refl
      table true false false true = refl
      table true false false false = refl
      table false true true true = refl
      table false true true false = refl
      table false true false true = refl
      table false true false false = refl
      table false false true true = refl
      table false false true false = refl
      table false false false true = refl
      table false false false false = refl
  voter_clauses g (x ∷ y ∷ z ∷ w ∷ xs) l = absurd (omega arith)

  -- a gate's clauses hold exactly if it is an input or its children give its value
  gate_clauses_lem : (k : Kind) (g : ℕ) (xs : List ℕ) → fan_in_fits k (length xs) ≡ true
      → clauses_hold α (tseitin k g xs) ≡ (is_input k or same (gives k (map β xs)) (β g))
  unfolding ◌or◌
  gate_clauses_lem Input g xs f = refl
  gate_clauses_lem Not g xs f = not_clauses g xs (eqb-true (length xs) 1 f)
  gate_clauses_lem And g xs f = and_clauses g xs
  gate_clauses_lem Or g xs f = or_clauses g xs
  gate_clauses_lem Xor g xs f = xor_clauses_lem g xs (eqb-true (length xs) 2 f)
  gate_clauses_lem Voter g xs f = voter_clauses g xs (eqb-true (length xs) 3 f)

  unit_clauses_lem : (o : Option Bool) (g : ℕ) → clauses_hold α (unit o g) ≡ shows_code o (β g)
  unit_clauses_lem none g = refl
  unit_clauses_lem (some true) g = rw (value_of g) (last_all (β g or false) ∙ last_one (β g))
  unit_clauses_lem (some false) g = rw (value_of g) (last_all (not (β g) or false) ∙ last_one (not (β g)))

-- ---- the circuit

pub clauses_are_mark : ClausesAreMark
unfolding clauses mark justified
clauses_are_mark c ok s =
    holds_append (clause_holds (assigned s)) (gather (gate_clauses c) c.gates) (gather (unit_clauses c) c.gates)
    ∙ rw (gather_holds (clause_holds (assigned s)) (gate_clauses c) c.gates, gather_holds (clause_holds (assigned s)) (unit_clauses c) c.gates)
    (all_and c.gates (λ g. clauses_hold (assigned s) (gate_clauses c g)) (λ g. clauses_hold (assigned s) (unit_clauses c g))
    ∙ all_same c.gates _ _ (λ g h. cc (gate_clauses_lem (on s) (c.kind g) g (c.kids g) (ok.fits g h), unit_clauses_lem (on s) (c.code g) g)))
