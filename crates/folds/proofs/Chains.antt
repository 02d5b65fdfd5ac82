-- A test of every number below n, by a chain `(0..n).all(p)`, how many pass one, by a sum, and what a fold over a range keeps. Assumes nothing.
use Rattle.std.proofs.Common.{ℕ, ◌+◌, ◌<◌, ◌≤◌, ◌≡◌, Bool, true, false, List, [], ◌∷◌, Option, length, get_or, map, refl, sym, ◌∙◌, arith, subst, zero-add, zero, suc}
use native.Mathlib.Numerals.{add-one}
use Rattle.std.specs.Bool.{⊤, MatchBool}
use Rattle.std.specs.Option.{MatchOption}
use Rattle.std.specs.Fn.{Called}
use Rattle.std.specs.List.{FoldsTo, AllWithin, HoldsAt, range_with_len, fold, sum_by}
use Rattle.std.specs.Iterator.{Yields, YieldsThen, Drains}
use Rattle.std.specs.Iterator.Runs.{EachRunFrom}
use Rattle.std.specs.Iterator.Adapters.{map_source, map_callee, map_steps}
use Rattle.std.specs.declared.ops.Range.{Range}
use Rattle.std.specs.declared.iter.Map.{Map}
use Rattle.std.proofs.iter.Yields.{nat_range_steps}
use Rattle.std.proofs.lemmas.Iterator.{cases_from_all, maps, YieldsList, YieldsList-from_range, YieldsList-from_map}
use Rattle.std.proofs.lemmas.Iterator.Consumers.{sum_from_yields_List, fits_from_yields_list}
use Rattle.std.proofs.lemmas.List.FromFn.{length-range_with_len, get_or-range_with_len, sum_by-map-range_with_len_more}
use denote.Param.Members.{Mut}
use Rattle.folds.specs.Folds.{all_below}
use Rattle.folds.proofs.Loops.{all_of, all_fails}

-- the test of each of 0, 1, .., n - 1, by what std says of the chain's answer
told : (r : Bool) (n : ℕ) (p : ℕ → Bool)
    → MatchBool r (AllWithin (λ x. p x ≡ true) (range_with_len 0 n) 0 (length (range_with_len 0 n)))
    ((k : ℕ) × (k < length (range_with_len 0 n)) × HoldsAt (λ x. p x ≡ false) (range_with_len 0 n) k)
    → r ≡ all_below n p
told true n p h = sym (all_of p n (λ i l.
    let at : get_or (range_with_len 0 n) i 0 ≡ i = get_or-range_with_len 0 n i 0 l ∙ zero-add i in
    subst (λ (x : ℕ). p x ≡ true) at (h i 0 (omega arith) (omega (arith, length-range_with_len 0 n)))))
told false n p (k, l, e) =
    let l' : k < n = omega (arith, length-range_with_len 0 n) in
    let at : get_or (range_with_len 0 n) k 0 ≡ k = get_or-range_with_len 0 n k 0 l' ∙ zero-add k in
    sym (all_fails p n k l' (subst (λ (x : ℕ). p x ≡ false) at (e 0)))

-- What `(0..end).all(test)` answered, by the call's clause `ran`, where the test answers as p does and changes nothing it captures.
pub all_by_chain : {F : Type 0} {g : Mut F (ℕ × Unit {0}) Bool} {end : ℕ} {u : Range ℕ} {f : F} {r : Bool} (n : ℕ) (p : ℕ → Bool)
    → (xs : List ℕ) × (o : Option ℕ) × (j : F) × YieldsThen nat_range_steps (record { start = 0; end = end }) xs o u
    × FoldsTo (λ t x q. Called g t (x, tt) true q) f xs j × MatchOption o (r ≡ true) (λ x. (r ≡ false) × ((h : F) × Called g j (x, tt) false h))
    → end ≡ n
    → ((x : ℕ) (q : F) → Called g f (x, tt) true q → (q ≡ f) × (p x ≡ true))
    → ((x : ℕ) (q : F) → Called g f (x, tt) false q → p x ≡ false)
    → r ≡ all_below n p
all_by_chain {end} {u} {f} {r} n p ran e pass fail =
    told r n p (cases_from_all u f r (λ x. p x ≡ true) (λ x. p x ≡ false) ran (YieldsList-from_range 0 end n refl (omega arith)) pass fail)

-- What `(0..end).map(|i| usize::from(test)).sum()` counts, where h is 1 at a number that passes and else 0, and total n is how many below n pass.
module _ (h total : ℕ → ℕ) (small : (i : ℕ) → h i ≤ 1) (none : 0 ≡ total 0) (more : (i : ℕ) → total (i + 1) ≡ total i + h i) where
  counted : (n : ℕ) → (sum_by (λ x. x) (map h (range_with_len 0 n)) ≡ total n) × (total n ≤ n)
  counted zero = (none, omega arith)
  counted (suc n) =
      let e : sum_by (λ x. x) (map h (range_with_len 0 (n + 1))) ≡ total (n + 1) = sum_by-map-range_with_len_more (λ x. x) h 0 n n (zero-add n) ∙ rw (counted n).0 (sym (more n)) in
      subst (λ k. (sum_by (λ x. x) (map h (range_with_len 0 k)) ≡ total k) × (total k ≤ k)) (add-one n) (e, omega (arith, (counted n).1, more n, small n))

  module _ {F : Type 0} {g : Mut F (ℕ × Unit {0}) ℕ} {s : Map (Range ℕ) F} {f : F} {end : ℕ} (n : ℕ)
      (source : map_source s ≡ record { start = 0; end = end }) (callee : map_callee s ≡ f) (same : end ≡ n)
      (call : (x r : ℕ) (q : F) → Called g f (x, tt) r q → (q ≡ f) × (r ≡ h x)) where
    items : YieldsList (maps nat_range_steps g) (λ r. r) s (map h (range_with_len 0 n))
    items = YieldsList-from_map g h (YieldsList-from_range 0 end n source (omega arith)) callee call

    pub count_fits : (top : ℕ) → n < top → EachRunFrom (map_steps nat_range_steps g) s (λ p. fold (λ a x. a + x) 0 p.items < top)
    count_fits top l = fits_from_yields_list s top items (let (e, m) = counted n in omega arith)

    pub count_by_chain : {r : ℕ} → (xs : List ℕ) × (⊤ → Drains (maps nat_range_steps g) s xs) × (r ≡ fold (λ a x. a + x) 0 xs) → (r ≡ total n) × (r ≤ n)
    count_by_chain {r} ran = let e : r ≡ total n = sum_from_yields_List s r ran items ∙ (counted n).0 in (e, omega (arith, (counted n).1))

-- Where a fold over a range has come to, if each turn at i takes J i of the total to J (i + 1) and changes nothing that the closure captures.
pub kept_over : {F B : Type 0} (R : F × B → ℕ → F × B → Type 0) {s t : Range ℕ} {f : F} {a : B} {q : F × B} {n : ℕ}
    → (xs : List ℕ) → Yields nat_range_steps s xs t → FoldsTo R (f, a) xs q → s.end ≡ n
    → (J : ℕ → B → Type 0) → J s.start a → ((i : ℕ) (a : B) (q : F × B) → i < n → J i a → R (f, a) i q → (q.0 ≡ f) × J (i + 1) q.1)
    → (t.end ≡ n) × (q.0 ≡ f) × J t.start q.1
kept_over {F} {B} R {f = f} {n = n} [] y c e J j turn = subst (λ (w : Range ℕ × (F × B)). (w.0.end ≡ n) × (w.1.0 ≡ f) × J w.0.start w.1.1) (λ i. (y i, c i)) (e, refl, j)
kept_over R {s = s} {f = f} {a = a} {q = q} (x ∷ xs) (u, y, ys) (p, c, cs) e J j turn =
    let m = turn s.start a p (omega (arith, y.1.0)) j (subst (λ i. R (f, a) i p) y.1.1 c) in
    kept_over R xs ys (subst (λ w. FoldsTo R (w, p.1) xs q) m.0 cs) (y.0 ∙ e) J (subst (λ i. J i p.1) (sym y.1.2) m.1) turn
