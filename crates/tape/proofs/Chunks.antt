-- The kinds of all entries, by the chunks of a tape. Assumes nothing.
use Prim.Native.Nat.{ℕ, ◌+◌, ◌*◌, ◌/◌, ◌<◌, ◌≤◌}
use mathlib.Core.Path.{◌≡◌, refl, sym, subst, ◌∙◌}
use mathlib.Core.Bool.{Bool, true, false}
use mathlib.Core.List.{List, [], ◌∷◌}
use native.Mathlib.Omega.{arith}
use lib.ListN.{length, get_or}
use lib.Dec.{leb}
use denote.Ref.{Bor}
use denote.Param.Members.{Mut}
use Rattle.std.specs.Prelude.{Option, Some, None, IfSome, IsSomeAnd}
use Rattle.std.specs.Bool.{MatchBool}
use Rattle.std.specs.Fn.{Called}
use Rattle.std.specs.List.{IsSubsliceAt}
use Rattle.std.specs.Option.{option_map}
use Rattle.std.specs.Iterator.Runs.{Run, IsChunksExactRun, CallKeepsClosure, AllItemsGive, AnyItemGives}
use Rattle.folds.specs.Folds.{all_below}
use Rattle.folds.proofs.Loops.{all_of, all_fails}

-- an item that is shown
some_of : {A : Type 0} (o : Option A) (y : A) → option_map (λ z. z) o ≡ Some y → (x : A) × (o ≡ Some x)
some_of None y e = cc e
some_of (Some x) y e = (x, refl)

-- a list with a place has a first element
first_of : {A : Type 0} {B : Type 0} (xs : List A) (n : ℕ) → n < length xs → (A → B) → B
first_of [] n l f = absurd (omega arith)
first_of (x ∷ xs) n l f = f x

-- A run p of calls of `next` over the chunks of four of xs.
module _ {S : Type 0} {steps : S → Option (Bor (List ℕ)) → S → Type 0} (p : Run steps) (n : ℕ) (ys xs : List ℕ) (four : n ≡ 4) (all : ys ≡ xs)
    (chunks : IsChunksExactRun p n ys) where
  -- the chunk at a place, and its third byte
  item : (k : ℕ) → k < p.len → (x : Bor (List ℕ)) × (p.at k ≡ Some x)
  item k l = first_of p.items k (omega (arith, p.long)) (λ d. some_of (p.at k) _ (p.reads k d l))

  kind : (k : ℕ) (x : Bor (List ℕ)) → p.at k ≡ Some x → get_or x.now 2 0 ≡ get_or xs (4 * k + 2) 0
  kind k x e =
      let h = subst (λ (o : Option (Bor (List ℕ))). IfSome o (λ y. (length y.now ≡ n) × (k * n + n ≤ length ys) × IsSubsliceAt n ys (k * n) y.now)) e (chunks.2 k) in
      let i : k * n + 2 ≡ 4 * k + 2 = rw four (omega arith) in
      h.2.2 2 0 (omega (arith, four)) ∙ rw (i, all) refl

  -- what `all` answered, by its clause `runs`, where the test is of that byte and changes nothing that it captures
  pub kinds_told : {F : Type 0} {g : Mut F (Bor (List ℕ) × Unit {0}) Bool} {f : F} (r : Bool) → MatchBool r ((p.whole ≡ true) × AllItemsGive p g f true) (AnyItemGives p g f false) → CallKeepsClosure g f
      → ((x : Bor (List ℕ)) → Called g f (x, tt) true f → leb (get_or x.now 2 0) 2 ≡ true)
      → ((x : Bor (List ℕ)) → Called g f (x, tt) false f → leb (get_or x.now 2 0) 2 ≡ false)
      → r ≡ all_below (length xs / 4) (λ i. leb (get_or xs (4 * i + 2) 0) 2)
  kinds_told {g = g} {f = f} true t keeps pass fail =
      let len : p.len ≡ length xs / 4 = chunks.1 t.0 ∙ rw (four, all) refl in
      sym (all_of _ _ (λ i l.
      let x = item i (omega (arith, len)) in
      rw (← kind i x.0 x.1) (pass x.0 (subst (λ (o : Option (Bor (List ℕ))). IfSome o (λ y. Called g f (y, tt) true f)) x.1 (t.1 keeps i)))))
  kinds_told {g = g} {f = f} false t keeps pass fail =
      let h = t keeps in
      let x = item h.0 h.1 in
      let room : p.len * 4 ≤ length xs = rw (← four, ← all) chunks.0 in
      sym (all_fails _ _ h.0 (omega (arith, h.1, room)) (rw (← kind h.0 x.0 x.1)
      (fail x.0 (subst (λ (o : Option (Bor (List ℕ))). IsSomeAnd o (λ y. Called g f (y, tt) false f)) x.1 h.2))))
