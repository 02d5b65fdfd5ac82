-- What a choice does, by a listing of the options left of the drawn gate. Assumes nothing.
use Prim.Native.Nat.{ℕ, ◌<◌, ◌≤◌, ◌%◌}
use mathlib.Core.Path.{◌≡◌, refl, sym, ap, ◌∙◌}
use mathlib.Core.Bool.{Bool, false}
use mathlib.Core.List.Memᴰ.{head as here}
use mathlib.Core.List.Memᴰ.{tail as there}
use mathlib.Core.List.{List, [], ◌∷◌, map, Memᴰ as In}
use native.Mathlib.Omega.{arith}
use native.Mathlib.Nat.{mod-lt}
use lib.ListN.{length, get_or, length-map}
use lib.Dec.{leb}
use Rattle.std.proofs.lemmas.List.FromFn.{fill_by_all}
use Rattle.std.proofs.lemmas.List.{get_or-map}
use Rattle.std.proofs.lemmas.Simd.{map-map}
use Rattle.folds.specs.Folds.{◌and◌}
use Rattle.circuit.specs.declared.Choice.{Choice}
use Rattle.circuit.specs.declared.Choice.TheVariants.{Greedy, Down}
use Rattle.circuit.specs.Tools.{up_to, select, holds_of_all, is_empty, pick}
use Rattle.circuit.specs.Run.{options_left, greedy_options, option, none_left, chosen}
use Rattle.circuit.proofs.Lists.{map_at, length_up_to, in_up_to, select_same, select_images, some_is_empty}
use Rattle.circuit.proofs.Moves.{some_greedy, one_of_some, none_chosen}
use Rattle.map.specs.Map.{circuit}
use Rattle.picks.specs.Picks.{bests, best_at}
use Rattle.picks.proofs.Places.{range_is}
use Rattle.picks.proofs.Best.{some_best, best_below}
use Rattle.steps.specs.declared.drawn.Drawn.{Drawn}
use Rattle.steps.specs.Options.{option_gates, left_of, weights_of, interest_after}
use Rattle.steps.proofs.Listed.{left_drawn}

-- ---- lists of images

all_images : {A : Type 0} (f : ℕ → A) (p : A → Bool) (xs : List ℕ) → holds_of_all p (map f xs) ≡ holds_of_all (λ x. p (f x)) xs
all_images f p [] = refl
all_images f p (x ∷ xs) = ap (λ (b : Bool). p (f x) and b) (all_images f p xs)

all_same : (p q : ℕ → Bool) (xs : List ℕ) → ((x : ℕ) → In x xs → p x ≡ q x) → holds_of_all p xs ≡ holds_of_all q xs
all_same p q [] h = refl
all_same p q (x ∷ xs) h = rw (h x (here refl), all_same p q xs (λ y m. h y (there m)))

pick_image : {A : Type 0} (f : ℕ → A) (d : A) (xs : List ℕ) (i : ℕ) → 1 ≤ length xs → pick (map f xs) i d ≡ f (pick xs i 0)
pick_image f d xs i h = rw (length-map xs f) (get_or-map f xs (i % length xs) 0 d (mod-lt i h))

-- a list, place by place
by_places : (xs : List ℕ) → xs ≡ map (λ k. get_or xs k 0) (up_to (length xs))
by_places xs = rw range_is at (fill_by_all (λ k. get_or xs k 0) xs (length xs) 0 refl (λ k h. refl))

module _ (d : Drawn) (left : List ℕ) (a : left ≡ left_of d.s.map.bytes.now d.s.bytes.now d.gate.number) where
  abbrev m : List ℕ
  m = d.s.map.bytes.now

  abbrev s : List ℕ
  s = d.s.bytes.now

  abbrev g : ℕ
  g = d.gate.number

  abbrev gates_at : ℕ → List ℕ
  gates_at k = option_gates m s g (get_or left k 0)

  abbrev n : ℕ
  n = length left

  listed : options_left (circuit m) s g ≡ map gates_at (up_to n)
  listed = left_drawn d ∙ ap (map (option_gates m s g)) (sym a ∙ by_places left) ∙ map-map (option_gates m s g) (λ k. get_or left k 0) (up_to n)

  left_many : length (options_left (circuit m) s g) ≡ n
  left_many = ap length listed ∙ length-map (up_to n) gates_at ∙ length_up_to n

  some_left : 1 ≤ n → is_empty (options_left (circuit m) s g) ≡ false
  some_left h = some_is_empty (options_left (circuit m) s g) (omega (arith, left_many))

  -- none is left
  pub seeks_none : n ≡ 0 → (h : Choice) → none_left (circuit m) g ≡ chosen (circuit m) s g h
  seeks_none z h = sym (none_chosen (circuit m) s g (ap is_empty listed ∙ ap (λ (k : ℕ). is_empty (map gates_at (up_to k))) z) h)

  pub seeks_down : (i : ℕ) → 1 ≤ n → option (gates_at (i % n)) ≡ chosen (circuit m) s g (Down i)
  unfolding chosen
  seeks_down i h = sym (one_of_some (circuit m) g i (options_left (circuit m) s g) (some_left h)
      ∙ ap option (rw left_many (ap (λ (os : List (List ℕ)). get_or os (i % n) []) listed ∙ map_at gates_at n (i % n) [] (mod-lt i h))))

  -- ---- greedy

  abbrev weight : ℕ → ℕ
  weight k = interest_after m s (gates_at k)

  abbrev weights : List ℕ
  weights = weights_of (interest_after m s) m s g left

  -- the options that greedy picks from, by their places
  best_options : greedy_options (circuit m) s (map gates_at (up_to n))
      ≡ map gates_at (select (λ i. holds_of_all (λ k. leb (weight i) (weight k)) (up_to n)) (up_to n))
  unfolding greedy_options
  best_options = select_images gates_at _ (up_to n) ∙ ap (map gates_at) (select_same _ _ (up_to n) (λ i j. all_images gates_at _ (up_to n)))

  weights_at : (i : ℕ) → i < n → get_or weights i 0 ≡ weight i
  weights_at i l = get_or-map (λ x. interest_after m s (option_gates m s g x)) left i 0 0 l

  best_weights : select (λ i. holds_of_all (λ k. leb (weight i) (weight k)) (up_to n)) (up_to n)
      ≡ select (λ i. holds_of_all (λ k. leb (get_or weights i 0) (get_or weights k 0)) (up_to n)) (up_to n)
  best_weights = select_same _ _ (up_to n) (λ i j. all_same _ _ (up_to n) (λ k l. rw (weights_at i (in_up_to i n j), weights_at k (in_up_to k n l))))

  pub seeks_greedy : (w : List ℕ) (i j : ℕ) → w ≡ weights → j ≡ best_at w (length w) i → 1 ≤ n → option (gates_at j) ≡ chosen (circuit m) s g (Greedy i)
  unfolding chosen best_at
  seeks_greedy w i j f e h =
      let k : length w ≡ n = ap length f ∙ length-map left _ in
      sym (one_of_some (circuit m) g i (greedy_options (circuit m) s (options_left (circuit m) s g)) (some_greedy (circuit m) s (options_left (circuit m) s g) (some_left h))
      ∙ ap option (
      ap (λ (os : List (List ℕ)). pick (greedy_options (circuit m) s os) i []) listed
      ∙ ap (λ (os : List (List ℕ)). pick os i []) (best_options ∙ ap (map gates_at) best_weights)
      ∙ pick_image gates_at [] (bests weights n) i (some_best weights n h)
      ∙ ap gates_at (sym (rw (k, f) at e))))

  -- a single option is the best
  pub seeks_one : (i : ℕ) → n ≡ 1 → option (gates_at 0) ≡ chosen (circuit m) s g (Greedy i)
  seeks_one i e =
      let k = length-map left (λ x. interest_after m s (option_gates m s g x)) in
      let b = best_below weights (length weights) i (omega arith) in
      seeks_greedy weights i 0 refl (omega arith) (omega arith)
