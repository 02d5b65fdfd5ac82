-- A tape and its entries: reading them, and the tape of some draws with a kind and an option byte for each. Assumes nothing.
use Prim.Native.Nat.{ℕ, zero, suc, ◌+◌, ◌-◌, ◌*◌, ◌/◌, ◌%◌, ◌≤◌, ◌<◌}
use mathlib.Core.Path.{◌≡◌, refl, ap, ◌∙◌}
use mathlib.Core.Bool.{true}
use mathlib.Core.Logic.{inl, inr}
use mathlib.Core.List.{List, [], ◌∷◌, map}
use mathlib.Core.List.Memᴰ.{cases_cons as cases}
use mathlib.Core.List.Memᴰ.{head as here}
use mathlib.Core.List.Memᴰ.{not-nil as nowhere}
use mathlib.Core.List.Memᴰ.{of_map}
use mathlib.Core.List.Memᴰ.{tail as there}
use mathlib.Core.List.{Memᴰ as In}
use native.Mathlib.Omega.{arith}
use lib.ListN.{length, get_or, drop, length-map, length-drop}
use lib.Seq.{get_or-drop}
use lib.Dec.{leb}
use borrow.Author.Tests.{leb-true, le-leb}
use Rattle.folds.proofs.Loops.{all_at, all_of}
use Rattle.circuit.specs.declared.Choice.{Choice}
use Rattle.circuit.specs.declared.Choice.TheVariants.{Greedy, Down, Up}
use Rattle.circuit.specs.declared.Entry.{Entry}
use Rattle.circuit.specs.Promise.{NotGreedy, option_byte}
use Rattle.map.specs.Map.{u16_at}
use Rattle.tape.specs.Tape.{choice_of, entry_at, ChoiceRead, EntryRead, entries_from, entries, entry_kinds_test}
use Rattle.text.specs.Text.{AreBytes}
use Rattle.demands.specs.Demands.{AreDraws, Way, Plain, tape_of}

-- ---- reading

module _ (t : List ℕ) where
  from_length : (at n : ℕ) → length (entries_from t at n) ≡ n
  unfolding entries_from
  from_length at zero = refl
  from_length at (suc n) = ap suc (from_length (at + 4) n)

  pub entries_length : length t % 4 ≡ 0 → length t ≡ 4 * length (entries t)
  unfolding entries
  entries_length e = omega (arith, from_length 0 (length t / 4))

  entry_from : (d : Entry) (at n i : ℕ) → i < n → get_or (entries_from t at n) i d ≡ entry_at t (at + 4 * i)
  unfolding entries_from
  entry_from d at zero i h = absurd (omega arith)
  entry_from d at (suc n) zero h = ap (entry_at t) (omega arith)
  entry_from d at (suc n) (suc i) h = entry_from d (at + 4) n i (omega arith) ∙ ap (entry_at t) (omega arith)

  pub entry_is : length t % 4 ≡ 0 → (d : Entry) (i : ℕ) → 4 * i < length t → get_or (entries t) i d ≡ entry_at t (4 * i)
  unfolding entries
  entry_is e d i h = entry_from d 0 (length t / 4) i (omega arith) ∙ ap (entry_at t) (omega arith)

  -- the four bytes of an entry whose kind is up to 2
  pub entry_read : (at : ℕ) → get_or t (at + 2) 0 ≤ 2 → EntryRead t at (entry_at t at)
  unfolding entry_at u16_at
  entry_read at h = record { draw = refl; choice = says (get_or t (at + 2) 0) (get_or t (at + 3) 0) h }
    where
      says : (k i : ℕ) → k ≤ 2 → ChoiceRead (choice_of k i) k i
      says zero i h = (refl, refl)
      says (suc zero) i h = (refl, refl)
      says (suc (suc zero)) i h = (refl, refl)
      says (suc (suc (suc k))) i h = absurd (omega arith)

  -- from a place p on: the bytes, the entries
  module _ (p : ℕ) where
    byte_behind : (at j : ℕ) → get_or (drop p t) (at + j) 0 ≡ get_or t (p + at + j) 0
    byte_behind at j = get_or-drop p t (at + j) 0 ∙ ap (λ (i : ℕ). get_or t i 0) (omega arith)

    entry_behind : (at : ℕ) → entry_at (drop p t) at ≡ entry_at t (p + at)
    unfolding entry_at u16_at
    entry_behind at = rw (get_or-drop p t at 0, byte_behind at 1, byte_behind at 2, byte_behind at 3)

    entries_behind : (at n : ℕ) → entries_from (drop p t) at n ≡ entries_from t (p + at) n
    unfolding entries_from
    entries_behind at zero = refl
    entries_behind at (suc n) =
        let e : p + (at + 4) ≡ p + at + 4 = omega arith in
        rw (entry_behind at, entries_behind (at + 4) n, e)

  entries_cons : 4 ≤ length t → entries t ≡ entry_at t 0 ∷ entries (drop 4 t)
  unfolding entries entries_from
  entries_cons h =
      let n : length t / 4 ≡ suc ((length t - 4) / 4) = omega arith in
      rw (n, length-drop 4 t, entries_behind 4 0 ((length t - 4) / 4))

entries_none : entries [] ≡ []
unfolding entries entries_from
entries_none = refl

-- test 13, entry by entry
module _ (t : List ℕ) (whole : length t % 4 ≡ 0) where
  pub kinds_of : entry_kinds_test t ≡ true → (i : ℕ) → 4 * i < length t → get_or t (4 * i + 2) 0 ≤ 2
  unfolding entry_kinds_test
  kinds_of e i h = leb-true _ _ (all_at (λ j. leb (get_or t (4 * j + 2) 0) 2) (length t / 4) i e (omega arith))

  pub of_kinds : ((i : ℕ) → 4 * i < length t → get_or t (4 * i + 2) 0 ≤ 2) → entry_kinds_test t ≡ true
  unfolding entry_kinds_test
  of_kinds f = all_of (λ j. leb (get_or t (4 * j + 2) 0) 2) (length t / 4) (λ i h. le-leb _ _ (f i (omega arith)))

-- ---- the tape of some draws

-- the two bytes of a choice
way_of : Choice → Way
way_of (Greedy i) = record { kind = 0; option = i }
way_of (Down i) = record { kind = 1; option = i }
way_of (Up i) = record { kind = 2; option = i }

pub ways_of : List Entry → List Way
ways_of es = map (λ (e : Entry). way_of e.choice) es

choice_back : (x : Choice) → choice_of (way_of x).kind (way_of x).option ≡ x
unfolding way_of
choice_back (Greedy i) = refl
choice_back (Down i) = refl
choice_back (Up i) = refl

way_plain : (x : Choice) → NotGreedy x → option_byte x < 256 → Plain (way_of x)
unfolding way_of
way_plain (Greedy i) n h = absurd n
way_plain (Down i) n h = record { kind_is = (omega arith, omega arith); option_is = h }
way_plain (Up i) n h = record { kind_is = (omega arith, omega arith); option_is = h }

pub ways_length : (es : List Entry) → length (ways_of es) ≡ length es
unfolding ways_of
ways_length es = length-map es (λ (e : Entry). way_of e.choice)

pub ways_plain : (es : List Entry) → ((e : Entry) → In e es → NotGreedy e.choice × (option_byte e.choice < 256))
    → (w : Way) → In w (ways_of es) → Plain w
unfolding ways_of
ways_plain es f w m = let (e, n, q) = of_map (λ (x : Entry). way_of x.choice) es m in rw (← q) (way_plain e.choice (f e n).0 (f e n).1)

-- The tape of the draws and ways of some entries has these entries.
entry_back : (e : Entry) (t : List ℕ) → entry_at (e.draw % 256 ∷ e.draw / 256 ∷ (way_of e.choice).kind ∷ (way_of e.choice).option ∷ t) 0 ≡ e
unfolding entry_at u16_at
entry_back e t = let q : e.draw % 256 + 256 * (e.draw / 256) ≡ e.draw = omega arith in rw (q, choice_back e.choice)

pub entries_back : (es : List Entry) → entries (tape_of (map (λ (e : Entry). e.draw) es) (ways_of es)) ≡ es
unfolding ways_of
entries_back [] = entries_none
entries_back (e ∷ es) = entries_cons _ (omega arith) ∙ rw (entry_back e _, entries_back es)

-- what the tests and a lent tape ask: its length, its kinds, and that it is bytes
pub tape_length : (ds : List ℕ) (ws : List Way) → length ws ≡ length ds → length (tape_of ds ws) ≡ 4 * length ds
tape_length [] ws l = refl
tape_length (d ∷ ds) [] l = absurd (omega arith)
tape_length (d ∷ ds) (w ∷ ws) l = omega (arith, tape_length ds ws (omega arith))

pub tape_kinds : (ds : List ℕ) (ws : List Way) → ((w : Way) → In w ws → Plain w) → (i : ℕ) → get_or (tape_of ds ws) (4 * i + 2) 0 ≤ 2
tape_kinds [] ws p i = omega arith
tape_kinds (d ∷ ds) [] p i = omega arith
tape_kinds (d ∷ ds) (w ∷ ws) p zero = (p w (here refl)).kind_is.1
tape_kinds (d ∷ ds) (w ∷ ws) p (suc i) =
    let q : 4 * suc i + 2 ≡ suc (suc (suc (suc (4 * i + 2)))) = omega arith in
    rw q (tape_kinds ds ws (λ x m. p x (there m)) i)

bytes_more : (b : ℕ) (bs : List ℕ) → b < 256 → AreBytes bs → AreBytes (b ∷ bs)
bytes_more b bs h f x m = elim (cases m) [ inl q ↦ rw q h | inr n ↦ f x n ]

pub tape_bytes : (ds : List ℕ) (ws : List Way) → AreDraws ds → ((w : Way) → In w ws → Plain w) → AreBytes (tape_of ds ws)
tape_bytes [] ws u p = λ b m. absurd (nowhere m)
tape_bytes (d ∷ ds) [] u p = λ b m. absurd (nowhere m)
tape_bytes (d ∷ ds) (w ∷ ws) u p =
    let q = p w (here refl) in
    bytes_more _ _ (omega arith) (bytes_more _ _ (omega (arith, u d (here refl))) (bytes_more _ _ (omega (arith, q.kind_is)) (bytes_more _ _ q.option_is
    (tape_bytes ds ws (λ x m. u x (there m)) (λ x m. p x (there m))))))
