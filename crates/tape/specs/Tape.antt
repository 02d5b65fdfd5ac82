-- Document 01's tape, and the tests 12 and 13. Assumes nothing.
use Rattle.std.specs.Prelude.{ℕ, zero, suc, ◌+◌, ◌*◌, ◌/◌, ◌%◌, ◌<◌, ◌≤◌, ◌≡◌, Bool, List, [], ◌∷◌, length, get_or, eqb, leb}
use Rattle.folds.specs.Folds.{◌and◌, all_below}
use Rattle.circuit.specs.declared.Choice.{Choice}
use Rattle.circuit.specs.declared.Choice.TheVariants.{Greedy, Down, Up}
use Rattle.circuit.specs.declared.Entry.{Entry}
use Rattle.map.specs.Map.{u16_at}

-- "kind (0 greedy, 1 down, 2 up), option". Kinds above 2 have no choice: test 13 excludes them, and the last clause stands for them.
abbrev pub choice_of : ℕ → ℕ → Choice
choice_of zero i = Greedy i
choice_of (suc zero) i = Down i
choice_of (suc (suc k)) i = Up i

-- "A tape entry is 4 bytes: draw (u16), kind (0 greedy, 1 down, 2 up), option.": the entry at a place
unfoldable pub entry_at : List ℕ → ℕ → Entry
entry_at t at = record { draw = u16_at t at; choice = choice_of (get_or t (at + 2) 0) (get_or t (at + 3) 0) }

-- the same without functions: what the four bytes at a place say, where the kind is up to 2
abbrev pub ChoiceRead : Choice → ℕ → ℕ → Type 0
ChoiceRead (Greedy o) kind option = (kind ≡ 0) × (o ≡ option)
ChoiceRead (Down o) kind option = (kind ≡ 1) × (o ≡ option)
ChoiceRead (Up o) kind option = (kind ≡ 2) × (o ≡ option)

pub record EntryRead (t : List ℕ) (at : ℕ) (e : Entry) : Type 0 where
  pub draw : e.draw ≡ get_or t at 0 + 256 * get_or t (at + 1) 0
  pub choice : ChoiceRead e.choice (get_or t (at + 2) 0) (get_or t (at + 3) 0)

-- "A tape goes through the engine entry by entry, the place reached moving on by four.": n entries from a place on, and all
unfoldable pub entries_from : List ℕ → ℕ → ℕ → List Entry
entries_from t at zero = []
entries_from t at (suc n) = entry_at t at ∷ entries_from t (at + 4) n

unfoldable pub entries : List ℕ → List Entry
entries t = entries_from t 0 (length t / 4)

-- the longest tape, in bytes, and its entries
abbrev pub most_tape : ℕ
most_tape = 65532

abbrev pub most_entries : ℕ
most_entries = 16383

-- "12. The tape's length isn't a multiple of 4, is above 65,532": true where neither is so
unfoldable pub tape_length_test : List ℕ → Bool
tape_length_test t = eqb (length t % 4) 0 and leb (length t) most_tape

-- "13. An entry, even one never reached, has a kind above 2.": true where none has
unfoldable pub entry_kinds_test : List ℕ → Bool
entry_kinds_test t = all_below (length t / 4) (λ i. leb (get_or t (4 * i + 2) 0) 2)

-- 12 and 13 as plain facts, and 13 of an entry
abbrev pub LengthAllowed : List ℕ → Type 0
LengthAllowed t = (length t % 4 ≡ 0) × (length t ≤ most_tape)

abbrev pub EntryKindAllowed : List ℕ → ℕ → Type 0
EntryKindAllowed t i = get_or t (4 * i + 2) 0 ≤ 2

abbrev pub EntriesAllowed : List ℕ → Type 0
EntriesAllowed t = (i : ℕ) → 4 * i < length t → EntryKindAllowed t i
