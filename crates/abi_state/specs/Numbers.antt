-- Document 01's calls, and Export of document 02, for hosts in C and Rust. What they return and leave is said by the same definitions as the calls' own; here stands only where a host finds it.
-- Assumes nothing.
use Rattle.std.specs.Prelude.{ℕ, ◌<◌, ◌≤◌, ◌≡◌, ◌↔◌, Bool, true, cond, List, [], ◌∷◌, length, get_or}
use Rattle.circuit.specs.Tools.{byte}
use Rattle.map.specs.Check.{CheckEffect, check_effect}
use Rattle.map.specs.Children.{stretch_place, stretch_length}
use Rattle.state.specs.State.{EvaluateEffect, evaluate_effect, MarkEffect, mark_effect}
use Rattle.export.specs.Export.{ExportEffect, export_effect}

-- the numbers xs in the first places of the lent memory ns, as many as it has
unfoldable pub placed : List ℕ → List ℕ → List ℕ
placed [] ns = ns
placed (x ∷ xs) [] = []
placed (x ∷ xs) (n ∷ ns) = x ∷ placed xs ns

-- the memory for the numbers of an answer after a call: an accepted call's stand there, "untouched" by a refused one
abbrev pub numbers_after : Bool → List ℕ → List ℕ → List ℕ
numbers_after accepted xs ns = cond accepted (placed xs ns) ns

-- What a host sees of a call: the number that is returned, the memories that it lent to be written, in the order of the parameters, and the memory for numbers
pub record HostEffect : Type 0 where
  pub returned : ℕ
  pub memories : List (List ℕ)
  pub numbers : List ℕ

abbrev pub host_answer : ℕ → List (List ℕ) → List ℕ → HostEffect
host_answer r ms ns = record { returned = r; memories = ms; numbers = ns }

-- "Check returns counts of gates, inputs, children and codes."
abbrev pub check_for_host : CheckEffect → List ℕ → HostEffect
check_for_host r ns = host_answer r.number [] (numbers_after r.accepted (r.gates ∷ r.inputs ∷ r.children ∷ r.codes ∷ []) ns)

-- Children gives no number: where in map m the stretch of gate g begins, and its length
abbrev pub children_numbers : List ℕ → ℕ → List ℕ → List ℕ
children_numbers m g = placed (stretch_place m g ∷ stretch_length m g ∷ [])

-- Evaluate has no other numbers.
abbrev pub evaluate_for_host : EvaluateEffect → HostEffect
evaluate_for_host r = host_answer r.number (r.out ∷ []) []

-- Mark: 1 for yes, 0 for no
abbrev pub mark_for_host : MarkEffect → List ℕ → HostEffect
mark_for_host r ns = host_answer r.number [] (numbers_after r.accepted (byte r.yes ∷ []) ns)

-- Export, F-4: "The call returns the text's length."
abbrev pub export_for_host : ExportEffect → List ℕ → HostEffect
export_for_host r ns = host_answer r.number (r.out ∷ []) (numbers_after r.accepted (r.size ∷ []) ns)

-- What `placed` leaves: as many places as before, the numbers in the first of them in their order, and the other places as they were.
pub record PlacedMeans (xs ns : List ℕ) : Type 0 where
  pub as_many : length (placed xs ns) ≡ length ns
  pub first : (i : ℕ) → i < length xs → i < length ns → get_or (placed xs ns) i 0 ≡ get_or xs i 0
  pub others : (i : ℕ) → length xs ≤ i → get_or (placed xs ns) i 0 ≡ get_or ns i 0

abbrev pub PlacedIs : Type 0
PlacedIs = (xs ns : List ℕ) → PlacedMeans xs ns

-- Hosts go by the number that a call returns: it is 0 exactly where the call is accepted.
pub record StateZero : Type 0 where
  pub check_zero : (m : List ℕ) → ((check_effect m).number ≡ 0) ↔ ((check_effect m).accepted ≡ true)
  pub evaluate_zero : (m row out : List ℕ) → ((evaluate_effect m row out).number ≡ 0) ↔ ((evaluate_effect m row out).accepted ≡ true)
  pub mark_zero : (m s : List ℕ) → ((mark_effect m s).number ≡ 0) ↔ ((mark_effect m s).accepted ≡ true)
  pub export_zero : (m out : List ℕ) → ((export_effect m out).number ≡ 0) ↔ ((export_effect m out).accepted ≡ true)
