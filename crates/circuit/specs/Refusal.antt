-- Document 01, 'When a call is declined': the numbers of the tests, and those of document 02. Assumes nothing.
use Rattle.std.specs.Prelude.{ℕ, Result, Ok, Err}
use Rattle.circuit.specs.declared.Refusal.{Refusal}
use Rattle.circuit.specs.declared.Refusal.TheVariants.{ShortMap, GateCount, Offsets, Kinds, Positions, Children, Codes, Length, Bits, CodesNotShown, TapeLength, EntryKind, ShortMemory, EmptyFront, ShortText}

-- the number of each refusal. F-1: "Number 8 is no longer given." F-4: "A text memory shorter than the text gives 16"
abbrev pub number_of : Refusal → ℕ
number_of ShortMap = 1
number_of GateCount = 2
number_of Offsets = 3
number_of Kinds = 4
number_of Positions = 5
number_of Children = 6
number_of Codes = 7
number_of Length = 9
number_of Bits = 10
number_of CodesNotShown = 11
number_of TapeLength = 12
number_of EntryKind = 13
number_of ShortMemory = 14
number_of EmptyFront = 15
number_of ShortText = 16

-- the number that a test or a call gives, or 0 where it goes through
abbrev pub number_given : {A : Type 0} → Result A Refusal → ℕ
number_given (Ok x) = 0
number_given (Err r) = number_of r
