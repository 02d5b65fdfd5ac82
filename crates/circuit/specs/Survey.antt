-- Document 01, 'Survey', from the cone on: `justified` stands in Circuit.antt and the table of relevant children in Gate.antt. That cone, front and
-- interest set are those of source document 001, save two differences, is `SurveyIs001` of Source001.antt; F-5 has the second in the marks alone. Assumes nothing.
use Rattle.std.specs.Prelude.{ℕ, ◌+◌, ◌*◌, Bool, cond, not, List, [], map, length}
use Rattle.folds.specs.Folds.{◌and◌, ◌or◌, descend}
use Rattle.circuit.specs.Tools.{byte, member, select, up_to}
use Rattle.circuit.specs.Gate.{relevant, carries_weight}
use Rattle.circuit.specs.Circuit.{Circuit, coded, gates_in, on, justified}

-- A set of gates spread downwards, by one pass from gate n - 1 to gate 0: where gate g is in it, the gates `brings g` come in too.
unfoldable pub spread : (ℕ → List ℕ) → ℕ → (ℕ → Bool) → ℕ → Bool
spread brings n start = descend n (λ g m x. m x or (member x (brings g) and m g)) start

-- "for each justified gate in it, these children": the children that gate g brings into the cone
unfoldable pub reasons : Circuit → List ℕ → ℕ → List ℕ
reasons c s g = cond (justified c s g) (select (λ x. relevant (c.kind g) (on s g) (on s x)) (c.kids g)) []

-- "The cone is the smallest set that has every coded gate and, for each justified gate in it, these children."
unfoldable pub cone : Circuit → List ℕ → ℕ → Bool
cone c s = spread (reasons c s) c.gates (coded c)

-- "The front is the cone's unjustified gates": as a set, and "listed by rising gate number"
unfoldable pub in_front : Circuit → List ℕ → ℕ → Bool
in_front c s g = cone c s g and not (justified c s g)

unfoldable pub front : Circuit → List ℕ → List ℕ
front c s = gates_in c (in_front c s)

-- "Interesting gates are the front and all descendants of its gates (their children, those gates' children and so on); NOT gates count like others": F-5: "they still get the mark 4"
unfoldable pub interesting : Circuit → List ℕ → ℕ → Bool
interesting c s = spread c.kids c.gates (in_front c s)

-- "Survey writes one byte per gate: 1 if in the cone, plus 2 if in the front, plus 4 if interesting,"
unfoldable pub survey : Circuit → List ℕ → List ℕ
survey c s = map (λ g. byte (cone c s g) + 2 * byte (in_front c s g) + 4 * byte (interesting c s g)) (up_to c.gates)

-- "and returns the sizes of front and interest set."
unfoldable pub front_size : Circuit → List ℕ → ℕ
front_size c s = length (front c s)

-- F-5: "An interest set's size leaves NOT gates out from now on": the interesting gates that carry weight
unfoldable pub interest_set : Circuit → List ℕ → ℕ → Bool
interest_set c s g = interesting c s g and carries_weight (c.kind g)

unfoldable pub interest_size : Circuit → List ℕ → ℕ
interest_size c s = length (gates_in c (interest_set c s))
