-- For inner functions: the marks of a survey, a byte per gate, while they are made. Assumes nothing.
use Rattle.std.specs.Prelude.{ℕ, ◌+◌, ◌*◌, ◌≤◌, ◌≡◌, cond, not, List, [], ◌∷◌, map, get_or, set, eqb, leb, ltb}
use Rattle.circuit.specs.Tools.{byte, up_to}
use Rattle.circuit.specs.Gate.{carries_weight}
use Rattle.circuit.specs.Circuit.{Circuit, justified}
use Rattle.circuit.specs.Survey.{reasons, cone, in_front, survey, front_size, interest_size}

-- Cone and front alone: 1 if in the cone, plus 2 if in the front. So a byte is 0, 1 or 3.
unfoldable pub cone_marks : Circuit → List ℕ → List ℕ
cone_marks c s = map (λ g. byte (cone c s g) + 2 * byte (in_front c s g)) (up_to c.gates)

-- marks that are the cone and the front of s, beside the front's size
pub record MarksOf (c : Circuit) (s marks : List ℕ) (front : ℕ) : Type 0 where
  pub are : marks ≡ cone_marks c s
  pub front_is : front ≡ front_size c s

-- w with f of its byte at each of the places
unfoldable pub paint : (ℕ → ℕ) → List ℕ → List ℕ → List ℕ
paint f [] w = w
paint f (x ∷ xs) w = paint f xs (set w x (f (get_or w x 0)))

-- ---- the pass for cone and front

abbrev pub to_one : ℕ → ℕ
to_one b = 1

-- the marks after gate g's turn: where it is in the cone, it brings its reasons, or it is in the front
unfoldable pub cone_turn : Circuit → List ℕ → ℕ → List ℕ → List ℕ
cone_turn c s g w = cond (eqb (get_or w g 0) 0) w (cond (justified c s g) (paint to_one (reasons c s g) w) (set w g 3))

-- 1 if gate g is in the front, else 0
unfoldable pub front_at : Circuit → List ℕ → ℕ → List ℕ → ℕ
front_at c s g w = cond (eqb (get_or w g 0) 0) 0 (byte (not (justified c s g)))

-- what gate g's turn leaves and counts
pub record ConeTurned (c : Circuit) (s : List ℕ) (g : ℕ) (before after : List ℕ) (counted : ℕ) : Type 0 where
  pub marks : after ≡ cone_turn c s g before
  pub front : counted ≡ front_at c s g before
  pub small : counted ≤ 1

-- ---- the pass for the interest set

-- the mark of a gate below an interesting one: 4 more, except where it has them, and except in the front, whose gates get them at their own turn
unfoldable pub mark_below : ℕ → ℕ
mark_below b = cond (ltb b 2) (b + 4) b

-- the mark of an interesting gate at its turn
unfoldable pub mark_itself : ℕ → ℕ
mark_itself b = cond (eqb b 3) 7 b

-- the marks after gate g's turn: those from 2 on are of the front, or interesting
unfoldable pub interest_turn : Circuit → ℕ → List ℕ → List ℕ
interest_turn c g w = cond (leb 2 (get_or w g 0)) (paint mark_below (c.kids g) (set w g (mark_itself (get_or w g 0)))) w

-- 1 if gate g is interesting and carries weight, else 0
unfoldable pub weight_at : Circuit → ℕ → List ℕ → ℕ
weight_at c g w = cond (leb 2 (get_or w g 0)) (byte (carries_weight (c.kind g))) 0

-- what gate g's turn leaves and counts
pub record InterestTurned (c : Circuit) (g : ℕ) (before after : List ℕ) (counted : ℕ) : Type 0 where
  pub marks : after ≡ interest_turn c g before
  pub weight : counted ≡ weight_at c g before

-- marks that are the cone and the front of some configuration
abbrev pub ConeMarked : Circuit → List ℕ → Type 0
ConeMarked c w = (s : List ℕ) × (w ≡ cone_marks c s)

-- marks that are the survey of s, beside the interest set's size
pub record SurveyMarks (c : Circuit) (s marks : List ℕ) (interest : ℕ) : Type 0 where
  pub are : marks ≡ survey c s
  pub interest_is : interest ≡ interest_size c s

-- what marks of cone and front become: the survey of the configuration whose cone and front they are, beside the interest set's size
abbrev pub Completed : Circuit → List ℕ → List ℕ → ℕ → Type 0
Completed c before after interest = (s : List ℕ) → before ≡ cone_marks c s → SurveyMarks c s after interest
