-- Document 01's Survey, on bytes. Assumes nothing.
use Rattle.std.specs.Prelude.{ℕ, ◌+◌, ◌*◌, ◌<◌, ◌≡◌, ◌↔◌, Bool, true, false, cond, List, [], ◌∷◌, ◌++◌, length, get_or, drop, eqb, leb, Result, Ok, Err}
use Rattle.folds.specs.Folds.{all_below}
use Rattle.circuit.specs.declared.Refusal.{Refusal}
use Rattle.circuit.specs.Refusal.{number_of}
use Rattle.circuit.specs.Tools.{byte, over}
use Rattle.circuit.specs.Circuit.{on}
use Rattle.circuit.specs.Evaluate.{shows_code, KeepsCodes}
use Rattle.circuit.specs.Survey.{survey, front_size, interest_size}
use Rattle.circuit.specs.Source001.{Cone, Front, Interesting, InterestSet, Size}
use Rattle.map.specs.Map.{gate_count, code_count, code_gate, code_value, circuit}
use Rattle.map.specs.Check.{first_failed, map_tests, verdict, Test, MapNumber}
use Rattle.state.specs.State.{configuration_tests, ConfigurationNumber, HasRoom}
use Rattle.survey.specs.declared.Sizes.{Sizes}

-- ---- the tests

-- "11. For Survey, Move and Run: a coded gate's value isn't its code.": true where each coded gate's value is its code
unfoldable pub codes_shown_test : List ℕ → List ℕ → Bool
codes_shown_test m s = all_below (gate_count m) (λ g. shows_code ((circuit m).code g) (on s g))

-- 9, 10 and 11: a configuration from which a search may start. Survey's is tested like a start.
unfoldable pub start_tests : List ℕ → List ℕ → List (ℕ × Bool)
start_tests m s = configuration_tests m s ++ ((11, codes_shown_test m s) ∷ [])

-- Survey's tests behind the map's: these, and "14. Output .. memory is shorter than the gate count."
unfoldable pub survey_tests : List ℕ → List ℕ → List ℕ → List (ℕ × Bool)
survey_tests m s out = start_tests m s ++ ((14, leb (gate_count m) (length out)) ∷ [])

-- ---- Survey

-- What Survey does: whether the call is accepted and else its number, "the sizes of front and interest set", and the output memory after the call
pub record SurveyEffect : Type 0 where
  pub accepted : Bool
  pub number : ℕ
  pub front : ℕ
  pub interest : ℕ
  pub out : List ℕ

-- document 01's number and values of each case of the answer that is returned, beside the memory
unfoldable pub survey_answer : Result Sizes Refusal → List ℕ → SurveyEffect
survey_answer (Ok z) w = record { accepted = true; number = 0; front = z.front; interest = z.interest; out = w }
survey_answer (Err r) w = record { accepted = false; number = number_of r; front = 0; interest = 0; out = w }

-- what a call with this number gives and leaves: "Survey writes one byte per gate .. and returns the sizes"; refused, it "leaves all lent memory
-- untouched; the other numbers of its answer .. are then 0"
unfoldable pub survey_by : ℕ → List ℕ → List ℕ → List ℕ → SurveyEffect
survey_by n m s out =
    cond (eqb n 0)
    (record { accepted = true; number = 0; front = front_size (circuit m) s; interest = interest_size (circuit m) s; out = over (survey (circuit m) s) out })
    (record { accepted = false; number = n; front = 0; interest = 0; out = out })

unfoldable pub survey_effect : List ℕ → List ℕ → List ℕ → SurveyEffect
survey_effect m s out = survey_by (first_failed (map_tests m ++ survey_tests m s out)) m s out

-- ---- what it means

-- What a start must be: a configuration of an accepted map that keeps its codes. Survey, Move and Run ask for one.
pub record IsStart (m s : List ℕ) : Type 0 where
  pub accepted : verdict m ≡ 0
  pub keeps : KeepsCodes (circuit m) s

-- "1 if in the cone, plus 2 if in the front, plus 4 if interesting": what a byte says, for the three sets of source document 001
pub record SurveyByte (b : ℕ) (InCone InFront IsInteresting : Type 0) : Type 0 where
  pub cone : Bool
  pub front : Bool
  pub interest : Bool
  pub is : b ≡ byte cone + 2 * byte front + 4 * byte interest
  pub cone_is : (cone ≡ true) ↔ InCone
  pub front_is : (front ≡ true) ↔ InFront
  pub interest_is : (interest ≡ true) ↔ IsInteresting

-- The bytes and sizes are those of 001's cone, front and interest set (with document 01's two differences, of which by F-5 the one on NOT gates is "in the mark alone": the size of the interest set is that of 001's
-- own, and 0 exactly where that of the front is); the surplus stands.
pub record SurveyMeans (m s out : List ℕ) (r : SurveyEffect) : Type 0 where
  pub number : r.number ≡ 0
  pub start : IsStart m s
  pub room : HasRoom m r.out
  pub bytes : (g : ℕ) → g < gate_count m → SurveyByte (get_or r.out g 0) (Cone (circuit m) s g) (Front (circuit m) s g) (Interesting (circuit m) s g)
  pub surplus : drop (gate_count m) r.out ≡ drop (gate_count m) out
  pub long : length r.out ≡ length out
  pub size_of_front : Size (Front (circuit m) s) r.front
  pub size_of_interest : Size (InterestSet (circuit m) s) r.interest
  pub no_interest : (r.interest ≡ 0) ↔ (r.front ≡ 0)

abbrev pub SurveyDoes : Type 0
SurveyDoes = (m s out : List ℕ) → (survey_effect m s out).accepted ≡ true → SurveyMeans m s out (survey_effect m s out)

-- Survey is accepted exactly for starts, and memory that is long enough.
abbrev pub SurveyAccepts : Type 0
SurveyAccepts = (m s out : List ℕ) → ((survey_effect m s out).accepted ≡ true) ↔ (IsStart m s × HasRoom m out)

-- each code record finds its value
abbrev pub CodesShown : List ℕ → List ℕ → Type 0
CodesShown m s = (r : ℕ) → r < code_count m → get_or s (code_gate m r) 0 ≡ code_value m r

-- Its number: those of a start, 9 to 11, behind the map's, and 14
abbrev pub StartNumber : ℕ → List ℕ → List ℕ → Type 0 → Type 0
StartNumber n m s Rest =
    ConfigurationNumber n m s (
    Test n 11 (CodesShown m s) Rest)

abbrev pub SurveyNumber : Type 0
SurveyNumber = (m s out : List ℕ)
    → MapNumber (survey_effect m s out).number m (StartNumber (survey_effect m s out).number m s (
    Test (survey_effect m s out).number 14 (HasRoom m out) ((survey_effect m s out).number ≡ 0)))

-- Refused, it gives a number, "leaves all lent memory untouched; the other numbers of its answer .. are then 0".
pub record SurveyRefused (out : List ℕ) (r : SurveyEffect) : Type 0 where
  pub numbered : ¬ (r.number ≡ 0)
  pub zeros : (r.front ≡ 0) × (r.interest ≡ 0)
  pub untouched : r.out ≡ out

abbrev pub SurveyRefuses : Type 0
SurveyRefuses = (m s out : List ℕ) → (survey_effect m s out).accepted ≡ false → SurveyRefused out (survey_effect m s out)
