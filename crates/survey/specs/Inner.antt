-- For inner functions: a survey with its sizes, and Survey behind the map's tests. Assumes nothing.
use Rattle.std.specs.Prelude.{ℕ, ◌≡◌, List}
use Rattle.circuit.specs.Circuit.{Circuit}
use Rattle.circuit.specs.Survey.{survey, front_size, interest_size}
use Rattle.map.specs.Check.{first_failed}
use Rattle.survey.specs.declared.Sizes.{Sizes}
use Rattle.survey.specs.Survey.{survey_tests, SurveyEffect, survey_by}

-- bytes that are the survey of s, beside its sizes
pub record SurveyOf (c : Circuit) (s bytes : List ℕ) (sizes : Sizes) : Type 0 where
  pub are : bytes ≡ survey c s
  pub front_is : sizes.front ≡ front_size c s
  pub interest_is : sizes.interest ≡ interest_size c s

-- Survey behind the map's tests
unfoldable pub survey_on_map : List ℕ → List ℕ → List ℕ → SurveyEffect
survey_on_map m s out = survey_by (first_failed (survey_tests m s out)) m s out
