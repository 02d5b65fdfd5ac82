-- The number 0 is that of accepted calls. Assumes nothing.
use mathlib.Core.Path.{refl}
use mathlib.Core.List.{◌++◌}
use Rattle.map.specs.Check.{first_failed, map_tests}
use Rattle.survey.specs.Survey.{survey_tests, SurveyEffect, survey_by, survey_effect}
use Rattle.abi_state.proofs.Zero.{zero_of}
use Rattle.abi_survey.specs.Numbers.{SurveyZero}

pub survey_zero : SurveyZero
unfolding survey_effect survey_by
survey_zero m s out = zero_of (λ (r : SurveyEffect). r.accepted) (λ r. r.number) (first_failed (map_tests m ++ survey_tests m s out)) _ _ refl refl refl refl
