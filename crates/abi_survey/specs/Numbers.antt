-- What a host sees of Survey. Assumes nothing.
use Rattle.std.specs.Prelude.{ℕ, ◌≡◌, ◌↔◌, true, List, [], ◌∷◌}
use Rattle.abi_state.specs.Numbers.{numbers_after, HostEffect, host_answer}
use Rattle.survey.specs.Survey.{SurveyEffect, survey_effect}

-- "returns the sizes of front and interest set"; F-5: the second "leaves NOT gates out"
abbrev pub survey_for_host : SurveyEffect → List ℕ → HostEffect
survey_for_host r ns = host_answer r.number (r.out ∷ []) (numbers_after r.accepted (r.front ∷ r.interest ∷ []) ns)

-- it returns 0 exactly where it is accepted
abbrev pub SurveyZero : Type 0
SurveyZero = (m s out : List ℕ) → ((survey_effect m s out).number ≡ 0) ↔ ((survey_effect m s out).accepted ≡ true)
