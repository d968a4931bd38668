-- A refusal that is handed on stays what it is: what returns at a `?` is the refusal that came.
use mathlib.Core.Path.{◌≡◌, ap, ◌∙◌}
use Rattle.std.specs.Prelude.{Result, Option, Ok, Err, None, ok_or, IsErrAnd}
use Rattle.meaning.specs.declared.Refusal.{Refusal}
use Rattle.meaning.specs.Numbers.{Answer, refused}
use Rattle.meaning.specs.Refusals.{number_of, answered}

pub handed_on :
    {A : Type 0} (returned : Result A Refusal) (came : Refusal) → IsErrAnd returned (λ refusal. refusal ≡ came)
    → answered returned ≡ refused (number_of came)
handed_on (Ok a) came same = absurd same
handed_on (Err refusal) came same = ap (λ (r : Refusal). refused (number_of r)) same

-- what a result that is a refusal answers
abbrev refusal_of : {A B : Type 0} → Result B Refusal → Answer A
refusal_of (Ok b) = refused 0
refusal_of (Err refusal) = refused (number_of refusal)

-- where nothing was found, the refusal that stands beside it returns
pub nothing_found :
    {A B : Type 0} (returned : Result A Refusal) (came refusal : Refusal) (found : Option B) → IsErrAnd returned (λ r. r ≡ came)
    → Err came ≡ ok_or found refusal → found ≡ None → answered returned ≡ refused (number_of refusal)
nothing_found {A} {B} returned came refusal found same e none =
    handed_on returned came same ∙ ap (refusal_of {A = A} {B = B}) (e ∙ ap (λ (o : Option B). ok_or o refusal) none)
