-- "Numbers returned": the reasons for a refusal, as code hands them on, and the numbers that they are.
use Rattle.std.specs.Prelude.{ℕ, Result, Ok, Err}
use Rattle.meaning.specs.declared.Refusal.{Refusal}
use Rattle.meaning.specs.declared.Refusal.TheVariants.{Version, Length, Limits, Form, Undeclared, Sizes, Room, List, Rules}
use Rattle.meaning.specs.Numbers.{Answer, refused, done}

abbrev pub number_of : Refusal → ℕ
number_of Version = 1
number_of Length = 2
number_of Limits = 3
number_of Form = 4
number_of Undeclared = 5
number_of Sizes = 6
number_of (Room needed) = 7
number_of List = 8
number_of Rules = 9

-- "zeros beside its number, except that 7 also returns the length needed"
abbrev pub needed_of : Refusal → ℕ
needed_of Version = 0
needed_of Length = 0
needed_of Limits = 0
needed_of Form = 0
needed_of Undeclared = 0
needed_of Sizes = 0
needed_of (Room needed) = needed
needed_of List = 0
needed_of Rules = 0

-- what code returns, as document 01's answer
abbrev pub answered : {A : Type 0} → Result A Refusal → Answer A
answered (Ok a) = done a
answered (Err refusal) = refused (number_of refusal)
