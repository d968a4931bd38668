-- What making a list returns and leaves, as document 01's answer.
use Rattle.std.specs.Prelude.{ℕ, List, Result, Ok, Err}
use Rattle.meaning.specs.declared.Refusal.{Refusal}
use Rattle.meaning.specs.Refusals.{number_of, needed_of}
use Rattle.meaning.specs.Calls.{ListMade}
use Rattle.maker.specs.declared.Made.{Made}
use Rattle.maker.specs.declared.List.{List as Listed}

-- zeros beside the number of a refusal, except that 7 also returns the length needed
abbrev pub returned : Result Listed Refusal → Made
returned (Ok list) = record { status = 0; size = list.size; block = list.block_price; list = list.list_price }
returned (Err refusal) = record { status = number_of refusal; size = needed_of refusal; block = 0; list = 0 }

abbrev pub answer : Made → List ℕ → ListMade
answer r room = record { status = r.status; size = r.size; block_cost = r.block; list_cost = r.list; room = room }
