-- What writing a block returns, with the room: the size of what was written, or the refusal's number and the length needed.
use Rattle.std.specs.Prelude.{ℕ, List, Result, Ok, Err}
use Rattle.meaning.specs.declared.Refusal.{Refusal}
use Rattle.meaning.specs.Refusals.{number_of, needed_of}
use Rattle.meaning.specs.Calls.{BlockWritten}

abbrev pub written : Result ℕ Refusal → List ℕ → BlockWritten
written (Ok size) room = record { status = 0; size = size; room = room }
written (Err refusal) room = record { status = number_of refusal; size = needed_of refusal; room = room }
