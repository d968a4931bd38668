-- What the parts of the reader answer, said nearer to the code: the slots filled so far, and what is still to be read.
use Rattle.std.specs.Prelude.{ℕ, List, eqb, length, get_or, take, replicate}
use Rattle.std.proofs.lemmas.List.Edits.{sets}
use Rattle.meaning.specs.declared.Statement.{Statement}
use Rattle.meaning.specs.declared.Block.{Block as Slots}
use Rattle.meaning.specs.Numbers.{Answer, refused, done, demand, map_answer}
use Rattle.meaning.specs.Block.{blank}
use Rattle.meaning.specs.Format.{Rest, counts_fit, read_statements, read_body, in_memory}
use Rattle.meaning.specs.Calls.{BlockRead}
use Rattle.reader.specs.declared.BlockRead.{BlockRead as Read}
use Rattle.reader.specs.declared.Header.{Header}

-- what the code returns, as document 01's answer
abbrev pub answer : Read → BlockRead
answer r = record { status = r.status; block = r.block }

-- slots of which none is declared
unfoldable pub no_lengths : List ℕ
no_lengths = replicate 8 0

unfoldable pub no_statements : List Statement
no_statements = replicate 64 blank

-- "A refusal returns zeros beside its number"
unfoldable pub refusal : ℕ → Read
refusal status =
    record {
      status = status;
      block = record { variables = 0; live = 0; arrays = 0; count = 0; lengths = no_lengths; statements = no_statements };
    }

-- the array lengths, where those before i are in their slots already
abbrev pub lengths_read : List ℕ → ℕ → Rest (List ℕ) → Answer (List ℕ)
lengths_read slots i (refused number) = refused number
lengths_read slots i (done read) = done (sets slots i read.0)

-- the statements that the header announces, of which the first so many lengths are declared
abbrev pub statements_of : Header → List ℕ → List ℕ → Rest (List Statement)
statements_of header lengths bytes = read_statements header.statements header.variables (take header.arrays lengths) bytes

-- the block behind its header and lengths, where the statements before i are in their slots already; "then bytes left over (4)"
abbrev pub block_behind : Header → List ℕ → List Statement → ℕ → Rest (List Statement) → Answer Slots
block_behind header lengths slots i (refused number) = refused number
block_behind header lengths slots i (done read) =
    demand (eqb (length read.1) 0) 4
    (done (record {
      variables = header.variables;
      live = header.live;
      arrays = header.arrays;
      count = header.statements;
      lengths = lengths;
      statements = sets slots i read.0;
    }))

-- the block from its counts on
abbrev pub counted : List ℕ → Answer Slots
counted bytes =
    map_answer in_memory (demand (counts_fit (get_or bytes 3 0) (get_or bytes 4 0) (get_or bytes 5 0) (get_or bytes 6 0)) 3 (read_body bytes))
