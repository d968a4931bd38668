-- What is told of bytes, by what reading them answers; and what making the list leaves for it to be told.
use mathlib.Core.Path.{◌≡◌, refl, sym, ap, ap₂, ◌∙◌}
use Prim.Native.Nat.{ℕ, ◌≤◌}
use mathlib.Core.Bool.{true}
use mathlib.Core.List.{List}
use native.Mathlib.Omega.{arith}
use lib.ListN.{length, take, drop, length-append}
use lib.Seq.{take-append_seam}
use borrow.Author.Tests.{le-leb}
use Rattle.basics.specs.Lists.{all}
use Rattle.meaning.specs.declared.Block.{Block as Slots}
use Rattle.meaning.specs.Numbers.{Answer, refused, done}
use Rattle.meaning.specs.Block.{Block, declared, block_price}
use Rattle.meaning.specs.Format.{read_block}
use Rattle.meaning.specs.List.{list_price, list_bytes}
use Rattle.meaning.specs.Choice.{chosen_list}
use Rattle.meaning.specs.Calls.{ListMade, block_read, read_block_call, in_room, list_made, make_list_call}
use Rattle.theorems.proofs.Bytes.{is_byte}
use Rattle.theorems.proofs.Readable.{refused_number, done_readable, done_fits, declared_in_memory}
use Rattle.theorems.proofs.ListRoundTrip.{list_length}
use Rattle.theorems.proofs.Chosen.{chosen_lawful}
use Rattle.theorems.proofs.ScheduleRuns.{units_of_lem}
use Rattle.choice.specs.Promises.{Legal}
use Rattle.maker.specs.declared.Made.{Made}
use Rattle.maker.specs.Promises.{answer}
use Rattle.answers.specs.Sentences.{refusal}
use Rattle.account_list.specs.Instructions.{instruction_lines}
use Rattle.account_list.specs.Shown.{list_text}
use Rattle.account_list.proofs.Lines.{chosen_said}
use Rattle.account.specs.Account.{block_told, told, explained}

-- a refusal is told by its number
stopped_at : (a : Answer Block) (status : ℕ) → (block_read a).status ≡ status → (status ≡ 0 → ⊥) → refusal status ≡ told a
stopped_at (refused number) status e nonzero = ap refusal (sym e)
stopped_at (done b) status e nonzero = absurd (nonzero (sym e))

pub stopped : (bytes : List ℕ) (status : ℕ) → (read_block_call bytes).status ≡ status → (status ≡ 0 → ⊥) → refusal status ≡ explained bytes
unfolding read_block_call explained
stopped bytes status e nonzero = stopped_at (read_block bytes) status e nonzero

-- a block that is read
read_at : (bytes : List ℕ) (a : Answer Block) (slots : Slots) → read_block bytes ≡ a → (block_read a).status ≡ 0 → (block_read a).block ≡ slots
    → read_block bytes ≡ done (declared slots)
read_at bytes (refused number) slots read e same = absurd (omega (arith, refused_number bytes number read))
read_at bytes (done b) slots read e same = read ∙ ap done (sym (declared_in_memory b) ∙ ap declared same)

pub was_read : (bytes : List ℕ) (slots : Slots) → (read_block_call bytes).status ≡ 0 → (read_block_call bytes).block ≡ slots → read_block bytes ≡ done (declared slots)
unfolding read_block_call
was_read bytes slots e same = read_at bytes (read_block bytes) slots refl e same

module _ (bytes : List ℕ) (b : Block) (read : read_block bytes ≡ done b) where
  pub went_on : block_told b ≡ explained bytes
  unfolding explained
  went_on = ap told (sym read)

  module _ (are : all is_byte bytes ≡ true) where
    pub read_legal : Legal b
    read_legal = record { readable = done_readable bytes b read; constants = done_fits bytes b are read }

    -- the list stands in the first bytes of a room that holds every list
    module _ (room : List ℕ) (large : 3844 ≤ length room) where
      fits : length (list_bytes (chosen_list b)) ≤ length room
      fits =
          let lawful = chosen_lawful b read_legal.readable read_legal.constants (units_of_lem b.statements) in
          omega (arith, large, list_length (chosen_list b) lawful.fits)

      whole : make_list_call bytes room
          ≡ record {
            status = 0;
            size = length (list_bytes (chosen_list b));
            block_cost = block_price b.statements;
            list_cost = list_price b.statements (chosen_list b);
            room = in_room (list_bytes (chosen_list b)) room;
          }
      unfolding make_list_call
      whole = ap (list_made room) read ∙ rw (le-leb (length (list_bytes (chosen_list b))) (length room) fits)

      module _ (r : Made) (after : List ℕ) (made : answer r after ≡ make_list_call bytes room) where
        pub block_cost_lem : r.block ≡ block_price b.statements
        block_cost_lem = ap (λ (m : ListMade). m.block_cost) (made ∙ whole)

        pub list_cost_lem : r.list ≡ list_price b.statements (chosen_list b)
        list_cost_lem = ap (λ (m : ListMade). m.list_cost) (made ∙ whole)

        stands : after ≡ in_room (list_bytes (chosen_list b)) room
        stands = ap (λ (m : ListMade). m.room) (made ∙ whole)

        sized : r.size ≡ length (list_bytes (chosen_list b))
        sized = ap (λ (m : ListMade). m.size) (made ∙ whole)

        pub size_fits : r.size ≤ length after
        size_fits =
            omega (arith, sized, ap length stands, length-append (list_bytes (chosen_list b)) (drop (length (list_bytes (chosen_list b))) room))

        pub list_told : list_text b.statements (take r.size after) ≡ instruction_lines b.statements (chosen_list b)
        list_told =
            ap₂ (λ (n : ℕ) (l : List ℕ). list_text b.statements (take n l)) sized stands
            ∙ ap (list_text b.statements) (take-append_seam (list_bytes (chosen_list b)) (drop (length (list_bytes (chosen_list b))) room))
            ∙ chosen_said bytes b are read
