-- Opens every definition of document 01 by one name, so that a table is proved by computing it.
use Rattle.meaning.specs.Block.{block_price}
use Rattle.meaning.specs.Format.{read_operand, read_record, read_lengths, read_statements, read_block, block_bytes, write_block}
use Rattle.meaning.specs.Machine.{operate, run_statement, run_block}
use Rattle.meaning.specs.List.{list_price, list_bytes, read_instruction, read_records, read_list, allowed}
use Rattle.meaning.specs.Card.{run_instruction, run_list}
use Rattle.meaning.specs.Dependence.{reachability, independent}
use Rattle.meaning.specs.Pairs.{chain, may_be_admitted}
use Rattle.meaning.specs.Seeding.{seed}
use Rattle.meaning.specs.Estimate.{last_writer, definitions, loss}
use Rattle.meaning.specs.Extension.{use_to_definition, best_readers, definition_to_use, visit_from, extend}
use Rattle.meaning.specs.Combination.{cut, combine}
use Rattle.meaning.specs.Schedule.{schedule_from, schedule}
use Rattle.meaning.specs.Emission.{written, extract, emit_single, load, fetch_tuple, fetched_in, operated, store_tuple, landed, emit_pack, emission}
use Rattle.meaning.specs.Choice.{scheduled_units, packed_list, plain_list, chosen_list}
use Rattle.meaning.specs.Calls.{read_block_call, write_block_call, make_list_call, run_block_call, run_list_call}

unfoldable pub everything : Unit {0}
unfolding
    block_price
    read_operand read_record read_lengths read_statements read_block block_bytes write_block
    operate run_statement run_block
    list_price list_bytes read_instruction read_records read_list allowed
    run_instruction run_list
    reachability independent
    chain may_be_admitted
    seed
    last_writer definitions loss
    use_to_definition best_readers definition_to_use visit_from extend
    cut combine
    schedule_from schedule
    written extract emit_single load fetch_tuple fetched_in operated store_tuple landed emit_pack emission
    scheduled_units packed_list plain_list chosen_list
    read_block_call write_block_call make_list_call run_block_call run_list_call
everything = tt
