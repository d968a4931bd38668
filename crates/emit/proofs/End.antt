-- Emission over the tables is emission: the bytes, the count and the price that it leaves are those of the list.
use Rattle.std.proofs.Common.{◌≡◌, ℕ, ◌+◌, ◌≤◌, true, List, [], length, get_or, replicate, refl, ap, ◌∙◌, arith}
use Rattle.basics.specs.Lists.{all, flat, each}
use Rattle.basics.specs.Sets.{nobody}
use Rattle.basics.proofs.Sets.{has_nobody}
use Rattle.meaning.specs.declared.Statement.{Statement}
use Rattle.meaning.specs.Block.{Block}
use Rattle.meaning.specs.List.{records_bytes, list_bytes, list_price}
use Rattle.meaning.specs.Emission.{next, emit_unit, nothing_emitted, emission}
use Rattle.theorems.specs.Units.{Units}
use Rattle.theorems.proofs.Records.{constants_fit}
use Rattle.theorems.proofs.Readable.{Readable}
use Rattle.theorems.proofs.ListRoundTrip.{ListFits, list_length}
use Rattle.theorems.proofs.Steps.{finished, emission_steps}
use Rattle.theorems.proofs.Limits.{Sound, sound}
use Rattle.theorems.proofs.Units.{units_size}
use Rattle.codes.specs.Codes.{place_code}
use Rattle.facts.specs.Tied.{Names}
use Rattle.units.specs.Words.{InOrder}
use Rattle.encode.proofs.Encoding.{Short, Listed}
use Rattle.encode.proofs.Header.{Made, headed_made}
use Rattle.registers.proofs.Table.{no_registers}
use Rattle.lanes.specs.Homes.{extract_live}
use Rattle.lanes.proofs.Homes.{no_homes}
use Rattle.lanes.proofs.Extraction.{Stepped, live_stepped}
use Rattle.fetch.specs.Fetching.{State}
use Rattle.fetch.proofs.Standing.{Standing, Stands}
use Rattle.emit.specs.Emitting.{nothing_in, emit_units_state, emission_in}
use Rattle.emit.proofs.Columns.{Known}
use Rattle.emit.proofs.Units.{Once, units_standing}
use Rattle.emit.proofs.Prices.{list_cheap}

-- nothing is emitted yet
abbrev begun : List ℕ → State
begun out = nothing_in out (replicate 257 0) (replicate 576 0)

nothing_listed : (out : List ℕ) (ss : List Statement) → Listed out ss [] (begun out).lanes.list
unfolding list_price
nothing_listed out ss = record { out = refl; size = refl; count = refl; price = refl }

start_standing : (out : List ℕ) (ss : List Statement) → Standing out ss nothing_emitted (begun out)
start_standing out ss =
    record { lanes = record { list = nothing_listed out ss; homes = no_homes }; registers = no_registers ss nobody; used = refl }

module _ (b : Block) (readable : Readable b) (constants : all constants_fit b.statements ≡ true) (units : List (List ℕ)) (u : Units b.statements units) where
  size : length (flat units) ≤ 64
  size = omega (arith, units_size b.statements units u, readable.count)

  -- the limits of the list, and of the registers before the end
  whole : Sound b 0 units (finished b.statements b.live units)
  whole = sound b readable constants (emission_steps b.statements b.live units u).reached

  few_registers : next (each (emit_unit b.statements) units nothing_emitted) ≤ 96
  few_registers =
      let before : Sound b 0 units (finished b.statements 0 units) = sound b readable constants (emission_steps b.statements 0 units u).reached in
      omega (arith, before.few, size)

  few_instructions : length (emission b.statements b.live units) ≤ 160
  unfolding emission
  few_instructions = omega (arith, whole.short, size)

  list_fits : ListFits (emission b.statements b.live units)
  unfolding emission
  list_fits = record { count = few_instructions; fit = whole.fit }

  records_few : 4 + length (records_bytes (emission b.statements b.live units)) ≤ 3844
  unfolding list_bytes
  records_few = omega (arith, list_length (emission b.statements b.live units) list_fits)

  short : Short b.statements (emission b.statements b.live units)
  short =
      record {
        bytes = omega (arith, records_few);
        few = omega (arith, few_instructions);
        cheap = omega (arith, few_instructions, list_cheap b.statements (emission b.statements b.live units) list_fits.fit);
      }

  once : Once b.statements nobody (flat units)
  once s below = rw (has_nobody s) (omega (arith, u.once s below))

  -- The table begins with the bytes of the list that is emitted, with its size, its count and its price.
  pub emission_made : (facts numbers writers order : List ℕ) (count_of : ℕ) (out : List ℕ) → Known b.statements facts
      → Names b.statements (λ s. place_code s.destination) numbers writers → InOrder units order count_of → 3844 ≤ length out
      → Made b.statements (emission b.statements b.live units) (emission_in facts numbers writers order count_of b.live out)
  unfolding emission_in emit_units_state emission
  emission_made facts numbers writers order count_of out known named ordered room =
      let e = each (emit_unit b.statements) units nothing_emitted in
      let after = emit_units_state facts numbers writers order count_of (begun out) in
      let stands : Stands out b.statements e after =
      rw (← ordered.sized)
      (units_standing out b.statements facts numbers writers known named order units 0 nothing_emitted (begun out) u.fit
      (λ j below. ap (λ (k : ℕ). get_or order k 0) (omega arith) ∙ ordered.words j (omega (arith, ordered.sized)))
      once
      (λ small. start_standing out b.statements)) in
      let stepped : Stepped out b.statements e after.lanes = λ brief. (stands (record { short = brief; few = few_registers })).lanes in
      let listed = (live_stepped out b.statements b.live e after.lanes (omega (arith, readable.live, readable.variables)) stepped short).list in
      headed_made out b.statements (emission b.statements b.live units) (extract_live b.live after.lanes).list listed
      (omega (arith, records_few)) (omega (arith, few_instructions))
