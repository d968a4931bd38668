-- Lists within the rules: neither 8 nor 9 is given for them, and they are read back from their bytes. What the packed list's limits are, and
-- that the plain list is one.
use mathlib.Core.Path.{◌≡◌, refl}
use mathlib.Core.Bool.{true}
use mathlib.Core.Option.{some}
use mathlib.Core.List.{List, []}
use Prim.Native.Nat.{ℕ, zero, suc, ◌+◌, ◌≤◌}
use native.Mathlib.Omega.{arith}
use lib.Dec.{ltb}
use lib.ListN.{length}
use borrow.Author.Tests.{lt-ltb}
use Rattle.basics.specs.Lists.{all, flat}
use Rattle.basics.proofs.Tests.{and_both}
use Rattle.meaning.specs.Block.{Block}
use Rattle.meaning.specs.List.{Instruction, allowed, list_bytes, read_list}
use Rattle.meaning.specs.Emission.{next}
use Rattle.meaning.specs.Choice.{scheduled_units, plain_from, plain_list}
use Rattle.meaning.proofs.Lengths.{plain_length}
use Rattle.theorems.specs.Units.{Units}
use Rattle.theorems.proofs.Bytes.{is_byte}
use Rattle.theorems.proofs.Records.{constants_fit}
use Rattle.theorems.proofs.Readable.{Readable}
use Rattle.theorems.proofs.Instructions.{instruction_fits}
use Rattle.theorems.proofs.ListRoundTrip.{ListFits, list_back}
use Rattle.theorems.proofs.AreBytes.{fields_fit, list_bytes_lem}
use Rattle.theorems.proofs.Steps.{finished, emission_steps}
use Rattle.theorems.proofs.Units.{units_size}
use Rattle.theorems.proofs.Limits.{Sound, sound}
use Rattle.theorems.proofs.Fields.{fields_fit_lem}

-- within the rules: "at most 160" instructions, each of which fits, fields that fit their bytes, and nothing named against the rules
pub record Lawful (b : Block) (list : List Instruction) : Type 0 where
  pub permitted : allowed b [] list ≡ true
  pub fits : ListFits list
  pub fields : all fields_fit list ≡ true

pub lawful_from : (b : Block) (list : List Instruction) → Readable b → allowed b [] list ≡ true → length list ≤ 160 → all instruction_fits list ≡ true → Lawful b list
lawful_from b list readable may short fit =
    record { permitted = may; fits = record { count = short; fit = fit }; fields = fields_fit_lem b readable list may fit }

-- the packed list
module _ (b : Block) (readable : Readable b) (constants : all constants_fit b.statements ≡ true) (u : Units b.statements (scheduled_units b.statements)) where
  pub end : Sound b 0 (scheduled_units b.statements) (finished b.statements b.live (scheduled_units b.statements))
  end = sound b readable constants (emission_steps b.statements b.live (scheduled_units b.statements) u).reached

  pub size : length (flat (scheduled_units b.statements)) ≤ 64
  size = omega (arith, units_size b.statements (scheduled_units b.statements) u, readable.count)

  pub packed_registers : next (finished b.statements b.live (scheduled_units b.statements)) ≤ 96
  packed_registers = omega (arith, end.few, size)

-- S for every statement in block order
plain_fits : (n i : ℕ) → all instruction_fits (plain_from n i) ≡ true
plain_fits zero i = refl
plain_fits (suc n) i = plain_fits n (i + 1)

plain_allowed : (b : Block) (n i : ℕ) → i + n ≤ length b.statements → allowed b [] (plain_from n i) ≡ true
unfolding allowed
plain_allowed b zero i h = refl
plain_allowed b (suc n) i h = and_both (ltb i (length b.statements)) _ (lt-ltb i (length b.statements) (omega arith)) (plain_allowed b n (i + 1) (omega arith))

pub plain_lawful : (b : Block) → Readable b → Lawful b (plain_list b)
unfolding plain_list
plain_lawful b readable =
    lawful_from b (plain_list b) readable (plain_allowed b (length b.statements) 0 (omega arith))
    (omega (arith, plain_length (length b.statements) 0, readable.count)) (plain_fits (length b.statements) 0)

-- What is written of such a list are bytes, and it is read back from them.
pub lawful_back : (b : Block) (list : List Instruction) → Lawful b list → read_list (list_bytes list) ≡ some list
lawful_back b list h = list_back list h.fits

pub lawful_bytes : (b : Block) (list : List Instruction) → Lawful b list → all is_byte (list_bytes list) ≡ true
lawful_bytes b list h = list_bytes_lem list h.fits h.fields
