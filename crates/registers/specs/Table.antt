-- The registers in a table of columns of 96: four lanes by their codes, their count, and the statements that end them.
use Rattle.std.specs.Prelude.{ℕ, zero, suc, ◌+◌, ◌%◌, Bool, true, false, ◌&&◌, List, [], ◌∷◌, Option, Some, None, eqb, get_or, set}
use Rattle.std.specs.Int.Bits.{bit_and, bit_xor}
use Rattle.basics.specs.Sets.{join}
use Rattle.facts.specs.Places.{naming}
use Rattle.registers.specs.declared.Tuple.{Tuple}
use Rattle.registers.specs.declared.Register.{Register}

abbrev pub tuple_lane : Tuple → ℕ → ℕ
tuple_lane tuple i = get_or tuple.lanes i 0

abbrev pub register_at : List ℕ → ℕ → Register
register_at registers r =
    record {
      tuple =
          record {
            lanes = get_or registers r 0 ∷ get_or registers (r + 96) 0 ∷ get_or registers (r + 192) 0 ∷ get_or registers (r + 288) 0 ∷ [];
            count = get_or registers (r + 384) 0 % 256;
          };
      ends = get_or registers (r + 480) 0;
    }

abbrev pub set_register : List ℕ → ℕ → Register → List ℕ
set_register registers r register =
    set
    (set
    (set
    (set (set (set registers r (tuple_lane register.tuple 0)) (r + 96) (tuple_lane register.tuple 1)) (r + 192) (tuple_lane register.tuple 2))
    (r + 288) (tuple_lane register.tuple 3))
    (r + 384) register.tuple.count)
    (r + 480) register.ends

-- no statement that ends it is done
abbrev pub is_current : Register → ℕ → Bool
is_current register done = eqb (bit_and register.ends done) 0

-- "exactly this tuple"
abbrev pub holds_tuple : Register → Tuple → Bool
holds_tuple register tuple =
    eqb register.tuple.count tuple.count
    && (eqb (tuple_lane register.tuple 0) (tuple_lane tuple 0)
    && (eqb (tuple_lane register.tuple 1) (tuple_lane tuple 1)
    && (eqb (tuple_lane register.tuple 2) (tuple_lane tuple 2)
    && eqb (tuple_lane register.tuple 3) (tuple_lane tuple 3))))

-- "a current register that holds exactly this tuple", asked of the first lane before the register is taken out
abbrev pub serves_at : List ℕ → ℕ → Tuple → ℕ → Bool
serves_at registers r tuple done =
    eqb (get_or registers r 0) (tuple_lane tuple 0)
    && (is_current (register_at registers r) done && holds_tuple (register_at registers r) tuple)

-- the first of so many registers that does, from number r on
unfoldable pub holder_from : ℕ → ℕ → List ℕ → ℕ → Tuple → Option ℕ
holder_from zero r registers done tuple = None
holder_from (suc n) r registers done tuple =
    elim (serves_at registers r tuple done) [ true ↦ Some r | false ↦ holder_from n (r + 1) registers done tuple ]

-- the statements not yet done that write one of the tuple's places
abbrev pub without : ℕ → ℕ → ℕ
without all done = bit_xor all (bit_and all done)

abbrev pub writers_of : List ℕ → List ℕ → Tuple → ℕ
writers_of numbers writers tuple =
    join (join (naming numbers writers (tuple_lane tuple 0)) (naming numbers writers (tuple_lane tuple 1)))
    (join (naming numbers writers (tuple_lane tuple 2)) (naming numbers writers (tuple_lane tuple 3)))

abbrev pub endings : List ℕ → List ℕ → Tuple → ℕ → ℕ
endings numbers writers tuple done = without (writers_of numbers writers tuple) done

-- a new register that holds the tuple
abbrev pub hold_tuple : List ℕ → List ℕ → Tuple → ℕ → ℕ → List ℕ → List ℕ
hold_tuple numbers writers tuple done r registers =
    set_register registers r (record { tuple = tuple; ends = endings numbers writers tuple done })
