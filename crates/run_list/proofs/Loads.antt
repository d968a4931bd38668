-- An instruction that reads loads two lanes or four: "k not 2 or 4" is 8.
use mathlib.Core.Path.{◌≡◌, refl, subst}
use mathlib.Core.Bool.{Bool, true, false, ◌&&◌}
use mathlib.Core.Option.{Option, none, some}
use mathlib.Core.List.{List, [], ◌∷◌}
use Prim.Native.Nat.{ℕ, zero, suc, ◌+◌, ◌*◌, ◌≤◌}
use native.Mathlib.Omega.{arith}
use lib.Dec.{eqb, leb}
use lib.ListN.{get_or, take, drop, length}
use Rattle.basics.proofs.Tests.{and_right}
use Rattle.basics.proofs.Parts.{pick_holds}
use Rattle.meaning.specs.List.{Instruction as Meaning, form, field, lanes_fit, read_constants, read_operands, operands_fill, read_s, read_l, read_c, read_g, read_o, read_w, read_d, read_x, read_instruction}
use Rattle.meaning.specs.List as List
use Rattle.meaning.proofs.Bounds.{lanes_two}
use Rattle.instructions.specs.Meant.{read_copy, read_two}
use Rattle.instructions.specs.Next.{fits_at, instruction_at}
use Rattle.run_list.proofs.Turns.{load_lanes}

abbrev Fits : Option Meaning → Type 0
Fits none = Unit
Fits (some j) = load_lanes j ≤ 4

form_fits : (test : Bool) (j : Meaning) → (test ≡ true → load_lanes j ≤ 4) → Fits (form test j)
form_fits true j h = h refl
form_fits false j h = tt

by_code : (bytes : List ℕ) (code : ℕ)
    → Fits (get_or (read_s bytes ∷ read_l bytes ∷ read_c bytes ∷ read_g bytes ∷ read_o bytes ∷ read_w bytes ∷ read_d bytes ∷ read_x bytes ∷ []) code none)
by_code bytes zero = form_fits (eqb (length bytes) 2) (List.S (field 1 bytes)) λ e. omega arith
by_code bytes (suc zero) = form_fits (eqb (length bytes) 5 && lanes_fit (field 2 bytes)) (List.L (field 1 bytes) (field 2 bytes) (field 3 bytes) (field 4 bytes)) λ e. (lanes_two (field 2 bytes) (and_right (eqb (length bytes) 5) _ e)).1
by_code bytes (suc (suc zero)) =
    form_fits (lanes_fit (field 2 bytes) && eqb (length bytes) (3 + 4 * field 2 bytes)) (List.C (field 1 bytes) (read_constants (field 2 bytes) (drop 3 bytes))) λ e. omega arith
by_code bytes (suc (suc (suc zero))) =
    form_fits (lanes_fit (field 2 bytes) && operands_fill bytes (read_operands (field 2 bytes) (drop 3 bytes))) (List.G (field 1 bytes) (read_operands (field 2 bytes) (drop 3 bytes))) λ e. omega arith
by_code bytes (suc (suc (suc (suc zero)))) =
    pick_holds Fits (eqb (field 2 bytes) 0) (read_copy bytes) (read_two bytes)
    (λ copy. form_fits (eqb (length bytes) 5 && lanes_fit (field 3 bytes)) (List.O (field 1 bytes) 0 (field 3 bytes) (field 4 bytes) none) λ e. omega arith)
    (λ other. form_fits (eqb (length bytes) 6 && lanes_fit (field 3 bytes) && leb (field 2 bytes) 7)
    (List.O (field 1 bytes) (field 2 bytes) (field 3 bytes) (field 4 bytes) (some (field 5 bytes))) λ e. omega arith)
by_code bytes (suc (suc (suc (suc (suc zero))))) = form_fits (eqb (length bytes) 5 && lanes_fit (field 2 bytes)) (List.W (field 1 bytes) (field 2 bytes) (field 3 bytes) (field 4 bytes)) λ e. omega arith
by_code bytes (suc (suc (suc (suc (suc (suc zero)))))) = form_fits (eqb (length bytes) 5) (List.D (field 1 bytes) (field 2 bytes) (field 3 bytes) (field 4 bytes)) λ e. omega arith
by_code bytes (suc (suc (suc (suc (suc (suc (suc zero))))))) = form_fits (eqb (length bytes) 4) (List.X (field 1 bytes) (field 2 bytes) (field 3 bytes)) λ e. omega arith
by_code bytes (suc (suc (suc (suc (suc (suc (suc (suc code)))))))) = tt

reads_fit : (bytes : List ℕ) → Fits (read_instruction bytes)
unfolding read_instruction
reads_fit bytes = by_code bytes (field 0 bytes)

pub load_fits : (bytes : List ℕ) (start : ℕ) (j : Meaning) → instruction_at bytes start ≡ some j → load_lanes j ≤ 4
unfolding instruction_at
load_fits bytes start j e =
    subst Fits e
    (pick_holds Fits (fits_at bytes start) (read_instruction (take (get_or bytes start 0) (drop (start + 1) bytes))) none
    (λ fits. reads_fit (take (get_or bytes start 0) (drop (start + 1) bytes))) (λ short. tt))
