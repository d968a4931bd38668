-- What `read_record` says of a record's bytes, step by step as they are read.
use Rattle.std.specs.Prelude.{None}
use mathlib.Core.Path.{◌≡◌, refl, sym, ◌∙◌}
use mathlib.Core.Logic.{◌⊎◌, inl, inr}
use mathlib.Core.List.{List, [], ◌∷◌}
use Prim.Native.Nat.{ℕ}
use native.Mathlib.Omega.{arith}
use lib.ListN.{length, drop}
use Rattle.meaning.specs.declared.Place.{Place}
use Rattle.meaning.specs.declared.Operand.{Operand}
use Rattle.meaning.specs.declared.Operand.TheVariants.{Nothing, Constant, Held}
use Rattle.meaning.specs.Format.{read_operand, read_statement, whole, read_record}

pub no_record : (bytes : List ℕ) → length bytes ≡ 0 → read_record bytes ≡ None
unfolding read_record read_operand
no_record [] e = refl
no_record (b ∷ bytes) e = absurd (omega arith)

pub destination_place :
    (bytes : List ℕ) (p : Place) → read_operand (drop 1 bytes) ≡ Held p → read_record bytes ≡ whole bytes (read_statement bytes p)
unfolding read_record
destination_place bytes p e = rw e

destination_constant : (bytes : List ℕ) (n : ℕ) → read_operand (drop 1 bytes) ≡ Constant n → read_record bytes ≡ None
unfolding read_record
destination_constant bytes n e = rw e

destination_missing : (bytes : List ℕ) → read_operand (drop 1 bytes) ≡ Nothing → read_record bytes ≡ None
unfolding read_record
destination_missing bytes e = rw e

pub no_place :
    (bytes : List ℕ) (o : Operand) → o ≡ read_operand (drop 1 bytes) → ((n : ℕ) × (o ≡ Constant n)) ⊎ (o ≡ Nothing) → None ≡ read_record bytes
no_place bytes o e (inl (n, constant)) = sym (destination_constant bytes n (sym e ∙ constant))
no_place bytes o e (inr missing) = sym (destination_missing bytes (sym e ∙ missing))
