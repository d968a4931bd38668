-- "X then comes before that instruction": extraction from the tables is that of the definition.
use mathlib.Core.Path.{◌≡◌, refl, ap, subst, ◌∙◌}
use mathlib.Core.Bool.{true}
use mathlib.Core.Option.{Option, none, some}
use mathlib.Core.List.{List}
use Prim.Native.Nat.{ℕ, suc, ◌+◌, ◌-◌, ◌*◌, ◌/◌, ◌%◌, ◌≤◌, ◌<◌}
use native.Mathlib.Omega.{arith}
use lib.Dec.{eqb}
use lib.ListN.{get_or, get_or-eq_default}
use borrow.Author.Tests.{lt-ltb, ne_eqb}
use Rattle.basics.specs.Counting.{count}
use Rattle.basics.specs.Lists.{first}
use Rattle.basics.proofs.Counting.{count_both}
use Rattle.meaning.specs.declared.Place.TheVariants.{Variable, Cell}
use Rattle.meaning.specs.declared.Operand.{Operand}
use Rattle.meaning.specs.declared.Operand.TheVariants.{Nothing, Constant, Held}
use Rattle.meaning.specs.declared.Statement.{Statement}
use Rattle.meaning.specs.List.{X}
use Rattle.meaning.specs.Emission.{Home, Emitted, is_home, extract_from, extract, extract_operand}
use Rattle.codes.specs.Codes.{operand_code, place_code}
use Rattle.codes.specs.Fitting.{operand_fits, place_fits}
use Rattle.codes.proofs.Places.{variable_fits}
use Rattle.codes.proofs.Back.{variable_back}
use Rattle.encode.specs.Records.{variable_of, write_x}
use Rattle.encode.proofs.Encoding.{Short, shorter, Listed, record_listed}
use Rattle.lanes.specs.Homes.{InLanes, home_at, set_home, extract_code, extract_live}
use Rattle.lanes.proofs.Homes.{Homed, Homes, variable_slot, cell_slot, constant_slot, homes_dropped}

-- the bytes and the table of homes are those of what is emitted, as long as the list is short
pub record InStep (base : List ℕ) (ss : List Statement) (e : Emitted) (l : InLanes) : Type 0 where
  pub list : Listed base ss e.instructions l.list
  pub homes : Homes e.homes l.homes

abbrev pub Stepped : List ℕ → List Statement → Emitted → InLanes → Type 0
Stepped base ss e l = Short ss e.instructions → InStep base ss e l

-- a code with a home, and one without
no_home : (code : ℕ) (l : InLanes) → home_at l.homes code ≡ 0 → extract_code code l ≡ l
unfolding extract_code
no_home code l e = rw e

some_home : (code r lane : ℕ) (l : InLanes) → home_at l.homes code ≡ 4 * r + 1 + lane → lane < 4 → r < 96
    → extract_code code l ≡ record { list = write_x r lane (variable_of code) l.list; homes = set_home l.homes code 0 }
unfolding extract_code
some_home code r lane l e low few =
    let differ : eqb (4 * r + 1 + lane) 0 ≡ _ = ne_eqb (4 * r + 1 + lane) 0 (λ (z : 4 * r + 1 + lane ≡ 0). omega arith) in
    let register : (4 * r + 1 + lane - 1) / 4 % 256 ≡ r = omega arith in
    let which : (4 * r + 1 + lane - 1) % 4 ≡ lane = omega arith in
    rw (e, differ, register, which)

module _ (base : List ℕ) (ss : List Statement) where
  pub extract_stepped : (v : ℕ) (e : Emitted) (l : InLanes) → place_fits (Variable v) ≡ true → Stepped base ss e l
      → Stepped base ss (extract v e) (extract_code (place_code (Variable v)) l)
  unfolding extract
  extract_stepped v e l fits h = by (first (is_home v) e.homes) refl
    where
      slot : home_at l.homes (place_code (Variable v)) ≡ get_or l.homes (suc v) 0
      slot = ap (λ (n : ℕ). get_or l.homes n 0) (variable_slot v)

      by : (found : Option Home) → first (is_home v) e.homes ≡ found → Stepped base ss (extract_from v found e) (extract_code (place_code (Variable v)) l)
      by none f short =
          let s = h short in
          let is : get_or l.homes (suc v) 0 ≡ 0 =
          subst (Homed (get_or l.homes (suc v) 0)) f (s.homes.variables v (omega (arith, variable_fits v fits))) in
          rw (no_home (place_code (Variable v)) l (slot ∙ is)) s
      by (some x) f short =
          let s = h (shorter ss e.instructions (X x.register x.lane v) short) in
          let is : Homed (get_or l.homes (suc v) 0) (some x) =
          subst (Homed (get_or l.homes (suc v) 0)) f (s.homes.variables v (omega (arith, variable_fits v fits))) in
          rw (some_home (place_code (Variable v)) x.register x.lane l (slot ∙ is.0) is.1.0 is.1.1, variable_back v fits)
          (record {
            list = record_listed base ss e.instructions l.list (X x.register x.lane v) s.list short;
            homes = homes_dropped (Variable v) e.homes l.homes fits s.homes;
          })

  pub operand_stepped : (o : Operand) (e : Emitted) (l : InLanes) → operand_fits o ≡ true → Stepped base ss e l
      → Stepped base ss (extract_operand o e) (extract_code (operand_code o) l)
  operand_stepped Nothing e l fits h short = rw (no_home 0 l (h short).homes.nothing) (h short)
  operand_stepped (Constant c) e l fits h short =
      rw (no_home (operand_code (Constant c)) l (get_or-eq_default l.homes 0 (omega (arith, (h short).homes.sized, constant_slot c)))) (h short)
  operand_stepped (Held (Variable v)) e l fits h short = extract_stepped v e l fits h short
  operand_stepped (Held (Cell a i)) e l fits h short =
      rw (no_home (place_code (Cell a i)) l (get_or-eq_default l.homes 0 (omega (arith, (h short).homes.sized, cell_slot a i)))) (h short)

  -- "At the end, X for each live-out variable still in a lane, ascending."
  pub live_stepped : (live : ℕ) (e : Emitted) (l : InLanes) → live ≤ 32 → Stepped base ss e l
      → Stepped base ss (count live 0 extract e) (extract_live live l)
  unfolding extract_live
  live_stepped live e l few h =
      count_both (λ (v : ℕ) (x : Emitted) (y : InLanes). Stepped base ss x y) extract (λ v. extract_code (place_code (Variable v))) live e l h
      (λ v x y below so_far. extract_stepped v x y (lt-ltb v 32 (omega arith)) so_far)
