-- "Extension" over the tables: each visit admits to the tables what it admits to the list, and all of them do.
use mathlib.Core.Path.{◌≡◌, refl, sym, ap, ap₂, ◌∙◌}
use mathlib.Core.Bool.{Bool, true, false, ◌&&◌, and-false}
use mathlib.Core.Option.{Option, none, some}
use mathlib.Core.List.{List}
use Prim.Native.Nat.{ℕ, zero, suc, ◌+◌, ◌≤◌, ◌<◌}
use native.Mathlib.Omega.{arith}
use lib.Dec.{ltb, leb}
use lib.ListN.{length, get_or}
use borrow.Author.Tests.{lt-ltb, ltb-true}
use Rattle.basics.specs.Choice.{pick}
use Rattle.basics.specs.Lists.{all}
use Rattle.meaning.specs.declared.Statement.{Statement}
use Rattle.meaning.specs.Block.{statement, is_variable, Position, left, right, operand}
use Rattle.meaning.specs.Pairs.{Pair, pair, may_be_admitted, admit}
use Rattle.meaning.specs.Estimate.{both_defined, definitions, gain, loss, pays}
use Rattle.meaning.specs.Extension.{admit_if_pays, admit_definitions, use_to_definition, best_readers, admit_best, definition_to_use, visit, visit_from, extend}
use Rattle.theorems.proofs.Pairs.{Joined, Admitted}
use Rattle.theorems.proofs.Pairing.{use_to_definition_lem, visit_admitted}
use Rattle.codes.specs.Fitting.{statement_fits}
use Rattle.facts.specs.Tied.{Stated}
use Rattle.reach.specs.Tied.{number_of, Rowed, Defined}
use Rattle.pairs.specs.Admission.{Tables, admit_to, tables_of, may_pair}
use Rattle.pairs.proofs.May.{may_pair_lem}
use Rattle.pairs.proofs.Tables.{admit_tables, every_number, tables_size, order_at, next_at}
use Rattle.estimate.specs.Costs.{loss_of, gain_of}
use Rattle.estimate.proofs.Definitions.{Defines, defines_below, definition_defines, definitions_column, definition_at, definitions_at}
use Rattle.estimate.proofs.Estimates.{same_gain, same_loss}
use Rattle.std.specs.Prelude.{Option as Maybe}
use Rattle.extend.specs.declared.Best.{Best as Found}
use Rattle.extend.specs.Visits.{admit_paying, admit_definitions as admit_column, best_of, admit_found, admit_readers, visit_tables, visit_tables_from}
use Rattle.extend.proofs.Readers.{found_of, none_left, none_right, tracks_readers}

-- a choice between tables is one between lists
chosen : (a b : Bool) (more now : List Pair) (t : Tables) → a ≡ b → t ≡ tables_of more → pick a t (tables_of now) ≡ tables_of (pick b more now)
chosen a true more now t e f = rw e f
chosen a false more now t e f = rw e

-- the best, admitted to the tables and to the list
admits_best : (ss : List Statement) (pairs : List Pair) (f : Maybe Found) (best : Option Pair) → f ≡ found_of ss pairs best
    → admit_found f (tables_of pairs) ≡ tables_of (admit_best best pairs)
admits_best ss pairs f none tracks = rw tracks
admits_best ss pairs f (some p) tracks = ap (λ (g : Maybe Found). admit_found g (tables_of pairs)) tracks ∙ sym (admit_tables pairs p)

-- what the tables say of pairs of statements, for the pairs so far
record Told (ss : List Statement) (facts reached : List ℕ) (pairs : List Pair) : Type 0 where
  may : (p : Pair) → p.left < length ss → p.right < length ss → may_pair facts reached (tables_of pairs) p.left p.right ≡ may_be_admitted ss pairs p
  gains : (p : Pair) → p.left < length ss → p.right < length ss → gain_of facts p ≡ gain ss p
  loses : (p : Pair) → p.left < length ss → p.right < length ss → loss_of facts (tables_of pairs).next p ≡ loss ss pairs p

module _ (ss : List Statement) (facts reached : List ℕ) (few : length ss ≤ 64) (defined : Defined ss facts) (pairs : List Pair) (told : Told ss facts reached pairs) where
  paying : (p : Pair) → p.left < length ss → p.right < length ss → admit_paying facts reached p (tables_of pairs) ≡ tables_of (admit_if_pays ss p pairs)
  paying p low high =
      chosen (may_pair facts reached (tables_of pairs) p.left p.right && leb (loss_of facts (tables_of pairs).next p) (gain_of facts p)) (may_be_admitted ss pairs p && pays ss pairs p)
      (admit pairs p) pairs (admit_to p (tables_of pairs))
      (ap₂ ◌&&◌ (told.may p low high) (ap₂ leb (told.loses p low high) (told.gains p low high)))
      (sym (admit_tables pairs p))

  -- both definitions, as numbers and as they are found
  abbrev pays_both : ℕ → ℕ → Tables
  pays_both s t = pick (ltb s 64 && ltb t 64) (admit_paying facts reached (pair s t) (tables_of pairs)) (tables_of pairs)

  both : (s t : Option ℕ) → Defines ss (length ss) s → Defines ss (length ss) t
      → pays_both (number_of s) (number_of t) ≡ tables_of (admit_definitions ss (both_defined s t) pairs)
  both none t known known' = refl
  both (some s) none known known' =
      ap (λ (test : Bool). pick test (admit_paying facts reached (pair s 64) (tables_of pairs)) (tables_of pairs)) (and-false (ltb s 64))
  both (some s) (some t) known known' =
      ap₂ (λ (a b : Bool). pick (a && b) (admit_paying facts reached (pair s t) (tables_of pairs)) (tables_of pairs))
      (lt-ltb s 64 (omega (arith, known.0))) (lt-ltb t 64 (omega (arith, known'.0)))
      ∙ paying (pair s t) known.0 known'.0

  -- use to definition
  to_definition : (p : Pair) → p.left < length ss → p.right < length ss → (position : Position)
      → admit_column facts reached (definitions_column position) p (tables_of pairs) ≡ tables_of (use_to_definition ss p position pairs)
  unfolding use_to_definition definitions
  to_definition p low high position =
      ap₂ pays_both (definitions_at ss facts defined position p.left low) (definitions_at ss facts defined position p.right high)
      ∙ both (definition_at ss position p.left) (definition_at ss position p.right) (known p.left low) (known p.right high)
    where
      known : (s : ℕ) → s < length ss → Defines ss (length ss) (definition_at ss position s)
      known s below = defines_below ss s (length ss) (definition_at ss position s) (omega arith) (definition_defines ss s (operand position (statement ss s)))

  -- definition to use
  to_use : (p : Pair) → p.left < length ss → p.right < length ss → admit_readers facts reached p (tables_of pairs) ≡ tables_of (definition_to_use ss p pairs)
  unfolding definition_to_use
  to_use p low high =
      admits_best ss pairs (best_of facts reached (tables_of pairs) p) (best_readers ss pairs p)
      (tracks_readers ss facts reached few defined pairs (tables_of pairs) told.may told.gains told.loses p low high)
      ∙ ap tables_of (only_variables (is_variable (statement ss p.left).destination) (is_variable (statement ss p.right).destination) refl refl)
    where
      only_variables : (a b : Bool) → is_variable (statement ss p.left).destination ≡ a → is_variable (statement ss p.right).destination ≡ b
          → ◌≡◌ {A = List Pair} (admit_best (best_readers ss pairs p) pairs) (elim (a && b) [ true ↦ admit_best (best_readers ss pairs p) pairs | false ↦ pairs ])
      only_variables true true e f = refl
      only_variables true false e f = ap (λ (best : Option Pair). admit_best best pairs) (none_right ss pairs p f)
      only_variables false b e f = ap (λ (best : Option Pair). admit_best best pairs) (none_left ss pairs p e)

module _ (ss : List Statement) (facts reached : List ℕ) (few : length ss ≤ 64) (defined : Defined ss facts)
    (told : (pairs : List Pair) → Admitted ss pairs → Told ss facts reached pairs) where
  -- one visit
  visits_one : (p : Pair) → p.left < length ss → p.right < length ss → (pairs : List Pair) → Admitted ss pairs
      → visit_tables facts reached p (tables_of pairs) ≡ tables_of (visit ss p pairs)
  unfolding visit_tables
  visits_one p low high pairs known =
      let first : Admitted ss (use_to_definition ss p left pairs) = use_to_definition_lem ss p left pairs known in
      let second : Admitted ss (use_to_definition ss p right (use_to_definition ss p left pairs)) = use_to_definition_lem ss p right (use_to_definition ss p left pairs) first in
      ap (λ (t : Tables). admit_readers facts reached p (admit_column facts reached 384 p t)) (to_definition ss facts reached few defined pairs (told pairs known) p low high left)
      ∙ ap (admit_readers facts reached p)
      (to_definition ss facts reached few defined (use_to_definition ss p left pairs) (told (use_to_definition ss p left pairs) first) p low high right)
      ∙ to_use ss facts reached few defined (use_to_definition ss p right (use_to_definition ss p left pairs))
      (told (use_to_definition ss p right (use_to_definition ss p left pairs)) second) p low high

  -- and all that are left
  visits_all : (n i : ℕ) (pairs : List Pair) → Admitted ss pairs → visit_tables_from n facts reached i (tables_of pairs) ≡ tables_of (visit_from n ss i pairs)
  unfolding visit_tables_from visit_from
  visits_all zero i pairs known = refl
  visits_all (suc n) i pairs known =
      ap (λ (size : ℕ). onward (ltb i size)) (tables_size pairs)
      ∙ either (ltb i (length pairs)) refl
      (visits_all n (i + 1) (visit ss (get_or pairs i (pair 0 0)) pairs) (visit_admitted ss (get_or pairs i (pair 0 0)) pairs known))
    where
      visited : Pair
      visited = pair (get_or (tables_of pairs).order i 64) (get_or (tables_of pairs).next (get_or (tables_of pairs).order i 64) 64)

      onward : Bool → Tables
      onward test = elim test [ true ↦ visit_tables_from n facts reached (i + 1) (visit_tables facts reached visited (tables_of pairs)) | false ↦ tables_of pairs ]

      either : (test : Bool) → ltb i (length pairs) ≡ test
          → visit_tables_from n facts reached (i + 1) (tables_of (visit ss (get_or pairs i (pair 0 0)) pairs)) ≡ tables_of (visit_from n ss (i + 1) (visit ss (get_or pairs i (pair 0 0)) pairs))
          → onward test ≡ tables_of (elim test [ true ↦ visit_from n ss (i + 1) (visit ss (get_or pairs i (pair 0 0)) pairs) | false ↦ pairs ])
      either true e later =
          let below : i < length pairs = ltb-true i (length pairs) e in
          let joined = every_number (λ p. Joined ss p.left p.right) pairs i (pair 0 0) known.sound below in
          let this : visited ≡ get_or pairs i (pair 0 0) = ap₂ pair (order_at ss pairs known few i (pair 0 0) below) (next_at ss pairs known few i (pair 0 0) below) in
          ap (λ (p : Pair). visit_tables_from n facts reached (i + 1) (visit_tables facts reached p (tables_of pairs))) this
          ∙ ap (visit_tables_from n facts reached (i + 1)) (visits_one (get_or pairs i (pair 0 0)) joined.apart.first joined.apart.second pairs known)
          ∙ later
      either false e later = refl

module _ (ss : List Statement) (facts direct reached : List ℕ) (few : length ss ≤ 64) (fit : all statement_fits ss ≡ true)
    (stated : Stated ss facts) (rowed : Rowed ss direct reached) (defined : Defined ss facts) where
  told_by : (pairs : List Pair) → Admitted ss pairs → Told ss facts reached pairs
  told_by pairs known =
      record {
        may = λ p low high. may_pair_lem ss facts direct reached few stated rowed pairs known p.left p.right low high;
        gains = same_gain ss facts few fit stated defined;
        loses = λ p low high. same_loss ss facts few fit stated defined p low high pairs known;
      }

  -- "Each pair is visited once, in order of admission, added pairs at the end."
  pub extend_tied : (pairs : List Pair) → Admitted ss pairs → visit_tables_from (length ss) facts reached 0 (tables_of pairs) ≡ tables_of (extend ss pairs)
  unfolding extend
  extend_tied pairs known = visits_all ss facts reached few defined told_by (length ss) 0 pairs known
