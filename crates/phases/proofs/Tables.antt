-- The tables that are filled one after the other say what the phases ask.
use mathlib.Core.Path.{◌≡◌, refl, sym, ap, ap₂, subst, ◌∙◌}
use Prim.Native.Nat.{ℕ, zero, suc, ◌≤◌}
use mathlib.Core.Bool.{true}
use mathlib.Core.List.{List, [], ◌∷◌}
use native.Mathlib.Omega.{arith}
use lib.ListN.{length, take, replicate, length-take}
use lib.Seq.{take-nil}
use Rattle.basics.specs.Lists.{all}
use Rattle.meaning.specs.declared.Statement.{Statement}
use Rattle.meaning.specs.declared.Block.{Block as Slots}
use Rattle.meaning.specs.Block.{Block, declared}
use Rattle.codes.specs.Fitting.{statement_fits}
use Rattle.facts.specs.Facts.{stated_facts}
use Rattle.facts.specs.Places.{Named as Tables, named_tables, name_places}
use Rattle.facts.specs.Tied.{Stated, Named}
use Rattle.facts.proofs.Columns.{stated_facts_lem}
use Rattle.facts.proofs.Named.{places_named}
use Rattle.reach.specs.Rows.{with_definitions, with_readers}
use Rattle.reach.specs.Tied.{Defined}
use Rattle.reach.proofs.Declared.{slots_defined, slots_stated}
use Rattle.choice.specs.Promises.{Legal}
use Rattle.phases.specs.Prepared.{Prepared, TablesPrepared}
use Rattle.phases.proofs.Fits.{legal_fits}

module _ (ss : List Statement) (few : length ss ≤ 64) (fit : all statement_fits ss ≡ true)
    (slots : List Statement) (n : ℕ) (counted : n ≡ length ss) (front : take n slots ≡ ss) where
  within : n ≤ 64
  within = omega (arith, counted, few)

  there : n ≤ length slots
  there = omega (arith, ap length front, length-take n slots)

  front_fits : all statement_fits (take n slots) ≡ true
  front_fits = ap (all statement_fits) front ∙ fit

  stated_first : Stated ss (stated_facts slots n (replicate 512 0))
  stated_first = subst (λ (ss : List Statement). Stated ss (stated_facts slots n (replicate 512 0))) front (stated_facts_lem slots n within there front_fits)

  -- The tables that are filled one after the other say what the phases ask.
  pub tables_prepared : (facts defined gathered : List ℕ) (first second third : Tables)
      → facts ≡ stated_facts slots n (replicate 512 0)
      → first ≡ name_places facts 0 n (named_tables (replicate 2570 0) (replicate 193 0) 0)
      → second ≡ name_places facts 64 n (named_tables first.numbers (replicate 193 0) first.given)
      → third ≡ name_places facts 128 n (named_tables second.numbers (replicate 193 0) second.given)
      → defined ≡ with_definitions n third.numbers first.named facts
      → gathered ≡ with_readers n defined
      → TablesPrepared ss (record { facts = gathered; numbers = third.numbers; writers = first.named; lefts = second.named; rights = third.named })
  tables_prepared facts defined gathered first second third ef e f g ed eg =
      let named : Named ss third.numbers first.named second.named third.named =
      places_named ss n facts (sym counted) within (subst (Stated ss) (sym ef) stated_first) first second third e f g in
      let named' : Named (take n slots) third.numbers first.named second.named third.named =
      subst (λ (ss : List Statement). Named ss third.numbers first.named second.named third.named) (sym front) named in
      let whole : gathered ≡ with_readers n (with_definitions n third.numbers first.named (stated_facts slots n (replicate 512 0))) =
      eg ∙ ap (with_readers n) (ed ∙ ap (with_definitions n third.numbers first.named) ef) in
      record {
        few = few;
        fit = fit;
        stated =
            subst (Stated ss) (sym whole)
            (subst (λ (ss : List Statement). Stated ss (with_readers n (with_definitions n third.numbers first.named (stated_facts slots n (replicate 512 0))))) front
            (slots_stated slots n within there front_fits third.numbers first.named second.named third.named named'));
        defined =
            subst (Defined ss) (sym whole)
            (subst (λ (ss : List Statement). Defined ss (with_readers n (with_definitions n third.numbers first.named (stated_facts slots n (replicate 512 0))))) front
            (slots_defined slots n within there front_fits third.numbers first.named second.named third.named named'));
        named = named;
      }

-- The same of a block that was read.
module _ (b : Block) (legal : Legal b) (slots : List Statement) (n : ℕ) (counted : n ≡ length b.statements) (front : take n slots ≡ b.statements) where
  pub block_prepared : (facts defined gathered : List ℕ) (first second third : Tables)
      → facts ≡ stated_facts slots n (replicate 512 0)
      → first ≡ name_places facts 0 n (named_tables (replicate 2570 0) (replicate 193 0) 0)
      → second ≡ name_places facts 64 n (named_tables first.numbers (replicate 193 0) first.given)
      → third ≡ name_places facts 128 n (named_tables second.numbers (replicate 193 0) second.given)
      → defined ≡ with_definitions n third.numbers first.named facts
      → gathered ≡ with_readers n defined
      → Prepared b gathered third.numbers first.named second.named third.named
  block_prepared facts defined gathered first second third ef e f g ed eg =
      let t =
      tables_prepared b.statements legal.readable.count (legal_fits b legal) slots n counted front facts defined gathered first second third ef e f g ed eg in
      record { legal = legal; stated = t.stated; defined = t.defined; named = t.named }

-- as many statements as are declared, from the front of the slots
pub declared_front : (block : Slots) (n : ℕ) → n ≡ length (declared block).statements → take n block.statements ≡ (declared block).statements
declared_front block n counted = ap (λ (k : ℕ). take k block.statements) counted ∙ front_again block.count block.statements
  where
    front_again : (k : ℕ) (slots : List Statement) → take (length (take k slots)) slots ≡ take k slots
    front_again k [] = ap (λ (none : List Statement). take (length none) []) (take-nil k) ∙ sym (take-nil k)
    front_again zero (s ∷ slots) = refl
    front_again (suc k) (s ∷ slots) = ap (λ (rest : List Statement). s ∷ rest) (front_again k slots)

-- The same of the tables that the code leaves, one after the other.
pub prepared_tables : (block : Slots) (n : ℕ) (facts defined gathered numbers₀ writers₀ lefts₀ rights₀ numbers₁ writers numbers₂ lefts numbers₃ rights : List ℕ) (first second third : ℕ)
    → n ≡ length (declared block).statements → Legal (declared block) → facts ≡ stated_facts block.statements n (replicate 512 0)
    → numbers₀ ≡ replicate 2570 0 → writers₀ ≡ replicate 193 0 → lefts₀ ≡ replicate 193 0 → rights₀ ≡ replicate 193 0
    → named_tables numbers₁ writers first ≡ name_places facts 0 n (named_tables numbers₀ writers₀ 0)
    → named_tables numbers₂ lefts second ≡ name_places facts 64 n (named_tables numbers₁ lefts₀ first)
    → named_tables numbers₃ rights third ≡ name_places facts 128 n (named_tables numbers₂ rights₀ second)
    → defined ≡ with_definitions n numbers₃ writers facts
    → gathered ≡ with_readers n defined
    → Prepared (declared block) gathered numbers₃ writers lefts rights
prepared_tables block n facts defined gathered numbers₀ writers₀ lefts₀ rights₀ numbers₁ writers numbers₂ lefts numbers₃ rights first second third
    counted legal ef en ew el er e f g ed eg =
    block_prepared (declared block) legal block.statements n counted (declared_front block n counted) facts defined gathered
    (named_tables numbers₁ writers first) (named_tables numbers₂ lefts second) (named_tables numbers₃ rights third) ef
    (e ∙ ap₂ (λ (a b : List ℕ). name_places facts 0 n (named_tables a b 0)) en ew)
    (f ∙ ap (λ (a : List ℕ). name_places facts 64 n (named_tables numbers₁ a first)) el)
    (g ∙ ap (λ (a : List ℕ). name_places facts 128 n (named_tables numbers₂ a second)) er)
    ed eg
