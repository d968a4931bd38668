-- The columns of facts after a word is stored in one of them.
use mathlib.Core.Path.{◌≡◌, sym, ◌∙◌}
use mathlib.Core.Logic.{◌⊎◌, inl, inr}
use mathlib.Core.List.{List}
use Prim.Native.Nat.{ℕ, ◌+◌, ◌*◌, ◌≤◌, ◌<◌}
use native.Mathlib.Omega.{arith}
use lib.ListN.{length, get_or, set, replicate, length-set, length-replicate}
use lib.Seq.{get_or-set_other}
use Rattle.basics.proofs.Tests.{below_or_not}
use Rattle.basics.proofs.Lists.{replicate_at}
use Rattle.basics.proofs.Counting.{count_up}
use Rattle.meaning.specs.declared.Statement.{Statement}
use Rattle.meaning.specs.Block.{statement}
use Rattle.facts.specs.Facts.{fact_at, state_facts, stated_facts}
use Rattle.facts.specs.Tied.{Stated}
use Rattle.facts.proofs.Columns.{fact_within, fact_past}

-- one fact, where the words are the same
pub same_fact : (before after : List ℕ) (column s : ℕ) → (s < 64 → get_or after (column + s) 0 ≡ get_or before (column + s) 0) → fact_at after column s ≡ fact_at before column s
same_fact before after column s e = by (below_or_not s 64)
  where
    by : (s < 64) ⊎ (64 ≤ s) → fact_at after column s ≡ fact_at before column s
    by (inl low) = fact_within after column s low ∙ e low ∙ sym (fact_within before column s low)
    by (inr high) = fact_past after column s high ∙ sym (fact_past before column s high)

-- What a statement says by itself is kept where the first five columns are, and what is past the statements is.
pub stated_kept : (ss : List Statement) (before after : List ℕ)
    → ((at : ℕ) → at < 320 → get_or after at 0 ≡ get_or before at 0)
    → ((column s : ℕ) → column < 8 → 5 ≤ column → length ss ≤ s → s < 64 → get_or after (64 * column + s) 0 ≡ get_or before (64 * column + s) 0)
    → Stated ss before → Stated ss after
stated_kept ss before after low past stated =
    record {
      destinations = λ s h. same_fact before after 0 s (λ small. low (0 + s) (omega arith)) ∙ stated.destinations s h;
      lefts = λ s h. same_fact before after 64 s (λ small. low (64 + s) (omega arith)) ∙ stated.lefts s h;
      rights = λ s h. same_fact before after 128 s (λ small. low (128 + s) (omega arith)) ∙ stated.rights s h;
      sorts = λ s h. same_fact before after 192 s (λ small. low (192 + s) (omega arith)) ∙ stated.sorts s h;
      prices = λ s h. same_fact before after 256 s (λ small. low (256 + s) (omega arith)) ∙ stated.prices s h;
      beyond = λ column s h outside. same_fact before after (64 * column) s (kept column s h outside) ∙ stated.beyond column s h outside;
    }
  where
    kept : (column s : ℕ) → column < 8 → length ss ≤ s → s < 64 → get_or after (64 * column + s) 0 ≡ get_or before (64 * column + s) 0
    kept column s h outside small = by (below_or_not column 5)
      where
        by : (column < 5) ⊎ (5 ≤ column) → get_or after (64 * column + s) 0 ≡ get_or before (64 * column + s) 0
        by (inl first) = low (64 * column + s) (omega arith)
        by (inr later) = past column s h later outside small

-- Where the columns that a statement fills by itself are filled from zeros, there are 512 words and no readers yet.
record Unread (facts : List ℕ) : Type 0 where
  sized : length facts ≡ 512
  empty : (at : ℕ) → 448 ≤ at → get_or facts at 0 ≡ 0

unread_set : (facts : List ℕ) (at v : ℕ) → at < 448 → Unread facts → Unread (set facts at v)
unread_set facts at v low h =
    record {
      sized = length-set facts at v ∙ h.sized;
      empty = λ other high. get_or-set_other facts at other v 0 (omega arith) ∙ h.empty other high;
    }

zeros_unread : Unread (replicate 512 0)
zeros_unread = record { sized = length-replicate {A = ℕ} 512 0; empty = λ at high. replicate_at 512 at 0 }

stated_unread : (slots : List Statement) (n : ℕ) → n ≤ 64 → Unread (stated_facts slots n (replicate 512 0))
unfolding stated_facts
stated_unread slots n small =
    count_up (λ k. Unread) (λ i. state_facts i (statement slots i)) n (replicate 512 0) zeros_unread
    (λ i facts low h.
    unread_set _ (256 + i) _ (omega arith)
    (unread_set _ (192 + i) _ (omega arith) (unread_set _ (128 + i) _ (omega arith) (unread_set _ (64 + i) _ (omega arith) (unread_set facts i _ (omega arith) h)))))

pub stated_sized : (slots : List Statement) (n : ℕ) → n ≤ 64 → length (stated_facts slots n (replicate 512 0)) ≡ 512
stated_sized slots n small = (stated_unread slots n small).sized

pub no_readers_yet : (slots : List Statement) (n : ℕ) → n ≤ 64 → (s : ℕ) → fact_at (stated_facts slots n (replicate 512 0)) 448 s ≡ 0
no_readers_yet slots n small s = by (below_or_not s 64)
  where
    by : (s < 64) ⊎ (64 ≤ s) → fact_at (stated_facts slots n (replicate 512 0)) 448 s ≡ 0
    by (inl low) = fact_within (stated_facts slots n (replicate 512 0)) 448 s low ∙ (stated_unread slots n small).empty (448 + s) (omega arith)
    by (inr high) = fact_past (stated_facts slots n (replicate 512 0)) 448 s high
