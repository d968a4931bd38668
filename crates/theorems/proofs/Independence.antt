-- "Two different statements are independent if no path of dependences joins them": so they do not conflict, and write different places.
use mathlib.Core.Path.{◌≡◌, refl, sym, ap, ◌∙◌}
use mathlib.Core.Logic.{◌⊎◌, inl, inr}
use mathlib.Core.Bool.{Bool, true, false, ◌&&◌, not, false≢true}
use mathlib.Core.List.{List}
use Prim.Native.Nat.{ℕ, ◌≤◌, ◌<◌}
use lib.Dec.{ltb}
use lib.ListN.{length}
use borrow.Author.Tests.{lt-ltb}
use Rattle.basics.proofs.Tests.{and_both, passes_or_fails, below_or_not}
use Rattle.basics.proofs.Counting.{above}
use Rattle.meaning.specs.declared.Statement.{Statement}
use Rattle.meaning.specs.Block.{statement, same}
use Rattle.meaning.specs.Dependence.{conflicts, depends_on, direct}
use Rattle.meaning.proofs.Paths.{Apart}
use Rattle.theorems.proofs.Puts.{writes_differ, conflicts_back}

module _ (ss : List Statement) where
  -- a conflict of two statements of the block is a dependence of the later one on the earlier
  conflict_depends : (s t : ℕ) → t < s → s < length ss → conflicts (statement ss s) (statement ss t) ≡ true → depends_on ss s t ≡ true
  conflict_depends s t earlier below e =
      and_both (ltb t s && ltb s (length ss)) _ (and_both (ltb t s) (ltb s (length ss)) (lt-ltb t s earlier) (lt-ltb s (length ss) below)) e

  pub apart_free : (s t : ℕ) → Apart ss s t → conflicts (statement ss s) (statement ss t) ≡ false
  apart_free s t apart = either (passes_or_fails (conflicts (statement ss s) (statement ss t)))
    where
      back : conflicts (statement ss s) (statement ss t) ≡ true → (test : Bool) → conflicts (statement ss t) (statement ss s) ≡ test → test ≡ true
      back e true f = refl
      back e false f = absurd (false≢true (sym (conflicts_back (statement ss t) (statement ss s) f) ∙ e))

      clash : conflicts (statement ss s) (statement ss t) ≡ true → (s < t) ⊎ (t ≤ s) → ⊥
      clash e (inl before) =
          apart.no_way_back (direct (conflict_depends t s before apart.second (back e (conflicts (statement ss t) (statement ss s)) refl)))
      clash e (inr behind) = apart.no_way (direct (conflict_depends s t (above behind apart.differ) apart.first e))

      either : (conflicts (statement ss s) (statement ss t) ≡ true) ⊎ (conflicts (statement ss s) (statement ss t) ≡ false)
          → conflicts (statement ss s) (statement ss t) ≡ false
      either (inl e) = absurd (clash e (below_or_not s t))
      either (inr e) = e

  pub write_apart : (s t : ℕ) → Apart ss s t → not (same (statement ss s).destination (statement ss t).destination) ≡ true
  write_apart s t apart = ap not (writes_differ (statement ss s) (statement ss t) (apart_free s t apart))
