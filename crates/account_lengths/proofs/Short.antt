-- Texts that have at most so many bytes: words, numbers, one text behind another.
use mathlib.Core.Bool.{Bool, true, false}
use mathlib.Core.List.{List, ◌++◌}
use Prim.Native.Nat.{ℕ, ◌+◌, ◌≤◌}
use native.Mathlib.Omega.{arith}
use lib.ListN.{length, length-append}
use Rattle.basics.specs.Choice.{pick}
use Rattle.text.specs.Text.{decimal}
use Rattle.text.proofs.Spelling.{length_decimal}

pub record Short (text : List ℕ) (most : ℕ) : Type 0 where
  pub short : length text ≤ most

pub counted : (text : List ℕ) {most : ℕ} → length text ≤ most → Short text most
counted text low = record { short = low }

pub said : (text : List ℕ) → Short text (length text)
said text = counted text (omega arith)

pub number : (n : ℕ) → Short (decimal n) 20
number n = counted (decimal n) (length_decimal n)

infixl 50 ◌then◌
pub ◌then◌ : {text more : List ℕ} {most further : ℕ} → Short text most → Short more further → Short (text ++ more) (most + further)
◌then◌ {text} {more} one two = record { short = omega (arith, length-append text more, one.short, two.short) }

-- a looser bound
pub at_most : {text : List ℕ} {most : ℕ} (more : ℕ) → Short text most → most ≤ more → Short text more
at_most more text low = record { short = omega (arith, text.short, low) }

pub either : (test : Bool) {one other : List ℕ} {most : ℕ} → Short one most → Short other most → Short (pick test one other) most
either true one other = one
either false one other = other
