-- What the tables of pairs say of the list of pairs, as the phases behind rest on it.
use Rattle.std.specs.Prelude.{◌≡◌, ℕ, List, get_or}
use Rattle.basics.specs.Sets.{has}
use Rattle.meaning.specs.Pairs.{Pair, is_right, partner}
use Rattle.reach.specs.Tied.{number_of}

pub record Paired (pairs : List Pair) (next : List ℕ) (rights : ℕ) : Type 0 where
  pub partners : (s : ℕ) → get_or next s 64 ≡ number_of (partner pairs s)
  pub are_right : (s : ℕ) → has rights s ≡ is_right pairs s
