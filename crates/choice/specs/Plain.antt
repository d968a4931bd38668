-- "S for every statement in block order", as bytes.
use Rattle.std.specs.Prelude.{ℕ, List}
use Rattle.basics.specs.Counting.{count}
use Rattle.facts.specs.Facts.{fact_at}
use Rattle.encode.specs.Records.{Listing, listing, write_s, nothing_written, write_header}

-- S for the first so many statements
unfoldable pub plain_records : List ℕ → ℕ → List ℕ → Listing
plain_records facts n out = count n 0 (λ s. write_s s (fact_at facts 256 s)) (listing out nothing_written)

-- and the header in front of them
abbrev pub plain_in : List ℕ → ℕ → List ℕ → Listing
plain_in facts n out = listing (write_header (plain_records facts n out)) (plain_records facts n out).written
