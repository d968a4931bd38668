-- The extension over the tables.
use Rattle.std.specs.Prelude.{ℕ, zero, suc, ◌+◌, ◌-◌, ◌<◌, Bool, true, false, ◌&&◌, List, ltb, leb, get_or, Option, Some, None, IfSome}
use Rattle.basics.specs.Choice.{pick}
use Rattle.meaning.specs.Pairs.{Pair, pair}
use Rattle.rows.specs.Walk.{walk}
use Rattle.facts.specs.Facts.{fact_at}
use Rattle.pairs.specs.Admission.{Tables, admit_to, may_pair}
use Rattle.estimate.specs.Costs.{loss_of, gain_of}
use Rattle.extend.specs.declared.Best.{Best as Found}

-- `admit_if_pays`
abbrev pub admit_paying : List ℕ → List ℕ → Pair → Tables → Tables
admit_paying facts reached p t =
    pick (may_pair facts reached t p.left p.right && leb (loss_of facts t.next p) (gain_of facts p)) (admit_to p t) t

-- `use_to_definition`, from a column of definitions
abbrev pub admit_definitions : List ℕ → List ℕ → ℕ → Pair → Tables → Tables
admit_definitions facts reached definition p t =
    pick (ltb (fact_at facts definition p.left) 64 && ltb (fact_at facts definition p.right) 64)
    (admit_paying facts reached (pair (fact_at facts definition p.left) (fact_at facts definition p.right)) t) t

-- the best readers so far, with their estimate
abbrev pub found : ℕ → ℕ → ℕ → Found
found left right estimate = record { left = left; right = right; estimate = estimate }

-- and both are statements
abbrev pub InBlock : Option Found → Type 0
InBlock best = IfSome best (λ b. (b.left < 64) × (b.right < 64))

-- `greater`
abbrev pub is_greater : ℕ → Option Found → Bool
is_greater estimate None = true
is_greater estimate (Some best) = ltb best.estimate estimate

abbrev pub greater_of : Pair → ℕ → Option Found → Option Found
greater_of p estimate best = pick (is_greater estimate best) (Some (found p.left p.right estimate)) best

-- `better`
abbrev pub better_of : List ℕ → List ℕ → Tables → Pair → Option Found → Option Found
better_of facts reached t p best =
    pick (may_pair facts reached t p.left p.right)
    (pick (leb (loss_of facts t.next p) (gain_of facts p)) (greater_of p (gain_of facts p - loss_of facts t.next p) best) best) best

abbrev pub best_of_partners : List ℕ → List ℕ → Tables → ℕ → ℕ → Option Found → Option Found
best_of_partners facts reached t reader partners best = walk 64 partners (λ partner. better_of facts reached t (pair reader partner)) best

unfoldable pub best_of : List ℕ → List ℕ → Tables → Pair → Option Found
best_of facts reached t p =
    walk 64 (fact_at facts 448 p.left) (λ reader. best_of_partners facts reached t reader (fact_at facts 448 p.right)) None

abbrev pub admit_found : Option Found → Tables → Tables
admit_found None t = t
admit_found (Some best) t = admit_to (pair best.left best.right) t

abbrev pub admit_readers : List ℕ → List ℕ → Pair → Tables → Tables
admit_readers facts reached p t = admit_found (best_of facts reached t p) t

-- `visit`
unfoldable pub visit_tables : List ℕ → List ℕ → Pair → Tables → Tables
visit_tables facts reached p t =
    admit_readers facts reached p (admit_definitions facts reached 384 p (admit_definitions facts reached 320 p t))

-- `visit_from`
unfoldable pub visit_tables_from : ℕ → List ℕ → List ℕ → ℕ → Tables → Tables
visit_tables_from zero facts reached i t = t
visit_tables_from (suc n) facts reached i t =
    elim (ltb i t.size) [
      | true ↦
          visit_tables_from n facts reached (i + 1)
          (visit_tables facts reached (pair (get_or t.order i 64) (get_or t.next (get_or t.order i 64) 64)) t)
      | false ↦ t
    ]
