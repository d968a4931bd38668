-- What the loops over pairs have still to do, one turn at a time; and the tables before the first statement, and with one statement more.
use mathlib.Core.Path.{◌≡◌, refl, sym, ap, ap₂, ◌∙◌}
use mathlib.Core.Bool.{Bool, true, false, cond, ◌&&◌}
use mathlib.Core.List.{List, [], ◌∷◌}
use Prim.Native.Nat.{ℕ, suc, ◌+◌, ◌-◌, ◌^◌, ◌≤◌, ◌<◌}
use native.Mathlib.Omega.{arith}
use lib.Dec.{eqb}
use lib.ListN.{get_or}
use borrow.Author.Tests.{eq-eqb, ne_eqb}
use Rattle.std.specs.Option.{unwrap_or, option_map}
use Rattle.std.specs.List.{All, find, fold}
use Rattle.std.specs.declared.option.Option.{Option}
use Rattle.std.specs.declared.option.Option.TheVariants.{Some, None}
use Rattle.basics.specs.Choice.{pick}
use Rattle.basics.proofs.Counting.{more, none_left}
use Rattle.meaning.specs.declared.Statement.{Statement}
use Rattle.meaning.specs.Block.{statement}
use Rattle.rows.specs.Walk.{members}
use Rattle.rows.proofs.Walks.{walk_fold, members_below}
use Rattle.facts.proofs.Steps.{one_more}
use Rattle.pairs.specs.Admission.{Tables, leads_to, may_pair, first_admitted, neighbours_of, seed_tables, seeded_tables}

-- a chain is followed: to what is looked for, to its end, or further
abbrev turn : Bool → Bool → Bool → Bool
turn there out rest = elim there [ true ↦ true | false ↦ elim out [ true ↦ false | false ↦ rest ] ]

module _ (n i : ℕ) (next : List ℕ) (at to : ℕ) where
  pub leads_end : n ≤ i → leads_to (n - i) next at to ≡ false
  unfolding leads_to
  leads_end h = rw (none_left n i h)

  module _ (u : ℕ) (h : i < n) (e : u ≡ get_or next at 64) where
    one_turn : (there out : Bool) → eqb u to ≡ there → eqb u 64 ≡ out → leads_to (n - i) next at to ≡ turn there out (leads_to (n - (i + 1)) next u to)
    unfolding leads_to
    one_turn there out p q =
        ap (λ (k : ℕ). leads_to k next at to) (more n i h)
        ∙ ap (λ (v : ℕ). turn (eqb v to) (eqb v 64) (leads_to (n - (i + 1)) next v to)) (sym e)
        ∙ ap₂ (λ (there out : Bool). turn there out (leads_to (n - (i + 1)) next u to)) p q

    pub leads_there : u ≡ to → leads_to (n - i) next at to ≡ true
    leads_there there = one_turn true (eqb u 64) (eq-eqb u to there) refl

    pub leads_out : (u ≡ to → ⊥) → u ≡ 64 → leads_to (n - i) next at to ≡ false
    leads_out other out = one_turn false true (ne_eqb u to other) (eq-eqb u 64 out)

    pub leads_on : (u ≡ to → ⊥) → (u ≡ 64 → ⊥) → leads_to (n - i) next at to ≡ leads_to (n - (i + 1)) next u to
    leads_on other some = one_turn false false (ne_eqb u to other) (ne_eqb u 64 some)

-- the first that may be admitted is looked for
abbrev finding : List ℕ → List ℕ → Tables → ℕ → ℕ → ℕ → ℕ
finding facts reached t s found u = pick (eqb found 64 && may_pair facts reached t s u) u found

pub none_as_64 : (found : Option ℕ) → unwrap_or found 64 ≡ unwrap_or (option_map (λ x. x) found) 64
none_as_64 None = refl
none_as_64 (Some x) = refl

module _ (facts reached : List ℕ) (t : Tables) (s : ℕ) where
  found_kept : (u : ℕ) (us : List ℕ) → u < 64 → fold (finding facts reached t s) u us ≡ u
  found_kept u [] below = refl
  found_kept u (v ∷ us) below = rw (ne_eqb u 64 (omega arith)) (found_kept u us below)

  -- among those of a list, all of them numbers of statements
  found_first : (us : List ℕ) → All (λ u. u < 64) us
      → (unwrap_or (find (may_pair facts reached t s) us) 64 ≡ fold (finding facts reached t s) 64 us) × (unwrap_or (find (may_pair facts reached t s) us) 64 ≤ 64)
  found_first [] small = (refl, omega arith)
  found_first (u ∷ us) small = by (may_pair facts reached t s u) (found_first us (λ k d h. small (suc k) d (omega arith)))
    where
      below : u < 64
      below = small 0 0 (omega arith)

      by : (may : Bool)
          → (unwrap_or (find (may_pair facts reached t s) us) 64 ≡ fold (finding facts reached t s) 64 us) × (unwrap_or (find (may_pair facts reached t s) us) 64 ≤ 64)
          → (unwrap_or (cond may (Some u) (find (may_pair facts reached t s) us)) 64 ≡ fold (finding facts reached t s) (pick may u 64) us)
          × (unwrap_or (cond may (Some u) (find (may_pair facts reached t s) us)) 64 ≤ 64)
      by true later = (sym (found_kept u us below), omega (arith, below))
      by false later = later

  pub first_found : (candidates : ℕ) → candidates < 2 ^ 64
      → (unwrap_or (find (may_pair facts reached t s) (members candidates)) 64 ≡ first_admitted facts reached t s candidates)
      × (unwrap_or (find (may_pair facts reached t s) (members candidates)) 64 ≤ 64)
  first_found candidates fits =
      let found = found_first (members candidates) (members_below candidates fits) in
      (found.0 ∙ sym (walk_fold candidates (λ u found. finding facts reached t s found u) 64), found.1)

-- the tables before the first statement, and with one statement more
pub seeded_none : (ss : List Statement) (facts reached numbers writers lefts rights : List ℕ) (t : Tables)
    → seeded_tables ss 0 facts reached numbers writers lefts rights t ≡ t
unfolding seeded_tables
seeded_none ss facts reached numbers writers lefts rights t = refl

pub seeded_more : (ss : List Statement) (n : ℕ) (facts reached numbers writers lefts rights : List ℕ) (t : Tables)
    → seeded_tables ss (n + 1) facts reached numbers writers lefts rights t
    ≡ seed_tables facts reached n (neighbours_of (statement ss n) numbers writers lefts rights) (seeded_tables ss n facts reached numbers writers lefts rights t)
unfolding seeded_tables
seeded_more ss n facts reached numbers writers lefts rights t =
    one_more (λ s. seed_tables facts reached s (neighbours_of (statement ss s) numbers writers lefts rights)) n t
