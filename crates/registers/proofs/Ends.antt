-- What ends a register: the statements still to come that write one of its places. It is current until one of them is done.
use mathlib.Core.Path.{◌≡◌, refl, sym, ap, ap₂, ◌∙◌}
use mathlib.Core.Logic.{◌⊎◌, inl, inr}
use mathlib.Core.Bool.{Bool, true, false, ◌&&◌, ◌||◌, not, true≢false, false≢true, and-true, and-false, or_assoc, or-false}
use mathlib.Core.List.{List, [], ◌∷◌}
use Prim.Native.Nat.{ℕ, ◌<◌}
use native.Mathlib.Omega.{arith}
use lib.Dec.{eqb}
use lib.ListN.{length}
use lib.Bits.{bit_and}
use borrow.Author.Tests.{eqb-true, eq-eqb, lt-ltb}
use Rattle.basics.specs.Choice.{pick}
use Rattle.basics.specs.Lists.{any, all}
use Rattle.basics.specs.Sets.{nobody, only, join, has}
use Rattle.basics.proofs.Tests.{and_left, and_right, and_both, same_test, eqb_back, passes_or_fails}
use Rattle.basics.proofs.Sets.{has_nobody, has_join, has_only, has_both, has_differ, no_one}
use Rattle.meaning.specs.declared.Place.{Place}
use Rattle.meaning.specs.declared.Operand.{Operand}
use Rattle.meaning.specs.declared.Operand.TheVariants.{Nothing, Constant, Held}
use Rattle.meaning.specs.declared.Statement.{Statement}
use Rattle.meaning.specs.Block.{statement, names}
use Rattle.codes.specs.Codes.{place_code, operand_code}
use Rattle.codes.specs.Fitting.{place_fits, operand_fits}
use Rattle.codes.proofs.Operands.{name_codes}
use Rattle.facts.specs.Places.{naming}
use Rattle.facts.specs.Tied.{is_place_code, Names}
use Rattle.facts.proofs.Numbers.{beyond_places, place_coded}
use Rattle.registers.specs.Table.{without, writers_of, endings}
use Rattle.registers.proofs.Laned.{Laned, two, four, tuple_of}

-- what is left of a set
pub has_without : (all done i : ℕ) → has (without all done) i ≡ has all i && not (has done i)
has_without all done i =
    has_differ all (bit_and all done) i
    ∙ ap (λ (both : Bool). pick (has all i) (not both) both) (has_both all done i)
    ∙ by (has all i) (has done i)
  where
    by : (a d : Bool) → pick a (not (a && d)) (a && d) ≡ a && not d
    by true true = refl
    by true false = refl
    by false d = refl

-- two sets that share no one
none_shared : (ends done : ℕ) → bit_and ends done ≡ nobody → (i : ℕ) → has ends i && has done i ≡ false
none_shared ends done e i = sym (has_both ends done i) ∙ ap (λ (set : ℕ). has set i) e ∙ has_nobody i

share_none : (ends done : ℕ) → ((i : ℕ) → has ends i && has done i ≡ false) → bit_and ends done ≡ nobody
share_none ends done e = no_one (bit_and ends done) (λ i. has_both ends done i ∙ e i)

-- a register that is made now is current
pub made_current : (all done : ℕ) → eqb (bit_and (without all done) done) 0 ≡ true
made_current all done =
    eq-eqb (bit_and (without all done) done) 0
    (share_none (without all done) done λ i. ap (λ (left : Bool). left && has done i) (has_without all done i) ∙ by (has all i) (has done i))
  where
    by : (a d : Bool) → (a && not d) && d ≡ false
    by true true = refl
    by true false = refl
    by false d = refl

-- one statement more is done: the register stays current unless that one ends it
pub current_then : (ends done s : ℕ) → eqb (bit_and ends (join done (only s))) 0 ≡ eqb (bit_and ends done) 0 && not (has ends s)
current_then ends done s =
    same_test (eqb (bit_and ends (join done (only s))) 0) (eqb (bit_and ends done) 0 && not (has ends s))
    (λ e.
    let none = none_shared ends (join done (only s)) (eqb-true (bit_and ends (join done (only s))) 0 e) in
    and_both (eqb (bit_and ends done) 0) _
    (eq-eqb (bit_and ends done) 0 (share_none ends done λ i. fewer (has ends i) (has done i) (has (only s) i) (ap (λ (x : Bool). has ends i && x) (sym (has_join done (only s) i)) ∙ none i)))
    (this (has ends s) (has done s) (ap (λ (x : Bool). has ends s && (has done s || x)) (sym (has_only s s ∙ eq-eqb s s refl)) ∙ ap (λ (x : Bool). has ends s && x) (sym (has_join done (only s) s)) ∙ none s)))
    (λ e.
    let none = none_shared ends done (eqb-true (bit_and ends done) 0 (and_left (eqb (bit_and ends done) 0) _ e)) in
    let not_this = and_right (eqb (bit_and ends done) 0) (not (has ends s)) e in
    eq-eqb (bit_and ends (join done (only s))) 0
    (share_none ends (join done (only s)) λ i.
    ap (λ (x : Bool). has ends i && x) (has_join done (only s) i ∙ ap (λ (x : Bool). has done i || x) (has_only s i))
    ∙ by_number i none not_this (passes_or_fails (eqb s i))))
  where
    fewer : (e d o : Bool) → e && (d || o) ≡ false → e && d ≡ false
    fewer true true o h = h
    fewer true false o h = refl
    fewer false d o h = refl

    this : (e d : Bool) → e && (d || true) ≡ false → not e ≡ true
    this true true h = absurd (true≢false h)
    this true false h = absurd (true≢false h)
    this false d h = refl

    with_this : (e d : Bool) → not e ≡ true → e && (d || true) ≡ false
    with_this true d h = absurd (false≢true h)
    with_this false d h = refl

    without_this : (e d : Bool) → e && d ≡ false → e && (d || false) ≡ false
    without_this true true h = h
    without_this true false h = refl
    without_this false d h = refl

    by_number : (i : ℕ) → ((j : ℕ) → has ends j && has done j ≡ false) → not (has ends s) ≡ true → (eqb s i ≡ true) ⊎ (eqb s i ≡ false)
        → has ends i && (has done i || eqb s i) ≡ false
    by_number i none not_this (inl e) =
        rw e (with_this (has ends i) (has done i) (ap (λ (j : ℕ). not (has ends j)) (sym (eqb-true s i e)) ∙ not_this))
    by_number i none not_this (inr e) = rw e (without_this (has ends i) (has done i) (none i))

-- the statements that write a lane's place
lane_writes : (o : Operand) (p : Place) → operand_fits o ≡ true → place_fits p ≡ true
    → eqb (place_code p) (operand_code o) && is_place_code (operand_code o) ≡ names o p
lane_writes Nothing p fits at_place = and-false (eqb (place_code p) 0)
lane_writes (Constant c) p fits at_place =
    ap (λ (x : Bool). eqb (place_code p) (operand_code (Constant c)) && x) (beyond_places (operand_code (Constant c)) (omega arith))
    ∙ and-false (eqb (place_code p) (operand_code (Constant c)))
lane_writes (Held q) p fits at_place =
    ap (λ (x : Bool). eqb (place_code p) (place_code q) && x) (place_coded q fits)
    ∙ and-true (eqb (place_code p) (place_code q))
    ∙ eqb_back (place_code p) (place_code q)
    ∙ sym (name_codes (Held q) p fits at_place)

module _ (ss : List Statement) (numbers writers : List ℕ) (named : Names ss (λ s. place_code s.destination) numbers writers) where
  lane_named : (o : Operand) (s : ℕ) → s < length ss → operand_fits o ≡ true → place_fits (statement ss s).destination ≡ true
      → has (naming numbers writers (operand_code o)) s ≡ names o (statement ss s).destination
  lane_named o s below fits at_place =
      named (operand_code o) s
      ∙ ap (λ (x : Bool). x && (eqb (place_code (statement ss s).destination) (operand_code o) && is_place_code (operand_code o))) (lt-ltb s (length ss) below)
      ∙ lane_writes o (statement ss s).destination fits at_place

  -- the endings of a tuple are the statements still to come that write one of its places
  pub ends_named : (os : List Operand) (done s : ℕ) → Laned os → all operand_fits os ≡ true → s < length ss
      → place_fits (statement ss s).destination ≡ true → has done s ≡ false
      → has (endings numbers writers (tuple_of os) done) s ≡ any (λ o. names o (statement ss s).destination) os
  ends_named os done s shape fit below at_place pending =
      has_without (writers_of numbers writers (tuple_of os)) done s
      ∙ ap (λ (x : Bool). has (writers_of numbers writers (tuple_of os)) s && not x) pending
      ∙ and-true (has (writers_of numbers writers (tuple_of os)) s)
      ∙ writers_named os shape fit
    where
      p : Place
      p = (statement ss s).destination

      joined : (a b c d : Operand) → operand_fits a ≡ true → operand_fits b ≡ true → operand_fits c ≡ true → operand_fits d ≡ true
          → has (writers_of numbers writers (tuple_of (a ∷ b ∷ c ∷ d ∷ []))) s ≡ (names a p || names b p) || (names c p || names d p)
      joined a b c d fa fb fc fd =
          has_join (join (naming numbers writers (operand_code a)) (naming numbers writers (operand_code b)))
          (join (naming numbers writers (operand_code c)) (naming numbers writers (operand_code d))) s
          ∙ ap₂ (λ (x y : Bool). x || y)
          (has_join (naming numbers writers (operand_code a)) (naming numbers writers (operand_code b)) s
          ∙ ap₂ (λ (x y : Bool). x || y) (lane_named a s below fa at_place) (lane_named b s below fb at_place))
          (has_join (naming numbers writers (operand_code c)) (naming numbers writers (operand_code d)) s
          ∙ ap₂ (λ (x y : Bool). x || y) (lane_named c s below fc at_place) (lane_named d s below fd at_place))

      in_four : (x y z w : Bool) → (x || y) || (z || w) ≡ x || (y || (z || (w || false)))
      in_four x y z w = or_assoc x y (z || w) ∙ ap (λ (t : Bool). x || (y || (z || t))) (sym (or-false w))

      writers_named : (qs : List Operand) → Laned qs → all operand_fits qs ≡ true
          → has (writers_of numbers writers (tuple_of qs)) s ≡ any (λ o. names o (statement ss s).destination) qs
      writers_named qs (two a b) f =
          joined a b Nothing Nothing (and_left (operand_fits a) _ f) (and_left (operand_fits b) _ (and_right (operand_fits a) _ f)) refl refl
          ∙ or_assoc (names a p) (names b p) false
      writers_named qs (four a b c d) f =
          let f1 = and_right (operand_fits a) _ f in
          let f2 = and_right (operand_fits b) _ f1 in
          let f3 = and_right (operand_fits c) _ f2 in
          joined a b c d (and_left (operand_fits a) _ f) (and_left (operand_fits b) _ f1) (and_left (operand_fits c) _ f2) (and_left (operand_fits d) _ f3)
          ∙ in_four (names a p) (names b p) (names c p) (names d p)
