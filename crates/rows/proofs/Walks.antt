-- The laws of walks: who is the lowest and the highest of a set, what is left behind the lowest, and that a walk is a count with a test.
use mathlib.Core.Path.{◌≡◌, refl, sym, ap, ◌∙◌}
use mathlib.Core.Logic.{◌⊎◌, inl, inr}
use mathlib.Core.Bool.{Bool, true, false, ◌&&◌, not, false≢true, and-true, and-false}
use mathlib.Core.List.{List, [], ◌∷◌, ◌++◌, append-nil, append_assoc}
use Prim.Native.Nat.{ℕ, zero, suc, ◌+◌, ◌-◌, ◌*◌, ◌/◌, ◌%◌, ◌^◌, ◌≤◌, ◌<◌}
use native.Mathlib.Nat.{pow-suc, lt_of_le_of_lt, zero-add}
use native.Mathlib.Omega.{arith}
use lib.ListN.{length}
use lib.Dec.{eqb, ltb, eqb-zero-suc, eqb-suc-zero, eqb-suc-suc}
use lib.Bits.{and_step, and_self, and_le_l, and_le_r}
use lib.Count.{count_leading_zeros, count_trailing_zeros, leading_unique}
use borrow.Author.Tests.{eqb-true, eqb-false, lt-ltb, le-ltb, eq-eqb, ne_eqb}
use Rattle.std.specs.List.{All, fold}
use Rattle.basics.specs.Choice.{pick}
use Rattle.basics.specs.Counting.{count}
use Rattle.basics.specs.Sets.{nobody, has}
use Rattle.basics.proofs.Tests.{below_or_not}
use Rattle.basics.proofs.Counting.{one_further, count_same, count_last}
use Rattle.basics.proofs.Sets.{has_nobody, has_lowest, has_half, no_one, not_nobody, has_beyond, set_bound}
use Rattle.rows.specs.Walk.{behind_first, highest, walk, first_members, members}

-- an odd number has its lowest bit, an even one has not
odd : (s : ℕ) → has s 0 ≡ true → s % 2 ≡ 1
odd s e = eqb-true (s % 2) 1 (sym (has_lowest s) ∙ e)

even : (s : ℕ) → has s 0 ≡ false → s % 2 ≡ 0
even s e =
    let differs : s % 2 ≡ 1 → ⊥ = eqb-false (s % 2) 1 (sym (has_lowest s) ∙ e) in
    omega arith

-- the lowest of a set, by who is in it
pub lowest_is : (k s i : ℕ) → i < k → has s i ≡ true → ((j : ℕ) → j < i → has s j ≡ false) → count_trailing_zeros k s ≡ i
unfolding count_trailing_zeros
lowest_is zero s i h e none = absurd (omega arith)
lowest_is (suc k) s zero h e none = rw (odd s e)
lowest_is (suc k) s (suc i) h e none =
    rw (even s (none 0 (omega arith)))
    (ap suc (lowest_is k (s / 2) i (omega arith) (has_half s i ∙ e) (λ j low. has_half s j ∙ none (suc j) (omega arith))))

-- the set without its lowest: in its lowest bit, or in the half
behind_odd : (s : ℕ) → s % 2 ≡ 1 → behind_first s ≡ s / 2 * 2
behind_odd s e =
    let half : (s - 1) / 2 ≡ s / 2 = omega arith in
    and_step s (s - 1) ∙ rw (half, and_self (s / 2)) (omega arith)

behind_even : (s : ℕ) → s % 2 ≡ 0 → behind_first s ≡ behind_first (s / 2) * 2
behind_even s e =
    let half : (s - 1) / 2 ≡ s / 2 - 1 = omega arith in
    and_step s (s - 1) ∙ rw half (omega arith)

twice_lowest : (s : ℕ) → has (s * 2) 0 ≡ false
twice_lowest s =
    let none : s * 2 % 2 ≡ 0 = omega arith in
    has_lowest (s * 2) ∙ rw none

twice_higher : (s i : ℕ) → has (s * 2) (suc i) ≡ has s i
twice_higher s i =
    let half : s * 2 / 2 ≡ s = omega arith in
    sym (has_half (s * 2) i) ∙ rw half

-- who is left behind the lowest: all the others
pub has_behind : (s i j : ℕ) → has s i ≡ true → ((j : ℕ) → j < i → has s j ≡ false) → has (behind_first s) j ≡ has s j && not (eqb i j)
has_behind s zero zero e none = rw (behind_odd s (odd s e)) (twice_lowest (s / 2) ∙ sym (and-false (has s 0)))
has_behind s zero (suc j) e none =
    rw (behind_odd s (odd s e), eqb-zero-suc j) (twice_higher (s / 2) j ∙ has_half s j ∙ sym (and-true (has s (suc j))))
has_behind s (suc i) zero e none =
    rw (behind_even s (even s (none 0 (omega arith))), eqb-suc-zero i) (twice_lowest (behind_first (s / 2)) ∙ sym (none 0 (omega arith)) ∙ sym (and-true (has s 0)))
has_behind s (suc i) (suc j) e none =
    rw (behind_even s (even s (none 0 (omega arith))), ← has_half s j, eqb-suc-suc i j)
    (twice_higher (behind_first (s / 2)) j
    ∙ has_behind (s / 2) i j (has_half s i ∙ e) (λ k low. has_half s k ∙ none (suc k) (omega arith)))

still_none : (s i j : ℕ) → has s i ≡ true → ((j : ℕ) → j < i → has s j ≡ false) → has s j ≡ false → has (behind_first s) j ≡ false
still_none s i j e none out = has_behind s i j e none ∙ rw out

gone : (s i j : ℕ) → has s i ≡ true → ((j : ℕ) → j < i → has s j ≡ false) → i ≡ j → has (behind_first s) j ≡ false
gone s i j e none this = has_behind s i j e none ∙ rw (eq-eqb i j this) (and-false (has s j))

kept : (s i j : ℕ) → has s i ≡ true → ((j : ℕ) → j < i → has s j ≡ false) → i < j → has (behind_first s) j ≡ has s j
kept s i j e none other = has_behind s i j e none ∙ rw (ne_eqb i j (omega arith)) (and-true (has s j))

-- f at i where i is in the set
abbrev pub at_member {ℓ} : {A : Type ℓ} → ℕ → (ℕ → A → A) → ℕ → A → A
at_member s f i a = elim (has s i) [ true ↦ f i a | false ↦ a ]

module _ {ℓ} {A : Type ℓ} where
  walk_more : (n s : ℕ) (f : ℕ → A → A) (a : A) (i : ℕ) → eqb s 0 ≡ false → count_trailing_zeros 64 s ≡ i → walk (suc n) s f a ≡ walk n (behind_first s) f (f i a)
  unfolding walk
  walk_more n s f a i some lowest = rw (walk, some, lowest)

  walk_none : (n : ℕ) (f : ℕ → A → A) (a : A) → walk n 0 f a ≡ a
  unfolding walk
  walk_none zero f a = refl
  walk_none (suc n) f a = refl

  member_yes : (s : ℕ) (f : ℕ → A → A) (i : ℕ) (a : A) → has s i ≡ true → at_member s f i a ≡ f i a
  member_yes s f i a e = rw (e, at_member)

  member_no : (s : ℕ) (f : ℕ → A → A) (i : ℕ) (a : A) → has s i ≡ false → at_member s f i a ≡ a
  member_no s f i a e = rw (e, at_member)

  member_same : (s t : ℕ) (f : ℕ → A → A) (i : ℕ) (a : A) → has s i ≡ has t i → at_member s f i a ≡ at_member t f i a
  member_same s t f i a e = rw (e, at_member)

  -- from i on, where nobody below i is in the set and nobody from i + k on
  walk_from : (k i n s : ℕ) (f : ℕ → A → A) (a : A) → i + k ≤ 64 → k ≤ n → ((j : ℕ) → j < i → has s j ≡ false) → ((j : ℕ) → i + k ≤ j → has s j ≡ false)
      → walk n s f a ≡ count k i (at_member s f) a
  walk_from zero i n s f a end fuel below beyond =
      rw (no_one s (λ j. outside j (below_or_not j i))) (walk_none n f a)
    where
      outside : (j : ℕ) → (j < i) ⊎ (i ≤ j) → has s j ≡ false
      outside j (inl low) = below j low
      outside j (inr high) = beyond j (omega arith)
  walk_from (suc k) i zero s f a end fuel below beyond = absurd (omega arith)
  walk_from (suc k) i (suc n) s f a end fuel below beyond =
      by (has s i) refl (walk_from k (i + 1) n (behind_first s) f (f i a)) (walk_from k (i + 1) (suc n) s f a)
    where
      by : (t : Bool) → has s i ≡ t
          → (i + 1 + k ≤ 64 → k ≤ n → ((j : ℕ) → j < i + 1 → has (behind_first s) j ≡ false) → ((j : ℕ) → i + 1 + k ≤ j → has (behind_first s) j ≡ false)
          → walk n (behind_first s) f (f i a) ≡ count k (i + 1) (at_member (behind_first s) f) (f i a))
          → (i + 1 + k ≤ 64 → k ≤ suc n → ((j : ℕ) → j < i + 1 → has s j ≡ false) → ((j : ℕ) → i + 1 + k ≤ j → has s j ≡ false)
          → walk (suc n) s f a ≡ count k (i + 1) (at_member s f) a)
          → walk (suc n) s f a ≡ count k (i + 1) (at_member s f) (at_member s f i a)
      by true e behind further =
          walk_more n s f a i (not_nobody s i e) (lowest_is 64 s i (omega arith) e below)
          ∙ behind (omega arith) (omega arith)
          (one_further (λ j. has (behind_first s) j ≡ false) i (λ j low. still_none s i j e below (below j low)) (gone s i i e below refl))
          (λ j high. still_none s i j e below (beyond j (omega arith)))
          ∙ count_same (at_member (behind_first s) f) (at_member s f) k (i + 1) (f i a) (λ j x low high. member_same (behind_first s) s f j x (kept s i j e below (omega arith)))
          ∙ ap (count k (i + 1) (at_member s f)) (sym (member_yes s f i a e))
      by false e behind further =
          further (omega arith) (omega arith) (one_further (λ j. has s j ≡ false) i below e) (λ j high. beyond j (omega arith))
          ∙ ap (count k (i + 1) (at_member s f)) (sym (member_no s f i a e))

  -- a walk over a set that has nobody from n on is a count to n with a test
  pub walk_counts : (n s : ℕ) (f : ℕ → A → A) (a : A) → n ≤ 64 → ((j : ℕ) → n ≤ j → has s j ≡ false)
      → walk 64 s f a ≡ count n 0 (λ i x. elim (has s i) [ true ↦ f i x | false ↦ x ]) a
  walk_counts n s f a h beyond =
      walk_from n 0 64 s f a (omega arith) h (λ j low. absurd (omega arith)) (λ j high. beyond j (omega arith))

-- the highest of a set, by who is in it
pub highest_is : (s i : ℕ) → i < 64 → has s i ≡ true → ((j : ℕ) → i < j → has s j ≡ false) → highest s ≡ i
highest_is s i h e none =
    let top : s < 2 ^ suc i = set_bound (suc i) s none in
    let enough : 2 ^ i ≤ s = reaches (below_or_not s (2 ^ i)) in
    let zeros : 63 - i ≡ count_leading_zeros 64 s = leading_unique 64 s (63 - i) (suc i) (omega arith) top (omega (arith, pow-suc 2 i)) in
    rw (not_nobody s i e, ← zeros) (omega arith)
  where
    reaches : (s < 2 ^ i) ⊎ (2 ^ i ≤ s) → 2 ^ i ≤ s
    reaches (inl low) = absurd (false≢true (sym (has_beyond i s i low (omega arith)) ∙ e))
    reaches (inr high) = high

-- the highest of all below n that pass a test is what a count to n finds last
pub highest_counts : (n s : ℕ) (test : ℕ → Bool) → n ≤ 64 → ((i : ℕ) → has s i ≡ ltb i n && test i)
    → highest s ≡ count n 0 (λ i found. pick (test i) i found) 64
highest_counts zero s test h e = rw (no_one s (λ i. e i ∙ rw (le-ltb i 0 (omega arith))))
highest_counts (suc n) s test h e =
    by (test n) refl (highest_counts n s test (omega arith)) ∙ sym (count_last (λ i found. pick (test i) i found) n 0 64 ∙ rw (zero-add n))
  where
    by : (t : Bool) → test n ≡ t → (((i : ℕ) → has s i ≡ ltb i n && test i) → highest s ≡ count n 0 (λ i found. pick (test i) i found) 64)
        → highest s ≡ pick t n (count n 0 (λ i found. pick (test i) i found) 64)
    by true t rest =
        highest_is s n (omega arith) (e n ∙ rw (lt-ltb n (suc n) (omega arith), t)) (λ j high. e j ∙ rw (le-ltb j (suc n) (omega arith)))
    by false t rest = rest (λ i. e i ∙ at i (below_or_not i n))
      where
        at : (i : ℕ) → (i < n) ⊎ (n ≤ i) → ltb i (suc n) && test i ≡ ltb i n && test i
        at i (inl low) = rw (lt-ltb i (suc n) (omega arith), lt-ltb i n low)
        at i (inr high) = further i (below_or_not n i) high
          where
            further : (i : ℕ) → (n < i) ⊎ (i ≤ n) → n ≤ i → ltb i (suc n) && test i ≡ ltb i n && test i
            further i (inl above) h = rw (le-ltb i (suc n) (omega arith), le-ltb i n h)
            further i (inr same) h =
                let this : i ≡ n = omega arith in
                rw (this, t, lt-ltb n (suc n) (omega arith), le-ltb n n (omega arith))

-- the lowest of a set that has someone
pub record Lowest (s i : ℕ) : Type 0 where
  pub within : has s i ≡ true
  pub first : (j : ℕ) → j < i → has s j ≡ false

lowest_of : (k s : ℕ) → s < 2 ^ k → 0 < s → (count_trailing_zeros k s < k) × Lowest s (count_trailing_zeros k s)
unfolding count_trailing_zeros
lowest_of zero s small some = absurd (omega arith)
lowest_of (suc k) s small some = by (has s 0) refl (lowest_of k (s / 2) (omega (arith, pow-suc 2 k)))
  where
    by : (t : Bool) → has s 0 ≡ t → (0 < s / 2 → (count_trailing_zeros k (s / 2) < k) × Lowest (s / 2) (count_trailing_zeros k (s / 2)))
        → (count_trailing_zeros (suc k) s < suc k) × Lowest s (count_trailing_zeros (suc k) s)
    by true e rest = rw (odd s e) (omega arith, record { within = e; first = λ j low. absurd (omega arith) })
    by false e rest =
        let higher = rest (omega (arith, even s e)) in
        rw (even s e) (
          omega (arith, higher.0),
          record { within = sym (has_half s (count_trailing_zeros k (s / 2))) ∙ higher.1.within; first = below },
        )
      where
        below : (j : ℕ) → j < suc (count_trailing_zeros k (s / 2)) → has s j ≡ false
        below zero low = e
        below (suc j) low = sym (has_half s j) ∙ (rest (omega (arith, even s e))).1.first j (omega arith)

some_one : (s : ℕ) → eqb s nobody ≡ false → 0 < s
some_one s e =
    let differs : s ≡ 0 → ⊥ = eqb-false s 0 e in
    omega arith

pub lowest_below : (s : ℕ) → s < 2 ^ 64 → eqb s nobody ≡ false → count_trailing_zeros 64 s < 64
lowest_below s small some = (lowest_of 64 s small (some_one s some)).0

pub lowest_first : (s : ℕ) → s < 2 ^ 64 → eqb s nobody ≡ false → Lowest s (count_trailing_zeros 64 s)
lowest_first s small some = (lowest_of 64 s small (some_one s some)).1

-- all the others are left behind it
pub has_behind_first : (s j : ℕ) → s < 2 ^ 64 → has (behind_first s) j ≡ has s j && not (eqb (count_trailing_zeros 64 s) j)
has_behind_first s j small = by (eqb s nobody) refl
  where
    by : (t : Bool) → eqb s nobody ≡ t → has (behind_first s) j ≡ has s j && not (eqb (count_trailing_zeros 64 s) j)
    by true e = rw (eqb-true s 0 e, has_nobody j)
    by false e = let lowest = lowest_first s small e in has_behind s (count_trailing_zeros 64 s) j lowest.within lowest.first

none_up_to : (s i j : ℕ) → Lowest s i → j ≤ i → has (behind_first s) j ≡ false
none_up_to s i j lowest h = by (below_or_not j i)
  where
    by : (j < i) ⊎ (i ≤ j) → has (behind_first s) j ≡ false
    by (inl low) = still_none s i j lowest.within lowest.first (lowest.first j low)
    by (inr high) = gone s i j lowest.within lowest.first (omega arith)

-- What a loop over a set does: it stops at nobody, goes on with those behind the lowest, and those are fewer.
module _ {ℓ} {A : Type ℓ} where
  pub walk_end : (s : ℕ) (f : ℕ → A → A) (a : A) → s ≡ nobody → walk 64 s f a ≡ a
  walk_end s f a e = rw e (walk_none 64 f a)

  pub walk_next : (s : ℕ) (f : ℕ → A → A) (a : A) → s < 2 ^ 64 → (s ≡ nobody → ⊥) → walk 64 s f a ≡ walk 64 (behind_first s) f (f (count_trailing_zeros 64 s) a)
  walk_next s f a small some =
      walk_more 63 s f a (count_trailing_zeros 64 s) (ne_eqb s nobody some) refl ∙ rest 63 (omega arith) ∙ sym (rest 64 (omega arith))
    where
      i : ℕ
      i = count_trailing_zeros 64 s

      below : i < 64
      below = lowest_below s small (ne_eqb s nobody some)

      lowest : Lowest s i
      lowest = lowest_first s small (ne_eqb s nobody some)

      -- 63 numbers are enough for what is left
      rest : (n : ℕ) → 63 ≤ n → walk n (behind_first s) f (f i a) ≡ count (64 - suc i) (suc i) (at_member (behind_first s) f) (f i a)
      rest n enough =
          let room : i < 64 = below in
          walk_from (64 - suc i) (suc i) n (behind_first s) f (f i a) (omega arith) (omega arith)
          (λ j low. none_up_to s i j lowest (omega arith))
          (λ j high. still_none s i j lowest.within lowest.first (has_beyond 64 s j small (omega arith)))

-- a walk is a fold over the members
walk_fold_first : {A : Type 0} (n s : ℕ) (f : ℕ → A → A) (a : A) → walk n s f a ≡ fold (λ x e. f e x) a (first_members n s)
unfolding walk first_members
walk_fold_first zero s f a = refl
walk_fold_first (suc n) s f a = by (eqb s 0) (walk_fold_first n (behind_first s) f (f (count_trailing_zeros 64 s) a))
  where
    -- by what the test for nobody says
    by : (t : Bool)
        → walk n (behind_first s) f (f (count_trailing_zeros 64 s) a)
        ≡ fold (λ x e. f e x) (f (count_trailing_zeros 64 s) a) (first_members n (behind_first s))
        → elim t [ true ↦ a | false ↦ walk n (behind_first s) f (f (count_trailing_zeros 64 s) a) ]
        ≡ fold (λ x e. f e x) a (elim t [ true ↦ [] | false ↦ count_trailing_zeros 64 s ∷ first_members n (behind_first s) ])
    by true behind = refl
    by false behind = behind

pub walk_fold : {A : Type 0} (s : ℕ) (f : ℕ → A → A) (a : A) → walk 64 s f a ≡ fold (λ x e. f e x) a (members s)
walk_fold s f a = walk_fold_first 64 s f a

fold_behind : (xs ys : List ℕ) → fold (λ l x. l ++ x ∷ []) ys xs ≡ ys ++ xs
fold_behind [] ys = sym (append-nil ys)
fold_behind (x ∷ xs) ys = fold_behind xs (ys ++ x ∷ []) ∙ append_assoc ys (x ∷ []) xs

pub members_of_none : (s : ℕ) → s ≡ nobody → members s ≡ []
unfolding first_members
members_of_none s e = rw e

-- the lowest, and then those behind it
pub members_next : (s : ℕ) → s < 2 ^ 64 → (s ≡ nobody → ⊥) → members s ≡ count_trailing_zeros 64 s ∷ members (behind_first s)
members_next s small some =
    sym (fold_behind (members s) []) ∙ sym (walk_fold s behind []) ∙ walk_next s behind [] small some
    ∙ walk_fold (behind_first s) behind (lowest ∷ []) ∙ fold_behind (members (behind_first s)) (lowest ∷ [])
  where
    lowest : ℕ
    lowest = count_trailing_zeros 64 s

    behind : ℕ → List ℕ → List ℕ
    behind x l = l ++ x ∷ []

pub members_fewer : (s : ℕ) → s < 2 ^ 64 → (s ≡ nobody → ⊥) → length (members (behind_first s)) < length (members s)
members_fewer s small some = omega (arith, ap length (members_next s small some))

pub behind_fewer : (s : ℕ) → (s ≡ nobody → ⊥) → behind_first s < s
behind_fewer s some = omega (arith, and_le_r s (s - 1))

pub behind_small : (k s : ℕ) → s < 2 ^ k → behind_first s < 2 ^ k
behind_small k s small = lt_of_le_of_lt (and_le_l s (s - 1)) small

-- each member is the number of a statement
members_small : (n s : ℕ) → s < 2 ^ 64 → All (λ i. i < 64) (first_members n s)
unfolding first_members
members_small zero s small = λ k d h. absurd (omega arith)
members_small (suc n) s small = by (eqb s 0) refl (members_small n (behind_first s) (behind_small 64 s small))
  where
    by : (t : Bool) → eqb s 0 ≡ t → All (λ i. i < 64) (first_members n (behind_first s))
        → All (λ i. i < 64) (elim t [ true ↦ [] | false ↦ count_trailing_zeros 64 s ∷ first_members n (behind_first s) ])
    by true e rest = λ k d h. absurd (omega arith)
    by false e rest = at
      where
        at : All (λ i. i < 64) (count_trailing_zeros 64 s ∷ first_members n (behind_first s))
        at zero d h = lowest_below s small e
        at (suc k) d h = rest k d (omega arith)

pub members_below : (s : ℕ) → s < 2 ^ 64 → All (λ i. i < 64) (members s)
members_below s small = members_small 64 s small
