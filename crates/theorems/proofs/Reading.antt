-- Reading, step by step: what holds of a reader's answer where it holds along its steps.
use Rattle.std.specs.Prelude.{Option, Some, None}
use mathlib.Core.Path.{◌≡◌, refl, ap, ◌∙◌, fun_ext}
use mathlib.Core.Bool.{Bool, true, false}
use mathlib.Core.List.{List, ◌∷◌}
use Prim.Native.Nat.{ℕ, suc, ◌≤◌}
use lib.Dec.{leb}
use lib.ListN.{length, take, drop}
use Rattle.meaning.specs.declared.Statement.{Statement}
use Rattle.meaning.specs.Numbers.{Answer, refused, done, demand, and_then}
use Rattle.meaning.specs.Block.{declares_statement}
use Rattle.meaning.specs.Format.{number, length_fits, read_record, Rest, in_front, read_lengths, read_statements}

-- a reader's refusal has one of its numbers, and what is done has the property
abbrev pub ReaderNumber : ℕ → Type 0
ReaderNumber n = (1 ≤ n) × (n ≤ 5)

abbrev pub Reads : {A : Type 0} → (A → Type 0) → Answer A → Type 0
Reads P (refused n) = ReaderNumber n
Reads P (done a) = P a

-- along the steps of a reader
pub demand_reads : {A : Type 0} (P : A → Type 0) (test : Bool) (n : ℕ) (following : Answer A)
    → ReaderNumber n → (test ≡ true → Reads P following) → Reads P (demand test n following)
demand_reads P true n following bounds h = h refl
demand_reads P false n following bounds h = bounds

pub then_reads : {A B : Type 0} (P : A → Type 0) (Q : B → Type 0) (answer : Answer A) (next : A → Answer B)
    → Reads P answer → ((a : A) → P a → Reads Q (next a)) → Reads Q (and_then answer next)
then_reads P Q (refused n) next bounds h = bounds
then_reads P Q (done a) next p h = h a p

pub front_reads : {A : Type 0} (P Q : List A × List ℕ → Type 0) (x : A) (rest : Rest (List A))
    → Reads P rest → ((read : List A × List ℕ) → P read → Q (x ∷ read.0, read.1)) → Reads Q (in_front x rest)
front_reads P Q x (refused n) bounds h = bounds
front_reads P Q x (done read) p h = h read p

-- a choice by `elim` between a refusal and what follows is a demand
elim_demand : {A : Type 0} (test : Bool) (n : ℕ) (following : Answer A) → elim test [ false ↦ refused n | true ↦ following ] ≡ demand test n following
elim_demand true n following = refl
elim_demand false n following = refl

-- the lengths, one after the other
pub read_lengths_more : (n : ℕ) (bytes : List ℕ)
    → read_lengths (suc n) bytes
    ≡ demand (leb 2 (length bytes)) 4
    (demand (length_fits (number (take 2 bytes))) 3 (in_front (number (take 2 bytes)) (read_lengths n (drop 2 bytes))))
unfolding read_lengths
read_lengths_more n bytes =
    elim_demand (leb 2 (length bytes)) 4 _
    ∙ ap (demand (leb 2 (length bytes)) 4) (elim_demand (length_fits (number (take 2 bytes))) 3 _)

-- what a record says, as an answer
abbrev pub said : Option Statement → Answer Statement
said None = refused 4
said (Some s) = done s

elim_said : {A : Type 0} (found : Option Statement) (next : Statement → Answer A) → elim found [ None ↦ refused 4 | Some s ↦ next s ] ≡ and_then (said found) next
elim_said None next = refl
elim_said (Some s) next = refl

-- the statements, one after the other
pub read_statements_more : (n variables : ℕ) (lengths : List ℕ) (size : ℕ) (bytes : List ℕ)
    → read_statements (suc n) variables lengths (size ∷ bytes)
    ≡ demand (leb size (length bytes)) 4
    (and_then (said (read_record (take size bytes))) λ s.
    demand (declares_statement variables lengths s) 5 (in_front s (read_statements n variables lengths (drop size bytes))))
unfolding read_statements
read_statements_more n variables lengths size bytes =
    elim_demand (leb size (length bytes)) 4 _
    ∙ ap (demand (leb size (length bytes)) 4) (elim_said (read_record (take size bytes)) _ ∙ ap (and_then (said (read_record (take size bytes)))) (fun_ext λ s. elim_demand (declares_statement variables lengths s) 5 _))
