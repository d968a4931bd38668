-- The tables as a whole: of no statement, and with what is filled in from the statements one after the other.
use Rattle.std.specs.Prelude.{ℕ, List, length, replicate}
use Rattle.meaning.specs.declared.Statement.{Statement}
use Rattle.facts.specs.declared.Tables.{Tables}
use Rattle.facts.specs.Facts.{stated_facts}
use Rattle.facts.specs.Places.{Named, named_tables, name_places}

abbrev pub no_tables : Tables
no_tables =
    record {
      facts = replicate 512 0;
      numbers = replicate 2570 0;
      writers = replicate 193 0;
      lefts = replicate 193 0;
      rights = replicate 193 0;
    }

abbrev pub with_facts : List Statement → Tables → Tables
with_facts ss t = record t { facts = stated_facts ss (length ss) t.facts }

-- the places of each column in turn: destinations, left operands, right operands
abbrev pub with_writers : ℕ → Tables → Named
with_writers n t = name_places t.facts 0 n (named_tables t.numbers t.writers 0)

abbrev pub with_lefts : ℕ → Tables → Named
with_lefts n t = name_places t.facts 64 n (named_tables (with_writers n t).numbers t.lefts (with_writers n t).given)

abbrev pub with_rights : ℕ → Tables → Named
with_rights n t = name_places t.facts 128 n (named_tables (with_lefts n t).numbers t.rights (with_lefts n t).given)

abbrev pub with_places : ℕ → Tables → Tables
with_places n t =
    record t {
      numbers = (with_rights n t).numbers;
      writers = (with_writers n t).named;
      lefts = (with_lefts n t).named;
      rights = (with_rights n t).named;
    }
