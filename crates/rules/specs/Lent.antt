-- The tables as a call gets them: any bytes, in either form. What they mean is `tables_of` of the crate `tables`, and nothing else of them
-- is asked.
use Rattle.std.specs.Prelude.{List, ℕ}
use Rattle.tables.specs.Tables.{Tables, tables_of}

pub record Lent : Type 0 where
  pub form : ℕ
  pub keys : List ℕ
  pub md5 : List ℕ

abbrev pub tables : Lent → Tables
tables b = tables_of b.form b.keys b.md5
