-- How far bytes have been taken: what clauses on a run of bytes always speak of together.
use Rattle.std.specs.Prelude.{ℕ, List}
use Rattle.anstyle_parse.specs.declared.parser.Parser.{Parser}

-- the parser as it stands, the performer as it has been called, and the bytes that are left to take
pub record Stage (C P : Type 0) : Type 0 where
  pub parser : Parser C
  pub performer : P
  pub left : List ℕ

abbrev pub stage : {C P : Type 0} → Parser C → P → List ℕ → Stage C P
stage parser performer left = record { parser = parser; performer = performer; left = left }
