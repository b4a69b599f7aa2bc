-- How one row of a table is passed: at a moment, and with what the link does at the one send that the row may make.
use Rattle.std.specs.Prelude.{ℕ, Bool, List}

-- the moment of a row, and what its send comes to
pub record RowInput : Type 0 where
  pub now : ℕ
  pub up : Bool  -- a send goes through
  pub request : ℕ  -- the number of a request that is made
  pub inbox : ℕ  -- the number of an inbox that is opened,
  pub subject : List ℕ  -- and its subject
