-- The text that is kept of a value.
use Rattle.std.specs.Prelude.{ℕ, ◌≡◌, ◌≤◌, false, List, Some}
use Rattle.serde_json.specs.Data.{Data, depth}
use Rattle.serde_json.specs.Read.{read, max_depth}
use Rattle.serde_json.specs.Written.{has_float, compact_text}

-- no float stands in the value, the text is its compact one, and reads as it unless it is deeper than a reader goes
pub record IsKeptOf (kept : List ℕ) (value : Data) : Type 0 where
  pub plain : has_float value ≡ false
  pub text : kept ≡ compact_text value
  pub reads : depth value ≤ max_depth → read kept ≡ Some value
