-- A member that is not written now.
use Rattle.std.proofs.Common.{◌≡◌, ℕ, List, Option, Some, None, refl}
use Rattle.serde_json.specs.Data.{Data, Members}
use Rattle.js_call_streams.specs.Overlay.{if_new, kept_member}

-- what is not written now stays where it was not written before either
pub unwritten : (before : Option Data) (k : List ℕ) (d made : Data) (out : Members) → if_new before k d out ≡ kept_member before None k d made out
unwritten None k d made out = refl
unwritten (Some b) k d made out = refl
