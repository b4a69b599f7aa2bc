-- A header is two items.
use Rattle.std.proofs.Common.{◌≡◌, List, [], ◌∷◌, length, Err, refl, arith}
use Rattle.serde_json.specs.View.{items_view}
use Rattle.serde_json.specs.declared.value.Value.{Value}
use Rattle.js_json_members.specs.declared.key.Key.{Key}
use Rattle.js_json_members.specs.declared.error.ReadError.TheVariants.{WrongKind}
use Rattle.js_tool_transcript.specs.Message.{header_of}

pub wrong_count : (key : Key) (values : List Value) → (length values ≡ 2 → ⊥) → header_of key (items_view values) ≡ Err (WrongKind key)
wrong_count key [] other = refl
wrong_count key (a ∷ []) other = refl
wrong_count key (a ∷ b ∷ []) other = absurd (other (omega arith))
wrong_count key (a ∷ b ∷ c ∷ values) other = refl
