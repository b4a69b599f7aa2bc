-- An object that has no keys but these has none of another name.
use Rattle.std.proofs.Common.{◌≡◌, ℕ, Bool, true, false, List, Option, Some, None, Ordering, Less, Equal, Greater, is_eq, bytes_eq, true≢false, refl, sym, ap, ◌∙◌}
use Rattle.std.specs.Cmp.Lexicographic.{slice_cmp}
use Rattle.std.specs.Ordering.{nat_cmp, match_ordering}
use Rattle.std.proofs.lemmas.Bool.{and_parts}
use Rattle.std.proofs.lemmas.Map.Text.{is_eq-slice_cmp}
use Rattle.std.proofs.lemmas.Slice.Eq.{bytes_eq-Decides}
use Rattle.serde_json.specs.Data.{Data, null, boolean, number, string, array, object, Members, no_members, member}
use Rattle.serde_json.specs.Find.{get, get_member}
use Rattle.js_json_members.specs.declared.key.Key.{Key}
use Rattle.js_json_members.specs.Value.{is_among, members_only, has_only}

either : (o : Ordering) (a b : Option Data) → is_eq o ≡ false → match_ordering o a b a ≡ a
either Less a b e = refl
either Equal a b e = absurd (true≢false e)
either Greater a b e = refl

differ : (xs ys : List ℕ) (b : Bool) → bytes_eq xs ys ≡ b → (xs ≡ ys → ⊥) → b ≡ false
differ xs ys true e other = absurd (other ((bytes_eq-Decides xs ys).0 e))
differ xs ys false e other = refl

apart : (keys : List Key) (name text : List ℕ) → is_among keys name ≡ true → is_among keys text ≡ false → text ≡ name → ⊥
apart keys name text among other same = true≢false (sym among ∙ ap (is_among keys) (sym same) ∙ other)

member_other : (keys : List Key) (text : List ℕ) (ms : Members) → members_only keys ms ≡ true → is_among keys text ≡ false → get_member text ms ≡ None
member_other keys text no_members only other = refl
member_other keys text (member name d ms) only other =
    let parts = and_parts _ _ only in
    either (slice_cmp nat_cmp text name) (get_member text ms) (Some d) (is_eq-slice_cmp text name ∙ differ text name _ refl (apart keys name text parts.0 other))
    ∙ member_other keys text ms parts.1 other

-- where there are no keys but these, there is none of another name
pub get_other : (keys : List Key) (text : List ℕ) (d : Data) → has_only keys d ≡ true → is_among keys text ≡ false → get text d ≡ None
get_other keys text null only other = refl
get_other keys text (boolean b) only other = refl
get_other keys text (number n) only other = refl
get_other keys text (string s) only other = refl
get_other keys text (array ds) only other = refl
get_other keys text (object ms) only other = member_other keys text ms only other
