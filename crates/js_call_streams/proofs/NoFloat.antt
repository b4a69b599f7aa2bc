-- No float stands in what is written over a value, where none stands in the value nor in what is written.
use Rattle.std.proofs.Common.{◌≡◌, refl, ℕ, List, Bool, true, false, ◌||◌, true≢false, if◌then◌else◌, Option, Some, None}
use Rattle.std.proofs.Common.{nat_cmp, Ordering, Less, Equal, Greater, subst, sym}
use Rattle.std.specs.Ordering.{match_ordering}
use Rattle.std.specs.Cmp.Lexicographic.{slice_cmp}
use Rattle.serde_json.specs.Data.{Data, null, boolean, number, string, array, object, Members, no_members, member, put}
use Rattle.serde_json.specs.Find.{get, get_member}
use Rattle.serde_json.specs.Written.{has_float, members_have_float}
use Rattle.js_call_streams.specs.Overlay.{member_or, if_new, with_new, kept_member, is_same, changed_over, members_over, over}

-- no float stands in the value
abbrev IsPlain : Data → Type 0
IsPlain d = has_float d ≡ false

-- nor in any of the members
abbrev ArePlain : Members → Type 0
ArePlain ms = members_have_float ms ≡ false

both_false : (a b : Bool) → a ≡ false → b ≡ false → (a || b) ≡ false
both_false a b p q = rw (p, q) refl

first_false : (a b : Bool) → (a || b) ≡ false → a ≡ false
first_false false b e = refl
first_false true b e = e

second_false : (a b : Bool) → (a || b) ≡ false → b ≡ false
second_false false b e = e
second_false true b e = absurd (true≢false e)

if_plain : (b : Bool) (x y : Data) → IsPlain x → IsPlain y → IsPlain (if b then x else y)
if_plain true x y p q = p
if_plain false x y p q = q

-- ---- a member that is looked up

-- where there is one
abbrev IsPlainMember : Option Data → Type 0
IsPlainMember found = IsPlain (member_or found null)

one_of_plain : (o : Ordering) (a b c : Option Data) → IsPlainMember a → IsPlainMember b → IsPlainMember c → IsPlainMember (match_ordering o a b c)
one_of_plain Less a b c p q r = p
one_of_plain Equal a b c p q r = q
one_of_plain Greater a b c p q r = r

member_plain : (k : List ℕ) (ms : Members) → ArePlain ms → IsPlainMember (get_member k ms)
member_plain k no_members p = refl
member_plain k (member l e ms) p =
    let here = first_false (has_float e) (members_have_float ms) p in
    let rest = member_plain k ms (second_false (has_float e) (members_have_float ms) p) in
    one_of_plain (slice_cmp nat_cmp k l) (get_member k ms) (Some e) (get_member k ms) rest here rest

found_plain : (k : List ℕ) (d : Data) → IsPlain d → IsPlainMember (get k d)
found_plain k null p = refl
found_plain k (boolean b) p = refl
found_plain k (number n) p = refl
found_plain k (string s) p = refl
found_plain k (array ds) p = refl
found_plain k (object ms) p = member_plain k ms p

-- ---- members that are put

at_place : (o : Ordering) (a b c : Members) → ArePlain a → ArePlain b → ArePlain c → ArePlain (match_ordering o a b c)
at_place Less a b c p q r = p
at_place Equal a b c p q r = q
at_place Greater a b c p q r = r

put_plain : (k : List ℕ) (d : Data) (ms : Members) → IsPlain d → ArePlain ms → ArePlain (put k d ms)
put_plain k d no_members p q = both_false _ _ p refl
put_plain k d (member l e ms) p q =
    let here = first_false (has_float e) (members_have_float ms) q in
    let rest = second_false (has_float e) (members_have_float ms) q in
    at_place (slice_cmp nat_cmp k l) (member k d (member l e ms)) (member l d ms) (member l e (put k d ms))
    (both_false _ _ p q) (both_false _ _ p rest) (both_false _ _ here (put_plain k d ms p rest))

new_plain : (found : Option Data) (k : List ℕ) (d : Data) (out : Members) → IsPlain d → ArePlain out → ArePlain (if_new found k d out)
new_plain None k d out p q = put_plain k d out p q
new_plain (Some e) k d out p q = q

all_new_plain : (kept : Data) (changed out : Members) → ArePlain changed → ArePlain out → ArePlain (with_new kept changed out)
all_new_plain kept no_members out p q = q
all_new_plain kept (member k d ms) out p q =
    let here = first_false (has_float d) (members_have_float ms) p in
    let rest = second_false (has_float d) (members_have_float ms) p in
    all_new_plain kept ms (if_new (get k kept) k d out) rest (new_plain (get k kept) k d out here q)

kept_plain : (before after : Option Data) (k : List ℕ) (d made : Data) (out : Members) → IsPlain d → IsPlain made → ArePlain out
    → ArePlain (kept_member before after k d made out)
kept_plain None (Some a) k d made out p q r = put_plain k made out q r
kept_plain (Some b) (Some a) k d made out p q r = put_plain k made out q r
kept_plain (Some b) None k d made out p q r = r
kept_plain None None k d made out p q r = put_plain k d out p r

-- ---- what is written over a value

mutual
  changed_plain : (kept before after : Data) → IsPlain kept → IsPlain after → IsPlain (changed_over kept before after)
  changed_plain null before after p q = q
  changed_plain (boolean b) before after p q = q
  changed_plain (number n) before after p q = q
  changed_plain (string s) before after p q = q
  changed_plain (array ds) before after p q = q
  changed_plain (object ms) before null p q = q
  changed_plain (object ms) before (boolean b) p q = q
  changed_plain (object ms) before (number n) p q = q
  changed_plain (object ms) before (string s) p q = q
  changed_plain (object ms) before (array ds) p q = q
  changed_plain (object ms) before (object changed) p q =
      all_new_plain (object ms) changed (members_over ms before (object changed) no_members) q
      (members_plain ms before (object changed) no_members p q refl)

  members_plain : (ms : Members) (before after : Data) (out : Members) → ArePlain ms → IsPlain after → ArePlain out
      → ArePlain (members_over ms before after out)
  members_plain no_members before after out p q r = r
  members_plain (member k d ms) before after out p q r =
      let here = first_false (has_float d) (members_have_float ms) p in
      let rest = second_false (has_float d) (members_have_float ms) p in
      let was = member_or (get k before) null in
      let now = member_or (get k after) null in
      let made = if is_same was now then d else changed_over d was now in
      let plain = if_plain (is_same was now) d (changed_over d was now) here (changed_plain d was now here (found_plain k after q)) in
      members_plain ms before after (kept_member (get k before) (get k after) k d made out) rest q
      (kept_plain (get k before) (get k after) k d made out here plain r)

-- so what is sent has a text
pub over_plain : (sent kept before after : Data) → has_float kept ≡ false → has_float after ≡ false → sent ≡ over kept before after
    → has_float sent ≡ false
over_plain sent kept before after p q is =
    subst IsPlain (sym is) (if_plain (is_same before after) kept (changed_over kept before after) p (changed_plain kept before after p q))
