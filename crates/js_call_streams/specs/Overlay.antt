-- What is written over an object that was read.
use Rattle.std.specs.Prelude.{List, ℕ, Bool, false, ◌||◌, Option, Some, None, if◌then◌else◌}
use Rattle.std.specs.Str.{bytes_eq}
use Rattle.serde_json.specs.Data.{Data, null, object, Members, no_members, member, put}
use Rattle.serde_json.specs.Find.{get}
use Rattle.serde_json.specs.Written.{has_float, compact_text}

-- a member, or what stands in its place where there is none
abbrev pub member_or : Option Data → Data → Data
member_or None nothing = nothing
member_or (Some d) nothing = d

-- a member is added where there was none
abbrev pub if_new : Option Data → List ℕ → Data → Members → Members
if_new None k d out = put k d out
if_new (Some e) k d out = out

-- with the members that are new
abbrev pub with_new : Data → Members → Members → Members
with_new kept no_members out = out
with_new kept (member k d ms) out = with_new kept ms (if_new (get k kept) k d out)

-- A member that was kept, by what was written of it before and what is written now: what is made of it where it is written, nothing
-- where it is no longer written, and itself where it never was.
abbrev pub kept_member : Option Data → Option Data → List ℕ → Data → Data → Members → Members
kept_member before (Some a) k d made out = put k made out
kept_member (Some b) None k d made out = out
kept_member None None k d made out = put k d out

-- two values in which no float stands have one compact text
abbrev pub is_same : Data → Data → Bool
is_same before after = if has_float before || has_float after then false else bytes_eq (compact_text before) (compact_text after)

abbrev mutual
  -- what is written over a value where it is not written as before: an object's members go over its own, and another value stands
  -- in its place
  pub changed_over : Data → Data → Data → Data
  changed_over (object ms) before (object changed) = object (with_new (object ms) changed (members_over ms before (object changed) no_members))
  changed_over kept before after = after

  -- the members that were kept, each with what is written over it
  pub members_over : Members → Data → Data → Members → Members
  members_over no_members before after out = out
  members_over (member k d ms) before after out =
      let was = member_or (get k before) null in
      let now = member_or (get k after) null in
      members_over ms before after (kept_member (get k before) (get k after) k d (if is_same was now then d else changed_over d was now) out)

-- what is written over a value: where it is written as before, the value stays as it was kept
abbrev pub over : Data → Data → Data → Data
over kept before after = if is_same before after then kept else changed_over kept before after

-- ---- a worked text

-- the same of texts, where all three read
abbrev pub text_of_over : Option Data → Option Data → Option Data → Option (List ℕ)
text_of_over (Some kept) (Some before) (Some after) = Some (compact_text (over kept before after))
text_of_over (Some kept) (Some before) None = None
text_of_over (Some kept) None after = None
text_of_over None before after = None
