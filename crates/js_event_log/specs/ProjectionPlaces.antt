-- Where the last entry of each subject stands in a list of entries.
use Rattle.std.specs.Prelude.{◌≡◌, ℕ, ◌<◌, cond, List, length, map, Option, Some, None, IfSome, String, string_bytes}
use Rattle.std.specs.List.{slice_get, filter_map}
use Rattle.std.specs.Option.{option_and_then}
use Rattle.std.specs.Ordering.{nat_cmp}
use Rattle.std.specs.Map.{lookup}
use Rattle.std.specs.BTreeMap.{is_at}
use Rattle.std.specs.Cmp.Lexicographic.{slice_cmp}
use Rattle.std.specs.declared.alloc.Global.{Global}
use Rattle.js_base.specs.declared.message.Entry.{Entry}
use Rattle.js_base.specs.Subject.{subject_matches}
use Rattle.js_event_log.specs.Projection.{subjects_of, last_of, present}

-- places by subject, counted from 0
abbrev pub Places : Type 0
Places = List (String Global × ℕ)

-- the subjects of the places, in their order
abbrev pub names : Places → List (List ℕ)
names places = map (λ (p : String Global × ℕ). string_bytes p.0) places

-- the place of a subject
abbrev pub place_of : List ℕ → Places → Option ℕ
place_of subject places = lookup (is_at (λ (name : String Global). slice_cmp nat_cmp subject (string_bytes name))) places

-- the places are those of the last entry of each subject
pub record IsPlaced (places : Places) (entries : List Entry) : Type 0 where
  pub subjects : names places ≡ subjects_of entries
  pub last : (subject : List ℕ) → option_and_then (slice_get entries) (place_of subject places) ≡ last_of subject entries
  pub within : (subject : List ℕ) → IfSome (place_of subject places) (λ place. place < length entries)

-- an entry that is matched
abbrev pub kept : List ℕ → Option Entry → Option Entry
kept pattern None = None
kept pattern (Some entry) = cond (subject_matches pattern entry.subject) (Some entry) None

-- an entry that is present and matched
abbrev pub shown : List ℕ → Option Entry → Option Entry
shown pattern entry = kept pattern (present entry)

-- the entries at the places that are present and matched
abbrev pub rows_at : List ℕ → List Entry → Places → List Entry
rows_at pattern entries places = filter_map (λ (p : String Global × ℕ). shown pattern (slice_get entries p.1)) places
