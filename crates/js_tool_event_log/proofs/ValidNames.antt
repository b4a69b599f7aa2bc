-- The names that words ask for are valid.
use Rattle.std.proofs.Common.{◌≡◌, ℕ, List, [], ◌∷◌, codes, Bool, true, false, ◌&&◌, Option, Some, None, IfSome, refl, subst, sym}
use Rattle.std.specs.Prelude.{option_and_then, if◌then◌else◌}
use Rattle.std.specs.Str.{bytes_eq}
use Rattle.js_base.specs.Subject.{is_valid_subject}
use Rattle.js_codes.specs.Name.{is_name}
use Rattle.js_tool.specs.Command.{number_of}
use Rattle.js_tool.specs.LogCommand.{Wanted, Project, Mirror, Relay, HasNames, project_of, project_up_to, relay_of, three_words, wanted_of}

abbrev AreNamed : Option Wanted → Type 0
AreNamed found = IfSome found HasNames

named_if : (b : Bool) (one other : Option Wanted) → AreNamed one → AreNamed other → AreNamed (if b then one else other)
named_if true one other is is_other = is
named_if false one other is is_other = is_other

project_named : (filter : List ℕ) (sequence : Option ℕ) → AreNamed (project_of filter sequence)
unfolding project_of
project_named filter sequence = named_if (is_valid_subject filter) (Some (Project filter sequence)) None tt tt

up_to_named : (filter word : List ℕ) → AreNamed (project_up_to filter word)
unfolding project_up_to
up_to_named filter word = by_number (number_of word)
  where
    by_number : (sequence : Option ℕ) → AreNamed (option_and_then (λ sequence. project_of filter (Some sequence)) sequence)
    by_number None = tt
    by_number (Some sequence) = project_named filter (Some sequence)

relay_named : (stream name : List ℕ) → AreNamed (relay_of stream name)
unfolding relay_of
relay_named stream name = by_tests (is_name stream) refl (is_name name) refl
  where
    by_tests : (one : Bool) → is_name stream ≡ one → (other : Bool) → is_name name ≡ other → AreNamed (if one && other then Some (Relay stream name) else None)
    by_tests true is true is_too = (is, is_too)
    by_tests true is false not_too = tt
    by_tests false not true is_too = tt
    by_tests false not false not_too = tt

all_named : (words : List (List ℕ)) → AreNamed (wanted_of words)
unfolding three_words
all_named [] = tt
all_named (name ∷ []) = named_if (bytes_eq name (codes "mirror")) (Some Mirror) None tt tt
all_named (name ∷ filter ∷ []) = named_if (bytes_eq name (codes "project")) (project_of filter None) None (project_named filter None) tt
all_named (name ∷ first ∷ second ∷ []) =
    named_if (bytes_eq name (codes "project")) (project_up_to first second) (if bytes_eq name (codes "relay") then relay_of first second else None) (up_to_named first second)
    (named_if (bytes_eq name (codes "relay")) (relay_of first second) None (relay_named first second) tt)
all_named (name ∷ first ∷ second ∷ third ∷ words) = tt

-- so the names of a command that words ask for are valid
pub names_of : (words : List (List ℕ)) (command : Wanted) → Some command ≡ wanted_of words → HasNames command
names_of words command is = subst (λ (found : Option Wanted). AreNamed found) (sym is) (all_named words)
