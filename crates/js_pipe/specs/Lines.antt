-- The lines that the program writes to standard output.
use Rattle.std.specs.Prelude.{◌≡◌, ℕ, List, ◌++◌, Option, None, Some, codes, refl}
use Rattle.std.specs.Fmt.{decimal, digits}

-- a message: its stream sequence, its subject, and its payload as it came
abbrev pub message_line : ℕ → List ℕ → List ℕ → List ℕ
message_line sequence subject payload = ((decimal sequence ++ (codes " " ++ (subject ++ codes " "))) ++ payload) ++ codes "\n"

-- message 7 of the subject "news.a", with the payload "one"
a_message : message_line 7 (codes "news.a") (codes "one") ≡ codes "7 news.a one\n"
unfolding digits
a_message = refl

-- the outcome of a line: its number, and the stream sequence that it is stored under, or that it is not known to be stored
abbrev pub outcome_line : ℕ → Option ℕ → List ℕ
outcome_line number (Some sequence) = decimal number ++ (codes " " ++ (decimal sequence ++ codes "\n"))
outcome_line number None = decimal number ++ codes " failed\n"

-- line 2 is stored as message 41
a_stored_line : outcome_line 2 (Some 41) ≡ codes "2 41\n"
unfolding digits
a_stored_line = refl

-- line 3 has no acknowledgement
a_failed_line : outcome_line 3 None ≡ codes "3 failed\n"
unfolding digits
a_failed_line = refl
