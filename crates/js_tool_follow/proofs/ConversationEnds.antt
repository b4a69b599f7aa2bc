-- How a conversation goes on, and how it ends.
use Rattle.std.proofs.Common.{◌≡◌, inl, inr, ℕ, ◌+◌, ◌≤◌, List, [], ◌∷◌, ◌++◌, length, take, Bool, true, false, OnErr, Option, Some, None, IfSome, Result, Ok, Err, refl, sym, ap, subst, ◌∙◌, append_assoc, append-nil, arith}
use Rattle.std.specs.Prelude.{IsSome, option_map}
use Rattle.std.proofs.KnownBytes.{Appends-nil}
use Rattle.std.proofs.Math.Seq.{take-append-add, take-length}
use Rattle.std.specs.Io.KnownBytes.{Appends}
use Rattle.js_tool_io.specs.Causes.{Rose, AppendsPrefix}
use Rattle.js_tool_io.specs.Lines.{lines_of}
use Rattle.js_tool.specs.declared.status.Status.{Status}
use Rattle.js_tool.specs.declared.status.Status.TheVariants as status
use Rattle.js_tool_transcript.specs.Setup.{setup_line}
use Rattle.js_tool_transcript.specs.Transcript.{numbered}
use Rattle.js_tool.specs.declared.command.FollowOptions.{FollowOptions}
use Rattle.js_tool_follow.specs.declared.answer.Listener.{Listener}
use Rattle.js_tool_follow.specs.declared.incoming_lines.Incoming.TheVariants as incoming
use Rattle.js_tool_follow.specs.Answer.{IsTold, IsEnding, AnswersLine, AnswersEnd}
use Rattle.js_tool_follow.specs.Conversation.{GoesOn, StopsWithin, HasEnded, HasGone, IsCut, all_lines, Stands, StandsOr, Replies, IsReadStop, HasBegun, IsOver}
use Rattle.js_tool_follow.specs.IncomingLines.{IsNext, lines_left}
use Rattle.js_tool_follow.specs.Standing.{Over, opened, standing, said, said_in_all, end_of, answered, text_for, status_for}
use Rattle.js_tool_follow.specs.Peer.{Dialogue, HasRead, HasWritten, Writes}
use Rattle.js_tool_follow.proofs.Calls.{is_punctual}
use Rattle.js_tool_follow.proofs.LinesTold.{none_told, one_told, over_with_rest, prefix_of_all}

-- ---- one text behind another

pub appends_on : (a b c : Option (List ℕ)) (x y : List ℕ) → Appends a b x → Appends b c y → Appends a c (x ++ y)
appends_on None b c x y first second = tt
appends_on (Some a) None c x y first second = absurd first
appends_on (Some a) (Some b) None x y first second = absurd second
appends_on (Some a) (Some b) (Some c) x y first second = second ∙ ap (λ (front : List ℕ). front ++ y) first ∙ append_assoc a x y

prefix_on : (a b c : Option (List ℕ)) (x y : List ℕ) → Appends a b x → AppendsPrefix b c y → AppendsPrefix a c (x ++ y)
prefix_on a b c x y first (k, second) = (length x + k, subst (λ (text : List ℕ). Appends a c text) (sym (take-append-add x y k)) (appends_on a b c x (take k y) first second))

rose_since : (before between now : ℕ) → before ≤ between → Rose between now → Rose before now
rose_since before between now later rose = grind arith

-- ---- counts and ends

pub gone_read : (from mid now : Dialogue) → HasGone from mid → HasRead mid now → HasGone from now
gone_read from mid now gone read = record {
  reads = let a = gone.reads in let b = read.later in omega (arith, a, b);
  writes = let a = gone.writes in subst (λ (n : ℕ). from.write_faults ≤ n) (sym read.write_faults) a;
  place = read.place ∙ gone.place;
}

pub gone_written : (from mid now : Dialogue) → HasGone from mid → HasWritten mid now → HasGone from now
gone_written from mid now gone written = record {
  reads = let a = gone.reads in subst (λ (n : ℕ). from.read_faults ≤ n) (sym written.read_faults) a;
  writes = let a = gone.writes in let b = written.later in omega (arith, a, b);
  place = written.place ∙ gone.place;
}

pub read_twice : (a b c : Dialogue) → HasRead a b → HasRead b c → HasRead a c
read_twice a b c first second = record {
  taken = second.taken ∙ first.taken;
  write_faults = second.write_faults ∙ first.write_faults;
  place = second.place ∙ first.place;
  later = let x = first.later in let y = second.later in omega (arith, x, y);
}

pub written_twice : (a b c : Dialogue) → HasWritten a b → HasWritten b c → HasWritten a c
written_twice a b c first second = record {
  left = second.left ∙ first.left;
  read_faults = second.read_faults ∙ first.read_faults;
  place = second.place ∙ first.place;
  later = let x = first.later in let y = second.later in omega (arith, x, y);
}

pub wrote_twice : {E : Type 0} (a b c : Dialogue) (result : Result ℕ E) (piece : List ℕ) → HasWritten a b → Writes b c result piece → HasWritten a c
wrote_twice a b c result piece first writes =
    written_twice a b c first (record { left = writes.left; read_faults = writes.read_faults; place = writes.place; later = writes.cause.later })

pub stands_read : (asked : FollowOptions) (from mid now : Dialogue) (lines : List (List ℕ)) (left : Option (List (List ℕ))) (listener : Listener) → HasRead mid now → Stands asked from mid lines left listener → Stands asked from now lines left listener
stands_read asked from mid now lines left listener read stands = record {
  gone = gone_read from mid now stands.gone read;
  cut = stands.cut;
  written = subst (λ (taken : Option (List ℕ)). Appends from.taken taken (answered asked lines)) (sym read.taken) stands.written;
  told = stands.told;
}

-- ---- lines

pub cut_line : (all left after : Option (List (List ℕ))) (lines : List (List ℕ)) (line : List ℕ) → IsCut all lines left → IsNext incoming.Line left line after → IsCut all (lines ++ line ∷ []) after
cut_line None left after lines line cut next = tt
cut_line (Some all) None after lines line cut next = absurd cut
cut_line (Some all) (Some left) None lines line cut next = absurd next
cut_line (Some all) (Some left) (Some after) lines line cut next = cut ∙ ap (λ (l : List (List ℕ)). lines ++ l) next ∙ sym (append_assoc lines (line ∷ []) after)

pub cut_last : (all left after : Option (List (List ℕ))) (lines : List (List ℕ)) (line : List ℕ) → IsCut all lines left → IsNext incoming.Last left line after → IsCut all (lines ++ line ∷ []) (Some [])
cut_last None left after lines line cut next = tt
cut_last (Some all) None after lines line cut next = absurd cut
cut_last (Some all) (Some left) after lines line cut next = cut ∙ ap (λ (l : List (List ℕ)). lines ++ l) next ∙ sym (append-nil (lines ++ line ∷ []))

pub cut_end : (all left after : Option (List (List ℕ))) (lines : List (List ℕ)) (line : List ℕ) → IsCut all lines left → IsNext incoming.End left line after → IsCut all lines (Some [])
cut_end None left after lines line cut next = tt
cut_end (Some all) None after lines line cut next = absurd cut
cut_end (Some all) (Some left) after lines line cut next = cut ∙ ap (λ (l : List (List ℕ)). lines ++ l) next

-- ---- where the input tells its bytes

by_bytes : (known : Option (List ℕ)) (lines : List (List ℕ)) (left : Option (List (List ℕ))) (P : List (List ℕ) → Type 0) → IsCut (option_map lines_of known) lines left
    → ((all rest : List (List ℕ)) → all ≡ lines ++ rest → P all) → IfSome known (λ bytes. P (lines_of bytes))
by_bytes None lines left P cut p = tt
by_bytes (Some bytes) lines None P cut p = absurd cut
by_bytes (Some bytes) lines (Some rest) P cut p = p (lines_of bytes) rest cut

by_all : (known : Option (List ℕ)) (lines : List (List ℕ)) (P : List (List ℕ) → Type 0) → IsCut (option_map lines_of known) lines (Some []) → P lines → IfSome known (λ bytes. P (lines_of bytes))
by_all None lines P cut p = tt
by_all (Some bytes) lines P cut p = subst P (sym (cut ∙ append-nil lines)) p

going : (asked : FollowOptions) (lines : List (List ℕ)) (listener : Listener) → IsTold asked lines listener → GoesOn (standing asked lines)
going asked lines listener told = subst GoesOn (sym told.stands) tt

pub appends_same : (a b : Option (List ℕ)) → b ≡ a → Appends a b []
appends_same a b same = subst (λ (x : Option (List ℕ)). Appends a x []) (sym same) (Appends-nil a)

-- exactly the answer to the lines so far was written
pub stops : (asked : FollowOptions) (from now : Dialogue) (lines : List (List ℕ)) (left : Option (List (List ℕ))) → IsCut (all_lines from) lines left → GoesOn (standing asked lines) → Appends from.taken now.taken (answered asked lines)
    → IfSome from.left (λ bytes. StopsWithin asked (lines_of bytes) from.taken now.taken)
stops asked from now lines left cut goes written =
    by_bytes from.left lines left (λ all. StopsWithin asked all from.taken now.taken) cut (λ all rest is. record { front = lines; rest = rest; cut = is; goes_on = goes; written = written })

pub stands_stops : (asked : FollowOptions) (from now : Dialogue) (lines : List (List ℕ)) (left : Option (List (List ℕ))) (listener : Listener) → Stands asked from now lines left listener
    → IfSome from.left (λ bytes. StopsWithin asked (lines_of bytes) from.taken now.taken)
stands_stops asked from now lines left listener stands = stops asked from now lines left stands.cut (going asked lines listener stands.told) stands.written

-- nothing was said yet
pub says_nothing : (asked : FollowOptions) (from now : Dialogue) → now.taken ≡ from.taken → IfSome from.left (λ bytes. StopsWithin asked (lines_of bytes) from.taken now.taken)
says_nothing asked from now same = by_known from.left
  where
    by_known : (known : Option (List ℕ)) → IfSome known (λ bytes. StopsWithin asked (lines_of bytes) from.taken now.taken)
    by_known None = tt
    by_known (Some bytes) = record {
      front = [];
      rest = lines_of bytes;
      cut = refl;
      goes_on = subst GoesOn (sym (none_told asked)) tt;
      written = subst (λ (t : List ℕ). Appends from.taken now.taken t) (sym (ap (said asked) (none_told asked))) (appends_same from.taken now.taken same);
    }

pub out_of_memory : (asked : FollowOptions) (from now : Dialogue) → HasGone from now → IfSome from.left (λ bytes. StopsWithin asked (lines_of bytes) from.taken now.taken) → HasEnded asked from now status.OutOfMemory
out_of_memory asked from now gone within = record { told = within; read_fault = λ is. absurd (cc); write_fault = λ is. absurd (cc); place = gone.place }

pub read_fails : (asked : FollowOptions) (from now : Dialogue) → HasGone from now → Rose from.read_faults now.read_faults → IfSome from.left (λ bytes. StopsWithin asked (lines_of bytes) from.taken now.taken) → HasEnded asked from now status.ReadFault
read_fails asked from now gone rose within = record { told = within; read_fault = λ is. rose; write_fault = λ is. absurd (cc); place = gone.place }

pub write_fails : (asked : FollowOptions) (from mid now : Dialogue) (lines : List (List ℕ)) (left : Option (List (List ℕ))) (before text : List ℕ) → HasGone from mid → HasWritten mid now → IsCut (all_lines from) lines left
    → Appends from.taken mid.taken before → answered asked lines ≡ before ++ text → AppendsPrefix mid.taken now.taken text → Rose mid.write_faults now.write_faults → HasEnded asked from now status.WriteFault
write_fails asked from mid now lines left before text gone written cut appends says front rose = record {
  told = by_bytes from.left lines left (λ all. AppendsPrefix from.taken now.taken (text_for asked all)) cut (λ all rest is.
      prefix_of_all asked from.taken now.taken all lines rest is (subst (λ (t : List ℕ). AppendsPrefix from.taken now.taken t) (sym says) (prefix_on from.taken mid.taken now.taken before text appends front)));
  read_fault = λ is. absurd (cc);
  write_fault = λ is. rose_since from.write_faults mid.write_faults now.write_faults gone.writes rose;
  place = written.place ∙ gone.place;
}

-- a status with which it is over by itself
ends_with : (asked : FollowOptions) (from now : Dialogue) (s : Status) → IsEnding s → HasGone from now → IfSome from.left (λ bytes. (status_for asked (lines_of bytes) ≡ s) × Appends from.taken now.taken (text_for asked (lines_of bytes))) → HasEnded asked from now s
ends_with asked from now status.Done ending gone told = record { told = told; read_fault = λ is. absurd (cc); write_fault = λ is. absurd (cc); place = gone.place }
ends_with asked from now status.Refused ending gone told = record { told = told; read_fault = λ is. absurd (cc); write_fault = λ is. absurd (cc); place = gone.place }
ends_with asked from now (status.BadLine n) ending gone told = record { told = told; read_fault = λ is. absurd (cc); write_fault = λ is. absurd (cc); place = gone.place }
ends_with asked from now status.ReadFault ending gone told = absurd ending
ends_with asked from now status.WriteFault ending gone told = absurd ending
ends_with asked from now status.OutOfMemory ending gone told = absurd ending
ends_with asked from now status.Usage ending gone told = absurd ending
ends_with asked from now status.TooLong ending gone told = absurd ending

pub is_over : (asked : FollowOptions) (from now : Dialogue) (lines : List (List ℕ)) (left : Option (List (List ℕ))) (text : List ℕ) (s : Status) → HasGone from now → IsCut (all_lines from) lines left → standing asked lines ≡ Over text s → IsEnding s
    → Appends from.taken now.taken text → HasEnded asked from now s
is_over asked from now lines left text s gone cut over ending written =
    ends_with asked from now s ending gone (by_bytes from.left lines left (λ all. (status_for asked all ≡ s) × Appends from.taken now.taken (text_for asked all)) cut (λ all rest is.
    let whole : standing asked all ≡ Over text s = ap (standing asked) is ∙ over_with_rest asked lines rest text s over in
    (ap end_of whole, subst (λ (t : List ℕ). Appends from.taken now.taken t) (sym (ap (said_in_all asked) whole)) written)))

-- ---- an answer was written, or a front of it

pub says_in : (asked : FollowOptions) (before text : List ℕ) (lines : List (List ℕ)) (ending : Option Status) (listener : Listener) → AnswersLine asked before lines text ending listener → answered asked lines ≡ before ++ text
says_in asked before text lines None listener (says, told) = says
says_in asked before text lines (Some s) listener (over, ending) = ap (said asked) over

pub replied : (asked : FollowOptions) (from mid now : Dialogue) (lines : List (List ℕ)) (left : Option (List (List ℕ))) (before text : List ℕ) (ending result : Option Status) (listener : Listener) → HasGone from mid → HasWritten mid now
    → IsCut (all_lines from) lines left → Appends from.taken mid.taken before → AnswersLine asked before lines text ending listener → Replies mid now text ending result → StandsOr asked from now lines left listener result
replied asked from mid now lines left before text ending result listener gone written cut appends answers (inr (is, front, rose)) =
    subst (λ (r : Option Status). StandsOr asked from now lines left listener r) (sym is) (write_fails asked from mid now lines left before text gone written cut appends (says_in asked before text lines ending listener answers) front rose)
replied asked from mid now lines left before text ending result listener gone written cut appends answers (inl (is, whole)) =
    subst (λ (r : Option Status). StandsOr asked from now lines left listener r) (sym is) (by_ending ending answers)
  where
    all_written : Appends from.taken now.taken (before ++ text)
    all_written = appends_on from.taken mid.taken now.taken before text appends whole

    by_ending : (e : Option Status) → AnswersLine asked before lines text e listener → StandsOr asked from now lines left listener e
    by_ending None (says, told) = record {
      gone = gone_written from mid now gone written;
      cut = cut;
      written = subst (λ (t : List ℕ). Appends from.taken now.taken t) (sym says) all_written;
      told = told;
    }
    by_ending (Some s) (over, is_ending) = is_over asked from now lines left (before ++ text) s (gone_written from mid now gone written) cut over is_ending all_written

-- ---- the end of the lines

pub finished : (asked : FollowOptions) (from mid now : Dialogue) (lines : List (List ℕ)) (left : Option (List (List ℕ))) (text : List ℕ) (ending : Option Status) (s : Status) (listener : Listener) → Stands asked from mid lines left listener → HasWritten mid now
    → IsCut (all_lines from) lines (Some []) → AnswersEnd asked lines text ending → Replies mid now text ending (Some s) → HasEnded asked from now s
finished asked from mid now lines left text None s listener stands written cut never replies = absurd never
finished asked from mid now lines left text (Some e) s listener stands written cut (says, ends, done) (inl (is, whole)) =
    let same : s ≡ e = cc in
    subst (λ (x : Status). HasEnded asked from now x) (sym (same ∙ done))
    (ends_with asked from now status.Done tt (gone_written from mid now stands.gone written)
    (by_all from.left lines (λ all. (status_for asked all ≡ status.Done) × Appends from.taken now.taken (text_for asked all)) cut
    (ends ∙ done, subst (λ (t : List ℕ). Appends from.taken now.taken t) (sym says) (appends_on from.taken mid.taken now.taken (answered asked lines) text stands.written whole))))
finished asked from mid now lines left text (Some e) s listener stands written cut (says, ends, done) (inr (is, front, rose)) =
    let same : s ≡ status.WriteFault = cc in
    subst (λ (x : Status). HasEnded asked from now x) (sym same) (record {
      told = by_all from.left lines (λ all. AppendsPrefix from.taken now.taken (text_for asked all)) cut
          (subst (λ (t : List ℕ). AppendsPrefix from.taken now.taken t) (sym says) (prefix_on from.taken mid.taken now.taken (answered asked lines) text stands.written front));
      read_fault = λ is_read. absurd (cc);
      write_fault = λ is_write. rose_since from.write_faults mid.write_faults now.write_faults stands.gone.writes rose;
      place = written.place ∙ stands.gone.place;
    })

-- no answer is missing there
pub has_ending : (old new : Dialogue) (text : List ℕ) (ending : Option Status) → IsSome ending → Replies old new text ending None → ⊥
has_ending old new text None over replies = cc
has_ending old new text (Some e) over (inl (is, whole)) = cc
has_ending old new text (Some e) over (inr (is, front, rose)) = cc

-- an answer behind which it goes on has no ending
pub has_no_ending : (old new : Dialogue) (text : List ℕ) (ending result : Option Status) → Replies old new text ending result → result ≡ None → ending ≡ None
has_no_ending old new text ending result (inl (is, whole)) none = sym is ∙ none
has_no_ending old new text ending result (inr (is, front, rose)) none = absurd (cc)

-- no line was read
pub read_stops : (asked : FollowOptions) (from now : Dialogue) (s : Status) → IsReadStop s → (s ≡ status.ReadFault → Rose from.read_faults now.read_faults) → HasGone from now → IfSome from.left (λ bytes. StopsWithin asked (lines_of bytes) from.taken now.taken)
    → HasEnded asked from now s
read_stops asked from now s (inl is) rose gone within = subst (λ (x : Status). HasEnded asked from now x) (sym is) (read_fails asked from now gone (rose is) within)
read_stops asked from now s (inr is) rose gone within = subst (λ (x : Status). HasEnded asked from now x) (sym is) (out_of_memory asked from now gone within)

-- an input of no lines
pub no_lines : (asked : FollowOptions) (from now : Dialogue) → HasGone from now → now.taken ≡ from.taken → IsCut (all_lines from) [] (Some []) → HasEnded asked from now (status.BadLine 1)
no_lines asked from now gone same cut =
    ends_with asked from now (status.BadLine 1) tt gone (by_all from.left [] (λ all. (status_for asked all ≡ status.BadLine 1) × Appends from.taken now.taken (text_for asked all)) cut
    (ap end_of (none_told asked), subst (λ (t : List ℕ). Appends from.taken now.taken t) (sym (ap (said_in_all asked) (none_told asked))) (appends_same from.taken now.taken same)))

-- a first line that is no setup
pub no_setup : (asked : FollowOptions) (from now : Dialogue) (line : List ℕ) (left : Option (List (List ℕ))) (n : ℕ) → HasGone from now → now.taken ≡ from.taken → IsCut (all_lines from) (line ∷ []) left → numbered 1 (setup_line line) ≡ Err n
    → HasEnded asked from now (status.BadLine n)
no_setup asked from now line left n gone same cut fails =
    is_over asked from now (line ∷ []) left [] (status.BadLine n) gone cut (one_told asked line ∙ ap opened fails) tt (appends_same from.taken now.taken same)

-- the whole text was written, which is a front of it
pub whole_before_error : {T E : Type 0} (result : Result T E) (a b c : Option (List ℕ)) (text : List ℕ) → Appends a b text → c ≡ b → OnErr result (AppendsPrefix a c text)
whole_before_error (Ok done) a b c text appends same = tt
whole_before_error (Err e) a b c text appends same =
    (length text, subst (λ (x : Option (List ℕ)). Appends a x (take (length text) text)) (sym same) (subst (λ (t : List ℕ). Appends a b t) (sym (take-length text)) appends))

-- memory ran out behind a first line
pub begun_stops : (asked : FollowOptions) (from now : Dialogue) (more : Bool) (line held : List ℕ) → HasBegun asked from now more line held → IsOver asked from now status.OutOfMemory
begun_stops asked from now true line held (gone, same, cut, heard) = record {
  ended = out_of_memory asked from now gone (says_nothing asked from now same);
  punctual = λ none. is_punctual asked (line ∷ []) held [] [] now.turns (heard none);
}
begun_stops asked from now false line held (gone, same, cut, punctual) = record { ended = out_of_memory asked from now gone (says_nothing asked from now same); punctual = punctual }

-- or it does not read
pub begun_unread : (asked : FollowOptions) (from now : Dialogue) (more : Bool) (line held : List ℕ) (n : ℕ) → HasBegun asked from now more line held → numbered 1 (setup_line line) ≡ Err n → IsOver asked from now (status.BadLine n)
begun_unread asked from now true line held n (gone, same, cut, heard) fails = record {
  ended = no_setup asked from now line (lines_left held now.left) n gone same cut fails;
  punctual = λ none. is_punctual asked (line ∷ []) held [] [] now.turns (heard none);
}
begun_unread asked from now false line held n (gone, same, cut, punctual) fails = record { ended = no_setup asked from now line (Some []) n gone same cut fails; punctual = punctual }
