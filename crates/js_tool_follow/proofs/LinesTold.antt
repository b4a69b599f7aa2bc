-- How a replay stands after some lines.
use Rattle.std.proofs.Common.{◌≡◌, ℕ, ◌+◌, min, List, [], ◌∷◌, ◌++◌, length, take, Option, Some, None, Result, Ok, Err, refl, sym, ap, subst, ◌∙◌, arith, append-nil, append_assoc, length-append}
use Rattle.std.proofs.lemmas.List.{take-append-le, take_min}
use Rattle.js_tool_io.specs.Causes.{AppendsPrefix}
use Rattle.std.specs.Io.KnownBytes.{Appends}
use Rattle.js_ordered_table.specs.declared.event.Event.{Event}
use Rattle.js_ordered_table.specs.declared.run.ReplayError.{ReplayError}
use Rattle.js_ordered_table.specs.Fold.{fold}
use Rattle.js_ordered_table.specs.Refusal.{refuse}
use Rattle.js_tool.specs.declared.status.Status.{Status}
use Rattle.js_tool.specs.declared.status.Status.TheVariants as status
use Rattle.js_tool_transcript.specs.declared.transcript.setup.Setup.{Setup}
use Rattle.js_tool_transcript.specs.declared.transcript.Transcript.{Transcript}
use Rattle.js_tool_transcript.specs.Event.{event_line}
use Rattle.js_tool_transcript.specs.TranscriptReplay.{replay_input}
use Rattle.js_tool_transcript.specs.Setup.{setup_line}
use Rattle.js_tool_transcript.specs.Text.{last_line, refusal_text}
use Rattle.js_tool_transcript.specs.Transcript.{◌>>=◌, numbered, events_from, with_lines, transcript_of}
use Rattle.js_tool.specs.declared.command.FollowOptions.{FollowOptions}
use Rattle.js_tool_follow.specs.AnswerText.{answer_text, messages_behind, text_to}
use Rattle.js_tool_follow.proofs.AnswerTexts.{text_more}
use Rattle.js_tool_follow.specs.Standing.{Standing, Unopened, Going, Over, passed, opened, went_on, next, after, standing, said, said_in_all, answered, text_for}

-- ---- line after line

after_append : (asked : FollowOptions) (s : Standing) (front rest : List (List ℕ)) → after asked s (front ++ rest) ≡ after asked (after asked s front) rest
after_append asked s [] rest = refl
after_append asked s (line ∷ front) rest = after_append asked (next asked s line) front rest

pub one_more : (asked : FollowOptions) (lines : List (List ℕ)) (line : List ℕ) → standing asked (lines ++ line ∷ []) ≡ next asked (standing asked lines) line
unfolding standing
one_more asked lines line = after_append asked Unopened lines (line ∷ [])

pub with_rest : (asked : FollowOptions) (lines rest : List (List ℕ)) → standing asked (lines ++ rest) ≡ after asked (standing asked lines) rest
unfolding standing
with_rest asked lines rest = after_append asked Unopened lines rest

pub none_told : (asked : FollowOptions) → standing asked [] ≡ Unopened
unfolding standing
none_told asked = refl

pub one_told : (asked : FollowOptions) (line : List ℕ) → standing asked (line ∷ []) ≡ opened (numbered 1 (setup_line line))
unfolding standing
one_told asked line = refl

-- what is over stays so
pub over_stays : (asked : FollowOptions) (text : List ℕ) (s : Status) (lines : List (List ℕ)) → after asked (Over text s) lines ≡ Over text s
over_stays asked text s [] = refl
over_stays asked text s (line ∷ lines) = over_stays asked text s lines

pub over_with_rest : (asked : FollowOptions) (front rest : List (List ℕ)) (text : List ℕ) (s : Status) → standing asked front ≡ Over text s → standing asked (front ++ rest) ≡ Over text s
over_with_rest asked front rest text s over = with_rest asked front rest ∙ ap (λ (x : Standing). after asked x rest) over ∙ over_stays asked text s rest

-- ---- more is said

passed_says : (asked : FollowOptions) (setup : Setup) (es : List Event) (e : Event) (refusal : Option ReplayError)
    → (t : List ℕ) × (said asked (passed setup (es ++ e ∷ []) (text_to asked setup es) refusal) ≡ text_to asked setup es ++ t)
passed_says asked setup es e None = (answer_text asked (messages_behind setup es e) setup (es ++ e ∷ []), text_more asked setup es e)
passed_says asked setup es e (Some refusal) = (refusal_text refusal, refl)

went_says : (asked : FollowOptions) (setup : Setup) (es : List Event) (reading : Result Event ℕ) → (t : List ℕ) × (said asked (went_on asked setup es reading) ≡ text_to asked setup es ++ t)
went_says asked setup es (Ok e) = passed_says asked setup es e (refuse (replay_input setup) setup.start (es ++ e ∷ []))
went_says asked setup es (Err n) = ([], sym (append-nil (text_to asked setup es)))

next_says : (asked : FollowOptions) (s : Standing) (line : List ℕ) → (t : List ℕ) × (said asked (next asked s line) ≡ said asked s ++ t)
next_says asked Unopened line = (said asked (opened (numbered 1 (setup_line line))), refl)
next_says asked (Going setup es) line = went_says asked setup es (numbered (length es + 2) (event_line line))
next_says asked (Over text s) line = ([], sym (append-nil text))

after_says : (asked : FollowOptions) (s : Standing) (lines : List (List ℕ)) → (t : List ℕ) × (said asked (after asked s lines) ≡ said asked s ++ t)
after_says asked s [] = ([], sym (append-nil (said asked s)))
after_says asked s (line ∷ lines) =
    let (here, is) = next_says asked s line in
    let (more, then) = after_says asked (next asked s line) lines in
    (here ++ more, then ∙ ap (λ (x : List ℕ). x ++ more) is ∙ append_assoc (said asked s) here more)

all_says : (asked : FollowOptions) (s : Standing) → (t : List ℕ) × (said_in_all asked s ≡ said asked s ++ t)
all_says asked Unopened = ([], refl)
all_says asked (Going setup es) = (last_line (fold (replay_input setup) setup.start es).ended (length es), refl)
all_says asked (Over text s) = ([], sym (append-nil text))

-- the answer to some first lines is a front of all
pub text_grows : (asked : FollowOptions) (lines front rest : List (List ℕ)) → lines ≡ front ++ rest → (t : List ℕ) × (text_for asked lines ≡ answered asked front ++ t)
text_grows asked lines front rest cut =
    let (here, is) = after_says asked (standing asked front) rest in
    let (more, then) = all_says asked (after asked (standing asked front) rest) in
    (here ++ more, ap (text_for asked) cut ∙ ap (said_in_all asked) (with_rest asked front rest) ∙ then ∙ ap (λ (x : List ℕ). x ++ more) is ∙ append_assoc (answered asked front) here more)

take_front : (x y : List ℕ) (k : ℕ) → take k x ≡ take (min k (length x)) (x ++ y)
take_front x y k = sym (take-append-le (min k (length x)) x y (omega arith) ∙ take_min k x)

-- so a front of it is a front of all
pub prefix_of_all : (asked : FollowOptions) (old new : Option (List ℕ)) (lines front rest : List (List ℕ)) → lines ≡ front ++ rest → AppendsPrefix old new (answered asked front) → AppendsPrefix old new (text_for asked lines)
prefix_of_all asked old new lines front rest cut (k, appends) =
    let (t, all) = text_grows asked lines front rest cut in
    (min k (length (answered asked front)), subst (Appends old new) (take_front (answered asked front) t k ∙ ap (take (min k (length (answered asked front)))) (sym all)) appends)

-- ---- what was read

is_going : (a b : Setup) (es fs : List Event) → Going a es ≡ Going b fs → (a ≡ b) × (es ≡ fs)
is_going a b es fs same = (cc, cc)

-- these events and those behind them were read from the lines
pub record Reading (setup read : Setup) (es all : List Event) (lines : List (List ℕ)) : Type 0 where
  pub same : setup ≡ read
  pub more : List Event
  pub behind : all ≡ es ++ more
  pub reads : events_from (length es + 2) lines ≡ Ok more
  pub accepted : refuse (replay_input read) read.start all ≡ None

pub one_longer : (es : List Event) (e : Event) → length (es ++ e ∷ []) + 2 ≡ length es + 2 + 1
one_longer es e = simp length-append (omega arith)

pub read_all : (asked : FollowOptions) (setup read : Setup) (es all : List Event) (lines : List (List ℕ)) → refuse (replay_input setup) setup.start es ≡ None → after asked (Going setup es) lines ≡ Going read all → Reading setup read es all lines
read_all asked setup read es all [] accepted is =
    let (same, whole) = is_going setup read es all is in
    record {
      same = same;
      more = [];
      behind = sym whole ∙ sym (append-nil es);
      reads = refl;
      accepted = subst (λ (s : Setup). refuse (replay_input s) s.start all ≡ None) same (subst (λ (xs : List Event). refuse (replay_input setup) setup.start xs ≡ None) whole accepted);
    }
read_all asked setup read es all (line ∷ lines) accepted is =
    by_reading (λ e passes goes. read_all asked setup read (es ++ e ∷ []) all lines passes goes) (numbered (length es + 2) (event_line line)) refl is
  where
    by_reading : ((e : Event) → refuse (replay_input setup) setup.start (es ++ e ∷ []) ≡ None → after asked (Going setup (es ++ e ∷ [])) lines ≡ Going read all → Reading setup read (es ++ e ∷ []) all lines)
        → (reading : Result Event ℕ) → numbered (length es + 2) (event_line line) ≡ reading → after asked (went_on asked setup es reading) lines ≡ Going read all → Reading setup read es all (line ∷ lines)
    by_reading again (Err n) reads is = absurd (let over = over_stays asked (text_to asked setup es) (status.BadLine n) lines in let both : Over (text_to asked setup es) (status.BadLine n) ≡ Going read all = sym over ∙ is in cc)
    by_reading again (Ok e) reads is = by_refusal (refuse (replay_input setup) setup.start (es ++ e ∷ [])) refl is
      where
        by_refusal : (refusal : Option ReplayError) → refuse (replay_input setup) setup.start (es ++ e ∷ []) ≡ refusal → after asked (passed setup (es ++ e ∷ []) (text_to asked setup es) refusal) lines ≡ Going read all
            → Reading setup read es all (line ∷ lines)
        by_refusal (Some refusal) refuses is =
            absurd (let over = over_stays asked (text_to asked setup es ++ refusal_text refusal) status.Refused lines in let both : Over (text_to asked setup es ++ refusal_text refusal) status.Refused ≡ Going read all = sym over ∙ is in cc)
        by_refusal None passes is =
            let rest = again e passes is in
            record {
              same = rest.same;
              more = e ∷ rest.more;
              behind = rest.behind ∙ append_assoc es (e ∷ []) rest.more;
              reads = ap (λ (r : Result Event ℕ). r >>= λ event. events_from (length es + 2 + 1) lines >>= λ events. Ok (event ∷ events)) reads
                  ∙ ap (λ (r : Result (List Event) ℕ). r >>= λ events. Ok (e ∷ events)) (ap (λ (n : ℕ). events_from n lines) (sym (one_longer es e)) ∙ rest.reads);
              accepted = rest.accepted;
            }

abbrev pub with_events : Setup → Result (List Event) ℕ → Result Transcript ℕ
with_events setup reading = reading >>= λ events. Ok (record { setup = setup; events = events })

-- the lines are a transcript of which nothing is refused
pub record IsRun (lines : List (List ℕ)) (setup : Setup) (es : List Event) : Type 0 where
  pub reads : transcript_of lines ≡ Ok (record { setup = setup; events = es })
  pub accepted : refuse (replay_input setup) setup.start es ≡ None

pub is_run : (asked : FollowOptions) (lines : List (List ℕ)) (setup : Setup) (es : List Event) → standing asked lines ≡ Going setup es → IsRun lines setup es
unfolding standing
is_run asked [] setup es is = absurd (cc)
is_run asked (line ∷ lines) setup es is = by_setup (numbered 1 (setup_line line)) refl is
  where
    by_setup : (reading : Result Setup ℕ) → numbered 1 (setup_line line) ≡ reading → after asked (opened reading) lines ≡ Going setup es → IsRun (line ∷ lines) setup es
    by_setup (Err n) reads is = absurd (let over = over_stays asked [] (status.BadLine n) lines in let both : Over [] (status.BadLine n) ≡ Going setup es = sym over ∙ is in cc)
    by_setup (Ok first) reads is = by_refusal (refuse (replay_input first) first.start []) refl is
      where
        by_refusal : (refusal : Option ReplayError) → refuse (replay_input first) first.start [] ≡ refusal → after asked (passed first [] [] refusal) lines ≡ Going setup es → IsRun (line ∷ lines) setup es
        by_refusal (Some refusal) refuses is =
            absurd (let over = over_stays asked (refusal_text refusal) status.Refused lines in let both : Over (refusal_text refusal) status.Refused ≡ Going setup es = sym over ∙ is in cc)
        by_refusal None passes is =
            let r = read_all asked first setup [] es lines passes is in
            record {
              reads = ap (λ (x : Result Setup ℕ). x >>= λ s. with_lines s lines) reads
                  ∙ ap (with_events first) r.reads
                  ∙ ap (λ (s : Setup). with_events s (Ok r.more)) r.same
                  ∙ ap (λ (events : List Event). with_events setup (Ok events)) (sym r.behind);
              accepted = r.accepted;
            }
