-- What an input calls for, by what it says, and what was answered to it.
use Rattle.std.proofs.Common.{◌≡◌, ℕ, ◌<◌, ◌≤◌, inl, inr, List, [], length, Option, Some, None, IfSome, Result, Ok, Err, OnOk, OnErr, refl, subst, sym, ap, ◌∙◌, rules}
use Rattle.std.specs.Io.KnownBytes.{Appends, IsAtEnd}
use Rattle.js_tool_io.specs.Causes.{Rose, AppendsPrefix}
use Rattle.js_tool.specs.declared.status.Status.{Status}
use Rattle.js_tool.specs.declared.status.Status.TheVariants as status
use Rattle.js_tool_transcript.specs.declared.transcript.Unread.{Unread}
use Rattle.js_tool_transcript.specs.declared.transcript.Unread.TheVariants as unread
use Rattle.js_tool.specs.Program.{WritesUnlessFault}
use Rattle.js_tool.proofs.Called.{of_source, not_long, is_long}
use Rattle.js_tool_event_log.specs.declared.report.Report.{Report}
use Rattle.js_tool_event_log.specs.declared.report.Report.TheVariants as report
use Rattle.js_tool.specs.LogCommand.{Wanted}
use Rattle.js_tool_event_log.specs.Sessions.{AnswersSessions}
use Rattle.js_tool_event_log.specs.Report.{Reports}
use Rattle.js_tool_event_log.specs.Answer.{Writes, AnswersBytes, AnswersSource, AnswersLog, report_status, called_for}

-- ---- what bytes call for

-- a transcript calls for what is made of it
called_made : {T : Type 0} (reading : List ℕ → Result T ℕ) (of : T → Report) (bytes : List ℕ) (t : T) (made : Report) → length bytes ≤ 67_108_864 → reading bytes ≡ Ok t → made ≡ of t → called_for reading of bytes ≡ report_status made
unfolding called_for
called_made reading of bytes t made within reads says = rw (not_long (length bytes) within, reads) (ap report_status (sym says))

called_unread : {T : Type 0} (reading : List ℕ → Result T ℕ) (of : T → Report) (bytes : List ℕ) (line : ℕ) → length bytes ≤ 67_108_864 → reading bytes ≡ Err line → called_for reading of bytes ≡ status.BadLine line
unfolding called_for
called_unread reading of bytes line within fails = rw (not_long (length bytes) within, fails) refl

called_too_long : {T : Type 0} (reading : List ℕ → Result T ℕ) (of : T → Report) (bytes : List ℕ) → 67_108_864 < length bytes → called_for reading of bytes ≡ status.TooLong
unfolding called_for
called_too_long reading of bytes long = rw (is_long (length bytes) long) refl

-- a line that does not read is named
pub first_unread : {T : Type 0} (reading : List ℕ → Result T ℕ) (of : T → Report) (more : T → Report → Type 0) (read : List ℕ) (made : Result Report Unread) (line : ℕ)
    → Reports of more (reading read) made → made ≡ Err (unread.BadLine line) → reading read ≡ Err line
first_unread reading of more read made line reports is = subst (λ (m : Result Report Unread). Reports of more (reading read) m) is reports

-- ---- what was answered to bytes

-- the text was written, or a front of it where the sink failed
pub writes_unless_fault : {T E : Type 0} (taken taken_after : Option (List ℕ)) (faults faults_after : ℕ) (line : List ℕ) (result : Result T E) → OnOk result (Appends taken taken_after line)
    → OnErr result (AppendsPrefix taken taken_after line) → OnErr result (Rose faults faults_after) → WritesUnlessFault taken taken_after faults faults_after line
writes_unless_fault taken taken_after faults faults_after line (Ok done) whole front rose = inl whole
writes_unless_fault taken taken_after faults faults_after line (Err failed) whole front rose = inr (front, rose)

-- so what was made of the bytes was written
module _ (taken taken_after : Option (List ℕ)) (faults faults_after : ℕ) (made : Result Report Unread) where
  pub writes_done : (text : List ℕ) → made ≡ Ok (report.Done text) → Appends taken taken_after text → Writes made taken taken_after faults faults_after status.Done
  writes_done text is appends = subst (λ (m : Result Report Unread). Writes m taken taken_after faults faults_after status.Done) (sym is) (inl (refl, appends))

  pub writes_front : (text : List ℕ) → made ≡ Ok (report.Done text) → AppendsPrefix taken taken_after text → Writes made taken taken_after faults faults_after status.WriteFault
  writes_front text is appends = subst (λ (m : Result Report Unread). Writes m taken taken_after faults faults_after status.WriteFault) (sym is) (inr (refl, appends))

  pub writes_refused : (line : List ℕ) → made ≡ Ok (report.Refused line) → WritesUnlessFault taken taken_after faults faults_after line
      → Writes made taken taken_after faults faults_after status.Refused
  writes_refused line is writes = subst (λ (m : Result Report Unread). Writes m taken taken_after faults faults_after status.Refused) (sym is) (refl, writes)

module _ {T : Type 0} (reading : List ℕ → Result T ℕ) (of : T → Report) (more : T → Report → Type 0) (taken taken_after : Option (List ℕ)) (faults faults_after : ℕ) where
  answers_done : (read : List ℕ) (t : T) (text : List ℕ) → length read ≤ 67_108_864 → reading read ≡ Ok t → report.Done text ≡ of t
      → Appends taken taken_after text → more t (report.Done text) → AnswersBytes reading of more read taken taken_after faults faults_after status.Done
  answers_done read t text within reads says appends served = record {
    done = λ is. (t, text, record { within = within; by = reads }, sym says, appends, served);
    refused = search rules;
    written_before_fault = search rules;
    otherwise = called_made reading of read t (report.Done text) within reads says;
  }

  answers_fault : (read : List ℕ) (t : T) (text : List ℕ) → length read ≤ 67_108_864 → reading read ≡ Ok t → report.Done text ≡ of t
      → AppendsPrefix taken taken_after text → AnswersBytes reading of more read taken taken_after faults faults_after status.WriteFault
  answers_fault read t text within reads says appends = record {
    done = search rules;
    refused = search rules;
    written_before_fault = λ is. (t, text, record { within = within; by = reads }, sym says, appends);
    otherwise = tt;
  }

  answers_refused : (read : List ℕ) (t : T) (line : List ℕ) → length read ≤ 67_108_864 → reading read ≡ Ok t → report.Refused line ≡ of t
      → WritesUnlessFault taken taken_after faults faults_after line → AnswersBytes reading of more read taken taken_after faults faults_after status.Refused
  answers_refused read t line within reads says writes = record {
    done = search rules;
    refused = λ is. (t, line, record { within = within; by = reads }, sym says, writes);
    written_before_fault = search rules;
    otherwise = called_made reading of read t (report.Refused line) within reads says;
  }

  answers_unread : (read : List ℕ) (line : ℕ) → length read ≤ 67_108_864 → reading read ≡ Err line → AnswersBytes reading of more read taken taken_after faults faults_after (status.BadLine line)
  answers_unread read line within fails = record {
    done = search rules;
    refused = search rules;
    written_before_fault = search rules;
    otherwise = called_unread reading of read line within fails;
  }

  answers_nothing : (read : List ℕ) → AnswersBytes reading of more read taken taken_after faults faults_after status.OutOfMemory
  answers_nothing read = record {
    done = search rules;
    refused = search rules;
    written_before_fault = search rules;
    otherwise = tt;
  }

  -- what was made of the bytes was written
  pub bytes_answered : (read : List ℕ) (made : Result Report Unread) (s : Status) → length read ≤ 67_108_864 → Reports of more (reading read) made
      → Writes made taken taken_after faults faults_after s → AnswersBytes reading of more read taken taken_after faults faults_after s
  bytes_answered read (Ok (report.Done text)) s within (t, reads, says, holds) (inl (is, appends)) =
      subst (λ (x : Status). AnswersBytes reading of more read taken taken_after faults faults_after x) (sym is) (answers_done read t text within reads says appends holds)
  bytes_answered read (Ok (report.Done text)) s within (t, reads, says, holds) (inr (is, appends)) =
      subst (λ (x : Status). AnswersBytes reading of more read taken taken_after faults faults_after x) (sym is) (answers_fault read t text within reads says appends)
  bytes_answered read (Ok (report.Refused line)) s within (t, reads, says, holds) (is, writes) =
      subst (λ (x : Status). AnswersBytes reading of more read taken taken_after faults faults_after x) (sym is) (answers_refused read t line within reads says writes)
  bytes_answered read (Err (unread.BadLine line)) s within fails is =
      subst (λ (x : Status). AnswersBytes reading of more read taken taken_after faults faults_after x) (sym is) (answers_unread read line within fails)
  bytes_answered read (Err unread.OutOfMemory) s within fails is =
      subst (λ (x : Status). AnswersBytes reading of more read taken taken_after faults faults_after x) (sym is) (answers_nothing read)

  answers_long : (read : List ℕ) → 67_108_864 < length read → AnswersBytes reading of more read taken taken_after faults faults_after status.TooLong
  answers_long read long = record {
    done = search rules;
    refused = search rules;
    written_before_fault = search rules;
    otherwise = called_too_long reading of read long;
  }

  -- ---- what was answered to a source

  pub source_answers : (left left_after : Option (List ℕ)) (read : List ℕ) (s : Status) → IfSome left (λ bytes. read ≡ bytes) → IfSome left_after (λ rest. rest ≡ [])
      → AnswersBytes reading of more read taken taken_after faults faults_after s → AnswersSource reading of more left left_after taken taken_after faults faults_after s
  source_answers left left_after read s whole ends answers = record {
    told = of_source left read (λ bytes. AnswersBytes reading of more bytes taken taken_after faults faults_after s) whole answers;
    at_end = λ has_read. ended left_after ends;
  }
    where
      ended : (left : Option (List ℕ)) → IfSome left (λ rest. rest ≡ []) → IsAtEnd left
      ended None none = tt
      ended (Some rest) none = none

  pub source_long : (left left_after : Option (List ℕ)) → IfSome left (λ bytes. 67_108_864 < length bytes) → AnswersSource reading of more left left_after taken taken_after faults faults_after status.TooLong
  source_long left left_after long = record {
    told = by_left left long;
    at_end = search rules;
  }
    where
      by_left : (left : Option (List ℕ)) → IfSome left (λ bytes. 67_108_864 < length bytes) → IfSome left (λ bytes. AnswersBytes reading of more bytes taken taken_after faults faults_after status.TooLong)
      by_left None long = tt
      by_left (Some bytes) long = answers_long bytes long

-- what was answered to the words' command
pub answers_asked : (left left_after taken taken_after : Option (List ℕ)) (faults faults_after : ℕ) (s : Status) (asked command : Wanted) (words : Option Wanted) → Some asked ≡ words
    → AnswersLog asked left left_after taken taken_after faults faults_after s → words ≡ Some command → AnswersLog command left left_after taken taken_after faults faults_after s
answers_asked left left_after taken taken_after faults faults_after s asked command words is answers named =
    subst (λ (wanted : Wanted). AnswersLog wanted left left_after taken taken_after faults faults_after s) (injected asked command (is ∙ named)) answers
  where
    injected : (x y : Wanted) → Some x ≡ Some y → x ≡ y
    injected x y same = cc

-- what was answered to the words of sessions
pub sessions_asked : (left left_after taken taken_after : Option (List ℕ)) (faults faults_after : ℕ) (s : Status) (asked next : ℕ) (words : Option ℕ) → Some asked ≡ words
    → AnswersSessions asked left left_after taken taken_after faults faults_after s → words ≡ Some next → AnswersSessions next left left_after taken taken_after faults faults_after s
sessions_asked left left_after taken taken_after faults faults_after s asked next words is answers named =
    subst (λ (n : ℕ). AnswersSessions n left left_after taken taken_after faults faults_after s) (injected asked next (is ∙ named)) answers
  where
    injected : (x y : ℕ) → Some x ≡ Some y → x ≡ y
    injected x y same = cc
