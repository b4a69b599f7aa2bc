-- What the written texts say of an honest server's log.
use Rattle.std.proofs.Common.{◌≡◌, ℕ, ◌+◌, ◌-◌, ◌<◌, ◌≤◌, ◌==◌, nat_lt, Bool, true, false, cond, List, [], ◌∷◌, map, Option, Some, None, IfSome, Ok, refl, subst, sym, ap, ◌∙◌, arith}
use Rattle.std.proofs.lemmas.Bool.Decides.{nat_tests}
use Rattle.std.specs.Io.KnownBytes.{Appends}
use Rattle.std.specs.List.{AllByRecursion}
use Rattle.js_base.specs.declared.message.Entry.{Entry}
use Rattle.js_json.specs.declared.consumer.deliver_policy.DeliverPolicy.{DeliverPolicy}
use Rattle.js_json.specs.declared.consumer.deliver_policy.DeliverPolicy.TheVariants as policy
use Rattle.js_event_log.specs.LogTable.{matching_between}
use Rattle.js_event_log.specs.LatestEntries.{HasTableOf}
use Rattle.js_event_log.specs.RunProjection.{as_entry, not_rising}
use Rattle.js_event_log.proofs.HonestLog.{run_has_table}
use Rattle.js_event_log.specs.Mirror.{IsMirror, RisesFrom}
use Rattle.js_event_log.specs.Projection.{last_sequence}
use Rattle.js_event_log.specs.LogCopy.{IsCopy}
use Rattle.js_event_log.specs.RelayReader.{handed}
use Rattle.js_event_log.proofs.MirrorSlots.{shows_each_log}
use Rattle.js_tool_transcript.specs.RelayTranscript.{IsText}
use Rattle.js_tool_transcript.proofs.TranscriptsRead.{IsTextMessage, texts_are}
use Rattle.js_ordered_table.specs.declared.run.ReplayError.{ReplayError}
use Rattle.js_ordered_table.specs.Gapless as gapless
use Rattle.js_ordered_table.specs.Gapless.{yields, all_outputs}
use Rattle.js_ordered_table.specs.Refusal.{refuse}
use Rattle.js_ordered_table.specs.Texts.{config_of, configured_start, start_of_policy}
use Rattle.js_ordered_table.proofs.Promises.{fold_replays}
use Rattle.js_tool.specs.declared.status.Status.{Status}
use Rattle.js_tool.specs.declared.status.Status.TheVariants as status
use Rattle.js_tool_transcript.specs.declared.transcript.Transcript.{Transcript}
use Rattle.js_tool_transcript.specs.TranscriptReplay.{replay_input}
use Rattle.js_tool_transcript.specs.Transcript.{transcript}
use Rattle.js_tool.specs.LogCommand.{Wanted, Project, Mirror, Relay}
use Rattle.js_tool_event_log.specs.declared.report.Report.{Report}
use Rattle.js_tool_event_log.specs.declared.report.Report.TheVariants as report
use Rattle.js_tool_event_log.specs.ReplayEntries.{ends, ending_of}
use Rattle.js_tool_event_log.specs.LogTexts.{rows_text, table_text, mirror_text, served_text}
use Rattle.js_tool_event_log.specs.LogPromises.{WritesLogsTable, WritesLogsMirror, WritesLogsRelay}
use Rattle.js_tool_event_log.specs.Report.{unless_falling, log_report, report_from, report_of}
use Rattle.js_tool_event_log.specs.Relay.{run_of, yields_of, mirror_of, HasTexts, IsServed, Serves, ServesFrom, ServesOf}
use Rattle.js_tool_event_log.specs.Answer.{Reads, AnswersLog}

-- ---- a text that was made

-- the setup has a configured start, the replay is not refused, and this is made of what it yields
record IsMade (wanted : Wanted) (t : Transcript) (text : List ℕ) : Type 0 where
  start : ℕ
  configured : configured_start t.setup.setup ≡ Some start
  accepted : refuse (replay_input t.setup) t.setup.start t.events ≡ None
  says : log_report wanted t.setup.setup start (yields_of t) ≡ report.Done text

made_of : (wanted : Wanted) (t : Transcript) (text : List ℕ) → report_of wanted t ≡ report.Done text → IsMade wanted t text
made_of wanted t text is = by_cases (configured_start t.setup.setup) refl (refuse (replay_input t.setup) t.setup.start t.events) refl is
  where
    by_cases : (start : Option ℕ) → configured_start t.setup.setup ≡ start → (refusal : Option ReplayError) → refuse (replay_input t.setup) t.setup.start t.events ≡ refusal
        → report_from wanted t.setup.setup start (ends refusal (yields_of t)) ≡ report.Done text → IsMade wanted t text
    by_cases None configured refusal refuses is = absurd (cc)
    by_cases (Some start) configured (Some refusal) refuses is = absurd (cc)
    by_cases (Some start) configured None accepted is = record { start = start; configured = configured; accepted = accepted; says = is }

-- the sequences rise, and the text is the one that was made
risen : (found : Option ℕ) (made text : List ℕ) → unless_falling found made ≡ report.Done text → (found ≡ None) × (text ≡ made)
risen None made text is = (refl, injected text made (sym is))
  where
    injected : (x y : List ℕ) → report.Done x ≡ report.Done y → x ≡ y
    injected x y same = cc
risen (Some last) made text is = absurd (cc)

-- ---- the table

table_on_log : (filter bytes : List ℕ) (taken taken_after : Option (List ℕ)) (t : Transcript) (text : List ℕ) → Reads bytes t → report_of (Project filter None) t ≡ report.Done text
    → Appends taken taken_after text → WritesLogsTable filter bytes taken taken_after
table_on_log filter bytes taken taken_after t text reads is appends =
    let made : IsMade (Project filter None) t text = made_of (Project filter None) t text is in
    let rose = risen (not_rising 0 (yields_of t)) (table_text filter None (yields_of t)) text made.says in
    record {
      transcript = t;
      reads = reads;
      written = λ s start honest configured overtaken.
          let last = last_sequence (yields_of t) in
          let has : HasTableOf (matching_between t.setup.setup s.log start last) (yields_of t) =
          run_has_table (replay_input t.setup) t.setup.start t.events s start honest configured overtaken in
          subst (λ (text : List ℕ). Appends taken taken_after text) (rose.1 ∙ ap (λ (rows : List Entry). rows_text rows last) (has.rows filter)) appends;
    }

pub table_told : (filter : List ℕ) (left left_after taken taken_after : Option (List ℕ)) (faults faults_after : ℕ) (s : Status)
    → AnswersLog (Project filter None) left left_after taken taken_after faults faults_after s → s ≡ status.Done
    → IfSome left (λ bytes. WritesLogsTable filter bytes taken taken_after)
table_told filter None left_after taken taken_after faults faults_after s answers done = tt
table_told filter (Some bytes) left_after taken taken_after faults faults_after s answers done =
    let (t, text, reads, is, appends, more) = answers.told.done done in
    table_on_log filter bytes taken taken_after t text reads is appends

-- ---- the mirror

-- sequences that rise from above a number are at or past the next one
rises_from : (last : ℕ) (entries : List Entry) → not_rising last entries ≡ None → RisesFrom (last + 1) entries
rises_from last [] risen = tt
rises_from last (entry ∷ entries) risen = by_test (nat_lt last entry.sequence) refl (rises_from entry.sequence entries) risen
  where
    by_test : (above : Bool) → nat_lt last entry.sequence ≡ above → (not_rising entry.sequence entries ≡ None → RisesFrom (entry.sequence + 1) entries)
        → cond above (not_rising entry.sequence entries) (Some last) ≡ None → (last + 1 ≤ entry.sequence) × RisesFrom (entry.sequence + 1) entries
    by_test true above rest risen = (grind (arith, nat_tests), rest risen)
    by_test false above rest risen = absurd (cc)

-- a configured start is above 0
pub start_above : (p : DeliverPolicy) (start : ℕ) → start_of_policy p ≡ Some start → 0 < start
start_above (policy.ByStartSequence sequence) start is = by_test (sequence == 0) refl is
  where
    injected : (x y : ℕ) → Some x ≡ Some y → x ≡ y
    injected x y same = cc

    by_test : (nothing : Bool) → (sequence == 0) ≡ nothing → cond nothing None (Some sequence) ≡ Some start → 0 < start
    by_test true same is = absurd (cc)
    by_test false other is =
        let same : sequence ≡ start = injected sequence start is in
        grind (arith, nat_tests)
start_above policy.All start is = absurd (cc)
start_above policy.Last start is = absurd (cc)
start_above policy.New start is = absurd (cc)
start_above (policy.ByStartTime time) start is = absurd (cc)
start_above policy.LastPerSubject start is = absurd (cc)

-- so entries that rise from a configured start are a mirror's
is_mirror : (t : Transcript) (start : ℕ) → configured_start t.setup.setup ≡ Some start → not_rising (start - 1) (yields_of t) ≡ None → IsMirror (mirror_of start t)
is_mirror t start configured risen =
    let above : 0 < start = start_above (config_of t.setup.setup).deliver_policy start configured in
    let from : start - 1 + 1 ≡ start = omega (arith, above) in
    (above, subst (λ (n : ℕ). RisesFrom n (yields_of t)) from (rises_from (start - 1) (yields_of t) risen))

handed_yields : (ys : List gapless.Entry) → map handed (map as_entry ys) ≡ ys
handed_yields [] = refl
handed_yields (y ∷ ys) = ap (λ (rest : List gapless.Entry). y ∷ rest) (handed_yields ys)

is_copy : (t : Transcript) (start : ℕ) → configured_start t.setup.setup ≡ Some start → IsCopy t.setup.setup (run_of t) (mirror_of start t)
is_copy t start configured = record { start = configured; entries = handed_yields (yields (all_outputs (run_of t))) }

mirror_on_log : (bytes : List ℕ) (taken taken_after : Option (List ℕ)) (t : Transcript) (text : List ℕ) → Reads bytes t → report_of Mirror t ≡ report.Done text
    → Appends taken taken_after text → WritesLogsMirror bytes taken taken_after
mirror_on_log bytes taken taken_after t text reads is appends =
    let made : IsMade Mirror t text = made_of Mirror t text is in
    let rose = risen (not_rising (made.start - 1) (yields_of t)) (mirror_text made.start (yields_of t)) text made.says in
    let mirror : IsMirror (mirror_of made.start t) = is_mirror t made.start made.configured rose.0 in
    let copy : IsCopy t.setup.setup (run_of t) (mirror_of made.start t) = is_copy t made.start made.configured in
    record {
      transcript = t;
      start = made.start;
      reads = reads;
      configured = made.configured;
      mirror = mirror;
      written = subst (λ (text : List ℕ). Appends taken taken_after text) rose.1 appends;
      shows = λ s honest.
          shows_each_log (mirror_of made.start t) mirror s (replay_input t.setup) t.setup.start t.events (run_of t)
          (fold_replays (replay_input t.setup) t.setup.start t.events (run_of t) made.accepted refl) honest copy;
    }

pub mirror_told : (left left_after taken taken_after : Option (List ℕ)) (faults faults_after : ℕ) (s : Status)
    → AnswersLog Mirror left left_after taken taken_after faults faults_after s → s ≡ status.Done
    → IfSome left (λ bytes. WritesLogsMirror bytes taken taken_after)
mirror_told None left_after taken taken_after faults faults_after s answers done = tt
mirror_told (Some bytes) left_after taken taken_after faults faults_after s answers done =
    let (t, text, reads, is, appends, more) = answers.told.done done in
    mirror_on_log bytes taken taken_after t text reads is appends

-- ---- the transcript

-- the subjects and the payloads of yields, as those of entries
all_texts : (ys : List gapless.Entry) → AllByRecursion (λ (y : gapless.Entry). IsTextMessage y.subject y.payload) ys → AllByRecursion IsText (map as_entry ys)
all_texts [] are = tt
all_texts (y ∷ ys) are = (record { subject = are.0.0; payload = are.0.1 }, all_texts ys are.1)

-- what a transcript brings are texts
has_texts : (bytes : List ℕ) (t : Transcript) → transcript bytes ≡ Ok t → HasTexts t.setup.setup (yields_of t)
has_texts bytes t reads =
    let are = texts_are bytes t reads in
    record { one = are.0.0; more = are.0.1; all = all_texts (yields (all_outputs (run_of t))) are.1 }

-- what is promised of a text that was made
serves_made : (wanted : Wanted) (t : Transcript) (start : ℕ) (made : Report) → configured_start t.setup.setup ≡ Some start → refuse (replay_input t.setup) t.setup.start t.events ≡ None
    → ServesFrom wanted t.setup.setup (configured_start t.setup.setup) (ending_of (replay_input t.setup) t.setup.start t.events) made → Serves wanted t.setup.setup start (yields_of t) made
serves_made wanted t start made configured accepted more =
    by_cases (configured_start t.setup.setup) configured (refuse (replay_input t.setup) t.setup.start t.events) accepted more
  where
    injected : (x y : ℕ) → Some x ≡ Some y → x ≡ y
    injected x y same = cc

    by_cases : (found : Option ℕ) → found ≡ Some start → (refusal : Option ReplayError) → refusal ≡ None → ServesFrom wanted t.setup.setup found (ends refusal (yields_of t)) made
        → Serves wanted t.setup.setup start (yields_of t) made
    by_cases None configured refusal accepted more = absurd (cc)
    by_cases (Some found) configured (Some refusal) accepted more = absurd (cc)
    by_cases (Some found) configured None accepted more =
        let same : found ≡ start = injected found start configured in
        subst (λ (n : ℕ). Serves wanted t.setup.setup n (yields_of t) made) same more

-- so of a transcript that was read no more is asked
pub serves_read : (wanted : Wanted) (bytes : List ℕ) (t : Transcript) (made : Report) → transcript bytes ≡ Ok t → made ≡ report_of wanted t
    → ServesFrom wanted t.setup.setup (configured_start t.setup.setup) (ending_of (replay_input t.setup) t.setup.start t.events) made → ServesOf wanted t made
serves_read (Project filter sequence) bytes t made reads says more = tt
serves_read Mirror bytes t made reads says more = tt
serves_read (Relay stream name) bytes t (report.Refused line) reads says more = tt
serves_read (Relay stream name) bytes t (report.Done text) reads says more = λ start configured.
    let made : IsMade (Relay stream name) t text = made_of (Relay stream name) t text (sym says) in
    serves_made (Relay stream name) t start (report.Done text) configured made.accepted more (has_texts bytes t reads)

relay_on_log : (stream name bytes : List ℕ) (taken taken_after : Option (List ℕ)) (t : Transcript) (text : List ℕ) → Reads bytes t → report_of (Relay stream name) t ≡ report.Done text
    → Appends taken taken_after text → ServesOf (Relay stream name) t (report.Done text) → WritesLogsRelay stream name bytes taken taken_after
relay_on_log stream name bytes taken taken_after t text reads is appends more =
    let made : IsMade (Relay stream name) t text = made_of (Relay stream name) t text is in
    let rose = risen (not_rising (made.start - 1) (yields_of t)) (served_text stream name t.setup.setup made.start (yields_of t)) text made.says in
    let serves : IsServed stream name t.setup.setup (mirror_of made.start t) text = more made.start made.configured in
    record {
      transcript = t;
      start = made.start;
      text = text;
      reads = reads;
      configured = made.configured;
      mirror = is_mirror t made.start made.configured rose.0;
      written = appends;
      served = serves;
      honest = λ s honest run replay.
          serves.honest s (replay_input t.setup) t.setup.start t.events (run_of t) refl (fold_replays (replay_input t.setup) t.setup.start t.events (run_of t) made.accepted refl) honest
          (is_copy t made.start made.configured) run replay;
    }

pub relay_told : (stream name : List ℕ) (left left_after taken taken_after : Option (List ℕ)) (faults faults_after : ℕ) (s : Status)
    → AnswersLog (Relay stream name) left left_after taken taken_after faults faults_after s → s ≡ status.Done
    → IfSome left (λ bytes. WritesLogsRelay stream name bytes taken taken_after)
relay_told stream name None left_after taken taken_after faults faults_after s answers done = tt
relay_told stream name (Some bytes) left_after taken taken_after faults faults_after s answers done =
    let (t, text, reads, is, appends, more) = answers.told.done done in
    relay_on_log stream name bytes taken taken_after t text reads is appends more
