-- The bytes of a mirror's transcript are read as that transcript, and replay to the mirror's entries.
use Rattle.std.proofs.Common.{◌≡◌, ℕ, ◌+◌, ◌^◌, ◌<◌, ◌≤◌, ◌==◌, true, false, List, [], ◌∷◌, length, map, Option, Some, None, option_map, refl, sym, ap, ◌∙◌, subst, arith, append_assoc}
use Rattle.std.specs.Prelude.{Result, Ok, if◌then◌else◌}
use Rattle.std.specs.List.{AllByRecursion}
use Rattle.std.specs.Str.{IsUtf8}
use Rattle.serde_json.specs.Data.{Data}
use Rattle.serde_json.specs.Written.{compact_text}
use Rattle.js_base.specs.declared.message.Entry as base
use Rattle.js_codes.specs.Name.{is_name}
use Rattle.js_json.specs.declared.consumer.info.Info.{Info}
use Rattle.js_json.specs.declared.pull.OrderedConfig.{OrderedConfig}
use Rattle.js_tool_io.specs.Lines.{lines_of}
use Rattle.js_event_log.specs.Mirror.{Mirrored, IsMirror}
use Rattle.js_ordered_table.specs.declared.consumer.ReplayInput.{ReplayInput}
use Rattle.js_ordered_table.specs.declared.event.Event.{Event}
use Rattle.js_ordered_table.specs.declared.run.Run.{Run}
use Rattle.js_ordered_table.specs.declared.setup.OrderedSetup.{OrderedSetup}
use Rattle.js_ordered_table.specs.declared.setup.OrderedSetup.TheVariants.{Pull}
use Rattle.js_ordered_table.specs.declared.setup.Settings.{Settings}
use Rattle.js_ordered_table.specs.declared.run.ReplayError.TheVariants as error
use Rattle.js_ordered_table.specs.Fold.{opening, run_events}
use Rattle.js_ordered_table.specs.Refusal.{first_of, bad_field, first_early, refuse_input, refuse_end, refuse}
use Rattle.js_ordered_table.specs.Texts.{config_of, configured_start, filters as filters_of}
use Rattle.js_ordered_table.specs.Replay.{IsReplay}
use Rattle.js_event_log.specs.Events.{arrival, relayed, AllFit}
use Rattle.js_event_log.specs.RelayReader.{IsReader, default_settings}
use Rattle.js_event_log.proofs.RelayAnswers.{replays}
use Rattle.js_event_log.proofs.MirrorServer.{stays_honest}
use Rattle.js_tool_transcript.specs.declared.transcript.setup.Setup.{Setup}
use Rattle.js_tool_transcript.specs.declared.transcript.Transcript.{Transcript}
use Rattle.js_tool_transcript.specs.Event.{event_line}
use Rattle.js_tool_transcript.specs.TranscriptReplay.{replay_input, Replays}
use Rattle.js_tool_transcript.specs.Transcript.{◌>>=◌, numbered, events_from, with_lines, transcript_of, transcript}
use Rattle.js_tool_transcript.specs.RelaySetupData.{config_data, setup_data}
use Rattle.js_tool_transcript.specs.RelayText.{arrival_data, arrivals, value_lines, relay_text}
use Rattle.js_tool_transcript.specs.RelayConfig.{relay_config, relay_info}
use Rattle.js_tool_transcript.specs.RelayTranscript.{relay_reader, relay_setup, relay_transcript, IsText, AreTexts, ReplaysTo, StaysHonestIn}
use Rattle.js_tool_transcript.proofs.CompactText.{IsSimple, text_line, simple_line, line_cut}
use Rattle.js_tool_transcript.proofs.RelaySetupRead.{setup_reads, arrival_simple, arrival_reads}

-- ---- lines

lines_are : (ds : List Data) → AllByRecursion (IsSimple IsUtf8) ds → lines_of (value_lines ds) ≡ map compact_text ds
lines_are [] h = refl
lines_are (d ∷ ds) h =
    ap lines_of (append_assoc (compact_text d) (10 ∷ []) (value_lines ds))
    ∙ line_cut (compact_text d) (value_lines ds) (text_line d (simple_line d h.0))
    ∙ ap (λ (more : List (List ℕ)). compact_text d ∷ more) (lines_are ds h.1)

-- ---- the arrivals

arrivals_simple : (stream name : List ℕ) (number : ℕ) (entries : List base.Entry) → IsUtf8 stream → IsUtf8 name → number + length entries ≤ 2 ^ 64
    → AllByRecursion (λ (entry : base.Entry). entry.sequence < 2 ^ 64) entries → AllByRecursion IsText entries → AllByRecursion (IsSimple IsUtf8) (arrivals stream name number entries)
arrivals_simple stream name number [] s n fit small texts = tt
arrivals_simple stream name number (entry ∷ entries) s n fit small texts = (
  arrival_simple stream name number entry s n (omega arith) small.0 texts.0,
  arrivals_simple stream name (number + 1) entries s n (omega arith) small.1 texts.1,
)

arrivals_read : (stream name : List ℕ) (line number : ℕ) (entries : List base.Entry) → IsUtf8 stream → IsUtf8 name → number + length entries ≤ 2 ^ 64
    → AllByRecursion (λ (entry : base.Entry). entry.sequence < 2 ^ 64) entries → AllByRecursion IsText entries
    → events_from line (map compact_text (arrivals stream name number entries)) ≡ Ok (relayed stream name number entries)
arrivals_read stream name line number [] s n fit small texts = refl
arrivals_read stream name line number (entry ∷ entries) s n fit small texts =
    let rest = map compact_text (arrivals stream name (number + 1) entries) in
    let first : numbered line (event_line (compact_text (arrival_data stream name number entry))) ≡ Ok (arrival stream name number entry) =
    ap (numbered line) (arrival_reads stream name number entry s n (omega arith) small.0 texts.0) in
    ap (λ (r : Result Event ℕ). r >>= λ event. events_from (line + 1) rest >>= λ events. Ok (event ∷ events)) first
    ∙ ap (λ (r : Result (List Event) ℕ). r >>= λ events. Ok (arrival stream name number entry ∷ events)) (arrivals_read stream name (line + 1) (number + 1) entries s n (omega arith) small.1 texts.1)

-- ---- the transcript

pub relay_reads : (stream name filter : List ℕ) (filters : List (List ℕ)) (mirror : Mirrored) → IsUtf8 stream → IsUtf8 name → mirror.start < 2 ^ 64 → AllFit mirror.entries
    → AreTexts filter filters mirror.entries → transcript (relay_text stream name filter filters mirror.start mirror.entries) ≡ Ok (relay_transcript stream name filter filters mirror)
unfolding transcript
relay_reads stream name filter filters mirror s n low fit texts =
    let setup = setup_data stream name (config_data filter filters mirror.start) in
    let brought = arrivals stream name 1 mirror.entries in
    let enough : 1 + length mirror.entries ≤ 2 ^ 64 = let f = fit.number in omega (arith, f) in
    let said = setup_reads stream name filter filters mirror.start s n texts.one texts.more low in
    let simple : AllByRecursion (IsSimple IsUtf8) (setup ∷ brought) = (said.0, arrivals_simple stream name 1 mirror.entries s n enough fit.sequences texts.all) in
    ap transcript_of (lines_are (setup ∷ brought) simple)
    ∙ ap (λ (r : Result Setup ℕ). r >>= λ setup. with_lines setup (map compact_text brought)) (ap (numbered 1) said.1)
    ∙ ap (λ (r : Result (List Event) ℕ). r >>= λ events. Ok (record { setup = relay_setup stream name filter filters mirror.start; events = events }))
    (arrivals_read stream name 2 1 mirror.entries s n enough fit.sequences texts.all)

-- ---- what its replay hands out

first_none : {A : Type 0} (one other : Option A) → first_of one other ≡ None → one ≡ None
first_none None other none = refl
first_none (Some a) other none = none

unmapped : {A B : Type 0} (f : A → B) (o : Option A) → option_map f o ≡ None → o ≡ None
unmapped f None none = refl
unmapped f (Some a) none = cc

-- no field of a pull consumer is bad whose replay is not refused
fields_good : (settings : Settings) (config : OrderedConfig) (first : Info) (start : ℕ) (es : List Event) → refuse (record { settings = settings; setup = Pull config; first = first }) start es ≡ None
    → bad_field (record { settings = settings; setup = Pull config; first = first }) ≡ None
unfolding refuse refuse_input
fields_good settings config first start es accepted =
    let g : ReplayInput = record { settings = settings; setup = Pull config; first = first } in
    let input : refuse_input g start es ≡ None = first_none (refuse_input g start es) (refuse_end (run_events g es (opening g start).state)) accepted in
    unmapped error.BadSettings (bad_field g) (first_none (option_map error.BadSettings (bad_field g)) (option_map error.BadEvent (first_early 0 start es)) input)

module _ (stream name filter : List ℕ) (filters : List (List ℕ)) (mirror : Mirrored) (is_stream : is_name stream ≡ true) (is : is_name name ≡ true) (fit : AllFit mirror.entries)
    (bytes : List ℕ) (reads : transcript bytes ≡ Ok (relay_transcript stream name filter filters mirror)) where
  replayed : (run : Run) → Replays bytes run → IsReplay (replay_input (relay_setup stream name filter filters mirror.start)) 0 (relayed stream name 1 mirror.entries) run
  replayed run replay =
      let (t, read, folded) = replay.by in
      let both : Ok t ≡ Ok (relay_transcript stream name filter filters mirror) = sym read ∙ reads in
      let same : t ≡ relay_transcript stream name filter filters mirror = cc in
      subst (λ (t : Transcript). IsReplay (replay_input t.setup) t.setup.start t.events run) same folded

  reader : (run : Run) → Replays bytes run → IsReader (replay_input (relay_setup stream name filter filters mirror.start))
  reader run replay = record {
    config = relay_reader filter filters mirror.start;
    pull = refl;
    fields =
        fields_good default_settings (relay_reader filter filters mirror.start) (relay_info stream name (relay_config filter filters mirror.start)) 0 (relayed stream name 1 mirror.entries)
        (replayed run replay).accepted;
  }

  pub hands_out : ReplaysTo mirror.entries bytes
  hands_out run replay = replays stream name is_stream is mirror.entries fit (replay_input (relay_setup stream name filter filters mirror.start)) (Ok run) (reader run replay) (replayed run replay)

starts : (start : ℕ) → 0 < start → (if start == 0 then None else Some start) ≡ Some start
starts start above = let other : (start == 0) ≡ false = grind arith in rw other refl

-- and a server that was honest in the mirror's run is in its replay
pub keeps_honest : (stream name : List ℕ) (setup : OrderedSetup) (mirror : Mirrored) → is_name stream ≡ true → is_name name ≡ true → AllFit mirror.entries → IsMirror mirror → (bytes : List ℕ)
    → transcript bytes ≡ Ok (relay_transcript stream name (config_of setup).filter_subject (config_of setup).filter_subjects mirror) → StaysHonestIn mirror setup bytes
keeps_honest stream name setup mirror is_stream is fit standing bytes reads s first start first_events first_run same first_replay honest copy run replay =
    let config = config_of setup in
    let made = relay_transcript stream name config.filter_subject config.filter_subjects mirror in
    let g = replay_input (relay_setup stream name config.filter_subject config.filter_subjects mirror.start) in
    let again = replayed stream name config.filter_subject config.filter_subjects mirror is_stream is fit bytes reads run replay in
    let reading = reader stream name config.filter_subject config.filter_subjects mirror is_stream is fit bytes reads run replay in
    let from : configured_start g.setup ≡ Some mirror.start = starts mirror.start standing.0 in
    let kept = stays_honest stream name is_stream is mirror fit s first start first_events first_run first_replay honest copy g run reading from (ap filters_of (sym same)) again in
    (made, reads, ap filters_of (sym same), kept)
