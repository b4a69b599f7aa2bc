-- A mirror that is filled, and the transcript that is made of it.
use Rattle.std.proofs.Common.{◌≡◌, ◌-◌, ◌<◌, ℕ, List, [], ◌∷◌, ◌++◌, Option, Some, None, Result, Ok, Err, IfOk, sym, ap, subst, ◌∙◌}
use Rattle.std.specs.Prelude.{⊤}
use Rattle.js_base.specs.declared.message.Entry.{Entry}
use Rattle.js_event_log.specs.RunProjection.{not_rising}
use Rattle.js_event_log.specs.declared.mirror.error.MirrorError.{MirrorError}
use Rattle.js_event_log.specs.declared.mirror.error.MirrorError.TheVariants.{NotRising, StartDiffers, Conflict, OutOfMemory}
use Rattle.js_event_log.specs.MirrorCauses.{HasPushCause}
use Rattle.js_event_log.specs.Mirror.{Mirrored, last_sequence}
use Rattle.js_tool_transcript.specs.RelayTranscript.{ReadsAs, ReplaysTo, StaysHonestIn, relay_transcript}
use Rattle.js_tool_transcript.specs.RelayText.{relay_text}
use Rattle.js_ordered_table.specs.declared.setup.OrderedSetup.{OrderedSetup}
use Rattle.js_ordered_table.specs.declared.run.ReplayError.{ReplayError}
use Rattle.js_ordered_table.specs.Texts.{config_of}
use Rattle.js_tool_event_log.specs.declared.replay_entries.Ending.{Ending}
use Rattle.js_tool_event_log.specs.declared.replay_entries.Ending.TheVariants as ending
use Rattle.js_tool_event_log.specs.declared.report.Report.{Report}
use Rattle.js_tool_event_log.specs.declared.report.Report.TheVariants as report
use Rattle.js_tool.specs.LogCommand.{Wanted, Relay}
use Rattle.js_tool_event_log.specs.LogTexts.{served_text}
use Rattle.js_tool_event_log.specs.Report.{Fills, unless_falling}
use Rattle.js_tool_event_log.specs.Relay.{HasTexts, IsServed, Serves, ServesFrom}
use Rattle.js_tool_event_log.proofs.AppliedEntries.{last_on, above, falling_here}

-- ---- filling

-- an entry above all before it goes on
pub filling_later : (mirror : Mirrored) (rest : List Entry) (entry : Entry) → last_sequence mirror < entry.sequence
    → not_rising (last_sequence mirror) (entry ∷ rest) ≡ not_rising (last_sequence (record mirror { entries = mirror.entries ++ entry ∷ [] })) rest
filling_later mirror rest entry rises =
    rw (above (last_sequence mirror) entry.sequence rises) (ap (λ (low : ℕ). not_rising low rest) (sym (last_on (mirror.start - 1) mirror.entries entry)))

-- and one that is not stops it
pub fills_not : (mirror : Mirrored) (rest entries : List Entry) (entry : Entry) (start : ℕ) (e : MirrorError) → HasPushCause (last_sequence mirror) entry.sequence (Err e)
    → not_rising (start - 1) entries ≡ not_rising (last_sequence mirror) (entry ∷ rest) → Fills start entries (Err e)
fills_not mirror rest entries entry start (NotRising last) (falls, is) same = same ∙ falling_here (last_sequence mirror) rest entry falls ∙ ap Some (sym is)
fills_not mirror rest entries entry start (StartDiffers one other) cause same = cause
fills_not mirror rest entries entry start (Conflict sequence) cause same = cause
fills_not mirror rest entries entry start OutOfMemory cause same = tt

-- ---- the transcript

pub relayed_is : (stream name : List ℕ) (setup : OrderedSetup) (start : ℕ) (entries : List Entry) (mirror : Mirrored) (text : List ℕ) (made : Report)
    → (mirror ≡ record { start = start; entries = entries }) × (not_rising (start - 1) entries ≡ None)
    → text ≡ relay_text stream name (config_of setup).filter_subject (config_of setup).filter_subjects mirror.start mirror.entries → made ≡ report.Done text
    → made ≡ unless_falling (not_rising (start - 1) entries) (served_text stream name setup start entries)
relayed_is stream name setup start entries mirror text made filled says is =
    is
    ∙ ap report.Done (says ∙ ap (λ (m : Mirrored). served_text stream name setup m.start m.entries) filled.0)
    ∙ ap (λ (found : Option ℕ). unless_falling found (served_text stream name setup start entries)) (sym filled.1)

pub relayed_serves : (stream name : List ℕ) (setup : OrderedSetup) (start : ℕ) (entries : List Entry) (mirror : Mirrored) (text : List ℕ) (made : Report)
    → mirror ≡ record { start = start; entries = entries }
    → (HasTexts setup mirror.entries → ReadsAs text (relay_transcript stream name (config_of setup).filter_subject (config_of setup).filter_subjects mirror))
    → (HasTexts setup mirror.entries → ReplaysTo mirror.entries text) → (HasTexts setup mirror.entries → StaysHonestIn mirror setup text) → made ≡ report.Done text
    → Serves (Relay stream name) setup start entries made
relayed_serves stream name setup start entries mirror text made filled reads replays honest is =
    subst (λ (r : Report). Serves (Relay stream name) setup start entries r) (sym is)
    (subst (λ (m : Mirrored). HasTexts setup m.entries → IsServed stream name setup m text) filled (λ texts. record { reads = reads texts; replays = replays texts; honest = honest texts }))

-- ---- where nothing more is promised

pub all_ok : {A E : Type 0} (result : Result A E) → IfOk result (λ _. ⊤)
all_ok (Ok x) = tt
all_ok (Err e) = tt

-- without a configured start, and where the replay was refused
pub serves_none : {E : Type 0} (wanted : Wanted) (setup : OrderedSetup) (start : Option ℕ) (end : Ending) (result : Result Report E) → start ≡ None
    → IfOk result (λ made. ServesFrom wanted setup start end made)
serves_none wanted setup None end (Ok made) none = tt
serves_none wanted setup None end (Err e) none = tt
serves_none wanted setup (Some start) end result none = absurd (cc)

pub serves_refused : {E : Type 0} (wanted : Wanted) (setup : OrderedSetup) (start : Option ℕ) (refusal : ReplayError) (result : Result Report E)
    → IfOk result (λ made. ServesFrom wanted setup start (ending.Refused refusal) made)
serves_refused wanted setup None refusal (Ok made) = tt
serves_refused wanted setup None refusal (Err e) = tt
serves_refused wanted setup (Some start) refusal (Ok made) = tt
serves_refused wanted setup (Some start) refusal (Err e) = tt

-- and where there is a start, and entries
pub serves_yields : {E : Type 0} (wanted : Wanted) (setup : OrderedSetup) (found : Option ℕ) (start : ℕ) (entries : List Entry) (result : Result Report E) → Some start ≡ found
    → IfOk result (λ made. Serves wanted setup start entries made) → IfOk result (λ made. ServesFrom wanted setup found (ending.Yields entries) made)
serves_yields wanted setup found start entries result is serves =
    subst (λ (o : Option ℕ). IfOk result (λ made. ServesFrom wanted setup o (ending.Yields entries) made)) is serves
