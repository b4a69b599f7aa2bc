use Rattle.std.proofs.Common.{◌≡◌, ◌<◌, ◌^◌, ℕ, List, Ok, sym, ◌∙◌, subst, arith}
use Rattle.js_event_log.specs.Events.{AllFit}
use Rattle.js_ordered_table.specs.Texts.{config_of}
use Rattle.js_tool_transcript.specs.Transcript.{transcript}
use Rattle.js_tool_transcript.specs.RelaySetupData.{config_data, setup_data}
use Rattle.js_tool_transcript.specs.RelayText.{arrivals}
use Rattle.js_tool_transcript.specs.RelayTranscript.{relay_transcript}
use Rattle.js_tool_transcript.proofs.PushedText.{relay_pushed, relay_as}
use Rattle.js_tool_transcript.proofs.RelayTranscriptRead.{relay_reads, hands_out, keeps_honest}
use Rattle.js_tool_transcript.proofs.relay.relay_text.Goals as goal

pub returns-clause-text : goal.returns-clause-text
returns-clause-text c =
    let stream = c.args.stream.now in
    let name = c.args.name.now in
    let config = config_of c.args.setup.now in
    let filter = c.filter_subject-filter.result.now in
    let filters = c.filter_subjects-filters.result.now in
    let start = c.start-start.result in
    let d = config_data filter filters start in
    let setup = c.in_ok-push_setup.ensures d (c.deref.ensures.value ∙ c.in_ok-config.ensures) in
    relay_pushed c.new-out.result.items c.push_setup.new.out.items c.push_arrivals.new.out.items (setup_data stream name d) (arrivals stream name 1 c.entries.result.now)
    c.new-out.ensures.items setup c.in_ok-push_arrivals.ensures.text
    ∙ relay_as stream name filter config.filter_subject filters config.filter_subjects start c.args.mirror.now.start c.entries.result.now c.args.mirror.now.entries
    c.filter_subject-filter.ensures c.filter_subjects-filters.ensures c.start-start.ensures.start c.entries.ensures.entries

pub returns-clause-reads : goal.returns-clause-reads
returns-clause-reads c = λ texts.
    let stream = c.args.stream.now in
    let name = c.args.name.now in
    let config = config_of c.args.setup.now in
    let mirror = c.args.mirror.now in
    let low : mirror.start < 2 ^ 64 = omega (arith, c.start-start.ensures.start) in
    let fit : AllFit mirror.entries = subst AllFit c.entries.ensures.entries c.in_ok-push_arrivals.ensures.fit in
    subst (λ (bytes : List ℕ). transcript bytes ≡ Ok (relay_transcript stream name config.filter_subject config.filter_subjects mirror)) (sym (returns-clause-text c))
    (relay_reads stream name config.filter_subject config.filter_subjects mirror c.utf8.stream c.utf8.name low fit texts)

pub returns-clause-replays : goal.returns-clause-replays
returns-clause-replays c = λ texts.
    let config = config_of c.args.setup.now in
    let mirror = c.args.mirror.now in
    let fit : AllFit mirror.entries = subst AllFit c.entries.ensures.entries c.in_ok-push_arrivals.ensures.fit in
    hands_out c.args.stream.now c.args.name.now config.filter_subject config.filter_subjects mirror c.requires.stream c.requires.name fit c.push_arrivals.new.out.items (returns-clause-reads c texts)

pub returns-clause-honest : goal.returns-clause-honest
returns-clause-honest c = λ texts.
    let mirror = c.args.mirror.now in
    let fit : AllFit mirror.entries = subst AllFit c.entries.ensures.entries c.in_ok-push_arrivals.ensures.fit in
    keeps_honest c.args.stream.now c.args.name.now c.args.setup.now mirror c.requires.stream c.requires.name fit c.start-start.ensures.mirror c.push_arrivals.new.out.items (returns-clause-reads c texts)
