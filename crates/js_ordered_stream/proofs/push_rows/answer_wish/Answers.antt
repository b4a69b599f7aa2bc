use Rattle.std.proofs.Common.{ap, refl, sym, ◌∙◌}
use Rattle.std.specs.Option.{option_copied}
use Rattle.js_ordered_table.specs.Arrivals.{beat_subject}
use Rattle.js_ordered_table.specs.declared.transitions.task.Heard.TheVariants as hears
use Rattle.js_ordered_stream.proofs.PushRows.{asks_answer, asks_no_reply, asks_nothing}
use Rattle.js_ordered_stream.proofs.push_rows.answer_wish.Goals as goal

pub returns-in_ok-new-in-Some : goal.returns-in_ok-new-in-Some
returns-in_ok-new-in-Some c = λ number is.
    asks_answer number c.args.message.now (beat_subject c.args.stalled c.args.message.now) c.args.heard c.in-Beat.field-0 c.in-Some.subject.now _ _ c.in-Beat.is (sym c.beat_subject.ensures ∙ ap option_copied c.in-Some.is)
    c.in_ok-new-in-Some.ensures c.empty.ensures is

pub returns-in-None : goal.returns-in-None
returns-in-None c = λ number is.
    asks_no_reply number c.args.message.now (beat_subject c.args.stalled c.args.message.now) c.args.heard c.in-Beat.field-0 c.in-Beat.is (sym c.beat_subject.ensures ∙ ap option_copied c.in-None.is) is

pub returns-in-Yields : goal.returns-in-Yields
returns-in-Yields c = λ number is. asks_nothing number c.args.message.now (beat_subject c.args.stalled c.args.message.now) c.args.heard (hears.Yields c.in-Yields.field-0) c.in-Yields.is refl is

pub returns-in-Unreadable : goal.returns-in-Unreadable
returns-in-Unreadable c = λ number is. asks_nothing number c.args.message.now (beat_subject c.args.stalled c.args.message.now) c.args.heard hears.Unreadable c.in-Unreadable.is refl is

pub returns-in-Gap : goal.returns-in-Gap
returns-in-Gap c = λ number is. asks_nothing number c.args.message.now (beat_subject c.args.stalled c.args.message.now) c.args.heard hears.Gap c.in-Gap.is refl is

pub returns-in-OtherStatus : goal.returns-in-OtherStatus
returns-in-OtherStatus c = λ number is. asks_nothing number c.args.message.now (beat_subject c.args.stalled c.args.message.now) c.args.heard hears.OtherStatus c.in-OtherStatus.is refl is
