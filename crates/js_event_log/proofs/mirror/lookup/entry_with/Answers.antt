use Rattle.std.proofs.Common.{ap, ◌∙◌}
use Rattle.js_event_log.specs.MirrorJoin.{headed}
use Rattle.js_event_log.proofs.MirrorLookup.{headed_past}
use Rattle.js_event_log.proofs.mirror.lookup.entry_with.Goals as goal

pub returns : goal.returns
returns c =
    c.first_with.ensures ∙ ap (headed c.args.sequence) c.entries_from.ensures ∙ headed_past 0 c.args.entries.now c.args.sequence c.requires
