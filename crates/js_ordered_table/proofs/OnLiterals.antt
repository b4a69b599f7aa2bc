-- What a worked run unfolds to be computed.
use Rattle.std.specs.Prelude.{⊤}
use Rattle.js_json.proofs.OnLiterals.{requests_on_literals, infos_on_literals}
use Rattle.js_ordered_table.specs.Fold.{event, run_events, opening, fold}
use Rattle.js_ordered_table.specs.Refusal.{refuse_input, refuse}

unfoldable pub replays_on_literals : ⊤
unfolding requests_on_literals infos_on_literals event run_events opening fold refuse refuse_input
replays_on_literals = tt
