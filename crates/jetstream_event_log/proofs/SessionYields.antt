-- The committed yields of sessions leave no gap of a server that has the log, and has removed what was removed in the end.
use Rattle.std.proofs.Common.{◌≡◌, ℕ, List, slice_index, Some, sym, ap, subst}
use Rattle.std.specs.Prelude.{unwrap_or}
use Rattle.js_event_log_sessions.specs.GaplessSessions.{IsJoined}
use Rattle.js_ordered_table.specs.declared.setup.OrderedSetup.{OrderedSetup}
use Rattle.js_ordered_table.specs.Gapless.{Entry, Logged, IsGapless, IsWhole, sequences}
use Rattle.js_ordered_table.specs.Texts.{configured_start}
use Rattle.jetstream_event_log.specs.SessionRows.{in_the_end}

pub joined_gapless : (setup : OrderedSetup) (log : List Logged) (removed : List ℕ) (next : ℕ) (yields : List Entry) → configured_start setup ≡ Some next
    → IsJoined setup log removed next yields → IsGapless (in_the_end log removed) setup yields
joined_gapless setup log removed next yields configured joined = record {
  whole = subst (λ start. IsWhole setup log removed start (sequences yields)) (sym (ap (λ o. unwrap_or o (slice_index (sequences yields) 0)) configured)) joined.whole;
  logged = joined.logged;
}
