-- A request that is left alone is what it was.
use Rattle.std.proofs.Common.{◌≡◌, ℕ, true, false, Option, Some, None, Result, refl, sym, ◌∙◌, ap}
use Rattle.js_base.specs.declared.error.Error.{Error}
use Rattle.js_base.specs.declared.message.Message.{Message}
use Rattle.js_base.specs.declared.turn.Turn.{Turn}
use Rattle.js_base.specs.declared.turn.Turn.TheVariants as turns
use Rattle.js_link.specs.LinkView.{LinkView}
use Rattle.js_link.specs.LinkView as views
use Rattle.js_call.specs.declared.error.RequestErrorKind.{RequestErrorKind}
use Rattle.js_call.specs.declared.open_request.OpenRequest.{OpenRequest}
use Rattle.js_call.specs.declared.open_request.Shown.{Shown}
use Rattle.js_call.specs.declared.open_request.Shown.TheVariants.{Came, Gone, Due, Still}
use Rattle.js_call.specs.declared.raw_call.RawCall.{RawCall}
use Rattle.js_call.specs.declared.raw_call.RequestProgress.{RequestProgress}
use Rattle.js_call.specs.declared.raw_call.RequestProgress.TheVariants as met
use Rattle.js_call.specs.RawCall.{Shows, Progresses, progress_turn, sent_as}
use Rattle.js_call.specs.Wakes.{IsLeftAlone, Sleeps}

-- a look at it shows that it still waits, and changes nothing
pub still : (sent : OpenRequest) (now : ℕ) (shown : Shown) (old new : LinkView) → Shows sent now shown old new → IsLeftAlone (Some sent) now old → (shown ≡ Still) × (new ≡ old)
still sent now (Came message) old new shows alone = absurd (never (sym alone.0 ∙ shows.had_come))
  where
    never : views.Waits ≡ views.Answered → ⊥
    never e = cc
still sent now Gone old new shows alone = absurd (never (sym alone.0 ∙ shows.1))
  where
    never : views.Waits ≡ views.Ended → ⊥
    never e = cc
still sent now Due old new (same, waits, over) alone = absurd (never (sym alone.1 ∙ over))
  where
    never : false ≡ true → ⊥
    never e = cc
still sent now Still old new shows alone = (refl, shows.0)

abbrev RawTurn : Type 0
RawTurn = Turn RawCall (Result Message (Error RequestErrorKind))

-- a poll of it is pending, and hands it back as it was
pub sleeps : (call : RawCall) (now : ℕ) (shown : RequestProgress) (turn : RawTurn) (old new : LinkView) (sent : Option OpenRequest) → call.sent ≡ sent
    → Progresses sent call now shown old new → turn ≡ progress_turn call shown → Sleeps sent now call turn old new
sleeps call now shown turn old new None is meets by = λ alone. absurd alone
sleeps call now (met.Shown asked shown) turn old new (Some sent) is meets by = λ alone.
    let (waits, same) = still sent now shown old new meets.1 alone in (
      by ∙ ap (λ (s : Shown). progress_turn call (met.Shown asked s)) waits ∙ ap (λ (a : OpenRequest). turns.Pending (sent_as call a)) meets.0
          ∙ ap (λ (s : Option OpenRequest). turns.Pending (record call { sent = s })) (sym is),
      same,
    )
sleeps call now shown turn old new (Some sent) is meets by = λ alone. absurd meets
