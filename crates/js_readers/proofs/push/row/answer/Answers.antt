use Rattle.std.proofs.Common.{◌≡◌, ℕ, List, [], Option, Some, None, refl, subst}
use Rattle.js_base.specs.declared.message.Message.{Message}
use Rattle.js_link.specs.Calls.{FailsToSend, RefusedSend}
use Rattle.js_link.specs.LinkView.{LinkView}
use Rattle.js_link.specs.Meets.{Meets}
use Rattle.js_link.specs.declared.wish.Wish.TheVariants.{Publishes}
use Rattle.js_link.specs.declared.wish.Met.{Met}
use Rattle.js_link.specs.declared.wish.Met.TheVariants.{Unasked, GoneOut, Refused}
use Rattle.js_link.specs.declared.link.LinkError.{LinkError}
use Rattle.js_link.specs.declared.link.LinkError.TheVariants.{Failed}
use Rattle.js_ordered_table.specs.Arrivals.{answer_subject}
use Rattle.js_readers.specs.PushRows.{answer_wish}
use Rattle.js_readers.specs.PushMessages.{IsAnswered}
use Rattle.js_readers.proofs.push.row.answer.Goals as goal

unasked : (m : Message) (v : LinkView) → None ≡ answer_subject m → IsAnswered m v v
unasked m v is = record { met = Unasked; meets = subst (λ (x : Option (List ℕ)). Meets (answer_wish x) Unasked v v) is refl }

asked : (subject : List ℕ) (m : Message) (met : Met) (v u : LinkView) → Some subject ≡ answer_subject m → Meets (Publishes subject None []) met v u → IsAnswered m v u
asked subject m met v u is meets = record { met = met; meets = subst (λ (x : Option (List ℕ)). Meets (answer_wish x) met v u) is meets }

failed : (e : LinkError) (v u : LinkView) → e ≡ Failed → RefusedSend e v u → FailsToSend v u
failed e v u is refused = subst (λ (x : LinkError). RefusedSend x v u) is refused

pub returns-in_default-clause-answered : goal.returns-in_default-clause-answered
returns-in_default-clause-answered g c = unasked _ _ c.in_default.ensures

pub returns-in-Ok-clause-answered : goal.returns-in-Ok-clause-answered
returns-in-Ok-clause-answered g c = asked c.in-Some.subject.now _ GoneOut _ _ c.in-Some.ensures c.in-Ok.ensures

pub returns-in-Err-Failed-clause-answered : goal.returns-in-Err-Failed-clause-answered
returns-in-Err-Failed-clause-answered g c =
    asked c.in-Some.subject.now _ Refused _ _ c.in-Some.ensures
    (failed _ _ _ c.in-Err-Failed.field-0-is c.in-Err-Failed.ensures)
