-- What one frame does.
use Rattle.std.proofs.Common.{◌≡◌, ℕ, List, false, Option, Some, None, Result, Ok, Err, refl, sym, ◌∙◌}
use Rattle.js_link.specs.LinkView.{LinkView}
use Rattle.js_link_outbox.specs.Outbox.{outbox_view}
use Rattle.js_link_wire.specs.declared.frame.ServerFrame.{ServerFrame}
use Rattle.js_link_wire.specs.declared.frame.ServerFrame.TheVariants as frames
use Rattle.js_link_wire.specs.declared.headers.HeadersDamage.{HeadersDamage}
use Rattle.js_link_wire.specs.declared.incoming.Incoming.{Incoming}
use Rattle.js_link_wire.specs.FrameReader.{next_frame}
use Rattle.js_link_wire.specs.Incoming.{incoming}
use Rattle.js_link_connection.specs.declared.connection.Connection.{Connection}
use Rattle.js_link_connection.specs.declared.error.ConnectionError.{ConnectionError}
use Rattle.js_link_connection.specs.declared.error.ConnectionError.TheVariants as failed
use Rattle.js_link_connection.specs.Delivery.{Delivers, EndsBy, IsAt, IsWhy, Messages, Takes, TakesMessage, is_refusal, told_view}

-- a frame that no refusal is
pub no_refusal : (frame : ServerFrame) → ((text : List ℕ) → frame ≡ frames.Refused text → ⊥) → is_refusal frame ≡ false
no_refusal (frames.Info json) other = refl
no_refusal (frames.Message subject subscription reply payload) other = refl
no_refusal (frames.HeaderedMessage subject subscription reply headers payload) other = refl
no_refusal frames.Ping other = refl
no_refusal frames.Pong other = refl
no_refusal frames.Taken other = refl
no_refusal (frames.Refused text) other = absurd (other text refl)

delivers_message : (message : Result (Option Incoming) HeadersDamage) (frame : ServerFrame) (old new : Connection) → ((view : LinkView) → told_view frame view ≡ view) → Messages message old new
    → Delivers message frame old new
delivers_message (Ok (Some message)) frame old new untold h = h
delivers_message (Ok None) frame old new untold h = (h.0 ∙ sym (untold (outbox_view old.link)), h.1, h.2)
delivers_message (Err damage) frame old new untold h = h

takes_with : (frame : ServerFrame) (old new : Connection) → ((view : LinkView) → told_view frame view ≡ view) → TakesMessage frame old new → Delivers (incoming frame) frame old new
takes_with frame old new untold h = delivers_message (incoming frame) frame old new untold h.delivers

-- what a function that takes messages alone does is all that other frames do
pub takes_message : (frame : ServerFrame) (old new : Connection) → ((json : List ℕ) → frame ≡ frames.Info json → ⊥) → (frame ≡ frames.Ping → ⊥) → (frame ≡ frames.Pong → ⊥) → is_refusal frame ≡ false
    → TakesMessage frame old new → Takes frame old new
takes_message (frames.Info json) old new info ping pong refused h = absurd (info json refl)
takes_message (frames.Message subject subscription reply payload) old new info ping pong refused h = record {
  refused = refl;
  delivers = takes_with (frames.Message subject subscription reply payload) old new (λ _. refl) h;
  writer = h.writer;
  info = h.info;
  unanswered = h.unanswered;
}
takes_message (frames.HeaderedMessage subject subscription reply headers payload) old new info ping pong refused h = record {
  refused = refl;
  delivers = takes_with (frames.HeaderedMessage subject subscription reply headers payload) old new (λ _. refl) h;
  writer = h.writer;
  info = h.info;
  unanswered = h.unanswered;
}
takes_message frames.Ping old new info ping pong refused h = absurd (ping refl)
takes_message frames.Pong old new info ping pong refused h = absurd (pong refl)
takes_message frames.Taken old new info ping pong refused h = record {
  refused = refl;
  delivers = takes_with frames.Taken old new (λ _. refl) h;
  writer = h.writer;
  info = h.info;
  unanswered = h.unanswered;
}
takes_message (frames.Refused text) old new info ping pong refused h = absurd cc

-- a frame that is not taken ends the reading
pub ends_at_frame : (error : ConnectionError) (frame : ServerFrame) (most : ℕ) (bytes rest : List ℕ) (new : Connection) → next_frame most bytes ≡ Ok (Some (frame, rest)) → IsWhy error frame → IsAt error new.place → new.came ≡ bytes
    → EndsBy error most bytes new
ends_at_frame (failed.Damaged damage place) frame most bytes rest new next why at same = absurd why
ends_at_frame (failed.BadHeaders damage place) frame most bytes rest new next why at same = ((frame, rest, next, why), same, at)
ends_at_frame (failed.BadInfo place) frame most bytes rest new next why at same = ((frame, rest, next, why), same, at)
ends_at_frame (failed.Refused text) frame most bytes rest new next why at same = absurd why
ends_at_frame failed.Silent frame most bytes rest new next why at same = absurd why
ends_at_frame (failed.Unwritable error) frame most bytes rest new next why at same = absurd why
ends_at_frame failed.OutOfMemory frame most bytes rest new next why at same = absurd why
ends_at_frame failed.Unread frame most bytes rest new next why at same = same
