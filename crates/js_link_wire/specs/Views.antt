-- Frames of a server where their bytes lie.
use Rattle.std.specs.Prelude.{ℕ}
use Rattle.std.specs.Option.{option_copied}
use Rattle.js_link_wire.specs.declared.frame.ServerFrame.{ServerFrame}
use Rattle.js_link_wire.specs.declared.frame.ServerFrame.TheVariants as frames
use Rattle.js_link_wire.specs.declared.frame.View.{View}
use Rattle.js_link_wire.specs.declared.frame.View.TheVariants as views

-- the frame that is seen
abbrev pub seen : View → ServerFrame
seen (views.Info json) = frames.Info json.now
seen (views.Message subject subscription reply payload) = frames.Message subject.now subscription (option_copied reply) payload.now
seen (views.HeaderedMessage subject subscription reply headers payload) = frames.HeaderedMessage subject.now subscription (option_copied reply) headers.now payload.now
seen views.Ping = frames.Ping
seen views.Pong = frames.Pong
seen views.Taken = frames.Taken
seen (views.Refused text) = frames.Refused text.now

-- the same with how many bytes it takes
abbrev pub sight : View × ℕ → ServerFrame × ℕ
sight x = (seen x.0, x.1)
