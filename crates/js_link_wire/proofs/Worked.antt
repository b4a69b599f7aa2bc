-- Frames that are read, step by step.
use Rattle.std.proofs.Common.{◌≡◌, codes, [], ◌∷◌, ◌++◌, Ok, Err, None, Some, refl}
use Rattle.std.specs.Str.{is_utf8, chars}
use lib.Utf8.{encode}
use Rattle.js_link_wire.specs.declared.damage.Damage.TheVariants.{BadNumber, WrongArguments, BodyTooLong, HeadersTooLong, NoLineEnd, UnknownVerb}
use Rattle.js_link_wire.specs.declared.damage.Unread.TheVariants.{More, Damaged}
use Rattle.js_link_wire.specs.declared.frame.ServerFrame.TheVariants.{Message, HeaderedMessage, Ping, Refused}
use Rattle.js_link_wire.specs.declared.first_frame.Reading.TheVariants as readings
use Rattle.js_link_wire.specs.Lines.{line_at, text_of, without_return}
use Rattle.js_link_wire.specs.Words.{number_of}
use Rattle.js_link_wire.specs.Messages.{line_of, headered_line_of, body_at, message_of, headered_message_of}
use Rattle.js_link_wire.specs.FirstFrame.{said, frame_of, first_frame, read}
use Rattle.js_link_wire.specs.ServerText.{line_end}
use Rattle.js_link_wire.specs.declared.headers.HeadersDamage.TheVariants.{BadStatus, CutShort}
use Rattle.js_link_wire.specs.Headers.{read_block, cut_at, headers_in, line_text, version_of, status_of, status_at, digit_of, description_of, trimmed, text_in, name_and_value}

a_line : line_at (codes "PING" ++ line_end ++ codes "x") ≡ Ok (codes "PING" ++ 13 ∷ [], codes "x")
unfolding line_at
a_line = refl

no_line_yet : line_at (codes "PING") ≡ Err More
unfolding line_at
no_line_yet = refl

leading_zeros : number_of (codes "007") ≡ Ok 7
unfolding number_of
leading_zeros = refl

a_sign : number_of (codes "+7") ≡ Err (Damaged BadNumber)
unfolding number_of
a_sign = refl

too_large : number_of (codes "18446744073709551616") ≡ Err (Damaged BadNumber)
unfolding number_of
too_large = refl

whole : read 5 (codes "MSG a.b 7 5" ++ line_end ++ codes "hello" ++ line_end) ≡ readings.Whole (Message (codes "a.b") 7 None (codes "hello")) 20
unfolding read first_frame line_at text_of without_return said message_of line_of number_of body_at is_utf8 chars encode
whole = refl

whole_then_more : read 5 (codes "PING" ++ line_end ++ codes "MSG") ≡ readings.Whole Ping 6
unfolding read first_frame line_at text_of without_return said is_utf8 chars encode
whole_then_more = refl

a_ping : frame_of 100 (codes "PING") [] ≡ Ok (Ping, 0)
unfolding said
a_ping = refl

a_refusal : frame_of 100 (codes "-ERR 'Slow Consumer'") [] ≡ Ok (Refused (codes "'Slow Consumer'"), 0)
unfolding said
a_refusal = refl

no_verb : frame_of 100 (codes "msg a 1 2") (codes "hi" ++ line_end) ≡ Err (Damaged UnknownVerb)
unfolding said
no_verb = refl

a_message : frame_of 100 (codes "MSG a.b  7 r 2") (codes "hi" ++ line_end ++ codes "PING") ≡ Ok (Message (codes "a.b") 7 (Some (codes "r")) (codes "hi"), 4)
unfolding said message_of line_of number_of body_at
a_message = refl

half_a_message : frame_of 100 (codes "MSG a 1 2") (codes "hi" ++ 13 ∷ []) ≡ Err More
unfolding said message_of line_of number_of body_at
half_a_message = refl

a_longer_body : frame_of 100 (codes "MSG a 1 2") (codes "hix" ++ line_end) ≡ Err (Damaged NoLineEnd)
unfolding said message_of line_of number_of body_at
a_longer_body = refl

past_the_limit : frame_of 100 (codes "MSG a 1 101") [] ≡ Err (Damaged BodyTooLong)
unfolding said message_of line_of number_of body_at
past_the_limit = refl

a_word_too_few : frame_of 100 (codes "MSG a 1") [] ≡ Err (Damaged WrongArguments)
unfolding said message_of
a_word_too_few = refl

with_headers : frame_of 100 (codes "HMSG a 1 12 13") (codes "NATS/1.0" ++ line_end ++ line_end ++ codes "x" ++ line_end) ≡ Ok (HeaderedMessage (codes "a") 1 None (codes "NATS/1.0" ++ line_end ++ line_end) (codes "x"), 15)
unfolding said headered_message_of headered_line_of line_of number_of body_at
with_headers = refl

more_headers_than_body : frame_of 100 (codes "HMSG a 1 9 4") [] ≡ Err (Damaged HeadersTooLong)
unfolding said headered_message_of headered_line_of line_of number_of
more_headers_than_body = refl

-- ---- headers

no_responders : read_block (codes "NATS/1.0 503" ++ (line_end ++ line_end)) ≡ Ok (record { status = Some (record { 0 = 503 }); description = None; headers = [] })
unfolding read_block cut_at headers_in line_text version_of status_of status_at digit_of description_of trimmed
no_responders = refl

a_heartbeat : read_block (codes "NATS/1.0 100 Idle Heartbeat" ++ (line_end ++ (codes "Nats-Last-Stream: 7" ++ (line_end ++ line_end)))) ≡ Ok (record { status = Some (record { 0 = 100 }); description = Some (codes "Idle Heartbeat"); headers = record { name = codes "Nats-Last-Stream"; value = codes "7" } ∷ [] })
unfolding read_block cut_at headers_in line_text version_of status_of status_at digit_of description_of trimmed text_in name_and_value is_utf8 chars encode
a_heartbeat = refl

two_digits : read_block (codes "NATS/1.0 50" ++ (line_end ++ line_end)) ≡ Err BadStatus
unfolding read_block cut_at headers_in line_text version_of status_of status_at digit_of description_of trimmed
two_digits = refl

no_empty_line : read_block (codes "NATS/1.0" ++ (line_end ++ (codes "a: b" ++ line_end))) ≡ Err CutShort
unfolding read_block cut_at headers_in line_text version_of status_of status_at digit_of description_of trimmed text_in name_and_value is_utf8 chars encode
no_empty_line = refl
