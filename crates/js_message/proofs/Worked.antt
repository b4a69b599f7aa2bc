-- Worked examples, which the definitions compute.
use Rattle.std.specs.Prelude.{◌≡◌, refl, [], ◌∷◌, Some, None, Err, codes}
use Rattle.js_base.specs.Subject.{tokens}
use Rattle.js_message.specs.Acknowledgement.{unsent, opened, waiting}
use Rattle.js_message.specs.AckSubject.{token_at}
use Rattle.js_message.specs.DotPositions.{dots_of, token_start, token_end}
use Rattle.js_message.specs.StreamMessage.{is_missing, is_unreadable, fields_in}
use Rattle.js_message.specs.declared.stream_message.StreamHeader.TheVariants.{Sequence, TimeStamp}
use Rattle.js_message.specs.declared.info_error.InfoError.TheVariants.{Prefix}
use Rattle.js_message.specs.declared.message.MessageInfoError.TheVariants.{Unreadable}
use Rattle.js_message.specs.Texts.{message_info_text}
use Rattle.js_message.specs.Wakes.{awaited_inbox}

-- dots that stand together have an empty token between them
places : dots_of (codes "a.bc..") ≡ 1 ∷ 4 ∷ 5 ∷ []
places = refl

second_start : token_start (dots_of (codes "a.bc..")) 1 ≡ 2
second_start = refl

last_end : token_end (dots_of (codes "a.bc..")) 6 3 ≡ 6
last_end = refl

second_token : token_at 1 (tokens (codes "a.bc..")) ≡ codes "bc"
second_token = refl

-- headers that lack the first, and some whose first is no number
no_headers : fields_in [] ≡ Err (is_missing Sequence)
no_headers = refl

bad_sequence : fields_in (record { name = codes "Nats-Sequence"; value = codes "x" } ∷ []) ≡ Err (is_unreadable Sequence)
bad_sequence = refl

no_time : fields_in (record { name = codes "Nats-Sequence"; value = codes "7" } ∷ []) ≡ Err (is_missing TimeStamp)
no_time = refl

other_prefix : message_info_text (Unreadable Prefix) ≡ codes "no acknowledgement subject: the subject does not begin with $JS.ACK."
other_prefix = refl

-- only what was sent waits, and in its own inbox
unsent_waits_nowhere : awaited_inbox (unsent 9 (Some (codes "r")) (codes "+ACK")) ≡ None
unsent_waits_nowhere = refl

opened_waits_nowhere : awaited_inbox (opened (record { to = codes "r"; body = codes "+ACK"; timeout = 9 }) 7 (codes "i")) ≡ None
opened_waits_nowhere = refl

waits_in_its_inbox : awaited_inbox (waiting (record { to = codes "r"; body = codes "+ACK"; timeout = 9 }) 7 3) ≡ Some (record { 0 = 7 })
waits_in_its_inbox = refl
