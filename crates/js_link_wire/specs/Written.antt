-- What a client writes.
use Rattle.std.specs.Prelude.{◌≡◌, ℕ, refl, ◌==◌, ◌+◌, ◌&&◌, ◌||◌, ◌<◌, ◌^◌, Bool, true, not, List, [], ◌∷◌, ◌++◌, length, codes, nat_lt, Option, Some, None, if◌then◌else◌, IfSome}
use Rattle.std.specs.Fmt.{decimal, digits}
use Rattle.std.specs.List.{list_all, flat_map}
use Rattle.std.specs.Char.{is_ascii_whitespace}
use Rattle.js_base.specs.Headers.{pairs, is_sendable}
use Rattle.js_base.specs.Subject.{is_valid_subject}
use Rattle.js_base.specs.declared.headers.Header.{Header}
use Rattle.js_link_wire.specs.declared.frame.ClientFrame.{ClientFrame}
use Rattle.js_link_wire.specs.declared.frame.ClientFrame.TheVariants.{Connect, Subscribe, Unsubscribe, Publish, HeaderedPublish, Ping, Pong}
use Rattle.js_link_wire.specs.declared.refusals.WriteError.{WriteError}
use Rattle.js_link_wire.specs.declared.refusals.WriteError.TheVariants.{BadConnect, BadSubject, BadQueueGroup, BadReply, BadHeaders, OutOfMemory}
use Rattle.js_link_wire.specs.ServerText.{spaced, line_end}

-- a word before another, where there is one
abbrev pub after_any : Option (List ℕ) → List ℕ → List ℕ
after_any None last = last
after_any (Some word) last = spaced word last

-- a number, and behind it another, where there is one
abbrev pub before_any : ℕ → Option ℕ → List ℕ
before_any number None = decimal number
before_any number (Some max) = spaced (decimal number) (decimal max)

-- the line of a header: its name, a colon and a blank, its value, and a line end
abbrev pub header_line : List ℕ × List ℕ → List ℕ
header_line header = header.0 ++ (codes ": " ++ (header.1 ++ line_end))

-- the same without its end
abbrev pub header_text : Header → List ℕ
header_text header = header.name ++ (codes ": " ++ header.value)

-- the block of headers: the version, a line for each header in order, and an empty line
unfoldable pub header_block : List Header → List ℕ
header_block headers = codes "NATS/1.0" ++ (line_end ++ (flat_map header_line (pairs headers) ++ line_end))

-- the line of a message with headers says their length, and then the length of headers and payload together
abbrev pub headered_line : List ℕ → Option (List ℕ) → List ℕ → List ℕ → List ℕ
headered_line subject reply block payload =
    codes "HPUB " ++ spaced subject (after_any reply (spaced (decimal (length block)) (decimal (length block + length payload))))

-- the line of a frame, without its end
abbrev pub client_line : ClientFrame → List ℕ
client_line (Connect json) = codes "CONNECT " ++ json
client_line (Subscribe subject queue_group subscription) = codes "SUB " ++ spaced subject (after_any queue_group (decimal subscription))
client_line (Unsubscribe subscription max) = codes "UNSUB " ++ before_any subscription max
client_line (Publish subject reply payload) = codes "PUB " ++ spaced subject (after_any reply (decimal (length payload)))
client_line (HeaderedPublish subject reply headers payload) = headered_line subject reply (header_block headers) payload
client_line Ping = codes "PING"
client_line Pong = codes "PONG"

-- what stands behind the line
abbrev pub client_body : ClientFrame → List ℕ
client_body (Connect json) = []
client_body (Subscribe subject queue_group subscription) = []
client_body (Unsubscribe subscription max) = []
client_body (Publish subject reply payload) = payload ++ line_end
client_body (HeaderedPublish subject reply headers payload) = (header_block headers ++ payload) ++ line_end
client_body Ping = []
client_body Pong = []

-- the text of a frame
abbrev pub written : ClientFrame → List ℕ
written frame = client_line frame ++ (line_end ++ client_body frame)

a_connect : written (Connect (codes "{}")) ≡ codes "CONNECT {}" ++ line_end
a_connect = refl

a_subscribe : written (Subscribe (codes "a.>") (Some (codes "g")) 12) ≡ codes "SUB a.> g 12" ++ line_end
unfolding digits
a_subscribe = refl

an_unsubscribe : written (Unsubscribe 12 (Some 3)) ≡ codes "UNSUB 12 3" ++ line_end
unfolding digits
an_unsubscribe = refl

a_publish : written (Publish (codes "a.b") (Some (codes "r")) (codes "hi")) ≡ codes "PUB a.b r 2" ++ line_end ++ codes "hi" ++ line_end
unfolding digits
a_publish = refl

with_headers : written (HeaderedPublish (codes "a.b") None (record { name = codes "k"; value = codes "v" } ∷ []) (codes "hi")) ≡ codes "HPUB a.b 18 20" ++ line_end ++ codes "NATS/1.0" ++ line_end ++ codes "k: v" ++ line_end ++ line_end ++ codes "hi" ++ line_end
unfolding digits header_block
with_headers = refl

a_ping : written Ping ≡ codes "PING" ++ line_end
a_ping = refl

a_pong : written Pong ≡ codes "PONG" ++ line_end
a_pong = refl

-- ---- what is refused

-- a carriage return or a line feed
abbrev pub ends_line : ℕ → Bool
ends_line c = c == 13 || c == 10

-- a text that stays in its line
abbrev pub is_in_line : List ℕ → Bool
is_in_line text = list_all (λ c. not (ends_line c)) text

-- a name: some bytes without ASCII white space
abbrev pub is_name : List ℕ → Bool
is_name text = nat_lt 0 (length text) && list_all (λ c. not (is_ascii_whitespace c)) text

-- where there is one, it passes
abbrev pub passes_any : (List ℕ → Bool) → Option (List ℕ) → Bool
passes_any test None = true
passes_any test (Some text) = test text

-- what keeps a CONNECT from being written
abbrev pub connect_refusal : List ℕ → Option WriteError
connect_refusal json = if is_in_line json then None else Some BadConnect

-- the first thing that keeps a subscription from being written
abbrev pub subscribe_refusal : List ℕ → Option (List ℕ) → Option WriteError
subscribe_refusal subject queue_group =
    if is_valid_subject subject then (if passes_any is_name queue_group then None else Some BadQueueGroup) else Some BadSubject

-- the first thing that keeps a message from being written, whose headers are these
abbrev pub publish_refusal : List ℕ → Option (List ℕ) → List Header → Option WriteError
publish_refusal subject reply headers =
    if is_valid_subject subject then (if passes_any is_valid_subject reply then (if is_sendable headers then None else Some BadHeaders) else Some BadReply)
    else Some BadSubject

-- the first thing that keeps a frame from being written
abbrev pub refusal : ClientFrame → Option WriteError
refusal (Connect json) = connect_refusal json
refusal (Subscribe subject queue_group subscription) = subscribe_refusal subject queue_group
refusal (Unsubscribe subscription max) = None
refusal (Publish subject reply payload) = publish_refusal subject reply []
refusal (HeaderedPublish subject reply headers payload) = publish_refusal subject reply headers
refusal Ping = None
refusal Pong = None

two_lines : refusal (Publish (codes "a" ++ line_end ++ codes "PING") None []) ≡ Some BadSubject
two_lines = refl

two_headers : refusal (HeaderedPublish (codes "a") None (record { name = codes "k"; value = codes "v" ++ line_end ++ codes "l: w" } ∷ []) []) ≡ Some BadHeaders
two_headers = refl

-- why a frame was not written: memory ran out, or it is refused for this
abbrev pub IsCause : ClientFrame → WriteError → Type 0
IsCause frame OutOfMemory = refusal frame ≡ None
IsCause frame BadConnect = refusal frame ≡ Some BadConnect
IsCause frame BadSubject = refusal frame ≡ Some BadSubject
IsCause frame BadQueueGroup = refusal frame ≡ Some BadQueueGroup
IsCause frame BadReply = refusal frame ≡ Some BadReply
IsCause frame BadHeaders = refusal frame ≡ Some BadHeaders

-- the numbers of a frame are those of its types
abbrev pub NumbersFit : ClientFrame → Type 0
NumbersFit (Connect json) = Unit {0}
NumbersFit (Subscribe subject queue_group subscription) = subscription < 2 ^ 64
NumbersFit (Unsubscribe subscription max) = (subscription < 2 ^ 64) × IfSome max (λ n. n < 2 ^ 64)
NumbersFit (Publish subject reply payload) = length payload < 2 ^ 64
NumbersFit (HeaderedPublish subject reply headers payload) = length (header_block headers) + length payload < 2 ^ 64
NumbersFit Ping = Unit {0}
NumbersFit Pong = Unit {0}
