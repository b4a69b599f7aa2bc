-- What a server writes.
use Rattle.std.specs.Prelude.{◌≡◌, ℕ, refl, ◌+◌, ◌≤◌, ◌<◌, ◌^◌, true, false, List, [], ◌∷◌, ◌++◌, length, codes, Option, Some, None, IfSome, All}
use Rattle.std.specs.Fmt.{decimal, digits}
use Rattle.std.specs.Str.{is_utf8}
use Rattle.js_link_wire.specs.declared.line.TheConstants.{LONGEST_LINE, LONGEST_INFO}
use Rattle.js_link_wire.specs.declared.frame.ServerFrame.{ServerFrame}
use Rattle.js_link_wire.specs.declared.frame.ServerFrame.TheVariants.{Info, Message, HeaderedMessage, Ping, Pong, Taken, Refused}
use Rattle.js_link_wire.specs.Lines.{is_feed}
use Rattle.js_link_wire.specs.Words.{is_blank}

-- two texts with a blank between them
abbrev pub spaced : List ℕ → List ℕ → List ℕ
spaced front back = front ++ 32 ∷ back

-- where a message comes from, and then how long it is
abbrev pub addressed : List ℕ → ℕ → Option (List ℕ) → List ℕ → List ℕ
addressed subject subscription None lengths = spaced subject (spaced (decimal subscription) lengths)
addressed subject subscription (Some reply) lengths = spaced subject (spaced (decimal subscription) (spaced reply lengths))

-- the line of a frame, without its end
abbrev pub server_line : ServerFrame → List ℕ
server_line (Info json) = codes "INFO " ++ json
server_line (Message subject subscription reply payload) = codes "MSG " ++ addressed subject subscription reply (decimal (length payload))
server_line (HeaderedMessage subject subscription reply headers payload) =
    codes "HMSG " ++ addressed subject subscription reply (spaced (decimal (length headers)) (decimal (length headers + length payload)))
server_line Ping = codes "PING"
server_line Pong = codes "PONG"
server_line Taken = codes "+OK"
server_line (Refused text) = codes "-ERR " ++ text

abbrev pub line_end : List ℕ
line_end = 13 ∷ 10 ∷ []

-- what stands behind the line
abbrev pub server_body : ServerFrame → List ℕ
server_body (Info json) = []
server_body (Message subject subscription reply payload) = payload ++ line_end
server_body (HeaderedMessage subject subscription reply headers payload) = (headers ++ payload) ++ line_end
server_body Ping = []
server_body Pong = []
server_body Taken = []
server_body (Refused text) = []

-- the text of a frame
unfoldable pub server_text : ServerFrame → List ℕ
server_text frame = server_line frame ++ (line_end ++ server_body frame)

a_message : server_text (Message (codes "a.b") 7 (Some (codes "r")) (codes "hi")) ≡ codes "MSG a.b 7 r 2" ++ line_end ++ codes "hi" ++ line_end
unfolding server_text digits
a_message = refl

with_headers : server_text (HeaderedMessage (codes "a") 1 None (codes "NATS/1.0" ++ line_end ++ line_end) (codes "x")) ≡ codes "HMSG a 1 12 13" ++ line_end ++ codes "NATS/1.0" ++ line_end ++ line_end ++ codes "x" ++ line_end
unfolding server_text digits
with_headers = refl

-- how long the line of a frame is at most, with its end
abbrev pub longest : ServerFrame → ℕ
longest (Info json) = LONGEST_INFO
longest (Message subject subscription reply payload) = LONGEST_LINE
longest (HeaderedMessage subject subscription reply headers payload) = LONGEST_LINE
longest Ping = LONGEST_LINE
longest Pong = LONGEST_LINE
longest Taken = LONGEST_LINE
longest (Refused text) = LONGEST_LINE

-- a word: some bytes without a blank
pub record IsWord (word : List ℕ) : Type 0 where
  pub filled : 0 < length word
  pub whole : All (λ c. is_blank c ≡ false) word

-- a message whose parts can be told apart, with a body of at most so many bytes
pub record IsMessage (most : ℕ) (subject : List ℕ) (subscription : ℕ) (reply : Option (List ℕ)) (count : ℕ) : Type 0 where
  pub subject_is : IsWord subject
  pub number_fits : subscription < 2 ^ 64
  pub reply_is : IfSome reply IsWord
  pub body_fits : count ≤ most

abbrev pub HasParts : ℕ → ServerFrame → Type 0
HasParts most (Info json) = Unit {0}
HasParts most (Message subject subscription reply payload) = IsMessage most subject subscription reply (length payload)
HasParts most (HeaderedMessage subject subscription reply headers payload) = IsMessage most subject subscription reply (length headers + length payload)
HasParts most Ping = Unit {0}
HasParts most Pong = Unit {0}
HasParts most Taken = Unit {0}
HasParts most (Refused text) = Unit {0}

-- a frame that a server can write: its line is UTF-8 without a line feed, and not too long
pub record IsFrame (most : ℕ) (frame : ServerFrame) : Type 0 where
  pub one_line : All (λ c. is_feed c ≡ false) (server_line frame)
  pub utf8 : is_utf8 (server_line frame) ≡ true
  pub short : length (server_line frame) + 2 ≤ longest frame
  pub parts : HasParts most frame
