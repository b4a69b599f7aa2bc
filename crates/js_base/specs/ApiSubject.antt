-- The subjects of requests that speak of a consumer, without the prefix of the API.
use Rattle.std.specs.Prelude.{ℕ, ◌≡◌, refl, ◌==◌, ◌++◌, List, length, codes, if◌then◌else◌}

-- words and one more, after a dot
abbrev pub under : List ℕ → List ℕ → List ℕ
under words word = words ++ (codes "." ++ word)

-- a call's words, the stream and the consumer, in this order
abbrev pub consumer_api_subject : List ℕ → List ℕ → List ℕ → List ℕ
consumer_api_subject words stream consumer = under (under words stream) consumer

-- a named consumer, and then the subject that it reads, where it reads one
abbrev pub named_subject : List ℕ → List ℕ → List ℕ → List ℕ
named_subject words name filter = if length filter == 0 then under words name else under (under words name) filter

-- the info of the consumer c1 of the stream events
an_info : consumer_api_subject (codes "CONSUMER.INFO") (codes "events") (codes "c1") ≡ codes "CONSUMER.INFO.events.c1"
an_info = refl

-- it is made where it reads all subjects, and where it reads one
made_for_all : named_subject (under (codes "CONSUMER.CREATE") (codes "events")) (codes "c1") (codes "") ≡ codes "CONSUMER.CREATE.events.c1"
made_for_all = refl

made_for_one : named_subject (under (codes "CONSUMER.CREATE") (codes "events")) (codes "c1") (codes "a.>") ≡ codes "CONSUMER.CREATE.events.c1.a.>"
made_for_one = refl
