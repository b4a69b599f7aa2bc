-- What an arrival is to a pull reader, by its status, its description and its headers.
use Rattle.std.specs.Prelude.{ℕ, Bool, ◌||◌, ◌==◌, List, [], Option, Some, None, codes, nat_eq, unwrap_or, if◌then◌else◌}
use Rattle.std.specs.List.{starts_with}
use Rattle.std.specs.Str.{bytes_eq}
use Rattle.js_base.specs.declared.headers.Header.{Header}
use Rattle.js_base.specs.declared.message.Message.{Message}
use Rattle.js_base.specs.declared.message.StatusCode.{StatusCode}
use Rattle.js_base.specs.Headers.{first_value, all_headers}
use Rattle.js_message.specs.Numbers.{u64_of}
use Rattle.js_pull.specs.declared.kind.Kind.{Kind}
use Rattle.js_pull.specs.declared.kind.Kind.TheVariants.{Delivered, IdleHeartbeat, Deleted, PushBased, Limit, Gone, Ledger, Bad}
use Rattle.js_pull.specs.declared.kind.HeaderNumber.{HeaderNumber}
use Rattle.js_pull.specs.declared.kind.HeaderNumber.TheVariants.{Absent, Unreadable, Number}

-- a number that was read, or not
abbrev pub readable : Option ℕ → HeaderNumber
readable None = Unreadable
readable (Some n) = Number n

-- the number that a header names
abbrev pub number_told : Option (List ℕ) → HeaderNumber
number_told None = Absent
number_told (Some text) = readable (u64_of text)

-- a ledger status names messages and bytes, each absent or a number
abbrev pub ledger : HeaderNumber → HeaderNumber → Kind
ledger Unreadable _ = Bad
ledger Absent Unreadable = Bad
ledger Absent Absent = Ledger None None
ledger Absent (Number bytes) = Ledger None (Some bytes)
ledger (Number messages) Unreadable = Bad
ledger (Number messages) Absent = Ledger (Some messages) None
ledger (Number messages) (Number bytes) = Ledger (Some messages) (Some bytes)

-- what the server says of a consumer that is deleted
abbrev pub is_deleted : List ℕ → Bool
is_deleted description = bytes_eq description (codes "Consumer Deleted")

-- what it says of a push consumer
abbrev pub is_push_based : List ℕ → Bool
is_push_based description = bytes_eq description (codes "Consumer is push based")

-- what it says of a request that was too large
abbrev pub is_limit : List ℕ → Bool
is_limit description = starts_with nat_eq description (codes "Exceeded MaxRequest")

-- a status that ends a request
abbrev pub ended_request : List ℕ → List Header → Kind
ended_request description headers =
    if is_deleted description then Deleted else (
    if is_push_based description then PushBased else (
    if is_limit description then Limit else
    ledger (number_told (first_value (codes "Nats-Pending-Messages") headers))
    (number_told (first_value (codes "Nats-Pending-Bytes") headers))))

-- by its status
abbrev pub kind_of : Message → Option StatusCode → Kind
kind_of message None = Delivered
kind_of message (Some status) =
    if status.0 == 200 then Delivered else (
    if status.0 == 100 then IdleHeartbeat else (
    if status.0 == 408 || status.0 == 409 || status.0 == 423
    then ended_request (unwrap_or message.description []) (all_headers message.headers) else (
    if status.0 == 503 then Gone else Bad)))

-- the kind of an arrival
abbrev pub pull_kind : Message → Kind
pull_kind message = kind_of message message.status
