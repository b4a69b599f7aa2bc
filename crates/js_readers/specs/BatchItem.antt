-- What an arrival is to a batch, by its status.
use Rattle.std.specs.Prelude.{ℕ, ◌≡◌, refl, ◌==◌, ◌||◌, ◌++◌, List, Option, Some, None, codes, if◌then◌else◌}
use Rattle.js_base.specs.Message.{three_digits}
use Rattle.js_base.specs.declared.message.StatusCode.{StatusCode}
use Rattle.js_readers.specs.declared.pull.batch_item.ArrivalKind.{ArrivalKind}
use Rattle.js_readers.specs.declared.pull.batch_item.ArrivalKind.TheVariants.{Delivered, Heartbeat, Over, Refusal}
use Rattle.js_readers.specs.declared.pull.batch_item.BatchItemError.{BatchItemError}

-- a message has no status, or 200; 100 is a heartbeat; 404 and 408 say that the request is over; every other status is an error
abbrev pub arrival_by : StatusCode → ArrivalKind
arrival_by status =
    if status.0 == 200 then Delivered else (
    if status.0 == 100 then Heartbeat else (
    if status.0 == 404 || status.0 == 408 then Over else Refusal status))

abbrev pub arrival_of : Option StatusCode → ArrivalKind
arrival_of None = Delivered
arrival_of (Some status) = arrival_by status

-- a request whose time is over ends a batch, and one that was too large is an error of it
timeout_is_over : arrival_of (Some (record { 0 = 408 })) ≡ Over
timeout_is_over = refl

limit_is_told : arrival_of (Some (record { 0 = 409 })) ≡ Refusal (record { 0 = 409 })
limit_is_told = refl

-- how an error is printed
abbrev pub after_status : Option (List ℕ) → List ℕ → List ℕ
after_status None status = status
after_status (Some description) status = status ++ (codes ": " ++ description)

abbrev pub item_text : BatchItemError → List ℕ
item_text error = after_status error.description (three_digits error.status.0)
