-- Numbers that are read at once are refused as those that are read one after another.
use Rattle.std.proofs.Common.{◌≡◌, ◌∙◌, ap, ℕ, ℤ, Bool, true, false, Option, Some, None, Result, Ok, Err}
use Rattle.std.specs.Prelude.{if◌then◌else◌}
use Rattle.std.specs.Option.{ok_or}
use Rattle.std.specs.Result.{result_map_both}
use Rattle.jiff.specs.declared.timestamp.Timestamp.{Timestamp}
use Rattle.js_base.specs.Results.{◌>>=◌}
use Rattle.js_message.specs.AckSubject.{read_then, is_instant}
use Rattle.js_message.specs.Info.{instant_of}
use Rattle.js_message.specs.declared.info_error.InfoError.{InfoError}
use Rattle.js_message.specs.declared.info_error.InfoError.TheVariants.{Number, Instant}

-- a number, and what follows
pub number_refused : {A B T : Type 0} (e : InfoError) (place : ℕ) (a b : Option A) (fault : InfoError) (ra : Result A InfoError) → ra ≡ ok_or a fault → fault ≡ Number place → a ≡ b
    → (rest : A → Result B InfoError) (next : A → Result T InfoError) → ((x : A) → Err e ≡ rest x → Err e ≡ next x)
    → Err e ≡ (ra >>= rest) → Err e ≡ read_then b place next
number_refused e place a None fault (Err x) h f same rest next k is = cc
number_refused e place a None fault (Ok x) h f same rest next k is = cc
number_refused e place a (Some y) fault (Err x) h f same rest next k is = cc
number_refused e place a (Some y) fault (Ok x) h f same rest next k is = let r = k x is in cc

-- an instant, and what follows
held : {B T : Type 0} (e : InfoError) (t : Bool) (n : ℤ) (ra : Result Timestamp InfoError) → result_map_both (λ at. at.nanosecond) (λ e. e) ra ≡ (if t then Ok n else Err Instant)
    → (rest : Timestamp → Result B InfoError) (next : ℤ → Result T InfoError) → ((x : Timestamp) → Err e ≡ rest x → Err e ≡ next x.nanosecond)
    → Err e ≡ (ra >>= rest) → Err e ≡ (if t then next n else Err Instant)
held e true n (Ok x) h rest next k is = let r = k x is in cc
held e true n (Err x) h rest next k is = cc
held e false n (Ok x) h rest next k is = cc
held e false n (Err x) h rest next k is = cc

pub instant_refused : {B T : Type 0} (e : InfoError) (place : ℕ) (a b : Option ℤ) (ra : Result Timestamp InfoError) → result_map_both (λ at. at.nanosecond) (λ e. e) ra ≡ read_then a place instant_of → a ≡ b
    → (rest : Timestamp → Result B InfoError) (next : ℤ → Result T InfoError) → ((x : Timestamp) → Err e ≡ rest x → Err e ≡ next x.nanosecond)
    → Err e ≡ (ra >>= rest) → Err e ≡ read_then b place (λ n. if is_instant n then next n else Err Instant)
instant_refused e place None None (Ok x) h same rest next k is = cc
instant_refused e place None None (Err x) h same rest next k is = cc
instant_refused e place None (Some n) ra h same rest next k is = cc
instant_refused e place (Some m) None ra h same rest next k is = cc
instant_refused e place (Some m) (Some n) ra h same rest next k is = held e (is_instant n) n ra (h ∙ ap (λ a. read_then a place instant_of) same) rest next k is
