-- What is kept, and what goes back where nothing was changed.
use Rattle.std.proofs.Common.{◌≡◌, ◌≤◌, ℕ, true, false, ◌||◌, List, Some, Result, Ok, Err, if◌then◌else◌, refl, sym, ◌∙◌, ap, subst, bytes_eq, codes}
use Rattle.std.specs.Prelude.{IfOk}
use Rattle.js_base.specs.declared.memory.OutOfMemory.{OutOfMemory}
use Rattle.std.proofs.lemmas.Slice.Eq.{bytes_eq-Decides}
use Rattle.serde_json.specs.Data.{Data, depth}
use Rattle.serde_json.specs.Read.{read, max_depth}
use Rattle.serde_json.specs.Written.{has_float, compact_text}
use Rattle.js_json_members.specs.declared.error.ReadError.{ReadError}
use Rattle.js_json_stream_bodies.specs.StreamConfig.{config_value}
use Rattle.js_call_streams.specs.KeptText.{IsKeptOf}
use Rattle.js_call_streams.specs.Overlay.{is_same, over}
use Rattle.js_json_stream_bodies.specs.declared.stream.config.Config.{Config}
use Rattle.js_json_stream_bodies.specs.declared.stream.info.Info.{Info}
use Rattle.js_call.specs.declared.call.Call.{Call}
use Rattle.js_call.specs.declared.raw_call.RawCall.{RawCall}
use Rattle.js_call.specs.declared.scope.ApiScope.{ApiScope}
use Rattle.js_call.specs.Scope.{asking, under}
use Rattle.js_call_streams.specs.declared.handle.StreamHandle.{StreamHandle}
use Rattle.js_call_streams.specs.declared.update.UpdatingStream.{UpdatingStream}
use Rattle.js_call_streams.specs.Update.{updating}
use Rattle.js_call_streams.specs.ReceivedConfigUpdate.{SentBy, KeepsIn, SendsKept, AsksKeeping, UpdatesKeeping, SendsBack, asking_update}

-- the text of a value is kept of a copy
pub kept_as : (kept : List ℕ) (value copy : Data) → has_float value ≡ false → (has_float value ≡ false → kept ≡ compact_text value)
    → (depth value ≤ max_depth → read kept ≡ Some value) → copy ≡ value → IsKeptOf kept copy
kept_as kept value copy plain text reads same =
    subst (IsKeptOf kept) (sym same) (record { plain = plain; text = text plain; reads = reads })

-- what is written now, over the value that was kept
pub sent_over : (kept : List ℕ) (value before after : Data) (r : Result (List ℕ) OutOfMemory) → IsKeptOf kept value
    → IfOk r (λ body. body ≡ compact_text (over value before after)) → IfOk r (λ body. SentBy false kept before after body)
sent_over kept value before after (Ok body) is sent = (value, is, sent)
sent_over kept value before after (Err e) is sent = tt

-- a value in which no float stands is the same as itself
same_as_itself : (d : Data) → has_float d ≡ false → is_same d d ≡ true
same_as_itself d plain =
    ap (λ b. if b || b then false else bytes_eq (compact_text d) (compact_text d)) plain ∙ (bytes_eq-Decides (compact_text d) (compact_text d)).1 refl

value_in : Data → Result Data ReadError → Data
value_in d (Ok x) = x
value_in d (Err e) = d

-- what is written of one configuration is one value
one_value : (r : Result Data ReadError) (x y : Data) → r ≡ Ok x → r ≡ Ok y → x ≡ y
unfolding value_in
one_value r x y first second = ap (value_in x) (sym first ∙ second)

-- where what is written is as it was, both are the same
same_as_before : (before after : Data) → has_float before ≡ false → before ≡ after → is_same before after ≡ true
same_as_before before after plain e = subst (λ d. is_same before d ≡ true) e (same_as_itself before plain)

kept_as_read : (kept : List ℕ) (read : Config) (body : List ℕ) → KeepsIn kept read read body → body ≡ kept
kept_as_read kept read body h =
    let same = same_as_before h.before h.after h.plain (one_value (config_value read) h.before h.after h.was h.is) in
    subst (λ b. SentBy b kept h.before h.after body) same h.sent

-- the body that is sent, by what is written of both configurations
pub keeps_in : (kept : List ℕ) (read config : Config) (before after : Data) (r : Result (List ℕ) OutOfMemory)
    → config_value read ≡ Ok before → config_value config ≡ Ok after → has_float before ≡ false
    → IfOk r (λ body. SentBy (is_same before after) kept before after body) → IfOk r (λ body. KeepsIn kept read config body)
keeps_in kept read config before after (Ok body) was is plain sent =
    record { before = before; after = after; was = was; is = is; plain = plain; sent = sent }
keeps_in kept read config before after (Err e) was is plain sent = tt

-- The request with a body that was written over what was kept.
pub asks_with : (scope : ApiScope) (handle : StreamHandle Info) (config : Config) (name body : List ℕ) (r : Result RawCall OutOfMemory)
    → name ≡ config.name → SendsKept handle.kept handle.info.config config body
    → IfOk r (λ asked. asked ≡ asking scope (under (codes "STREAM.UPDATE") name) body)
    → IfOk r (λ asked. AsksKeeping scope handle config asked)
asks_with scope handle config name body (Ok asked) named sends is =
    (body, sends, is ∙ ap (λ n. asking scope (under (codes "STREAM.UPDATE") n) body) named)
asks_with scope handle config name body (Err e) named sends is = tt

sends_back : (scope : ApiScope) (handle : StreamHandle Info) (config : Config) (call : Call UpdatingStream)
    → UpdatesKeeping scope handle config call → handle.info.config ≡ config → SendsBack scope handle config call
sends_back scope handle config call h unchanged kept e =
    let asks = h.1 in
    let sends : KeepsIn kept handle.info.config config asks.0 =
    subst (λ o. SendsKept o handle.info.config config asks.0) e asks.1 in
    let still : KeepsIn kept config config asks.0 = subst (λ c. KeepsIn kept c config asks.0) unchanged sends in
    let back : asks.0 ≡ kept = kept_as_read kept config asks.0 still in
    h.2 ∙ ap (updating config) (asks.2 ∙ ap (asking_update scope config) back)

-- Where nothing was changed, the call sends what was kept.
pub unchanged_call : (scope : ApiScope) (handle : StreamHandle Info) (config : Config) (r : Result (Call UpdatingStream) OutOfMemory)
    → IfOk r (λ call. UpdatesKeeping scope handle config call) → handle.info.config ≡ config
    → IfOk r (λ call. SendsBack scope handle config call)
unchanged_call scope handle config (Ok call) h unchanged = sends_back scope handle config call h unchanged
unchanged_call scope handle config (Err e) h unchanged = tt
