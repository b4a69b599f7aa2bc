-- Which replays are refused, and how.
use Rattle.std.specs.Prelude.{ℕ, ◌+◌, Bool, true, false, not, List, [], ◌∷◌, Option, Some, None, nat_lt, is_none, option_map, if◌then◌else◌}
use Rattle.js_base.specs.Subject.{is_valid_subject}
use Rattle.js_codes.specs.Name.{is_name}
use Rattle.js_ordered_table.specs.declared.consumer.ReplayInput.{ReplayInput}
use Rattle.js_ordered_table.specs.declared.consumer.Phase.{Phase}
use Rattle.js_ordered_table.specs.declared.consumer.Phase.TheVariants.{Exhausted}
use Rattle.js_ordered_table.specs.Texts.{config_of}
use Rattle.js_ordered_table.specs.Fold.{Ran, opening, run_events}
use Rattle.js_ordered_table.specs.declared.setup.OrderedSetup.{OrderedSetup}
use Rattle.js_ordered_table.specs.declared.setup.OrderedSetup.TheVariants.{Pull, Push}
use Rattle.js_ordered_table.specs.declared.event.Event as events
use Rattle.js_ordered_table.specs.declared.run.Field.{Field}
use Rattle.js_ordered_table.specs.declared.run.Field.TheVariants as field
use Rattle.js_ordered_table.specs.declared.run.ReplayError.{ReplayError}
use Rattle.js_ordered_table.specs.declared.run.ReplayError.TheVariants as error

-- the first of two that is there
abbrev pub first_of : {A : Type 0} → Option A → Option A → Option A
first_of None other = other
first_of (Some a) other = Some a

-- a refusal where the test fails
abbrev pub unless : {A : Type 0} → Bool → A → Option A
unless test refusal = if test then None else Some refusal

-- ---- settings

-- an empty subject is none
abbrev pub is_absent_or_valid : List ℕ → Bool
is_absent_or_valid [] = true
is_absent_or_valid (c ∷ cs) = is_valid_subject (c ∷ cs)

-- a subject that is not there passes
abbrev pub is_missing_or_valid : Option (List ℕ) → Bool
is_missing_or_valid None = true
is_missing_or_valid (Some text) = is_valid_subject text

-- push needs a subject that is delivered to
abbrev pub lacks_subject : OrderedSetup → Option (List ℕ) → Bool
lacks_subject (Pull setup) subject = false
lacks_subject (Push setup) subject = is_none subject

-- the subject that push is delivered to is valid
abbrev pub delivers_validly : OrderedSetup → Option (List ℕ) → Bool
delivers_validly (Pull setup) subject = true
delivers_validly (Push setup) subject = is_missing_or_valid subject

-- the first field that fails its test
abbrev pub bad_field : ReplayInput → Option Field
bad_field g =
    first_of (unless (is_name g.first.stream_name) field.StreamName) (
    first_of (unless (is_name g.first.name) field.Name) (
    first_of (unless (is_valid_subject g.settings.api_prefix) field.ApiPrefix) (
    first_of (unless (is_valid_subject g.settings.inbox_prefix) field.InboxPrefix) (
    first_of (unless (is_absent_or_valid (config_of g.setup).filter_subject) field.FilterSubject)
    (unless (delivers_validly g.setup g.first.config.deliver_subject) field.DeliverSubject)))))

-- ---- events

-- the first event whose moment is below the one before it
abbrev pub first_early : ℕ → ℕ → List events.Event → Option ℕ
first_early place before [] = None
first_early place before (e ∷ es) = if nat_lt e.at before then Some place else first_early (place + 1) e.at es

-- the consumer has no sequence to go on from
abbrev pub is_exhausted : Phase → Bool
is_exhausted Exhausted = true
is_exhausted _ = false

-- the first event at which a recreation has no sequence to start from
abbrev pub first_exhausted : ℕ → List Ran → Option ℕ
first_exhausted place [] = None
first_exhausted place (ran ∷ rans) =
    if is_exhausted ran.state.consumer.phase then Some place else first_exhausted (place + 1) rans

-- ---- the first refusal that applies

-- no subject, a bad field, or an early event
unfoldable pub refuse_input : ReplayInput → ℕ → List events.Event → Option ReplayError
refuse_input g start es =
    first_of (unless (not (lacks_subject g.setup g.first.config.deliver_subject)) error.NoDeliverSubject) (
    first_of (option_map error.BadSettings (bad_field g))
    (option_map error.BadEvent (first_early 0 start es)))

-- the end of the sequences
abbrev pub refuse_end : List Ran → Option ReplayError
refuse_end rans = option_map error.SequenceEnd (first_exhausted 0 rans)

-- bad input, or else the end of the sequences
unfoldable pub refuse : ReplayInput → ℕ → List events.Event → Option ReplayError
refuse g start es = first_of (refuse_input g start es) (refuse_end (run_events g es (opening g start).state))
