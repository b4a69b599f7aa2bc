-- What a replay of a relayed mirror answers.
use Rattle.std.proofs.Common.{◌≡◌, ℕ, Bool, true, List, [], map, None, Some, Result, Ok, Err, IfOk, OnOk, refl, sym, ap, ◌∙◌, subst}
use Rattle.js_base.specs.declared.message.Entry as base
use Rattle.js_codes.specs.Name.{is_name}
use Rattle.js_json.specs.declared.consumer.info.Info.{Info}
use Rattle.js_json.specs.declared.pull.OrderedConfig.{OrderedConfig}
use Rattle.js_ordered_table.specs.declared.setup.Settings.{Settings}
use Rattle.js_ordered_table.specs.declared.setup.OrderedSetup.{OrderedSetup}
use Rattle.js_ordered_table.specs.declared.setup.OrderedSetup.TheVariants.{Pull}
use Rattle.js_ordered_table.specs.declared.consumer.ReplayInput.{ReplayInput}
use Rattle.js_ordered_table.specs.declared.run.Run.{Run}
use Rattle.js_ordered_table.specs.declared.run.ReplayError.{ReplayError}
use Rattle.js_ordered_table.specs.declared.run.ReplayError.TheVariants as error
use Rattle.js_ordered_table.specs.declared.run.Field.TheVariants as field
use Rattle.js_ordered_table.specs.Refusal.{bad_field, refuse, first_of, unless}
use Rattle.js_ordered_table.specs.Gapless.{all_outputs}
use Rattle.js_ordered_table.specs.Replay.{IsReplay, IsAnswer}
use Rattle.js_event_log.specs.Events.{relayed, AllFit}
use Rattle.js_event_log.specs.RelayReader.{handed, AnswersWith, IsReader, Replays, default_reader}
use Rattle.js_event_log.proofs.Gives.{Gives, gives_all, gives_calm}
use Rattle.js_event_log.proofs.Plays.{gives, accepted}

module _ (stream name : List ℕ) (is_stream : is_name stream ≡ true) (is : is_name name ≡ true) (es : List base.Entry) (fit : AllFit es) where
  run_gives : (settings : Settings) (config : OrderedConfig) (first : Info) (run : Run) → IsReplay (record { settings = settings; setup = Pull config; first = first }) 0 (relayed stream name 1 es) run
      → Gives (map handed es) (all_outputs run) []
  run_gives settings config first run replay =
      subst (λ (run : Run). Gives (map handed es) (all_outputs run) []) (sym replay.folded) (gives settings config first stream name is_stream is es fit)

  -- the outputs of each replay hand out the entries
  pub replay_gives : (g : ReplayInput) (run : Run) → IsReader g → IsReplay g 0 (relayed stream name 1 es) run → Gives (map handed es) (all_outputs run) []
  replay_gives g run r replay =
      let P : OrderedSetup → Type 0 = λ s. IsReplay (record { settings = g.settings; setup = s; first = g.first }) 0 (relayed stream name 1 es) run → Gives (map handed es) (all_outputs run) [] in
      subst P (sym r.pull) (run_gives g.settings r.config g.first run) replay

  reader_accepts : (g : ReplayInput) → IsReader g → refuse g 0 (relayed stream name 1 es) ≡ None
  reader_accepts g r =
      let P : OrderedSetup → Type 0 = λ s. bad_field (record { settings = g.settings; setup = s; first = g.first }) ≡ None → refuse (record { settings = g.settings; setup = s; first = g.first }) 0 (relayed stream name 1 es) ≡ None in
      subst P (sym r.pull) (accepted g.settings r.config g.first stream name is_stream is es fit) r.fields

  answers : (g : ReplayInput) (answer : Result Run ReplayError) → IsReader g → IsAnswer g 0 (relayed stream name 1 es) answer → refuse g 0 (relayed stream name 1 es) ≡ None → AnswersWith es answer
  answers g (Ok run) r a none =
      let out = replay_gives g run r a in
      record { yielded = gives_all (map handed es) (all_outputs run) out; calm = gives_calm (map handed es) (all_outputs run) [] out }
  answers g (Err error.OutOfMemory) r a none = tt
  answers g (Err error.NoDeliverSubject) r a none = let both : None ≡ Some error.NoDeliverSubject = sym none ∙ a in absurd (cc)
  answers g (Err (error.BadSettings field)) r a none = let both : None ≡ Some (error.BadSettings field) = sym none ∙ a in absurd (cc)
  answers g (Err (error.BadEvent place)) r a none = let both : None ≡ Some (error.BadEvent place) = sym none ∙ a in absurd (cc)
  answers g (Err (error.SequenceEnd place)) r a none = let both : None ≡ Some (error.SequenceEnd place) = sym none ∙ a in absurd (cc)

  pub replays : Replays es (relayed stream name 1 es)
  replays g answer r a = answers g answer r a (reader_accepts g r)

-- ---- the reader with all at their defaults

pub default_is : (start : ℕ) (first : Info) → is_name first.stream_name ≡ true → is_name first.name ≡ true → bad_field (default_reader start first) ≡ None
default_is start first s n =
    ap (λ (b : Bool). first_of (unless b field.StreamName) (first_of (unless (is_name first.name) field.Name) None)) s
    ∙ ap (λ (b : Bool). first_of (unless b field.Name) None) n

pub default_reads : (start : ℕ) (first : Info) (stream name : List ℕ) → is_name stream ≡ true → is_name name ≡ true → first.stream_name ≡ stream → first.name ≡ name → IsReader (default_reader start first)
default_reads start first stream name is_stream is s n = record {
  config = _;
  pull = refl;
  fields = default_is start first (ap is_name s ∙ is_stream) (ap is_name n ∙ is);
}

-- ---- of values that are equal

pub if_both_ok : {A E : Type 0} {P R : A → Type 0} {Q : Type 0} (r : Result A E) → IfOk r P → OnOk r Q → ((x : A) → P x → Q → R x) → IfOk r R
if_both_ok (Ok x) p q f = f x p q
if_both_ok (Err e) p q f = tt
