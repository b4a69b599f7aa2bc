-- The beginning of a stream.
use Rattle.std.proofs.Common.{◌≡◌, ℕ, List, [], ◌∷◌, map, ap, refl, sym, ◌∙◌, subst, arith}
use Rattle.std.specs.Prelude.{Ok, IfSome}
use Rattle.js_json.specs.declared.consumer.info.Info.{Info}
use Rattle.js_json.specs.declared.pull.OrderedConfig as pull_config
use Rattle.js_json.specs.declared.push.OrderedConfig as push_config
use Rattle.js_link.specs.LinkView.{LinkView}
use Rattle.js_link.specs.Meets.{Meets}
use Rattle.js_ordered_stream.specs.declared.remaining_rows.RemainingRows.{RemainingRows}
use Rattle.js_ordered_stream.specs.declared.ordered.Ordered.{Ordered}
use Rattle.js_ordered_stream.specs.declared.polled.Polled.{Polled}
use Rattle.js_ordered_stream.specs.declared.pull.Ordered as pulls
use Rattle.js_ordered_stream.specs.declared.push.Ordered as pushes
use Rattle.js_ordered_stream.specs.Opening.{ListensFirst, OpensConsumer, OpensDelivery, OpensOrdered, OpensPushed, IsGaplessPull, IsGaplessPush, input_of_pull, input_of_push, listens_first, opened_at, reads_first}
use Rattle.js_ordered_stream.specs.Rows.{left_rows}
use Rattle.js_ordered_stream.specs.Ordered.{given_to, position_of, with_retries}
use Rattle.js_pull.specs.Reader.{opening}
use Rattle.js_ordered_table.specs.declared.consumer.Consumer.{Consumer}
use Rattle.js_ordered_table.specs.declared.consumer.ReplayInput.{ReplayInput}
use Rattle.js_ordered_table.specs.declared.row.Row.{Row}
use Rattle.js_ordered_table.specs.declared.row.Row.TheVariants.{Arm, Read}
use Rattle.js_ordered_table.specs.declared.setup.OrderedSetup.{OrderedSetup}
use Rattle.js_ordered_table.specs.declared.setup.OrderedSetup.TheVariants.{Pull, Push}
use Rattle.js_ordered_table.specs.declared.setup.Settings.{Settings}
use Rattle.js_ordered_table.specs.Gapless.{Server}
use Rattle.js_ordered_table.specs.Invariant.{IsKeptOn}
use Rattle.js_ordered_table.specs.Texts.{configured_start}
use Rattle.js_ordered_stream.specs.Life.{IsGaplessLife, serving}
use Rattle.js_ordered_table.specs.Walk.{Position}
use Rattle.js_ordered_stream.proofs.Life.{life_gapless}

abbrev position_at : Consumer → List Row → Position
position_at c todo = record { consumer = c; todo = todo }

-- ---- pull

-- the rows of an opening are left
pub opens_ordered : (g given : ReplayInput) (c : Consumer) (left : RemainingRows) (o : Polled) (settings : Settings) (config : pull_config.OrderedConfig) (first : Info) (old new : LinkView)
    → OpensConsumer (Ok c) g old new → g ≡ given → given ≡ record { settings = with_retries settings; setup = Pull config; first = first }
    → left_rows left ≡ map Read opening → o.ordered ≡ record { given = given; consumer = c; left = left }
    → OpensOrdered (Ok (record { polled = o })) settings config first old new
opens_ordered g given c left o settings config first old new (inbox, subject, opens, is) same given_is rows to = (
  inbox,
  subject,
  opens,
  ap given_to to ∙ given_is,
  subst (λ (x : Ordered). position_of x ≡ opened_at (given_to x) inbox subject) (sym to)
      (ap (λ (x : Consumer). position_at x (left_rows left)) (is ∙ ap (λ (x : ReplayInput). reads_first x inbox subject) same)
      ∙ ap (position_at (reads_first given inbox subject)) rows),
)

-- ---- push

-- the first consumer arms its heartbeat next
pub opens_pushed : (g given : ReplayInput) (c : Consumer) (left : RemainingRows) (o : Polled) (settings : Settings) (config : push_config.OrderedConfig) (first : Info) (old new : LinkView)
    → ListensFirst (Ok c) g old new → g ≡ given → given ≡ record { settings = with_retries settings; setup = Push config; first = first }
    → left_rows left ≡ Arm ∷ [] → o.ordered ≡ record { given = given; consumer = c; left = left }
    → OpensPushed (Ok (record { polled = o })) settings config first old new
opens_pushed g given c left o settings config first old new (inbox, opens, is) same given_is rows to = (
  inbox,
  subst (λ (x : ReplayInput). OpensDelivery inbox x.first old new) (same ∙ given_is) opens,
  ap given_to to ∙ given_is,
  subst (λ (x : Ordered). position_of x ≡ position_at (listens_first (given_to x) inbox) (Arm ∷ [])) (sym to)
      (ap (λ (x : Consumer). position_at x (left_rows left)) (is ∙ ap (λ (x : ReplayInput). listens_first x inbox) same)
      ∙ ap (position_at (listens_first given inbox)) rows),
)

-- ---- nothing was yielded yet

abbrev pull_given : Settings → pull_config.OrderedConfig → Info → ReplayInput
pull_given settings config first = record { settings = settings; setup = Pull config; first = first }

abbrev push_given : Settings → push_config.OrderedConfig → Info → ReplayInput
push_given settings config first = record { settings = settings; setup = Push config; first = first }

-- a consumer that was just opened is kept
fresh_kept : (setup : OrderedSetup) (s : Server) (inbox : ℕ) → IfSome (configured_start setup) (λ sequence. s.starts inbox ≡ sequence) → IsKeptOn setup s 0 0 0 inbox
fresh_kept setup s inbox starts = record {
  reached = λ some. absurd (omega arith);
  first = λ fresh none. record { none = refl; start = starts };
  later = λ fresh some. absurd (omega arith);
}

-- so whatever is polled from an opening on is gapless
pub opened_gapless : (settings : Settings) (config : pull_config.OrderedConfig) (first : Info) (inbox : ℕ) (subject : List ℕ)
    → IsGaplessLife (pull_given settings config first) Meets (opened_at (pull_given settings config first) inbox subject)
opened_gapless settings config first inbox subject s whole starts answers polls =
    let given : ReplayInput = pull_given settings config first in
    life_gapless given Meets s whole answers (opened_at given inbox subject)
    (record { kept = record { consumer = ((tt, fresh_kept (Pull config) (serving s 0) inbox starts), refl); todo = (tt, (tt, tt)) }; plain = refl; turn = refl }) refl polls

pub listens_gapless : (settings : Settings) (config : push_config.OrderedConfig) (first : Info) (inbox : ℕ)
    → IsGaplessLife (push_given settings config first) Meets (position_at (listens_first (push_given settings config first) inbox) (Arm ∷ []))
listens_gapless settings config first inbox s whole starts answers polls =
    let given : ReplayInput = push_given settings config first in
    life_gapless given Meets s whole answers (position_at (listens_first given inbox) (Arm ∷ []))
    (record { kept = record { consumer = ((tt, fresh_kept (Push config) (serving s 0) inbox starts), refl); todo = (tt, tt) }; plain = refl; turn = refl }) refl polls

pub pull_gapless : (o : pulls.Ordered) (settings : Settings) (config : pull_config.OrderedConfig) (first : Info) (old new : LinkView)
    → OpensOrdered (Ok o) settings config first old new → IsGaplessPull o
pull_gapless o settings config first old new (inbox, subject, opens, given_is, at) =
    subst (λ (p : Position). IsGaplessLife (input_of_pull o) Meets p) (sym at)
    (subst (λ (g : ReplayInput). IsGaplessLife g Meets (opened_at g inbox subject)) (sym given_is) (opened_gapless (with_retries settings) config first inbox subject))

pub push_gapless : (o : pushes.Ordered) (settings : Settings) (config : push_config.OrderedConfig) (first : Info) (old new : LinkView)
    → OpensPushed (Ok o) settings config first old new → IsGaplessPush o
push_gapless o settings config first old new (inbox, opens, given_is, at) =
    subst (λ (p : Position). IsGaplessLife (input_of_push o) Meets p) (sym at)
    (subst (λ (g : ReplayInput). IsGaplessLife g Meets (position_at (listens_first g inbox) (Arm ∷ []))) (sym given_is) (listens_gapless (with_retries settings) config first inbox))
