-- The server of a mirror is honest.
use Rattle.std.proofs.Common.{◌≡◌, ℕ, ◌+◌, ◌-◌, ◌^◌, ◌<◌, true, List, [], ◌∷◌, ◌++◌, length, map, Option, Some, IfSome, IsTrue, slice_index, refl, sym, ap, ◌∙◌, subst, arith, append_assoc, length-append}
use Rattle.std.specs.Prelude.{unwrap_or}
use Rattle.std.specs.List.{AllByRecursion}
use Rattle.js_base.specs.declared.message.Entry as base
use Rattle.js_base.specs.Subject.{filters_match}
use Rattle.js_codes.specs.Name.{is_name}
use Rattle.js_message.specs.AckSubject.{Place}
use Rattle.js_event_log.specs.Mirror.{Mirrored}
use Rattle.js_ordered_table.specs.declared.consumer.ReplayInput.{ReplayInput}
use Rattle.js_ordered_table.specs.declared.event.Event.{Event}
use Rattle.js_ordered_table.specs.declared.run.Run.{Run}
use Rattle.js_ordered_table.specs.declared.setup.OrderedSetup.{OrderedSetup}
use Rattle.js_ordered_table.specs.Texts.{filters, configured_start}
use Rattle.js_ordered_table.specs.Gapless.{Entry, Logged, Server, IsLogged, IsMatching, IsWhole, IsDelivery, IsHonestEvent, IsHonest, IsGapless, entry_of, sequences, all_outputs}
use Rattle.js_ordered_table.specs.Replay.{IsReplay}
use Rattle.js_event_log.specs.Events.{message, relayed, AllFit}
use Rattle.js_event_log.specs.RelayReader.{handed}
use Rattle.js_event_log.specs.LogCopy.{IsCopy, server_of, StaysHonest}
use Rattle.js_event_log.proofs.Gives.{gives_starts}
use Rattle.js_event_log.proofs.Replies.{reply_reads}
use Rattle.js_event_log.proofs.RelayAnswers.{replay_gives}

-- ---- a mirror of a run in which a server was honest

-- its entries are whole from its start on, and are the log's
pub record IsTrueCopy (s : Server) (setup : OrderedSetup) (mirror : Mirrored) : Type 0 where
  pub whole : IsWhole setup s.log s.removed mirror.start (sequences (map handed mirror.entries))
  pub logged : AllByRecursion (IsLogged s.log) (map handed mirror.entries)

pub true_copy : (s : Server) (mirror : Mirrored) (first : ReplayInput) (start : ℕ) (es : List Event) (run : Run)
    → IsReplay first start es run → IsHonest s first.setup es run → IsCopy first.setup run mirror → IsTrueCopy s first.setup mirror
true_copy s mirror first start es run replay honest copy =
    let gapless : IsGapless s first.setup (map handed mirror.entries) = subst (λ (entries : List Entry). IsGapless s first.setup entries) (sym copy.entries) (replay.gapless s honest) in
    record {
      whole = subst (λ (o : Option ℕ). IsWhole first.setup s.log s.removed (unwrap_or o (slice_index (sequences (map handed mirror.entries)) 0)) (sequences (map handed mirror.entries))) copy.start gapless.whole;
      logged = gapless.logged;
    }

-- ---- the same filters

matching_by : (one other : OrderedSetup) (log : List Logged) (q : ℕ) → filters one ≡ filters other → IsMatching one log q → IsMatching other log q
matching_by one other log q same m = (m.0, m.1, subst (λ (fs : List (List ℕ)). IsTrue (filters_match fs m.0.subject)) same m.2)

whole_by : (one other : OrderedSetup) (log : List Logged) (removed : List ℕ) (start : ℕ) (list : List ℕ) → filters one ≡ filters other → IsWhole one log removed start list → IsWhole other log removed start list
whole_by one other log removed start list same w = record {
  rising = w.rising;
  past_start = w.past_start;
  matching = λ k inside. matching_by one other log _ same (w.matching k inside);
  whole = λ q k match from inside below. w.whole q k (matching_by other one log q (sym same) match) from inside below;
}

-- ---- the places of the entries

-- these entries stand in a list of sequences, from a place on
abbrev At : List ℕ → ℕ → List base.Entry → Type 0
At list place [] = Unit {0}
At list place (e ∷ es) = (place < length list) × (slice_index list place ≡ e.sequence) × At list (place + 1) es

index_at : (before rest : List ℕ) (x : ℕ) → slice_index (before ++ x ∷ rest) (length before) ≡ x
index_at [] rest x = refl
index_at (b ∷ before) rest x = index_at before rest x

at_all : (before list : List ℕ) (place : ℕ) (es : List base.Entry) → list ≡ before ++ sequences (map handed es) → place ≡ length before → At list place es
at_all before list place [] is here = tt
at_all before list place (e ∷ es) is here =
    let rest : List ℕ = sequences (map handed es) in
    let long : length list ≡ length before + length (e.sequence ∷ rest) = ap length is ∙ length-append before (e.sequence ∷ rest) in (
      omega (arith, long, here),
      subst (λ (xs : List ℕ). slice_index xs place ≡ e.sequence) (sym is) (subst (λ (k : ℕ). slice_index (before ++ e.sequence ∷ rest) k ≡ e.sequence) (sym here) (index_at before rest e.sequence)),
      at_all (before ++ e.sequence ∷ []) list (place + 1) es (is ∙ sym (append_assoc before (e.sequence ∷ []) rest)) (let n = length-append before (e.sequence ∷ []) in omega (arith, n, here)),
    )

-- ---- the arrivals

some_same : {A : Type 0} (P : A → Type 0) (x y : A) → Some x ≡ Some y → P x → P y
some_same P x y same px = subst P (injected x y same) px
  where
    injected : {A : Type 0} (x y : A) → Some x ≡ Some y → x ≡ y
    injected x y same = cc

module _ (stream name : List ℕ) (is_stream : is_name stream ≡ true) (is : is_name name ≡ true) (s : Server) (setup : OrderedSetup) where
  arrivals : (es : List base.Entry) (number : ℕ) → AllByRecursion (λ (e : base.Entry). e.sequence < 2 ^ 64) es → number + length es < 2 ^ 64 → At (s.lists 0) number es → AllByRecursion (IsLogged s.log) (map handed es)
      → AllByRecursion (λ (e : Event). IsHonestEvent setup s e.what) (relayed stream name (number + 1) es)
  arrivals [] number fit n places logged = tt
  arrivals (e ∷ es) number fit n places logged = (
    λ place is_message reads_place.
        some_same (λ (place : Place). IsDelivery s 0 place.number (entry_of place (message stream name (number + 1) e)))
        (record { sequence = e.sequence; number = number + 1 }) place (sym (reply_reads stream name e.sequence (number + 1) is_stream is fit.0 (omega (arith, n))) ∙ reads_place)
        (record {
          above = omega arith;
          within = let inside = places.0 in omega (arith, inside);
          listed = ap (slice_index (s.lists 0)) (let one : number + 1 - 1 ≡ number = omega arith in one) ∙ places.1;
          logged = logged.0;
        }),
    arrivals es (number + 1) fit.1 (omega (arith, n)) places.2 logged.1,
  )

starts_there : (o : Option ℕ) (start : ℕ) → o ≡ Some start → IfSome o (λ sequence. start ≡ sequence)
starts_there o start h = subst (λ (o : Option ℕ). IfSome o (λ sequence. start ≡ sequence)) (sym h) refl

pub stays_honest : (stream name : List ℕ) → is_name stream ≡ true → is_name name ≡ true → (mirror : Mirrored) → AllFit mirror.entries
    → StaysHonest mirror (relayed stream name 1 mirror.entries)
stays_honest stream name is_stream is mirror fit s first start first_events first_run first_replay honest copy g run r configured same replay =
    let copied : IsTrueCopy s first.setup mirror = true_copy s mirror first start first_events first_run first_replay honest copy in
    record {
      lists = λ inbox. whole_by first.setup g.setup s.log s.removed mirror.start (sequences (map handed mirror.entries)) (sym same) copied.whole;
      first = starts_there (configured_start g.setup) mirror.start configured;
      later = gives_starts (λ inbox. mirror.start) 0 (map handed mirror.entries) (all_outputs run) [] (replay_gives stream name is_stream is mirror.entries fit g run r replay);
      arrivals = arrivals stream name is_stream is (server_of s mirror) g.setup mirror.entries 0 fit.sequences (let n = fit.number in omega (arith, n)) (at_all [] (sequences (map handed mirror.entries)) 0 mirror.entries refl refl) copied.logged;
    }
