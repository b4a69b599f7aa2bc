-- Call after call: what was read, written and passed on.
use Rattle.std.proofs.Common.{◌≡◌, ℕ, zero, suc, ◌+◌, ◌-◌, ◌<◌, ◌==◌, Bool, true, false, List, [], ◌∷◌, ◌++◌, length, take, drop, get_or, if◌then◌else◌, Option, Some, None, Result, Ok, Err, refl, sym, ap, subst, ◌∙◌, arith, append-nil, append_assoc, add-one}
use Rattle.std.proofs.lemmas.Bool.{false_from_ne_true}
use Rattle.std.proofs.lemmas.List.{take_rest}
use Rattle.std.proofs.Math.Seq.{take-add}
use Rattle.js_tool.specs.declared.command.FollowOptions.{FollowOptions}
use Rattle.js_tool_follow.specs.declared.incoming_lines.Incoming.{Incoming}
use Rattle.js_tool_follow.specs.declared.incoming_lines.Incoming.TheVariants as incoming
use Rattle.js_tool_follow.specs.declared.peer.PeerCall.{PeerCall}
use Rattle.js_tool_follow.specs.declared.peer.PeerCall.TheVariants as turn
use Rattle.js_tool_follow.specs.IncomingLines.{HasNoFeed, IsFirstFeed}
use Rattle.js_tool_follow.specs.Punctuality.{whole_lines, IsCaughtUp, IsPunctual, Holds, TurnsSoFar, HearsNext}
use Rattle.js_tool_follow.specs.Standing.{answered}
use Rattle.js_tool_follow.specs.Peer.{Dialogue, Reads, Writes, Flushes, Takes, bytes_of, heard}

-- ---- whole lines

none_whole : (bytes : List ℕ) → HasNoFeed bytes (length bytes) → whole_lines bytes ≡ []
none_whole [] none = refl
none_whole (b ∷ bytes) none =
    let other = false_from_ne_true (b == 10) (none 0 (omega arith)) in
    rw (other, none_whole bytes (λ k lt. none (suc k) (omega arith))) refl

whole_cut : (bytes more : List ℕ) (i : ℕ) → i < length bytes → (get_or bytes i 0 == 10) ≡ true → ((k : ℕ) → k < i → (get_or bytes k 0 == 10) ≡ true → ⊥)
    → whole_lines (bytes ++ more) ≡ take i bytes ∷ whole_lines (drop (i + 1) bytes ++ more)
whole_cut [] more i lt here below = absurd (omega arith)
whole_cut (b ∷ bytes) more zero lt here below = rw here refl
whole_cut (b ∷ bytes) more (suc i) lt here below =
    let other = false_from_ne_true (b == 10) (below 0 (omega arith)) in
    rw (other, whole_cut bytes more i (omega arith) here (λ k h. below (suc k) (omega arith)), add-one, add-one) refl

-- ---- a call more

holds_on : (before after : Option (List PeerCall)) (call : PeerCall) (P Q : List PeerCall → Type 0) → Takes before after call → ((turns : List PeerCall) → P turns → Q (call ∷ turns)) → Holds before P → Holds after Q
holds_on None after call P Q takes on p = absurd p
holds_on (Some before) None call P Q takes on p = absurd takes
holds_on (Some before) (Some after) call P Q takes on p = subst Q (sym takes) (on before p)

pub holds_as : (turns : Option (List PeerCall)) (P Q : List PeerCall → Type 0) → ((turns : List PeerCall) → P turns → Q turns) → Holds turns P → Holds turns Q
holds_as None P Q so p = absurd p
holds_as (Some turns) P Q so p = so turns p

pub is_punctual : (asked : FollowOptions) (lines : List (List ℕ)) (held before passed : List ℕ) (turns : Option (List PeerCall)) → Holds turns (TurnsSoFar asked lines held before passed) → Holds turns (IsPunctual asked)
is_punctual asked lines held before passed turns has = holds_as turns (TurnsSoFar asked lines held before passed) (IsPunctual asked) (λ t h. h.punctual) has

-- bytes were taken
pub wrote : (asked : FollowOptions) (lines : List (List ℕ)) (held before passed bytes : List ℕ) (old new : Option (List PeerCall)) → Takes old new (turn.Wrote bytes)
    → Holds old (TurnsSoFar asked lines held before passed) → Holds new (TurnsSoFar asked lines held (before ++ bytes) passed)
wrote asked lines held before passed bytes old new takes has =
    holds_on old new (turn.Wrote bytes) (TurnsSoFar asked lines held before passed) (TurnsSoFar asked lines held (before ++ bytes) passed) takes
    (λ turns h. record { punctual = h.punctual; cut = h.cut; written = ap (λ (w : List ℕ). w ++ bytes) h.written; flushed = h.flushed }) has

pub wrote_punctually : (asked : FollowOptions) (bytes : List ℕ) (old new : Option (List PeerCall)) → Takes old new (turn.Wrote bytes) → Holds old (IsPunctual asked) → Holds new (IsPunctual asked)
wrote_punctually asked bytes old new takes has = holds_on old new (turn.Wrote bytes) (IsPunctual asked) (IsPunctual asked) takes (λ turns h. h) has

-- where no whole line is held all was answered
caught_up : (asked : FollowOptions) (lines : List (List ℕ)) (held : List ℕ) (turns : List PeerCall) → HasNoFeed held (length held) → TurnsSoFar asked lines held (answered asked lines) (answered asked lines) turns → IsCaughtUp asked turns
caught_up asked lines held turns none h =
    let all : whole_lines (heard turns) ≡ lines =
    ap whole_lines (sym (append-nil (heard turns))) ∙ h.cut [] ∙ ap (λ (b : List ℕ). lines ++ whole_lines b) (append-nil held)
    ∙ ap (λ (more : List (List ℕ)). lines ++ more) (none_whole held none) ∙ append-nil lines in
    h.flushed ∙ ap (answered asked) (sym all)

-- so more is read in time
pub read_on : (asked : FollowOptions) (lines : List (List ℕ)) (held bytes new_held : List ℕ) (old new : Option (List PeerCall)) → Takes old new (turn.Read bytes) → HasNoFeed held (length held) → new_held ≡ held ++ bytes
    → Holds old (TurnsSoFar asked lines held (answered asked lines) (answered asked lines)) → Holds new (TurnsSoFar asked lines new_held (answered asked lines) (answered asked lines))
read_on asked lines held bytes new_held old new takes none is has =
    subst (λ (h : List ℕ). Holds new (TurnsSoFar asked lines h (answered asked lines) (answered asked lines))) (sym is)
    (holds_on old new (turn.Read bytes) (TurnsSoFar asked lines held (answered asked lines) (answered asked lines)) (TurnsSoFar asked lines (held ++ bytes) (answered asked lines) (answered asked lines)) takes
    (λ turns h. record {
      punctual = (caught_up asked lines held turns none h, h.punctual);
      cut = λ more. ap whole_lines (append_assoc (heard turns) bytes more) ∙ h.cut (bytes ++ more) ∙ ap (λ (b : List ℕ). lines ++ whole_lines b) (sym (append_assoc held bytes more));
      written = h.written;
      flushed = h.flushed;
    }) has)

pub read_punctually : (asked : FollowOptions) (lines : List (List ℕ)) (held bytes : List ℕ) (old new : Option (List PeerCall)) → Takes old new (turn.Read bytes) → HasNoFeed held (length held)
    → Holds old (TurnsSoFar asked lines held (answered asked lines) (answered asked lines)) → Holds new (IsPunctual asked)
read_punctually asked lines held bytes old new takes none has =
    holds_on old new (turn.Read bytes) (TurnsSoFar asked lines held (answered asked lines) (answered asked lines)) (IsPunctual asked) takes (λ turns h. (caught_up asked lines held turns none h, h.punctual)) has

-- a line more is cut off what is held
pub cut_on : (asked : FollowOptions) (lines : List (List ℕ)) (held line left before passed : List ℕ) (i : ℕ) (turns : Option (List PeerCall)) → IsFirstFeed held i → line ≡ take i held → left ≡ drop (i + 1) held
    → Holds turns (TurnsSoFar asked lines held before passed) → Holds turns (TurnsSoFar asked (lines ++ line ∷ []) left before passed)
cut_on asked lines held line left before passed i turns found cut rest has =
    holds_as turns (TurnsSoFar asked lines held before passed) (TurnsSoFar asked (lines ++ line ∷ []) left before passed) (λ t h. record {
      punctual = h.punctual;
      cut = λ more. h.cut more ∙ ap (λ (l : List (List ℕ)). lines ++ l) (whole_cut held more i found.within found.here found.before)
          ∙ ap (λ (l : List ℕ). lines ++ (l ∷ whole_lines (drop (i + 1) held ++ more))) (sym cut)
          ∙ ap (λ (r : List ℕ). lines ++ (line ∷ whole_lines (r ++ more))) (sym rest)
          ∙ sym (append_assoc lines (line ∷ []) (whole_lines (left ++ more)));
      written = h.written;
      flushed = h.flushed;
    }) has

-- at the end nothing more is read
heard_end : (asked : FollowOptions) (E : Type 0) (lines : List (List ℕ)) (line held : List ℕ) (turns : Option (List PeerCall)) (some : Bool) → Holds turns (IsPunctual asked) → HearsNext {E = E} asked lines (Ok (if some then incoming.Last else incoming.End)) line held turns
heard_end asked E lines line held turns true punctual = punctual
heard_end asked E lines line held turns false punctual = punctual

pub heard_last : (asked : FollowOptions) (E : Type 0) (lines : List (List ℕ)) (line held : List ℕ) (turns : Option (List PeerCall)) (next : Incoming) (some : Bool) → next ≡ (if some then incoming.Last else incoming.End) → Holds turns (IsPunctual asked)
    → HearsNext {E = E} asked lines (Ok next) line held turns
heard_last asked E lines line held turns next some is punctual =
    subst (λ (n : Incoming). HearsNext {E = E} asked lines (Ok n) line held turns) (sym is) (heard_end asked E lines line held turns some punctual)

-- whatever a read comes to
pub reads_punctually : {E : Type 0} (asked : FollowOptions) (old new : Dialogue) (result : Result ℕ E) (buf : List ℕ) (lines : List (List ℕ)) (held : List ℕ) → Reads old new result buf → HasNoFeed held (length held)
    → Holds old.turns (TurnsSoFar asked lines held (answered asked lines) (answered asked lines)) → Holds new.turns (IsPunctual asked)
reads_punctually asked old new result buf lines held reads none has = read_punctually asked lines held (bytes_of result buf) old.turns new.turns reads.call none has

pub writes_punctually : {E : Type 0} (asked : FollowOptions) (old new : Dialogue) (result : Result ℕ E) (piece : List ℕ) → Writes old new result piece → Holds old.turns (IsPunctual asked) → Holds new.turns (IsPunctual asked)
writes_punctually asked old new result piece writes was = wrote_punctually asked (bytes_of result piece) old.turns new.turns writes.call was

pub flushes_punctually : {T E : Type 0} (asked : FollowOptions) (old new : Dialogue) (result : Result T E) → Flushes old new result → Holds old.turns (IsPunctual asked) → Holds new.turns (IsPunctual asked)
flushes_punctually asked old new (Ok done) flushes was = holds_on old.turns new.turns turn.Flushed (IsPunctual asked) (IsPunctual asked) flushes.call (λ turns h. h) was
flushes_punctually asked old new (Err error) flushes was = wrote_punctually asked [] old.turns new.turns flushes.call was

-- a piece more of a text was taken
pub wrote_more : (asked : FollowOptions) (lines : List (List ℕ)) (held before passed text : List ℕ) (at n : ℕ) (old new : Option (List PeerCall)) → Takes old new (turn.Wrote (take n (take (length text - at) (drop at text))))
    → Holds old (TurnsSoFar asked lines held (before ++ take at text) passed) → Holds new (TurnsSoFar asked lines held (before ++ take (at + n) text) passed)
wrote_more asked lines held before passed text at n old new takes has =
    let piece : take at text ++ take n (take (length text - at) (drop at text)) ≡ take (at + n) text =
    ap (λ (rest : List ℕ). take at text ++ take n rest) (take_rest text at) ∙ sym (take-add at n text) in
    subst (λ (t : List ℕ). Holds new (TurnsSoFar asked lines held t passed)) (append_assoc before (take at text) (take n (take (length text - at) (drop at text))) ∙ ap (λ (t : List ℕ). before ++ t) piece)
    (wrote asked lines held (before ++ take at text) passed (take n (take (length text - at) (drop at text))) old new takes has)
