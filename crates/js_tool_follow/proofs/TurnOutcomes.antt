-- What a turn of a conversation leaves.
use Rattle.std.proofs.Common.{◌≡◌, ℕ, List, [], ◌∷◌, ◌++◌, Bool, true, false, Option, Some, None, Ok, refl, sym, ap, subst, arith}
use Rattle.std.specs.Prelude.{option_map}
use Rattle.std.proofs.lemmas.Bool.{false≢true}
use Rattle.js_tool_io.specs.Causes.{Rose}
use Rattle.js_tool_io.specs.Lines.{lines_of}
use Rattle.js_tool.specs.declared.status.Status.TheVariants as status
use Rattle.js_tool.specs.declared.command.FollowOptions.{FollowOptions}
use Rattle.js_tool_follow.specs.declared.incoming_lines.Incoming.{Incoming}
use Rattle.js_tool_follow.specs.declared.incoming_lines.Incoming.TheVariants as incoming
use Rattle.js_tool_follow.specs.declared.peer.PeerCall.{PeerCall}
use Rattle.js_tool.specs.declared.status.Status.{Status}
use Rattle.js_tool_follow.specs.declared.answer.Listener.{Listener}
use Rattle.js_tool_follow.specs.Conversation.{Stands, StandsOr, IsAt, IsOver, HasBegun, HasEnded, HasGone, IsCut, IsReadStop, TakesTurn, all_lines}
use Rattle.js_tool_follow.specs.IncomingLines.{IsNext, lines_left}
use Rattle.js_tool_follow.specs.Punctuality.{whole_lines, Holds, TurnsSoFar, HearsNext, IsPunctual}
use Rattle.js_tool_follow.specs.Standing.{said, answered}
use Rattle.js_tool_follow.specs.Peer.{Dialogue, HasRead, HasWritten}
use Rattle.js_tool_follow.proofs.ConversationEnds.{cut_line, cut_last, cut_end, no_lines, read_stops, says_nothing, stands_read}
use Rattle.js_tool_follow.proofs.Calls.{is_punctual}
use Rattle.js_tool_follow.proofs.LinesTold.{none_told}

-- a line was read, told and answered, behind which more may come
pub turned_line : (asked : FollowOptions) (from mid now : Dialogue) (told : List (List ℕ)) (line held : List ℕ) (listener : Listener) (result : Option Status) → StandsOr asked from now (told ++ line ∷ []) (lines_left held mid.left) listener result → HasWritten mid now
    → (from.turns ≡ Some [] → Holds mid.turns (TurnsSoFar asked (told ++ line ∷ []) held (answered asked told) (answered asked told)))
    → (Holds mid.turns (TurnsSoFar asked (told ++ line ∷ []) held (answered asked told) (answered asked told)) → result ≡ None → Holds now.turns (TurnsSoFar asked (told ++ line ∷ []) held (answered asked (told ++ line ∷ [])) (answered asked (told ++ line ∷ []))))
    → (Holds mid.turns (IsPunctual asked) → Holds now.turns (IsPunctual asked)) → TakesTurn asked from now told held listener result
turned_line asked from mid now told line held listener None stands written heard says punctual = (
  line,
  record {
    stands = subst (λ (left : Option (List ℕ)). Stands asked from now (told ++ line ∷ []) (lines_left held left) listener) (sym written.left) stands;
    heard = λ none. says (heard none) refl;
  },
)
turned_line asked from mid now told line held listener (Some s) ended written heard says punctual = record {
  ended = ended;
  punctual = λ none. punctual (is_punctual asked (told ++ line ∷ []) held (answered asked told) (answered asked told) mid.turns (heard none));
}

-- so a line that is there was read, told and answered
pub took_line : (asked : FollowOptions) (from old mid now : Dialogue) (told : List (List ℕ)) (line read before held : List ℕ) (listener new : Listener) (result : Option Status) (next : Incoming) → next ≡ incoming.Line → line ≡ read → IsAt asked from old told before listener
    → HasRead old mid → IsNext next (lines_left before old.left) read (lines_left held mid.left)
    → (Holds old.turns (TurnsSoFar asked told before (answered asked told) (answered asked told)) → HearsNext {E = Status} asked told (Ok next) read held mid.turns)
    → (Stands asked from mid told (lines_left before old.left) listener → IsCut (all_lines from) (told ++ line ∷ []) (lines_left held mid.left) → StandsOr asked from now (told ++ line ∷ []) (lines_left held mid.left) new result)
    → HasWritten mid now
    → (Holds mid.turns (TurnsSoFar asked (told ++ line ∷ []) held (answered asked told) (answered asked told)) → result ≡ None → Holds now.turns (TurnsSoFar asked (told ++ line ∷ []) held (answered asked (told ++ line ∷ [])) (answered asked (told ++ line ∷ []))))
    → (Holds mid.turns (IsPunctual asked) → Holds now.turns (IsPunctual asked)) → TakesTurn asked from now told held new result
took_line asked from old mid now told line read before held listener new result next is same at reads cut hears tells written says punctual =
    let here : IsNext incoming.Line (lines_left before old.left) line (lines_left held mid.left) =
    subst (λ (l : List ℕ). IsNext incoming.Line (lines_left before old.left) l (lines_left held mid.left)) (sym same)
    (subst (λ (n : Incoming). IsNext n (lines_left before old.left) read (lines_left held mid.left)) is cut) in
    turned_line asked from mid now told line held new result
    (tells (stands_read asked from old mid told (lines_left before old.left) listener reads at.stands) (cut_line (all_lines from) (lines_left before old.left) (lines_left held mid.left) told line at.stands.cut here))
    written
    (λ none. subst (λ (l : List ℕ). Holds mid.turns (TurnsSoFar asked (told ++ l ∷ []) held (answered asked told) (answered asked told))) (sym same)
    (subst (λ (n : Incoming). HearsNext {E = Status} asked told (Ok n) read held mid.turns) is (hears (at.heard none))))
    says punctual

-- the last line was read, told and answered
pub took_last : (asked : FollowOptions) (from old mid now : Dialogue) (told : List (List ℕ)) (line read before held : List ℕ) (listener : Listener) (s : Status) (next : Incoming) → next ≡ incoming.Last → line ≡ read → IsAt asked from old told before listener
    → HasRead old mid → IsNext next (lines_left before old.left) read (lines_left held mid.left)
    → (Holds old.turns (TurnsSoFar asked told before (answered asked told) (answered asked told)) → HearsNext {E = Status} asked told (Ok next) read held mid.turns)
    → (Stands asked from mid told (lines_left before old.left) listener → IsCut (all_lines from) (told ++ line ∷ []) (Some []) → HasEnded asked from now s)
    → (Holds mid.turns (IsPunctual asked) → Holds now.turns (IsPunctual asked)) → IsOver asked from now s
took_last asked from old mid now told line read before held listener s next is same at reads cut hears tells punctual =
    let here : IsNext incoming.Last (lines_left before old.left) line (lines_left held mid.left) =
    subst (λ (l : List ℕ). IsNext incoming.Last (lines_left before old.left) l (lines_left held mid.left)) (sym same)
    (subst (λ (n : Incoming). IsNext n (lines_left before old.left) read (lines_left held mid.left)) is cut) in
    record {
      ended = tells (stands_read asked from old mid told (lines_left before old.left) listener reads at.stands) (cut_last (all_lines from) (lines_left before old.left) (lines_left held mid.left) told line at.stands.cut here);
      punctual = λ none. punctual (subst (λ (n : Incoming). HearsNext {E = Status} asked told (Ok n) read held mid.turns) is (hears (at.heard none)));
    }

-- no line was left
pub took_end : (asked : FollowOptions) (from old mid now : Dialogue) (told : List (List ℕ)) (read before held : List ℕ) (listener : Listener) (s : Status) (next : Incoming) → next ≡ incoming.End → IsAt asked from old told before listener
    → HasRead old mid → IsNext next (lines_left before old.left) read (lines_left held mid.left)
    → (Holds old.turns (TurnsSoFar asked told before (answered asked told) (answered asked told)) → HearsNext {E = Status} asked told (Ok next) read held mid.turns)
    → (Stands asked from mid told (lines_left before old.left) listener → IsCut (all_lines from) told (Some []) → HasEnded asked from now s)
    → (Holds mid.turns (IsPunctual asked) → Holds now.turns (IsPunctual asked)) → IsOver asked from now s
took_end asked from old mid now told read before held listener s next is at reads cut hears tells punctual = record {
  ended = tells (stands_read asked from old mid told (lines_left before old.left) listener reads at.stands)
      (cut_end (all_lines from) (lines_left before old.left) (lines_left held mid.left) told read at.stands.cut
      (subst (λ (n : Incoming). IsNext n (lines_left before old.left) read (lines_left held mid.left)) is cut));
  punctual = λ none. punctual (subst (λ (n : Incoming). HearsNext {E = Status} asked told (Ok n) read held mid.turns) is (hears (at.heard none)));
}

-- with the answer to the opening it is over
pub opening_ends : (asked : FollowOptions) (from old now : Dialogue) (more : Bool) (line held : List ℕ) (s : Status) → HasBegun asked from old more line held
    → ((left : Option (List (List ℕ))) → HasGone from old → old.taken ≡ from.taken → IsCut (all_lines from) (line ∷ []) left → HasEnded asked from now s)
    → (Holds old.turns (IsPunctual asked) → Holds now.turns (IsPunctual asked)) → IsOver asked from now s
opening_ends asked from old now true line held s (gone, same, cut, heard) greets punctual = record {
  ended = greets (lines_left held old.left) gone same cut;
  punctual = λ none. punctual (is_punctual asked (line ∷ []) held [] [] old.turns (heard none));
}
opening_ends asked from old now false line held s (gone, same, cut, was) greets punctual = record { ended = greets (Some []) gone same cut; punctual = λ none. punctual (was none) }

-- the opening was answered, and its line was the last
pub opened_last : (asked : FollowOptions) (from old mid now : Dialogue) (more : Bool) (line held : List ℕ) (listener : Listener) (s : Status) → more ≡ false → HasBegun asked from old more line held
    → (HasGone from old → old.taken ≡ from.taken → IsCut (all_lines from) (line ∷ []) (Some []) → Stands asked from mid (line ∷ []) (Some []) listener)
    → (Stands asked from mid (line ∷ []) (Some []) listener → IsCut (all_lines from) (line ∷ []) (Some []) → HasEnded asked from now s)
    → (Holds old.turns (IsPunctual asked) → Holds now.turns (IsPunctual asked)) → IsOver asked from now s
opened_last asked from old mid now true line held listener s is begun greets ends punctual = absurd (false≢true (sym is))
opened_last asked from old mid now false line held listener s is (gone, same, cut, was) greets ends punctual = record { ended = ends (greets gone same cut) cut; punctual = λ none. punctual (was none) }

-- the opening was answered, behind whose line more may come
pub began : (asked : FollowOptions) (from old now : Dialogue) (more : Bool) (line held : List ℕ) (listener : Listener) → more ≡ true → HasBegun asked from old more line held → HasWritten old now
    → (HasGone from old → old.taken ≡ from.taken → IsCut (all_lines from) (line ∷ []) (lines_left held old.left) → Stands asked from now (line ∷ []) (lines_left held old.left) listener)
    → (Holds old.turns (TurnsSoFar asked (line ∷ []) held [] []) → Holds now.turns (TurnsSoFar asked (line ∷ []) held (answered asked (line ∷ [])) (answered asked (line ∷ [])))) → IsAt asked from now (line ∷ []) held listener
began asked from old now true line held listener is (gone, same, cut, heard) written greets says = record {
  stands = subst (λ (left : Option (List ℕ)). Stands asked from now (line ∷ []) (lines_left held left) listener) (sym written.left) (greets gone same cut);
  heard = λ none. says (heard none);
}
began asked from old now false line held listener is begun written greets says = absurd (false≢true is)

-- ---- the first line

all_left : (known : Option (List ℕ)) (held : List ℕ) → held ≡ [] → IsCut (option_map lines_of known) [] (lines_left held known)
all_left None held none = tt
all_left (Some bytes) held none = ap (λ (h : List ℕ). lines_of (h ++ bytes)) (sym none)

none_said : (asked : FollowOptions) (turns : Option (List PeerCall)) (held : List ℕ) → held ≡ [] → turns ≡ Some [] → Holds turns (TurnsSoFar asked [] held (answered asked []) (answered asked []))
none_said asked turns held none is = subst (λ (t : Option (List PeerCall)). Holds t (TurnsSoFar asked [] held (answered asked []) (answered asked []))) (sym is) (record {
  punctual = tt;
  cut = λ more. ap (λ (h : List ℕ). whole_lines (h ++ more)) (sym none);
  written = sym (ap (said asked) (none_told asked));
  flushed = sym (ap (said asked) (none_told asked));
})

begun_gone : (from mid : Dialogue) → HasRead from mid → HasGone from mid
begun_gone from mid read = record {
  reads = read.later;
  writes = let same = read.write_faults in omega (arith, same);
  place = read.place;
}

pub begun_line : (asked : FollowOptions) (from mid : Dialogue) (first line held : List ℕ) (next : Incoming) → next ≡ incoming.Line → first ≡ [] → HasRead from mid → IsNext next (lines_left first from.left) line (lines_left held mid.left)
    → (Holds from.turns (TurnsSoFar asked [] first (answered asked []) (answered asked [])) → HearsNext {E = Status} asked [] (Ok next) line held mid.turns) → HasBegun asked from mid true line held
begun_line asked from mid first line held next is none read cut hears = (
  begun_gone from mid read,
  read.taken,
  cut_line (all_lines from) (lines_left first from.left) (lines_left held mid.left) [] line (all_left from.left first none)
      (subst (λ (n : Incoming). IsNext n (lines_left first from.left) line (lines_left held mid.left)) is cut),
  λ told. subst (λ (t : List ℕ). Holds mid.turns (TurnsSoFar asked (line ∷ []) held t t)) (ap (said asked) (none_told asked))
      (subst (λ (n : Incoming). HearsNext {E = Status} asked [] (Ok n) line held mid.turns) is (hears (none_said asked from.turns first none told))),
)

pub begun_last : (asked : FollowOptions) (from mid : Dialogue) (first line held : List ℕ) (next : Incoming) → next ≡ incoming.Last → first ≡ [] → HasRead from mid → IsNext next (lines_left first from.left) line (lines_left held mid.left)
    → (Holds from.turns (TurnsSoFar asked [] first (answered asked []) (answered asked [])) → HearsNext {E = Status} asked [] (Ok next) line held mid.turns) → HasBegun asked from mid false line held
begun_last asked from mid first line held next is none read cut hears = (
  begun_gone from mid read,
  read.taken,
  cut_last (all_lines from) (lines_left first from.left) (lines_left held mid.left) [] line (all_left from.left first none)
      (subst (λ (n : Incoming). IsNext n (lines_left first from.left) line (lines_left held mid.left)) is cut),
  λ told. subst (λ (n : Incoming). HearsNext {E = Status} asked [] (Ok n) line held mid.turns) is (hears (none_said asked from.turns first none told)),
)

pub begun_none : (asked : FollowOptions) (from mid : Dialogue) (first line held : List ℕ) (next : Incoming) → next ≡ incoming.End → first ≡ [] → HasRead from mid → IsNext next (lines_left first from.left) line (lines_left held mid.left)
    → (Holds from.turns (TurnsSoFar asked [] first (answered asked []) (answered asked [])) → HearsNext {E = Status} asked [] (Ok next) line held mid.turns) → IsOver asked from mid (status.BadLine 1)
begun_none asked from mid first line held next is none read cut hears = record {
  ended = no_lines asked from mid (begun_gone from mid read) read.taken
      (cut_end (all_lines from) (lines_left first from.left) (lines_left held mid.left) [] line (all_left from.left first none)
      (subst (λ (n : Incoming). IsNext n (lines_left first from.left) line (lines_left held mid.left)) is cut));
  punctual = λ told. subst (λ (n : Incoming). HearsNext {E = Status} asked [] (Ok n) line held mid.turns) is (hears (none_said asked from.turns first none told));
}

pub begun_fails : (asked : FollowOptions) (from mid : Dialogue) (first : List ℕ) (s : Status) → first ≡ [] → HasRead from mid → IsReadStop s → (s ≡ status.ReadFault → Rose from.read_faults mid.read_faults)
    → (Holds from.turns (TurnsSoFar asked [] first (answered asked []) (answered asked [])) → Holds mid.turns (IsPunctual asked)) → IsOver asked from mid s
begun_fails asked from mid first s none read stop rose hears = record {
  ended = read_stops asked from mid s stop rose (begun_gone from mid read) (says_nothing asked from mid read.taken);
  punctual = λ told. hears (none_said asked from.turns first none told);
}
