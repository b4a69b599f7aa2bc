-- Outputs that hand out the first of some entries, and tell nothing else that a user sees.
use Rattle.std.proofs.Common.{◌≡◌, ℕ, List, [], ◌∷◌, ◌++◌, sym, ap, ◌∙◌, subst, append-nil}
use Rattle.std.specs.List.{AllByRecursion}
use Rattle.js_ordered_table.specs.declared.run.Output.{Output}
use Rattle.js_ordered_table.specs.declared.run.Output.TheVariants as out
use Rattle.js_ordered_table.specs.Gapless.{Entry, FollowsStarts, yields}
use Rattle.js_event_log.specs.RelayReader.{IsCalm}

-- from the entries that are left to those that are left after the outputs
abbrev pub Gives : List Entry → List Output → List Entry → Type 0
Gives left [] left_now = left ≡ left_now
Gives left (out.Yield sequence number subject payload ∷ outputs) left_now =
    (rest : List Entry) × (left ≡ record { subject = subject; sequence = sequence; payload = payload } ∷ rest) × Gives rest outputs left_now
Gives left (out.Item kind ∷ outputs) left_now = ⊥
Gives left (out.Recreate recreation_count start ∷ outputs) left_now = ⊥
Gives left (out.Request number subject payload ∷ outputs) left_now = Gives left outputs left_now
Gives left (out.Publish subject reply payload ∷ outputs) left_now = Gives left outputs left_now
Gives left (out.Subscribe inbox subject ∷ outputs) left_now = ⊥

pub gives_append : (left : List Entry) (first second : List Output) (left_then left_now : List Entry) → Gives left first left_then → Gives left_then second left_now → Gives left (first ++ second) left_now
gives_append left [] second left_then left_now h k = subst (λ (l : List Entry). Gives l second left_now) (sym h) k
gives_append left (out.Yield sequence number subject payload ∷ first) second left_then left_now h k = (h.0, h.1, gives_append h.0 first second left_then left_now h.2 k)
gives_append left (out.Item kind ∷ first) second left_then left_now h k = h
gives_append left (out.Recreate recreation_count start ∷ first) second left_then left_now h k = h
gives_append left (out.Request number subject payload ∷ first) second left_then left_now h k = gives_append left first second left_then left_now h k
gives_append left (out.Publish subject reply payload ∷ first) second left_then left_now h k = gives_append left first second left_then left_now h k
gives_append left (out.Subscribe inbox subject ∷ first) second left_then left_now h k = h

pub gives_yields : (left : List Entry) (outputs : List Output) (left_now : List Entry) → Gives left outputs left_now → yields outputs ++ left_now ≡ left
gives_yields left [] left_now h = sym h
gives_yields left (out.Yield sequence number subject payload ∷ outputs) left_now h =
    ap (λ (es : List Entry). record { subject = subject; sequence = sequence; payload = payload } ∷ es) (gives_yields h.0 outputs left_now h.2) ∙ sym h.1
gives_yields left (out.Item kind ∷ outputs) left_now h = absurd h
gives_yields left (out.Recreate recreation_count start ∷ outputs) left_now h = absurd h
gives_yields left (out.Request number subject payload ∷ outputs) left_now h = gives_yields left outputs left_now h
gives_yields left (out.Publish subject reply payload ∷ outputs) left_now h = gives_yields left outputs left_now h
gives_yields left (out.Subscribe inbox subject ∷ outputs) left_now h = absurd h

pub gives_all : (left : List Entry) (outputs : List Output) → Gives left outputs [] → yields outputs ≡ left
gives_all left outputs h = sym (append-nil (yields outputs)) ∙ gives_yields left outputs [] h

pub gives_calm : (left : List Entry) (outputs : List Output) (left_now : List Entry) → Gives left outputs left_now → AllByRecursion IsCalm outputs
gives_calm left [] left_now h = tt
gives_calm left (out.Yield sequence number subject payload ∷ outputs) left_now h = (tt, gives_calm h.0 outputs left_now h.2)
gives_calm left (out.Item kind ∷ outputs) left_now h = absurd h
gives_calm left (out.Recreate recreation_count start ∷ outputs) left_now h = absurd h
gives_calm left (out.Request number subject payload ∷ outputs) left_now h = (tt, gives_calm left outputs left_now h)
gives_calm left (out.Publish subject reply payload ∷ outputs) left_now h = (tt, gives_calm left outputs left_now h)
gives_calm left (out.Subscribe inbox subject ∷ outputs) left_now h = absurd h

-- no inbox is subscribed, so each starts where it should
pub gives_starts : (starts : ℕ → ℕ) (now : ℕ) (left : List Entry) (outputs : List Output) (left_now : List Entry) → Gives left outputs left_now → FollowsStarts starts now outputs
gives_starts starts now left [] left_now h = tt
gives_starts starts now left (out.Yield sequence number subject payload ∷ outputs) left_now h = gives_starts starts now h.0 outputs left_now h.2
gives_starts starts now left (out.Item kind ∷ outputs) left_now h = absurd h
gives_starts starts now left (out.Recreate recreation_count start ∷ outputs) left_now h = absurd h
gives_starts starts now left (out.Request number subject payload ∷ outputs) left_now h = gives_starts starts now left outputs left_now h
gives_starts starts now left (out.Publish subject reply payload ∷ outputs) left_now h = gives_starts starts now left outputs left_now h
gives_starts starts now left (out.Subscribe inbox subject ∷ outputs) left_now h = absurd h
