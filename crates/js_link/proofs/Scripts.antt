-- Taking a reply from a script.
use Rattle.std.proofs.Common.{◌≡◌, ℕ, ◌+◌, ◌<◌, ◌≤◌, Bool, true, false, List, ◌++◌, Option, Some, None, take, drop, length, append-nil, refl, sym, ◌∙◌, ap, subst, arith}
use Rattle.std.proofs.lemmas.List.{take_all, drop_all}
use Rattle.std.proofs.lemmas.Bool.{ltb-false, ltb-true}
use Rattle.std.proofs.lemmas.Option.{slice_get-get_or}
use Rattle.std.proofs.lemmas.List.Folds.{find_at}
use Rattle.std.proofs.Math.Numerals.{suc-eq-add-one}
use Rattle.std.specs.Prelude.{slice_get, get_or, cond}
use Rattle.std.specs.List.{position, position_or_len, remove}
use Rattle.std.specs.Option.{option_map}
use Rattle.js_base.specs.declared.message.Message.{Message}
use Rattle.js_base.specs.declared.headers.Header.{Header}
use Rattle.js_link.specs.declared.sent.Sent.{Sent}
use Rattle.js_link.specs.declared.scripted_server.Scripted.{Scripted}
use Rattle.js_link.specs.LinkView.{LinkView, Numbers, Status, Waits, Answered, put}
use Rattle.js_link.specs.Calls.{Asks}
use Rattle.js_link.specs.Memory.{HasReply, Responds, RespondsAs}
use Rattle.js_link.specs.ScriptedServer.{UsesReply, is_for}
use Rattle.js_link.proofs.Places.{get_past}
use Rattle.js_link.proofs.Updates.{put_here, put_put}

none_is_false : (b : Bool) (i : ℕ) → cond b (Some i) None ≡ None → b ≡ false
none_is_false true i e = cc
none_is_false false i e = refl

some_is_true : (b : Bool) (i j : ℕ) → cond b (Some i) None ≡ Some j → (b ≡ true) × (i ≡ j)
some_is_true true i j e = (refl, cc)
some_is_true false i j e = cc

-- no reply is there for the subject
pub uses_none : (subject : List ℕ) (script : List Scripted) → position (is_for subject) script ≡ None → UsesReply subject None script script
uses_none subject script e =
    let past : length script ≤ position_or_len (is_for subject) script = ltb-false _ _ (none_is_false _ _ e) in
    record {
      first = sym (ap (option_map (λ line. line.reply)) (find_at (is_for subject) script ∙ get_past script _ past));
      rest = rw (take_all _ script past, drop_all (position_or_len (is_for subject) script + 1) script (omega (arith, past))) (sym (append-nil script));
    }

-- the reply at the first place was taken
pub uses_at : (subject : List ℕ) (script : List Scripted) (i : ℕ) (line : Scripted) (left : List Scripted) → position (is_for subject) script ≡ Some i → line ≡ get_or script i line → left ≡ remove script i → UsesReply subject (Some line.reply) script left
uses_at subject script i line left e at removed =
    let found = some_is_true _ _ _ e in
    let within : i < length script = subst (λ (n : ℕ). n < length script) found.1 (ltb-true _ _ found.0) in
    record {
      first = sym (ap (option_map (λ line. line.reply)) (find_at (is_for subject) script ∙ ap (slice_get script) found.1 ∙ slice_get-get_or script i line within ∙ ap Some (sym at)));
      rest = rw (removed, found.1) (ap (λ n. take i script ++ drop n script) (suc-eq-add-one i));
    }

over : (old made : LinkView) (number : ℕ) (k : Option Numbers) (s t : Status) (p q : Option Message) (sent : Option (List Sent)) → made ≡ record old { numbers = k; status = put old.status number s; reply = put old.reply number p; sent = sent } → record made { status = put made.status number t; reply = put made.reply number q } ≡ record old { numbers = k; status = put old.status number t; reply = put old.reply number q; sent = sent }
over old made number k s t p q sent e = rw e (λ j. record old { numbers = k; status = put_put old.status number s t j; reply = put_put old.reply number p q j; sent = sent })

-- a request that was made and waits, and then has its reply
pub made_and_answered : (number : ℕ) (subject : List ℕ) (headers : Option (List Header)) (payload : List ℕ) (reply : Message) (old made new : LinkView) → Asks number subject headers payload old made → made.status number ≡ Waits → Responds number (Some reply) made new → Asks number subject headers payload old new × HasReply number (Some reply) new
made_and_answered number subject headers payload reply old made new asks waits responds =
    let answered : new ≡ record made { status = put made.status number Answered; reply = put made.reply number (Some reply) } = subst (λ (s : Status). RespondsAs s number (Some reply) made new) waits responds in
    let status : new.status number ≡ Answered = ap (λ (v : LinkView). v.status number) answered ∙ put_here made.status number Answered in
    let told : new.reply number ≡ Some reply = ap (λ (v : LinkView). v.reply number) answered ∙ put_here made.reply number (Some reply) in (
      record {
        not_down = asks.not_down;
        unused = asks.unused;
        next = asks.next;
        same = rw (status, told) (answered ∙ over old made number _ _ _ _ _ _ asks.same);
      },
      (status, told),
    )
