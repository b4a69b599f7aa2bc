-- One question more of a caller that waits.
use Rattle.std.proofs.Common.{◌≡◌, Bool, true, List, [], ◌∷◌, ◌++◌, refl, sym, ap, ◌∙◌, append_assoc, append-nil, arith}
use Rattle.std.proofs.lemmas.List.Elements.{All-push}
use Rattle.js_window.specs.Caller.{Caller, Makes}
use Rattle.js_window.specs.History.{entry}
use Rattle.js_window.specs.declared.history.Call.TheVariants.{AllFree}
use Rattle.js_window.specs.declared.history.Entry.{Entry}
use Rattle.js_window.proofs.Prefixes.{prefix-refl, prefix-trans}
use Rattle.js_context.specs.AckWait.{asks_all_free, Waited}

pub waited_none : (p : Caller) → Waited p p
waited_none p = record { window = refl; number = refl; grows = prefix-refl p.seen; asked = []; mine = sym (append-nil p.mine); alone = λ k d lt. absurd (omega arith); holds = refl }

pub waited_more : (answer : Bool) (p q r : Caller) → Waited p q → Makes (AllFree answer) q r → Waited p r
waited_more answer p q r w m =
    let e : Entry = entry q.number (AllFree answer) in
    record {
      window = m.goes_on.window ∙ w.window;
      number = m.goes_on.number ∙ w.number;
      grows = prefix-trans p.seen q.seen r.seen w.grows m.goes_on.grows;
      asked = w.asked ++ e ∷ [];
      mine = m.mine ∙ ap (λ (l : List Entry). l ++ e ∷ []) w.mine ∙ append_assoc p.mine w.asked (e ∷ []);
      alone = All-push (λ (x : Entry). asks_all_free x.call ≡ true) w.asked e w.alone refl;
      holds = m.holds ∙ w.holds;
    }
