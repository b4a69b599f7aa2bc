use Rattle.std.proofs.Common.{rules, ◌≡◌, ℕ, List, [], ◌∷◌, ◌++◌, not, Result, Ok, Err}
use Rattle.std.specs.Prelude.{OnOk}
use Rattle.std.proofs.lemmas.Fn.{filter_same}
use Rattle.std.specs.Str.{bytes_eq}
use Rattle.js_base.specs.Headers.{with_only, without_name}
use Rattle.js_base.specs.declared.headers.Header.{Header}
use Rattle.js_base.proofs.headers.HeaderMap.insert.Goals as goal

on_ok-map : {A E P Q : Type 0} (r : Result A E) → (P → Q) → OnOk r P → OnOk r Q
on_ok-map (Ok x) f h = f h
on_ok-map (Err e) f h = h

-- what is kept, with the one header after it
only : {name value : List ℕ} {header : Header} {old fields kept new : List Header} → header ≡ record { name = name; value = value } → fields ≡ old → kept ≡ without_name name fields → new ≡ kept ++ header ∷ [] → new ≡ with_only name value old
only h o k e = rw (e, k, h, o)

pub returns-clause-ok : goal.returns-clause-ok
returns-clause-ok c =
    on_ok-map c.keep_and_push.result
    (λ h. only c.in_ok-header.ensures c.self.view_is (filter_same _ (λ other. not (bytes_eq c.args.name.now other.name)) _ (λ x b f' k. search rules) _ _ h.1) h.2)
    c.keep_and_push.ensures.ok
