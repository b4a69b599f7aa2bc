-- What an error tells by its text.
use Rattle.std.proofs.Common.{◌≡◌, ℕ, List, Option, Some, None, Result, Ok, Err, refl, ap, subst}
use Rattle.std.specs.Prelude.{IfOk, IfSome}
use Rattle.js_base.specs.Error.{printed}
use Rattle.js_base.specs.declared.error.Source.{Source}
use Rattle.js_base.specs.declared.error.Source.TheVariants.{Text}
use Rattle.js_base.specs.declared.memory.OutOfMemory.{OutOfMemory}
use Rattle.js_store.specs.ToSource.{or_text, text_with, TellsPrinted}

-- what the server sent is told, whatever is printed
pub tells_sent : (by : Option Source) (sent : Source) (printed : Option (List ℕ)) → Some sent ≡ by → TellsPrinted by printed sent
tells_sent by sent None is = tt
tells_sent by sent (Some text) is = subst (λ b. sent ≡ or_text b text) is refl

-- where it sent nothing, what is printed is told
pub tells_text : (by : Option Source) (printed : Option (List ℕ)) (text : List ℕ) → None ≡ by → IfSome printed (λ bytes. text ≡ bytes) → TellsPrinted by printed (Text text)
tells_text by None text is same = tt
tells_text by (Some bytes) text is same = subst (λ b. Text text ≡ or_text b bytes) is (ap Text same)

-- what is printed is the kind's text, and the source's after it
pub told_as_printed : (sent : Option Source) (kind : List ℕ) (source : Option Source) (r : Result Source OutOfMemory)
    → IfOk r (λ told. TellsPrinted sent (printed (Some kind) source) told) → IfOk r (λ told. told ≡ or_text sent (text_with kind source))
told_as_printed sent kind None (Ok told) h = h
told_as_printed sent kind (Some source) (Ok told) h = h
told_as_printed sent kind source (Err e) h = tt
