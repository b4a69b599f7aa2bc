-- What walks hand out one after another, and where they lead. A message that is taken is the arrival on its inbox.
use Rattle.std.proofs.Common.{◌≡◌, ℕ, Bool, true, List, [], ◌∷◌, ◌++◌, Some, None, refl, ap, ◌∙◌, arith}
use Rattle.std.proofs.lemmas.Bool.Decides.{nat_tests}
use Rattle.std.specs.Prelude.{◌==◌, if◌then◌else◌}
use Rattle.js_base.specs.declared.message.Message.{Message}
use Rattle.js_link.specs.Wish.{message_of}
use Rattle.js_link.specs.declared.wish.Wish.TheVariants.{Reads}
use Rattle.js_link.specs.declared.wish.Met.{Met}
use Rattle.js_link.specs.declared.wish.Met.TheVariants.{Took}
use Rattle.js_ordered_table.specs.declared.consumer.ReplayInput.{ReplayInput}
use Rattle.js_ordered_table.specs.declared.run.Output.{Output}
use Rattle.js_ordered_table.specs.declared.run.Output.TheVariants as out
use Rattle.js_ordered_table.specs.Recreation.{message_on}
use Rattle.js_ordered_table.specs.Walk.{Position, Stride, step, walk, handed}
use Rattle.js_ordered_table.specs.Wishes.{arrival_of}

-- ---- what is handed out

pub handed_append : (xs ys : List Output) → handed (xs ++ ys) ≡ handed xs ++ handed ys
handed_append [] ys = refl
handed_append (out.Yield sequence number subject payload ∷ xs) ys = ap (λ (zs : List Output). out.Yield sequence number subject payload ∷ zs) (handed_append xs ys)
handed_append (out.Item kind ∷ xs) ys = ap (λ (zs : List Output). out.Item kind ∷ zs) (handed_append xs ys)
handed_append (out.Recreate recreation_count start ∷ xs) ys = handed_append xs ys
handed_append (out.Request number subject payload ∷ xs) ys = handed_append xs ys
handed_append (out.Publish subject reply payload ∷ xs) ys = handed_append xs ys
handed_append (out.Subscribe inbox subject ∷ xs) ys = handed_append xs ys

pub handed_both : (xs ys : List Output) → handed xs ≡ [] → handed ys ≡ [] → handed (xs ++ ys) ≡ []
handed_both xs ys e f = handed_append xs ys ∙ ap (λ (zs : List Output). zs ++ handed ys) e ∙ f

-- ---- where it leads

pub walk_append : (g : ReplayInput) (xs ys : List Stride) (at : Position) → (walk g (xs ++ ys) at).position ≡ (walk g ys (walk g xs at).position).position
walk_append g [] ys at = refl
walk_append g (x ∷ xs) ys at = walk_append g xs ys (step g x at).position

-- ---- what is taken

pub eqb_same : (n : ℕ) → (n == n) ≡ true
eqb_same n = grind (arith, nat_tests)

took : (inbox : ℕ) (message : Message) → (if inbox == inbox then Some message else None) ≡ Some message
took inbox message = ap (λ (b : Bool). if b then Some message else None) (eqb_same inbox)

pub arrives_here : (inbox : ℕ) (met : Met) → message_on inbox (arrival_of (Reads inbox) met) ≡ message_of met
arrives_here inbox (Took message) = took inbox message
arrives_here inbox met = refl
