-- The ring of detached acks.
use Rattle.std.proofs.Common.{◌≡◌, List, drop, sym, ◌∙◌, subst}
use Rattle.std.specs.Prelude.{All}
use Rattle.std.proofs.lemmas.List.Elements.{All-drop}

-- what the elements have in common, all but the first have in common still
pub rest_alike : {X A : Type 0} (part : X → A) (xs ys : List X) (a b : A) → ys ≡ drop 1 xs → b ≡ a → All (λ (x : X). part x ≡ a) xs → All (λ (x : X). part x ≡ b) ys
rest_alike {X} part xs ys a b rest same all =
    subst (λ (zs : List X). All (λ (x : X). part x ≡ b) zs) (sym rest) (λ k d below. All-drop (λ (x : X). part x ≡ a) 1 xs all k d below ∙ sym same)
