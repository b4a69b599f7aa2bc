-- Pushes one after another: a list between its brackets, and a message behind a number.
use Rattle.std.proofs.Common.{◌≡◌, ℕ, List, ◌++◌, append_assoc}

pub enclosed : (old opens list close : List ℕ) → ((old ++ opens) ++ list) ++ close ≡ old ++ (opens ++ (list ++ close))
enclosed old opens list close = simp append_assoc

pub joined : (old key digits message close : List ℕ) → ((old ++ (key ++ digits)) ++ message) ++ close ≡ old ++ (key ++ (digits ++ (message ++ close)))
joined old key digits message close = simp append_assoc
