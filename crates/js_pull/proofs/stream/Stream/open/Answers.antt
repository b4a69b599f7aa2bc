use Rattle.std.proofs.Common.{subst, sym}
use Rattle.js_base.specs.declared.message.State.TheVariants.{Connected}
use Rattle.js_pull.specs.Reader.{opening}
use Rattle.js_pull.specs.declared.reader.Reader.{Reader}
use Rattle.js_pull.proofs.Ledger.{new_bounded}
use Rattle.js_pull.specs.Poll.{IsBoundedAt}
use Rattle.js_pull.proofs.stream.Stream.open.Goals as goal

pub returns-clause-bounded : goal.returns-clause-bounded
returns-clause-bounded g c = λ none.
    subst IsBoundedAt (sym c.new-opened.ensures.place)
    (subst (λ (r : Reader). IsBoundedAt (record { reader = r; todo = opening; connection = Connected })) (sym c.new-reader.ensures) (new_bounded _ _ none))
