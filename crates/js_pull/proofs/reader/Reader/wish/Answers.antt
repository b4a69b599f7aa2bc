use Rattle.std.proofs.Common.{refl}
use Rattle.js_pull.specs.declared.reader.Reason.TheVariants.{Low}
use Rattle.js_pull.specs.declared.reader.Row.TheVariants as row
use Rattle.js_pull.specs.Reader.{wish}
use Rattle.js_pull.proofs.PassedRows.{wish_known}
use Rattle.js_pull.proofs.reader.Reader.wish.Goals as goal

pub returns-in-Ask : goal.returns-in-Ask
returns-in-Ask c = wish_known _ (wish (row.Ask Low) c.args.self.now) c.args.due c.args.self.now (λ reply. rw c.in-Ask.is refl) c.pull_wish.ensures

pub returns-in-Inquire : goal.returns-in-Inquire
returns-in-Inquire c = wish_known _ (wish (row.Inquire 0) c.args.self.now) c.args.due c.args.self.now (λ reply. rw c.in-Inquire.is refl) c.info_wish.ensures
