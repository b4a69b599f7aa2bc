use Rattle.std.proofs.Common.{refl}
use Rattle.js_tool_generate.proofs.Tallies.{counted}
use Rattle.js_tool_generate.proofs.summary.Summary.count.Goals as goal

pub returns-in-Yield : goal.returns-in-Yield
returns-in-Yield c = λ events before was. counted c.one_more.result c.args.output.now c.args.self.now _ (λ more. rw (c.in-Yield.is, more) refl) events before was c.one_more.ensures

pub returns-in-Item : goal.returns-in-Item
returns-in-Item c = λ events before was. counted c.one_more-in-Item.result c.args.output.now c.args.self.now _ (λ more. rw (c.in-Item.is, more) refl) events before was c.one_more-in-Item.ensures

pub returns-in-Recreate : goal.returns-in-Recreate
returns-in-Recreate c = λ events before was. counted c.one_more-in-Recreate.result c.args.output.now c.args.self.now _ (λ more. rw (c.in-Recreate.is, more) refl) events before was c.one_more-in-Recreate.ensures

pub returns-in-Request : goal.returns-in-Request
returns-in-Request c = λ events before was. counted c.one_more-in-Request.result c.args.output.now c.args.self.now _ (λ more. rw (c.in-Request.is, more) refl) events before was c.one_more-in-Request.ensures

pub returns-in-Publish : goal.returns-in-Publish
returns-in-Publish c = λ events before was. counted c.one_more-in-Publish.result c.args.output.now c.args.self.now _ (λ more. rw (c.in-Publish.is, more) refl) events before was c.one_more-in-Publish.ensures

pub returns-in-Subscribe : goal.returns-in-Subscribe
returns-in-Subscribe c = λ events before was. counted c.one_more-in-Subscribe.result c.args.output.now c.args.self.now _ (λ more. rw (c.in-Subscribe.is, more) refl) events before was c.one_more-in-Subscribe.ensures
