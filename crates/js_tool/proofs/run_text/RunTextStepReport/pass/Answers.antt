use Rattle.js_tool.proofs.RunText.{text_passes}
use Rattle.js_tool.proofs.run_text.RunTextStepReport.pass.Goals as goal

pub returns-clause-told : goal.returns-clause-told
returns-clause-told c = λ start es come told.
    text_passes _ start es c.args.event.now c.args.self.now.text.items c.count.result c.advance.new.self c.outputs.result.now _ told (c.in_ok-advance.ensures.passed _ start es come)
    c.count.ensures c.outputs.ensures c.in_ok-push_outputs.ensures
