use Rattle.js_tool.proofs.RunText.{text_done}
use Rattle.js_tool.proofs.run_text.RunTextTextReport.finish.Goals as goal

pub returns : goal.returns
returns c = λ g start es has. text_done g start es c.args.self.text.items c.args.ended c.args.events _ has.told has.ends has.counted c.in_ok-push_end.ensures
