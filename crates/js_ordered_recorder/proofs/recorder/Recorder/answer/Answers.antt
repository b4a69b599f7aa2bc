use Rattle.std.proofs.Common.{◌≡◌, Some, sym}
use Rattle.js_ordered_recorder.proofs.ActSequences.{hands_answer, tells_answer}
use Rattle.js_ordered_recorder.proofs.recorder.Recorder.answer.Goals as goal

pub returns-in-Some-clause-answers : goal.returns-in-Some-clause-answers
returns-in-Some-clause-answers c = λ now v a es worked ends.
    hands_answer now c.args.ending c.args.self.now v c.in-Some.message c.take.new.self a es worked c.in-Hands.is c.take.ensures.after (sym c.in-Some.ensures.value) ends

pub returns-in-Tells-clause-answers : goal.returns-in-Tells-clause-answers
returns-in-Tells-clause-answers c = λ now v a es worked ends.
    tells_answer now c.args.ending c.in-Tells.kind c.args.self.now v c.error_of.result c.error_of.new.message a es worked c.in-Tells.is c.error_of.ensures.tells c.error_of.ensures.source c.error_of.ensures.left ends
