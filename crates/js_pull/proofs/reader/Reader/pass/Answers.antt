use Rattle.js_pull.specs.declared.reader.Row.TheVariants as row
use Rattle.js_pull.proofs.PassedRows.{ask_steps, at_moment, inquire_steps, inquiry_steps}
use Rattle.js_pull.proofs.reader.Reader.pass.Goals as goal

pub returns-in-Ask : goal.returns-in-Ask
returns-in-Ask c = λ reply informed. rw c.in-Ask.is (ask_steps c.args.now c.in-Ask.reason _ _ _ c.args.self.now _ _ c.request.ensures c.is_some.ensures (c.pass_ask.ensures _))

pub returns-in-Threshold : goal.returns-in-Threshold
returns-in-Threshold c = λ reply informed. rw c.in-Threshold.is (at_moment c.args.now row.Threshold _ c.args.self.now _ _ (c.pass_threshold.ensures _))

pub returns-in-Arm : goal.returns-in-Arm
returns-in-Arm c = λ reply informed. rw c.in-Arm.is (at_moment c.args.now row.Arm _ c.args.self.now _ _ (c.pass_arm.ensures _))

pub returns-in-Inquire : goal.returns-in-Inquire
returns-in-Inquire c = λ reply informed. rw c.in-Inquire.is (inquire_steps c.args.now c.in-Inquire.failures _ _ c.args.self.now _ _ c.request-in-Inquire.ensures (c.pass_inquire.ensures _))

pub returns-in-FailInfoRequest : goal.returns-in-FailInfoRequest
returns-in-FailInfoRequest c = λ reply informed. rw c.in-FailInfoRequest.is (at_moment c.args.now (row.FailInfoRequest c.in-FailInfoRequest.failures) _ c.args.self.now _ _ (c.pass_fail_inquiry.ensures _))

pub returns-in-CheckInfoRequest : goal.returns-in-CheckInfoRequest
returns-in-CheckInfoRequest c = λ reply informed.
    rw c.in-CheckInfoRequest.is (at_moment c.args.now row.CheckInfoRequest _ c.args.self.now _ _ (inquiry_steps c.args.now _ c.is_answer.result c.args.self.now _ c.is_answer.ensures c.check_inquiry.ensures))

pub returns-in-Answered : goal.returns-in-Answered
returns-in-Answered c = λ reply informed.
    rw c.in-Answered.is (at_moment c.args.now (row.Answered reply c.in-Answered.failures) _ c.args.self.now _ _ (c.pass_answered.ensures reply _ (rw c.in-Answered.is at informed)))

pub returns-in-CheckExpiry : goal.returns-in-CheckExpiry
returns-in-CheckExpiry c = λ reply informed. rw c.in-CheckExpiry.is (at_moment c.args.now row.CheckExpiry _ c.args.self.now _ _ (c.pass_check_expiry.ensures _))

pub returns-in-CheckArrival : goal.returns-in-CheckArrival
returns-in-CheckArrival c = λ reply informed. rw c.in-CheckArrival.is (at_moment c.args.now row.CheckArrival _ c.args.self.now _ _ c.pass_check_arrival.ensures)

pub returns-in-CheckSilence : goal.returns-in-CheckSilence
returns-in-CheckSilence c = λ reply informed. rw c.in-CheckSilence.is (at_moment c.args.now row.CheckSilence _ c.args.self.now _ _ (c.pass_check_silence.ensures _))
