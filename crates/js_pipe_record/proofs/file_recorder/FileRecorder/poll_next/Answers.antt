use Rattle.std.proofs.Common.{refl}
use Rattle.js_pipe_record.proofs.LinesWritten.{poll_goes_on}
use Rattle.js_pipe_record.proofs.file_recorder.FileRecorder.poll_next.Goals as goal

pub returns-clause-records : goal.returns-clause-records
returns-clause-records g c =
    poll_goes_on g.F.Sink.taken c.args.now c.answer_of.result c.args.self.now
    (record { recorder = c.poll_next-answer.new.self; lines = c.poll_next-answer.new.recording; file = c.args.self.now.file; timeout = c.args.self.now.timeout })
    (g.L.Link.view c.args.link.now) (g.L.Link.view c.poll_next-answer.new.link)
    (record {
      bare = c.poll_next-answer.result;
      polls = c.poll_next-answer.ensures;
      answers = c.answer_of.ensures;
      file = refl;
      timeout = refl;
    })
