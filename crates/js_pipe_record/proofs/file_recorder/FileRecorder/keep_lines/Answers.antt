use Rattle.std.proofs.Common.{ℕ, List, refl, ap, subst, ◌∙◌}
use Rattle.std.specs.Io.KnownBytes.{Appends}
use Rattle.js_ordered_recorder.specs.declared.lines.LineRecording.{LineRecording}
use Rattle.js_pipe_record.specs.declared.recording_file.RecordingFile.{RecordingFile}
use Rattle.js_pipe_record.proofs.LinesWritten.{keep_stays, open_before}
use Rattle.js_pipe_record.proofs.file_recorder.FileRecorder.keep_lines.Goals as goal

pub returns-clause-records : goal.returns-clause-records
returns-clause-records g c =
    let was = c.args.self.now in
    let file = c.write.new.self in
    keep_stays g.F.Sink.taken was
    (record { recorder = was.recorder; lines = c.replace_with.new.place; file = file; timeout = was.timeout })
    refl
    (ap (λ (l : LineRecording). l.bytes.items) c.replace_with.ensures ∙ c.new.ensures)
    (open_before was.file.has_failed file.has_failed (λ failed. ap (λ (f : RecordingFile g.row.F.Denot). f.has_failed) (c.write.ensures.ended failed) ∙ failed))
    (λ whole. subst (λ (bytes : List ℕ). Appends (g.F.Sink.taken was.file.sink) (g.F.Sink.taken file.sink) bytes) c.lines.ensures (c.write.ensures.whole whole))
