use Rattle.std.proofs.Common.{ℕ, List, sym, subst, ◌∙◌, rules}
use Rattle.std.specs.Io.KnownBytes.{Appends}
use Rattle.js_tool_io.specs.Causes.{AppendsPrefix}
use Rattle.js_message.specs.Info.{shown}
use Rattle.js_tool.proofs.info.answer_info.Goals as goal

pub returns-in-Ok-write_all-clause-answers : goal.returns-in-Ok-write_all-clause-answers
returns-in-Ok-write_all-clause-answers g c =
    let Whole : List ℕ → Type 0 = Appends (g.K.Sink.taken c.args.output.now) (g.K.Sink.taken c.write_all.new.output) in
    record {
      done = λ done. (shown c.in-Ok.info, sym c.in-Ok.ensures, subst Whole (c.deref.ensures.value ∙ c.in-Ok-info_line.ensures) c.in-Ok-write_all.ensures.ok);
      refused = search rules;
      written_before_fault = search rules;
      otherwise = search rules;
    }

pub returns-in-Ok-info_line-clause-answers : goal.returns-in-Ok-info_line-clause-answers
returns-in-Ok-info_line-clause-answers g c =
    let Front : List ℕ → Type 0 = AppendsPrefix (g.K.Sink.taken c.args.output.now) (g.K.Sink.taken c.write_all.new.output) in
    record {
      done = search rules;
      refused = search rules;
      written_before_fault = λ failed. (shown c.in-Ok.info, sym c.in-Ok.ensures, subst Front (c.deref.ensures.value ∙ c.in-Ok-info_line.ensures) c.in-Err-write_all.ensures.err);
      otherwise = search rules;
    }
