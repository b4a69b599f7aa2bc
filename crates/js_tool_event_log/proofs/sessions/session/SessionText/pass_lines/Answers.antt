use Rattle.std.proofs.Common.{length}
use Rattle.std.specs.Prelude.{Ok, Some}
use Rattle.js_tool_event_log.specs.declared.sessions.line.Said.TheVariants.{Begins, Says}
use Rattle.js_tool_event_log.specs.SessionProgress.{ReadsNext}
use Rattle.js_tool_event_log.proofs.LinesLeft.{next_says, going_next, going_setup, next_left}
use Rattle.js_tool_event_log.proofs.sessions.session.SessionText.pass_lines.Goals as goal

pub returns-in-Begins-clause-lines : goal.returns-in-Begins-clause-lines
returns-in-Begins-clause-lines c =
    going_setup c.args.self.now c.loop-said.self c.args.reader.now c.loop-said.reader c.next.new.self c.in-Begins.setup c.loop-said.invariant.going
    (next_says c.loop-said.reader c.next.new.self c.in_ok-said.field-0 c.in-Some.said (Begins c.in-Begins.setup) c.in-Some.is c.in-Begins.is c.in_ok-said.ensures.reads)

pub loop-said-preserved : goal.loop-said-preserved
loop-said-preserved c =
    let reads : ReadsNext c.loop-said.reader c.next.new.self (Ok (Some (Says c.in-Says.line))) =
    next_says c.loop-said.reader c.next.new.self c.in_ok-said.field-0 c.in-Some.said (Says c.in-Says.line) c.in-Some.is c.in-Says.is c.in_ok-said.ensures.reads in
    record {
      going =
          going_next c.args.self.now c.loop-said.self c.pass-passed.new.self c.args.reader.now c.loop-said.reader c.next.new.self c.in-Says.line c.loop-said.invariant.going reads
          c.in-Ok.ensures;
      left = next_left c.loop-said.reader c.next.new.self (Says c.in-Says.line) (length c.args.reader.now.lines.left) reads c.loop-said.invariant.left;
      room = c.in_ok-said.ensures.room;
    }
