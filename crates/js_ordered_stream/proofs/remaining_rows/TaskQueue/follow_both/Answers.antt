use Rattle.std.proofs.Common.{ap, sym, ◌∙◌}
use Rattle.js_ordered_table.specs.Tasks.{rows_of}
use Rattle.js_ordered_stream.specs.declared.remaining_rows.TaskQueue.{TaskQueue}
use Rattle.js_ordered_stream.specs.Rows.{is_first_held, is_first_idle, is_left, later_of, read_in, todo_rows}
use Rattle.js_ordered_stream.proofs.NextRow.{follows_first, follows_waiting, stands_first}
use Rattle.js_ordered_stream.proofs.remaining_rows.TaskQueue.follow_both.Goals as goal

pub returns-in-None-clause-rows : goal.returns-in-None-clause-rows
returns-in-None-clause-rows c =
    let m = read_in c.args.seen.now in
    follows_first m c.args.one c.args.second (later_of c.args.self.now) (todo_rows m c.replace_first.new.self) c.requires.stands c.requires.short (sym c.waiting_row-waits.ensures ∙ c.in-None.is) (c.replace_first.ensures.rows m)

pub returns-in-None-clause-stands : goal.returns-in-None-clause-stands
returns-in-None-clause-stands c = c.replace_first.ensures.stands (read_in c.args.seen.now) c.requires.stands

pub returns-in-Some-clause-rows : goal.returns-in-Some-clause-rows
returns-in-Some-clause-rows c =
    let m = read_in c.args.seen.now in
    ap (λ (t : TaskQueue). todo_rows m t) c.replace_with.ensures
    ∙ follows_waiting m c.args.one c.args.second c.in-Some.later (later_of c.args.self.now) c.requires.stands c.requires.short (sym c.waiting_row-waits.ensures ∙ c.in-Some.is)

pub returns-in-Some-clause-stands : goal.returns-in-Some-clause-stands
returns-in-Some-clause-stands c =
    let m = read_in c.args.seen.now in
    ap (λ (t : TaskQueue). is_first_idle m t) c.replace_with.ensures ∙ stands_first (is_left (rows_of m c.args.one)) c.requires.stands

pub returns-in-Some-clause-held : goal.returns-in-Some-clause-held
returns-in-Some-clause-held c = ap (λ (t : TaskQueue). is_first_held t) c.replace_with.ensures ∙ c.requires.held
