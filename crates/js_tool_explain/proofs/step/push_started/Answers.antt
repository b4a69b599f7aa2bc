use Rattle.js_tool_explain.proofs.step.push_started.Goals as goal

pub returns-in-None : goal.returns-in-None
returns-in-None c =
    rw (← c.in-None.ensures)
    (rw (c.mode_text.ensures, c.as_bytes.ensures.value, c.as_str.ensures, c.as_bytes-in-None.ensures.value, c.as_str-in-None.ensures) at c.push_line.ensures)

pub returns-in-Some : goal.returns-in-Some
returns-in-Some c =
    rw (← c.in-Some.ensures)
    (rw (c.mode_text-in-Some.ensures, c.as_bytes-in-Some.ensures.value, c.as_str-in-Some.ensures, c.as_bytes-in-Some-2.ensures.value, c.as_str-in-Some-2.ensures) at c.push_line-in-Some.ensures)
