use Rattle.std.proofs.Common.{◌≡◌, ◌++◌, Some, OnOk, sym, subst, rules}
use Rattle.js_base.specs.declared.message.Message.{Message}
use Rattle.js_ordered_table.specs.declared.event.EventKind.{EventKind}
use Rattle.js_ordered_table.specs.declared.event.EventKind.TheVariants as what
use Rattle.js_tool_transcript.specs.ExtendedText.{any_what_text}
use Rattle.js_tool_transcript.proofs.transcript.extended_text.push_any_what.Goals as goal

pub returns-in-Arrival-clause-text : goal.returns-in-Arrival-clause-text
returns-in-Arrival-clause-text c =
    let is : c.args.what.now ≡ what.Arrival c.in-Arrival.inbox c.in-Arrival.message = search rules in
    let got : c.get.result.now ≡ c.in-Arrival.message = search rules in
    subst (λ (k : EventKind). OnOk c.push_numbered.result (c.push_numbered.new.out.items ≡ c.args.out.now.items ++ any_what_text k)) (sym is)
    (subst (λ (m : Message). OnOk c.push_numbered.result (c.push_numbered.new.out.items ≡ c.args.out.now.items ++ any_what_text (what.Arrival c.in-Arrival.inbox m))) got c.push_numbered.ensures.text)

pub returns-in-Answer-default-Some-clause-text : goal.returns-in-Answer-default-Some-clause-text
returns-in-Answer-default-Some-clause-text c =
    let at = c.in-Answer-default-Some in
    let call = c.push_numbered-in-Answer-default-Some in
    let is : c.args.what.now ≡ what.Answer at.request (Some at.message) = search rules in
    let got : c.get-in-Answer-default-Some.result.now ≡ at.message = search rules in
    subst (λ (k : EventKind). OnOk call.result (call.new.out.items ≡ c.args.out.now.items ++ any_what_text k)) (sym is)
    (subst (λ (m : Message). OnOk call.result (call.new.out.items ≡ c.args.out.now.items ++ any_what_text (what.Answer at.request (Some m)))) got call.ensures.text)
