use Rattle.std.proofs.Common.{◌≡◌, ℕ, ◌∙◌, Option, None, Some, ap}
use Rattle.js_ordered_recorder.specs.Acts.{WorksNext, World}
use Rattle.js_ordered_recorder.specs.declared.output_delivery.Worked.{Worked}
use Rattle.js_ordered_recorder.specs.declared.output_delivery.Worked.TheVariants as worked
use Rattle.js_ordered_recorder.proofs.ActSequences.{as_next, message_there, works_count, works_error, works_fewer, works_lacks, works_message, works_none, works_rest, works_silent, works_fault, world, world_same}
use Rattle.js_ordered_recorder.proofs.recorder.Recorder.work_all.Goals as goal

pub returns-in-Err-clause-works : goal.returns-in-Err-clause-works
returns-in-Err-clause-works g c = λ now.
    let view = g.L.Link.view in
    let a : World = world c.args.self.now (view c.args.link.now) in
    let b : World = world c.outputs.self (view c.outputs.link) in
    let d : World = world c.work_next.new.self (view c.work_next.new.link) in
    works_lacks now a b d (c.outputs.invariant.so now)
    (world_same c.work_next.new.self c.outputs.self (view c.work_next.new.link) (view c.outputs.link) c.in-Err.ensures.kept c.in-Err.ensures.link)

pub returns-in-None-clause-works : goal.returns-in-None-clause-works
returns-in-None-clause-works g c = λ now.
    let view = g.L.Link.view in
    let a : World = world c.args.self.now (view c.args.link.now) in
    let b : World = world c.outputs.self (view c.outputs.link) in
    let d : World = world c.work_next.new.self (view c.work_next.new.link) in
    works_none now a b d (c.outputs.invariant.so now) c.outputs.invariant.rests (as_next c.in-Ok.next None b d c.in-None.is c.in-Ok.ensures.works)

pub outputs-preserved : goal.outputs-preserved
outputs-preserved g c =
    let view = g.L.Link.view in
    let a : World = world c.args.self.now (view c.args.link.now) in
    let b : World = world c.outputs.self (view c.outputs.link) in
    let d : World = world c.work_next.new.self (view c.work_next.new.link) in
    let next : WorksNext (Some worked.Silent) b d = as_next c.in-Ok.next (Some worked.Silent) b d (c.in-Some.is ∙ ap (λ (x : Worked). Some x) c.in-Silent.is) c.in-Ok.ensures.works in
    record {
      so = λ now. works_silent now a b d (c.outputs.invariant.so now) next;
      rests = works_rest worked.Silent b d next;
      fault = works_fault worked.Silent b d next ∙ c.outputs.invariant.fault;
      count = works_count worked.Silent b d next ∙ c.outputs.invariant.count;
    }

pub outputs-smaller : goal.outputs-smaller
outputs-smaller g c =
    let view = g.L.Link.view in
    let b : World = world c.outputs.self (view c.outputs.link) in
    let d : World = world c.work_next.new.self (view c.work_next.new.link) in
    let next : WorksNext (Some worked.Silent) b d = as_next c.in-Ok.next (Some worked.Silent) b d (c.in-Some.is ∙ ap (λ (x : Worked). Some x) c.in-Silent.is) c.in-Ok.ensures.works in
    works_fewer worked.Silent b d next

pub returns-in-Message-clause-works : goal.returns-in-Message-clause-works
returns-in-Message-clause-works g c = λ now.
    let view = g.L.Link.view in
    let a : World = world c.args.self.now (view c.args.link.now) in
    let b : World = world c.outputs.self (view c.outputs.link) in
    let d : World = world c.work_next.new.self (view c.work_next.new.link) in
    let is : c.in-Ok.next ≡ Some worked.Message = c.in-Some.is ∙ ap (λ (x : Worked). Some x) c.in-Message.is in
    works_message now a b d (c.outputs.invariant.so now) (as_next c.in-Ok.next (Some worked.Message) b d is c.in-Ok.ensures.works) (message_there c.in-Ok.next d.recorder.message is c.in-Ok.ensures.message)

pub returns-in-Error-clause-works : goal.returns-in-Error-clause-works
returns-in-Error-clause-works g c = λ now.
    let view = g.L.Link.view in
    let a : World = world c.args.self.now (view c.args.link.now) in
    let b : World = world c.outputs.self (view c.outputs.link) in
    let d : World = world c.work_next.new.self (view c.work_next.new.link) in
    let is : c.in-Ok.next ≡ Some (worked.Error c.in-Error.kind) = c.in-Some.is ∙ ap (λ (x : Worked). Some x) c.in-Error.is in
    works_error now c.in-Error.kind a b d (c.outputs.invariant.so now) (as_next c.in-Ok.next (Some (worked.Error c.in-Error.kind)) b d is c.in-Ok.ensures.works)
