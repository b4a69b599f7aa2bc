use Rattle.std.proofs.Common.{◌≡◌, ◌-◌, [], ◌++◌, List, drop, sym, ap, ◌∙◌, subst, arith, append-nil}
use Rattle.js_base.specs.declared.message.Entry.{Entry}
use Rattle.js_event_log.specs.Mirror.{Mirrored, IsMirror}
use Rattle.js_event_log.specs.MirrorHoles.{AreHoles}
use Rattle.js_event_log.proofs.MirrorPass.{at_end}
use Rattle.js_event_log.proofs.MirrorGaps.{gaps, gaps_are_holes}
use Rattle.js_event_log.proofs.mirror.Mirror.holes.Goals as goal

pub returns : goal.returns
returns c =
    let m = c.args.self.now in
    let items = c.deref-entry-items.result.now in
    let is : IsMirror m = subst (λ (m : Mirrored). IsMirror m) c.self.view_is c.self.invariant in
    let all : m.entries ≡ items = sym (c.deref-entry-items.ensures.value ∙ ap (λ (m : Mirrored). m.entries) c.self.view_is) in
    let end : drop c.loop-entry.entry-index items ≡ [] = at_end items c.loop-entry.entry-index (omega (arith, c.loop-entry-test.false)) in
    let same : gaps (m.start - 1) m.entries ≡ c.loop-entry.ranges.items =
    ap (gaps (m.start - 1)) all ∙ c.loop-entry.invariant.gaps ∙ ap (λ (left : List Entry). c.loop-entry.ranges.items ++ gaps c.loop-entry.last left) end ∙ append-nil c.loop-entry.ranges.items in
    subst (λ rs. AreHoles m rs) same (gaps_are_holes m is.0 is.1)
