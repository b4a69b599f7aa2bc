-- Events written after events.
use Rattle.std.proofs.Common.{◌≡◌, ◌∙◌, Option, List, [], ◌∷◌, ◌++◌, refl, sym, subst}
use Rattle.js_ordered_table.specs.declared.event.Event.{Event}
use Rattle.js_ordered_recorder.specs.declared.recording.RecordingFault.{RecordingFault}
use Rattle.js_ordered_recorder.specs.Recording.{Writes, WritesAll}

pub writes_on : {R : Type 0} (writes : R → Event → Option RecordingFault → R → Type 0) (es fs : List Event) (was kept told : Option RecordingFault) (a b c : R) → WritesAll writes was es kept a b → WritesAll writes kept fs told b c
    → WritesAll writes was (es ++ fs) told a c
writes_on {R} writes [] fs was kept told a b c none more =
    let P : R → Type 0 = λ r. WritesAll writes kept fs told r c in
    let Q : Option RecordingFault → Type 0 = λ w. WritesAll writes w fs told a c in
    subst Q none.1 (subst P none.0 more)
writes_on {R} writes (e ∷ es) fs was kept told a b c first more =
    (first.0, first.1, first.2, writes_on writes es fs first.0 kept told first.1 b c first.3 more)

pub writes_one : {R : Type 0} (writes : R → Event → Option RecordingFault → R → Type 0) (e : Event) (was told : Option RecordingFault) (a b : R) → Writes writes was e told a b → WritesAll writes was (e ∷ []) told a b
writes_one writes e was told a b written = (told, b, written, (refl, refl))
