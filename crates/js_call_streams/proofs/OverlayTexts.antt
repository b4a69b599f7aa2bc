-- Worked texts of what is kept, and of what is written over an object that was read.
use Rattle.std.proofs.Common.{◌≡◌, refl, Some, codes}
use Rattle.std.specs.Str.{is_utf8, chars}
use Rattle.serde_json.specs.Data.{object, member, no_members, number, unsigned}
use Rattle.serde_json.specs.Read.{read}
use Rattle.js_json_members.proofs.OnLiterals.{reading_on_literals, writing_on_literals}
use Rattle.js_call_streams.specs.KeptText.{IsKeptOf}
use Rattle.js_call_streams.specs.Overlay.{text_of_over}

-- of a configuration with one member this text is kept
one_kept : IsKeptOf (codes "{\"max_age\":5}") (object (member (codes "max_age") (number (unsigned 5)) no_members))
unfolding reading_on_literals writing_on_literals is_utf8 chars
one_kept = record { plain = refl; text = refl; reads = λ _. refl }

-- A window of duplicates, the start of a mirror and a member of its external have no name here. Of a changed age and another prefix of the API
-- both are written, and all three stand. So what leaves an unknown member out is refused, and so are the old age and a mirror written anew.
changed_inside : text_of_over
    (read (codes "{\"duplicate_window\":600,\"max_age\":5,\"mirror\":{\"external\":{\"api\":\"A\",\"x\":1},\"name\":\"m\",\"opt_start_time\":\"t\"}}"))
    (read (codes "{\"max_age\":5,\"mirror\":{\"external\":{\"api\":\"A\"},\"name\":\"m\"}}"))
    (read (codes "{\"max_age\":7,\"mirror\":{\"external\":{\"api\":\"B\"},\"name\":\"m\"}}"))
    ≡ Some (codes "{\"duplicate_window\":600,\"max_age\":7,\"mirror\":{\"external\":{\"api\":\"B\",\"x\":1},\"name\":\"m\",\"opt_start_time\":\"t\"}}")
unfolding reading_on_literals writing_on_literals is_utf8 chars
changed_inside = refl

-- what is no longer written is taken out, and what is new is added
taken_out : text_of_over (read (codes "{\"max_age\":5,\"no_ack\":true}")) (read (codes "{\"max_age\":5}")) (read (codes "{\"mirror\":{}}"))
    ≡ Some (codes "{\"mirror\":{},\"no_ack\":true}")
unfolding reading_on_literals writing_on_literals is_utf8 chars
taken_out = refl
