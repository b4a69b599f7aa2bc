-- What is an object is read by its members.
use Rattle.std.proofs.Common.{◌≡◌, true}
use Rattle.std.proofs.lemmas.Bool.{false≢true}
use Rattle.std.specs.Prelude.{Result, is_some}
use Rattle.serde_json.specs.Data.{Data, null, boolean, number, string, array, object}
use Rattle.serde_json.specs.Find.{as_object}
use Rattle.js_json_members.specs.declared.key.Key.{Key}
use Rattle.js_json_members.specs.declared.error.ReadError.{ReadError}
use Rattle.js_json_members.specs.Member.{Gives, nested}

pub by_members : {A : Type 0} (read : Data → Result A ReadError) (key : Key) (d : Data) (r : Result A ReadError) → is_some (as_object d) ≡ true → Gives r (read d) → Gives r (nested read key d)
unfolding nested
by_members read key null r is h = absurd (false≢true is)
by_members read key (boolean b) r is h = absurd (false≢true is)
by_members read key (number n) r is h = absurd (false≢true is)
by_members read key (string s) r is h = absurd (false≢true is)
by_members read key (array ds) r is h = absurd (false≢true is)
by_members read key (object ms) r is h = h
