use Rattle.std.proofs.Common.{ap}
use Rattle.std.specs.Prelude.{false, codes, drop, None, if◌then◌else◌}
use Rattle.std.proofs.lemmas.Str.Pattern.{starts_text}
use Rattle.js_message.specs.Numbers.{u64_of}
use Rattle.js_store_keys.proofs.refusal.revision_in.Goals as goal

pub returns-in-None : goal.returns-in-None
returns-in-None c =
    ap (λ starts. if starts then u64_of (drop 21 c.args.text.now) else None) (starts_text false (codes "wrong last sequence: ") c.args.text.now c.in-None.ensures.cases)
