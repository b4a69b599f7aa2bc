use Rattle.std.proofs.Common.{rules}
use Rattle.js_base.proofs.Copies.{copied}
use Rattle.js_json.proofs.pull.copies.OrderedConfigTryClone.try_clone.Goals as goal

pub returns : goal.returns
returns c =
    let v = c.in_ok-name.ensures.values in
    rw (copied v.0 c.try_clone.ensures, copied v.1 c.try_clone-2.ensures, copied v.2 c.try_clone-3.ensures, copied v.3 c.try_clone-4.ensures, copied v.4 c.try_clone-5.ensures) (search rules)
