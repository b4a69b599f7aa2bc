use Rattle.js_json_members.specs.Rows.{always}
use Rattle.js_json_members.proofs.object.Object.always.Goals as goal

pub returns : goal.returns
unfolding always
returns g c = λ rows so_far. c.put.ensures rows _ so_far (c.some-value.ensures _ c.write.ensures)
