use Rattle.std.proofs.Common.{ℕ, List, subst, sym}
use Rattle.std.specs.Prelude.{IsOk}
use Rattle.js_json.specs.declared.consumer.config.Config.{Config}
use Rattle.js_json.specs.declared.consumer.create_request.Action.TheVariants.{CreateOrUpdate}
use Rattle.js_json.specs.CreateRequest.{create_request_value}
use Rattle.js_ordered_table.specs.Passes.{input_of}
use Rattle.js_ordered_table.proofs.CreateBodies.{create_written}
use Rattle.js_ordered_table.proofs.texts.create_body.Goals as goal

pub request_body-requires : goal.request_body-requires
request_body-requires c =
    let g = input_of c.args.context.now in
    let written : Config → List ℕ → Type 0 = λ config name. IsOk (create_request_value (record { action = CreateOrUpdate; config = config; stream_name = name })) in
    record {
      written = subst (λ name. written c.in-Ok.config name) (sym c.in_ok-stream_name.ensures)
          (subst (λ config. written config g.first.stream_name) (sym c.in-Ok.ensures) (create_written g c.args.recreation.now));
    }
