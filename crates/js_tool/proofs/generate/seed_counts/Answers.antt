use Rattle.std.proofs.Common.{◌∙◌}
use Rattle.js_tool_generate.proofs.WholeRun.{if_ok, still_valid, counted, whole}
use Rattle.js_tool.proofs.generate.seed_counts.Goals as goal

pub run_counts-requires : goal.run_counts-requires
run_counts-requires c = still_valid c.args.input.now c.as_slice.result.now c.args.seed c.args.events c.requires.few c.requires.input (c.as_slice.ensures.value ∙ c.in_ok-events.ensures.events)

pub returns : goal.returns
returns c =
    let is = c.as_slice.ensures.value ∙ c.in_ok-events.ensures.events in
    if_ok c.run_counts.result
    (λ s made. let (run, replay, counts) = made in record {
      counts = counts ∙ counted c.args.input.now c.as_slice.result.now c.args.seed c.args.events run replay c.requires.input is;
      whole = whole c.args.input.now c.as_slice.result.now c.args.seed c.args.events run s c.requires.few replay c.requires.input is counts;
    })
    c.run_counts.ensures
