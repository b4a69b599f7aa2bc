use Rattle.serde_json.specs.View.{view}
use Rattle.js_json_stream_bodies.specs.RoundTrip.{without_domains}
use Rattle.js_json_stream_bodies.proofs.ConfigRoundTrip.{free_back, never_fails}
use Rattle.js_json_stream_bodies.proofs.stream.config.there_and_back.Goals as goal

pub returns-in-Err : goal.returns-in-Err
returns-in-Err c =
    never_fails c.in-Err.error c.args.config.now (without_domains c.args.config.now) c.has_numbers.ensures c.in-Err.ensures

pub returns : goal.returns
returns c =
    rw (free_back c.args.config.now (view c.in-Ok.value) c.has_numbers.ensures c.in-Ok.ensures.0 c.in-Ok.ensures.1)
    at c.from_value.ensures
