use Rattle.std.proofs.Common.{◌≡◌, arith}
use Rattle.jiff.specs.Words.{civil_nanos}
use Rattle.jiff.proofs.SpanFacts.{signed_arith}
use Rattle.js_json_members.proofs.InstantTexts.{instant_text-civil, answer_reads_back}
use Rattle.js_json_members.proofs.instant.instant_text.Goals as goal

pub returns : goal.returns
returns c =
    let here : civil_nanos c.to_datetime.result ≡ c.args.instant.nanosecond =
    omega (arith, signed_arith, c.to_datetime.ensures) in
    record {
      text = rw (instant_text-civil c.to_datetime.result c.args.instant.nanosecond here) c.text_of.ensures;
      reads_back = answer_reads_back c.to_datetime.result c.args.instant here c.text_of.result c.text_of.ensures;
    }
