use Rattle.std.proofs.Common.{◌∙◌, sym, arith, None, Some}
use Rattle.std.proofs.lemmas.Str.Pattern.{strip_suffix_char}
use Rattle.js_json_members.proofs.Percent.{percent_of-signed, percent_of-plain}
use Rattle.js_json_members.proofs.kinds.percent_of.Goals as goal

pub returns-in-None : goal.returns-in-None
returns-in-None c = c.u8_of.ensures ∙ sym (percent_of-plain c.args.text.now
    (strip_suffix_char 37 c.args.text.now None c.in-None.ensures.cases (omega arith)))

pub returns-in-Some : goal.returns-in-Some
returns-in-Some c = c.u8_of-in-Some.ensures ∙ sym (percent_of-signed c.args.text.now c.in-Some.number.now
    (strip_suffix_char 37 c.args.text.now (Some c.in-Some.number) c.in-Some.ensures.cases (omega arith)))
