-- Reading and writing of values that are known.
use Rattle.std.proofs.Common.{◌≡◌, Some, codes, refl, pos, None, neg_ℤ}
use Rattle.std.specs.Prelude.{⊤}
use Rattle.std.specs.Fmt.{digits}
use Rattle.serde_json.proofs.OnLiterals.{serde_json_on_literals}
use Rattle.jiff.proofs.OnLiterals.{jiff_on_literals}
use Rattle.js_json_members.specs.Member.{required, optional, defaulted, given, text, truth, natural, natural_of, integer}
use Rattle.js_json_members.specs.Member.{list_of, by_name, named, nested, float_free}
use Rattle.js_json_members.specs.Value.{value_of}
use Rattle.js_json_members.specs.Percent.{percent_of, percent}
use Rattle.js_json_members.specs.Instant.{instant_at, instant_of, instant_text, date_of, time_of, piece}
use Rattle.js_json_members.specs.Rows.{with_row, object_of, always, unless, where_some, or_null, list_data, by_name_data}
use Rattle.js_json_members.specs.Rows.{text_of}

-- what an answer unfolds to compute the text of a known value
unfoldable pub writing_on_literals : ⊤
unfolding serde_json_on_literals jiff_on_literals digits with_row object_of always unless where_some or_null list_data
    by_name_data text_of instant_text date_of time_of piece
writing_on_literals = tt

-- and to read a known text
unfoldable pub reading_on_literals : ⊤
unfolding serde_json_on_literals jiff_on_literals required optional defaulted given text truth natural natural_of
    integer list_of by_name named nested float_free value_of percent_of percent instant_at instant_of
reading_on_literals = tt

-- (jiff's digits of a fraction do not compute here)
new_year : instant_text (pos 1_767_225_600_000_000_000) ≡ Some (codes "2026-01-01T00:00:00Z")
unfolding writing_on_literals
new_year = refl

first_text : instant_text (neg_ℤ (pos 62_167_219_200_000_000_000)) ≡ Some (codes "0000-01-01T00:00:00Z")
unfolding writing_on_literals
first_text = refl

none_before_it : instant_text (neg_ℤ (pos 62_167_219_200_000_000_001)) ≡ None
unfolding writing_on_literals
none_before_it = refl

leap_day : instant_text (pos 951_782_400_000_000_000) ≡ Some (codes "2000-02-29T00:00:00Z")
unfolding writing_on_literals
leap_day = refl

percent_sign : percent_of (codes "30%") ≡ Some 30
unfolding reading_on_literals
percent_sign = refl

two_percent_signs : percent_of (codes "30%%") ≡ None
unfolding reading_on_literals
two_percent_signs = refl

too_large : percent_of (codes "256") ≡ None
unfolding reading_on_literals
too_large = refl
