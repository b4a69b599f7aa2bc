-- The members of a configuration as they are written, each with its comma.
use Rattle.std.specs.Prelude.{ℕ, List, [], ◌∷◌, ◌++◌, codes}
use Rattle.json.specs.Print.{quoted}

abbrev pub filter_text : List ℕ → List ℕ
filter_text [] = []
filter_text (c ∷ cs) = codes ",\"filter_subject\":" ++ quoted (c ∷ cs)

-- further texts of an array
abbrev pub further_texts : List (List ℕ) → List ℕ
further_texts [] = []
further_texts (text ∷ more) = (codes "," ++ quoted text) ++ further_texts more

abbrev pub filters_text : List (List ℕ) → List ℕ
filters_text [] = []
filters_text (filter ∷ filters) = codes ",\"filter_subjects\":[" ++ (quoted filter ++ (further_texts filters ++ codes "]"))
