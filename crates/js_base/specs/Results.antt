-- Several results at once: all values, or the first error.
use Rattle.std.specs.Prelude.{Result, Ok, Err}

-- what follows a value, or the error
infixl 10 ◌>>=◌
abbrev pub ◌>>=◌ : {A B E : Type 0} → Result A E → (A → Result B E) → Result B E
(Ok x) >>= f = f x
(Err e) >>= f = Err e

-- both values, or the first error
abbrev pub both : {A B E : Type 0} → Result A E → Result B E → Result (A × B) E
both ra rb = do
  a ← ra
  b ← rb
  Ok (a, b)

-- all three values, or the first error
abbrev pub all_3 : {A B C E : Type 0} → Result A E → Result B E → Result C E → Result (A × B × C) E
all_3 ra rb rc = do
  a ← ra
  b ← rb
  c ← rc
  Ok (a, b, c)

-- all four values, or the first error
abbrev pub all_4 : {A B C D E : Type 0} → Result A E → Result B E → Result C E → Result D E → Result (A × B × C × D) E
all_4 ra rb rc rd = do
  a ← ra
  b ← rb
  c ← rc
  d ← rd
  Ok (a, b, c, d)

-- all five values, or the first error
abbrev pub all_5 : {A B C D F E : Type 0} → Result A E → Result B E → Result C E → Result D E → Result F E → Result (A × B × C × D × F) E
all_5 ra rb rc rd rf = do
  a ← ra
  b ← rb
  c ← rc
  d ← rd
  f ← rf
  Ok (a, b, c, d, f)

-- all six values, or the first error
abbrev pub all_6 : {A B C D F G E : Type 0} → Result A E → Result B E → Result C E → Result D E → Result F E → Result G E → Result (A × B × C × D × F × G) E
all_6 ra rb rc rd rf rg = do
  a ← ra
  b ← rb
  c ← rc
  d ← rd
  f ← rf
  g ← rg
  Ok (a, b, c, d, f, g)

-- all seven values, or the first error
abbrev pub all_7 : {A B C D F G H E : Type 0} → Result A E → Result B E → Result C E → Result D E → Result F E → Result G E → Result H E → Result (A × B × C × D × F × G × H) E
all_7 ra rb rc rd rf rg rh = do
  a ← ra
  b ← rb
  c ← rc
  d ← rd
  f ← rf
  g ← rg
  h ← rh
  Ok (a, b, c, d, f, g, h)
