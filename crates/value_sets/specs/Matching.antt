-- What the two ways of matching a stem ask for.
use Rattle.std.specs.Prelude.{ℕ, List, [], ◌∷◌, ◌≡◌, ◌⊎◌}
use Rattle.value_sets.specs.declared.stems.Matching.{Matching}
use Rattle.value_sets.specs.declared.stems.Matching.TheVariants.{Prefix, Language}
use Rattle.value_sets.specs.Stems.{HasPrefix, IsInLanguage, hyphen}

-- the text has the stem
abbrev pub HasStem : Matching → List ℕ → List ℕ → Type 0
HasStem Prefix = HasPrefix
HasStem Language = IsInLanguage

-- a part of a tag ends before these characters: there are none, or a hyphen is the first
abbrev pub IsCut : List ℕ → Type 0
IsCut rest = (rest ≡ []) ⊎ ((more : List ℕ) × (rest ≡ hyphen ∷ more))
