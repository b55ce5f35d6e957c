-- Stems: texts that stand for all texts that begin with them (ShEx 2.1, section 5.4, Values Constraint).
use Rattle.std.specs.Prelude.{ℕ, List, [], ◌∷◌, ◌++◌, ◌≡◌, ◌⊎◌}

-- the text is the stem, with something or nothing behind it
abbrev pub HasPrefix : List ℕ → List ℕ → Type 0
HasPrefix stem text = (rest : List ℕ) × (text ≡ stem ++ rest)

-- `-`, which stands between the parts of a language tag (RFC 5646, section 2.1)
abbrev pub hyphen : ℕ
hyphen = 45

-- the tag is the stem, or goes on behind it with a hyphen (RFC 4647, section 3.3.1, both in lower case); every tag is in the language of the empty stem
abbrev pub IsInLanguage : List ℕ → List ℕ → Type 0
IsInLanguage stem tag = (tag ≡ stem) ⊎ (HasPrefix (stem ++ hyphen ∷ []) tag ⊎ (stem ≡ []))
