-- Regular phrases over characters, and the texts that they spell.
use Rattle.std.specs.Prelude.{◌≡◌, ℕ, true, List, [], ◌∷◌, ◌++◌, ◌⊎◌}
use Rattle.rdf_lex.specs.Characters.{Class, Only, has}

infixr 10 ◌⨾◌
infixr 8 ◌∣◌
-- no text, the empty one, one character of a class, two phrases in turn, either of two, or one any number of times
pub data Phrase : Type 0 where
  nothing : Phrase
  empty : Phrase
  one : Class → Phrase
  ◌⨾◌ : Phrase → Phrase → Phrase
  ◌∣◌ : Phrase → Phrase → Phrase
  each : Phrase → Phrase

-- any number of pieces, one after the other
pub data Pieces (P : List ℕ → Type 0) : List ℕ → Type 0 where
  none : {cs : List ℕ} → cs ≡ [] → Pieces P cs
  more : {cs : List ℕ} (xs ys : List ℕ) → cs ≡ xs ++ ys → P xs → Pieces P ys → Pieces P cs

-- the phrase spells the text
abbrev pub Spells : Phrase → List ℕ → Type 0
Spells nothing cs = ⊥
Spells empty cs = cs ≡ []
Spells (one q) cs = (c : ℕ) × (has q c ≡ true) × (cs ≡ c ∷ [])
Spells (p ⨾ q) cs = (xs : List ℕ) × (ys : List ℕ) × (cs ≡ xs ++ ys) × Spells p xs × Spells q ys
Spells (p ∣ q) cs = Spells p cs ⊎ Spells q cs
Spells (each p) cs = Pieces (Spells p) cs

-- this character
abbrev pub char : ℕ → Phrase
char c = one (Only c)

-- once or not at all, and once or more
abbrev pub maybe : Phrase → Phrase
maybe p = p ∣ empty

abbrev pub some : Phrase → Phrase
some p = p ⨾ each p
