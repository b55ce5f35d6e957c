-- The parts of a literal, and what holds of them.
use Rattle.std.specs.Prelude.{ℕ, Bool, true, ◌&&◌, ◌≡◌, ◌↔◌, not, nat_le, List, Option, Some, None, IsSome, ⊤}
use Rattle.std.specs.List.{list_all}
use Rattle.std.specs.Option.{option_eq}
use Rattle.std.specs.Hash.{HashWrites, option}
use Rattle.std.specs.Prelude.{◌++◌}
use Rattle.rdf_terms.specs.Texts.{same_text, text_fed}
use Rattle.rdf_terms.specs.Vocabulary.{rdf_lang_string}

-- lexical form, datatype and language tag (RDF 1.1 Concepts, section 3.3)
pub record LiteralParts : Type 0 where
  pub lex : List ℕ
  pub datatype : List ℕ
  pub lang : Option (List ℕ)

-- no letter from A to Z
abbrev pub is_lowered : List ℕ → Bool
is_lowered tag = list_all (λ c. not (nat_le 65 c && nat_le c 90)) tag

-- the tag, if there is one, has no letter from A to Z
abbrev pub IsLowered : Option (List ℕ) → Type 0
IsLowered None = ⊤
IsLowered (Some tag) = is_lowered tag ≡ true

-- a tag is there exactly where the datatype is rdf:langString, and it is in lower case
pub record IsLiteral (l : LiteralParts) : Type 0 where
  pub tagged : IsSome l.lang ↔ (l.datatype ≡ rdf_lang_string)
  pub lowered : IsLowered l.lang

-- the two literals have the same parts (RDF 1.1 Concepts, section 3.3, literal term equality)
abbrev pub same_literal : LiteralParts → LiteralParts → Bool
same_literal a b = same_text a.lex b.lex && (same_text a.datatype b.datatype && option_eq same_text a.lang b.lang)

-- what a literal feeds a hasher
abbrev pub literal_fed : LiteralParts → HashWrites
literal_fed l = text_fed l.lex ++ (text_fed l.datatype ++ option text_fed l.lang)
