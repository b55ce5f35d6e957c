-- Laws of what tokens stand for.
use Rattle.std.specs.Prelude.{◌≡◌, ◌↔◌, ℕ, List, Some}
use Rattle.rdf_terms.specs.Names.{IsNameOf}
use Rattle.rdf_terms.specs.declared.terms.Name.{Name}
use Rattle.rdf_lex.specs.Tokens.{Spelled}
use Rattle.term_tokens.specs.Meanings.{IsText, text_of, name_of}

-- a token stands for these characters exactly where its text means them
abbrev pub TextsAreRead : Type 0
TextsAreRead = (t : Spelled) (text : List ℕ) → (text_of t ≡ Some text) ↔ IsText t text

-- a text is the printed name of exactly one name
abbrev pub NamesAreNamed : Type 0
NamesAreNamed = (text : List ℕ) (name : Name) → (name_of text ≡ name) ↔ IsNameOf text name
