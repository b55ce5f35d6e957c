-- Texts on one line, and the terms that can stand on one (own).
use Rattle.std.specs.Prelude.{ℕ, List, Contains}
use Rattle.std.specs.Str.{IsUtf8}
use Rattle.rdf_terms.specs.Written.{term_text}
use Rattle.rdf_terms.specs.declared.terms.Term.{Term}
use Rattle.rdf_terms.specs.Values.{IsWhole}

-- bytes of UTF-8, none of which is a line feed; of other bytes the characters could hold one all the same
pub record IsOneLine (bytes : List ℕ) : Type 0 where
  pub utf8 : IsUtf8 bytes
  pub no_feed : ¬ Contains bytes 10

-- the term can stand on one line: it has a text of its own, which holds no line feed
abbrev pub HasOneLine : Term → Type 0
HasOneLine term = IsWhole term × ¬ Contains (term_text term) 10
