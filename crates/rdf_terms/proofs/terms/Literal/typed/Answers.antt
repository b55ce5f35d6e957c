use Rattle.std.proofs.Common.{ap, sym, ◌∙◌, refl}
use Rattle.std.proofs.lemmas.Str.{chars-IsAscii}
use Rattle.std.specs.Cmp.Lexicographic.{bytes_decides}
use Rattle.std.specs.Str.{chars}
use Rattle.rdf_terms.specs.Vocabulary.{rdf_lang_string}
use Rattle.rdf_terms.proofs.Characters.{ascii_codes}
use Rattle.rdf_terms.proofs.terms.Literal.typed.Goals as goal

pub returns-then-eq-clause-none : goal.returns-then-eq-clause-none
returns-then-eq-clause-none c = (
  λ none. sym c.as_str.ensures.characters ∙ ap chars ((bytes_decides c.as_str.result.now rdf_lang_string).0 (sym c.if-eq.ensures)) ∙ chars-IsAscii rdf_lang_string (ascii_codes rdf_lang_string refl),
  λ e. refl,
)
