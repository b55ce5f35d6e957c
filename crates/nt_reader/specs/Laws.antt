-- What tokens of N-Triples are by their texts, where the grammar tells them by their marks (RDF 1.1 N-Triples, sections 2.3 and 2.4).
use Rattle.std.specs.Prelude.{◌≡◌, ◌↔◌, ℕ, true, List, ◌++◌, codes}
use Rattle.std.specs.List.{after_first}
use Rattle.std.specs.Str.{chars, IsUtf8}
use Rattle.rdf_lex.specs.declared.kinds.Kind.TheVariants as kinds
use Rattle.rdf_lex.specs.declared.kinds.Mode.TheVariants.{NTriples}
use Rattle.rdf_lex.specs.Phrases.{Spells}
use Rattle.rdf_lex.specs.Spelling.{Spelling, short_text}
use Rattle.term_tokens.specs.Terms.{is_colon, is_at, is_quoted_once}

-- a string begins with one `"` and not with three exactly where it stands in `"` on one line
abbrev pub ShortStringsAreQuotedOnce : Type 0
ShortStringsAreQuotedOnce = (text : List ℕ) → Spells (Spelling NTriples kinds.Str) text → (is_quoted_once text ≡ true) ↔ Spells (short_text 34) text

-- a blank node is `_:` and what stands behind the first colon
abbrev pub LabelsStandBehindMarks : Type 0
LabelsStandBehindMarks = (text : List ℕ) → IsUtf8 text → Spells (Spelling NTriples kinds.BlankLabel) (chars text) → text ≡ codes "_:" ++ after_first is_colon text

-- a language tag is `@` and what stands behind the first `@`
abbrev pub TagsStandBehindMarks : Type 0
TagsStandBehindMarks = (text : List ℕ) → IsUtf8 text → Spells (Spelling NTriples kinds.LangTag) (chars text) → text ≡ codes "@" ++ after_first is_at text
