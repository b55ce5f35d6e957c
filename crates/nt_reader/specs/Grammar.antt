-- The grammar of N-Triples (RDF 1.1 N-Triples, section 7): which tokens spell which triples. The numbers in brackets are those of the
-- standard's rules.
use Rattle.std.specs.Prelude.{◌≡◌, ◌⊎◌, Bool, true, false, ℕ, List, [], ◌∷◌}
use Rattle.std.specs.Str.{IsUtf8}
use Rattle.rdf_cursor.specs.Ahead.{Ahead, finished, prepend}
use Rattle.rdf_cursor.specs.Marks.{Mark}
use Rattle.rdf_cursor.specs.Phrases.{Phrase, Is, ◌⨾◌}
use Rattle.rdf_terms.specs.declared.terms.Term.{Term}
use Rattle.rdf_lex.specs.declared.kinds.Mode.TheVariants.{NTriples}
use Rattle.rdf_lex.specs.Tokens.{Spelled, Tokens}
use Rattle.rdf_cursor.specs.declared.symbols.Symbol.TheVariants as symbol
use Rattle.graph_index.specs.declared.loading.TermTriple.{TermTriple}
use Rattle.term_tokens.specs.Literals as any
use Rattle.term_tokens.specs.Terms.{iri_term, absolute_of, blank_of, short_string_of, absolute_typed_of, tagged_of}

-- With the flag, texts have a length within the limit.
module _ (k : Bool) where
  -- subject: an IRI or a blank node ([3])
  abbrev pub Subject : Term → Phrase Spelled
  Subject x ts r = any.Resource (absolute_of k) (blank_of k) x ts r

  -- predicate: an IRI ([4])
  abbrev pub Predicate : Term → Phrase Spelled
  Predicate p ts r = (i : List ℕ) × (iri_term i ≡ p) × Is (absolute_of k) i ts r

  -- literal: a string in `"` on one line, alone, with a language tag, or with a datatype ([6])
  abbrev pub Literal : Term → Phrase Spelled
  Literal x ts r = any.Literal (short_string_of k) tagged_of (absolute_typed_of k) x ts r

  -- object: an IRI, a blank node or a literal ([5])
  abbrev pub Object : Term → Phrase Spelled
  Object x ts r = Literal x ts r ⊎ Subject x ts r

  -- triple ([2])
  abbrev pub Statement : TermTriple → Phrase Spelled
  Statement t = Subject t.subject ⨾ Predicate t.predicate ⨾ Object t.object ⨾ Mark symbol.Dot

-- the end of a line, which may be missing at the end of the text ([1], EOL)
abbrev pub LineEnd : Phrase Spelled
LineEnd ts rest = Mark symbol.Line ts rest ⊎ ((ts ≡ finished) × (rest ≡ finished))

-- lines with these triples, one a line; blank lines are between them ([1])
pub data Lines (k : Bool) : List TermTriple → Ahead Spelled → Ahead Spelled → Type 0 where
  no_lines : {ts : Ahead Spelled} → Lines k [] ts ts
  blank_line : {xs : List TermTriple} {ts mid rest : Ahead Spelled} → Mark symbol.Line ts mid → Lines k xs mid rest → Lines k xs ts rest
  line : {x : TermTriple} {xs : List TermTriple} {ts mid rest : Ahead Spelled} → (Statement k x ⨾ LineEnd) ts mid → Lines k xs mid rest → Lines k (x ∷ xs) ts rest

-- the tokens are a document of these triples (ntriplesDoc, [1])
abbrev pub Spells : Bool → List TermTriple → List Spelled → Type 0
Spells k xs ts = Lines k xs (prepend ts finished) finished

-- the bytes are UTF-8, and their tokens a document of these triples, within the limit
abbrev pub IsDocument : List ℕ → List TermTriple → Type 0
IsDocument source xs = (ts : List Spelled) × IsUtf8 source × Tokens NTriples source ts × Spells true xs ts

-- the bytes are UTF-8, and their tokens a document of these triples, with texts of any length
abbrev pub IsAnyDocument : List ℕ → List TermTriple → Type 0
IsAnyDocument source xs = (ts : List Spelled) × IsUtf8 source × Tokens NTriples source ts × Spells false xs ts
