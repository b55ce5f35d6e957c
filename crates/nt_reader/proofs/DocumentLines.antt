-- The terms of N-Triples can stand on one line.
use Rattle.std.proofs.Common.{◌≡◌, ℕ, Bool, true, false, List, sym, subst, inl, inr}
use Rattle.std.specs.List.{AllByRecursion}
use Rattle.rdf_cursor.specs.Ahead.{Ahead}
use Rattle.rdf_cursor.specs.Marks.{Mark}
use Rattle.rdf_cursor.specs.Phrases.{Is}
use Rattle.rdf_terms.specs.declared.terms.Term.{Term}
use Rattle.rdf_terms.proofs.OneLine.{plain_chars}
use Rattle.rdf_terms.proofs.TermLines.{PlainTerm, untagged_string}
use Rattle.rdf_lex.specs.Tokens.{Spelled}
use Rattle.rdf_lex.specs.declared.kinds.Mode.TheVariants.{NTriples}
use Rattle.rdf_cursor.specs.declared.symbols.Symbol.{Symbol}
use Rattle.rdf_cursor.specs.declared.symbols.Symbol.TheVariants as symbol
use Rattle.term_tokens.specs.Terms.{absolute_of, iri_term}
use Rattle.term_tokens.proofs.TokenLines.{AllFine, take_fine, fine_tokens}
use Rattle.term_tokens.proofs.NameLines.{absolute_clean, absolute_typed_plain, blank_plain, tagged_plain}
use Rattle.graph_index.specs.declared.loading.TermTriple.{TermTriple}
use Rattle.graph_index.proofs.LoadedLines.{PlainTriple, triples_are}
use Rattle.nt_reader.specs.Grammar.{Lines, no_lines, blank_line, line}
use Rattle.nt_reader.specs.Endings.{DocumentsHaveLines, ShortDocumentsHaveLines}
use Rattle.nt_reader.specs.Grammar as g

marked : (a : Symbol) (ts r : Ahead Spelled) → Mark a ts r → AllFine ts → AllFine r
marked a ts r (t, (u, e, is)) h = (take_fine ts r u e h).1

end_fine : (ts r : Ahead Spelled) → g.LineEnd ts r → AllFine ts → AllFine r
end_fine ts r (inl p) h = marked symbol.Line ts r p h
end_fine ts r (inr (e, f)) h = subst AllFine (sym f) tt

module _ (k : Bool) where
  iri_plain : (i : List ℕ) (x : Term) (ts r : Ahead Spelled) → iri_term i ≡ x → Is (absolute_of k) i ts r → AllFine ts → PlainTerm x × AllFine r
  iri_plain i x ts r f (t, e, is) h = let c = absolute_clean k t i is in (subst PlainTerm f (plain_chars i c.0 c.1), (take_fine ts r t e h).1)

  subject_plain : (x : Term) (ts r : Ahead Spelled) → g.Subject k x ts r → AllFine ts → PlainTerm x × AllFine r
  subject_plain x ts r (inl (i, f, p)) h = iri_plain i x ts r f p h
  subject_plain x ts r (inr (t, e, is)) h = let i = take_fine ts r t e h in (blank_plain k t x i.0 is, i.1)

  predicate_plain : (x : Term) (ts r : Ahead Spelled) → g.Predicate k x ts r → AllFine ts → PlainTerm x × AllFine r
  predicate_plain x ts r (i, f, p) h = iri_plain i x ts r f p h

  literal_plain : (x : Term) (ts r : Ahead Spelled) → g.Literal k x ts r → AllFine ts → PlainTerm x × AllFine r
  literal_plain x ts r (lex, (m, (t, e, is), inl (f, n))) h = (subst PlainTerm f untagged_string, subst AllFine n (take_fine ts m t e h).1)
  literal_plain x ts r (lex, (m, (t, e, is), inr (inl (u, f, tag)))) h = let i = take_fine m r u f (take_fine ts m t e h).1 in (tagged_plain lex u x i.0 tag, i.1)
  literal_plain x ts r (lex, (m, (t, e, is), inr (inr (n, c, (u, f, d))))) h =
      let i = take_fine n r u f (marked symbol.Carets m n c (take_fine ts m t e h).1) in (absolute_typed_plain k lex u x d, i.1)

  object_plain : (x : Term) (ts r : Ahead Spelled) → g.Object k x ts r → AllFine ts → PlainTerm x × AllFine r
  object_plain x ts r (inl p) h = literal_plain x ts r p h
  object_plain x ts r (inr p) h = subject_plain x ts r p h

  statement_plain : (x : TermTriple) (ts r : Ahead Spelled) → g.Statement k x ts r → AllFine ts → PlainTriple x × AllFine r
  statement_plain x ts r (a, s, (b, p, (c, o, d))) h =
      let i = subject_plain x.subject ts a s h in
      let j = predicate_plain x.predicate a b p i.1 in
      let l = object_plain x.object b c o j.1 in
      (record { subject = i.0; predicate = j.0; object = l.0 }, marked symbol.Dot c r d l.1)

  lines_plain : {xs : List TermTriple} {ts r : Ahead Spelled} → Lines k xs ts r → AllFine ts → AllByRecursion PlainTriple xs
  lines_plain no_lines h = tt
  lines_plain (blank_line {xs} {ts} {mid} {rest} p more) h = lines_plain more (marked symbol.Line ts mid p h)
  lines_plain (line {x} {xs} {ts} {mid} {rest} (m, s, e) more) h = let l = statement_plain x ts m s h in (l.0, lines_plain more (end_fine m mid e l.1))

pub documents_plain : DocumentsHaveLines
documents_plain source triples (ts, u, tokens, lines) = triples_are triples (lines_plain false lines (fine_tokens NTriples source ts u tokens))

pub short_documents_plain : ShortDocumentsHaveLines
short_documents_plain source triples (ts, u, tokens, lines) = triples_are triples (lines_plain true lines (fine_tokens NTriples source ts u tokens))
