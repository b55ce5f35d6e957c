-- What is written of a document of either format is a text of the document as it is read back.
use Rattle.std.proofs.Common.{◌≡◌, inl, inr, ℕ, suc, Bool, true, false, cond, List, ◌++◌, ◌∷◌, [], map, Option, Some, encode_utf8_all, refl, subst, sym}
use Rattle.std.proofs.lemmas.Str.{scalars-chars}
use Rattle.std.specs.Str.{IsUtf8, bytes_eq, chars}
use Rattle.std.proofs.lemmas.Option.{same_Some}
use Rattle.iri_resolve.specs.Resolution.{resolved_text}
use Rattle.lists.proofs.Quantifiers.{all_append}
use Rattle.rdf_cursor.specs.Ahead.{Ahead, finished, prepend}
use Rattle.rdf_cursor.specs.declared.symbols.Symbol.TheVariants as symbol
use Rattle.rdf_lex.specs.declared.kinds.Mode.TheVariants.{Schema}
use Rattle.rdf_lex.specs.Tokens.{Spelled}
use Rattle.schema_documents.specs.Tree.{Declaration}
use Rattle.term_tokens.specs.Terms as tokens
use Rattle.shexc_constraints.specs.Meanings.{iri_ref_of}
use Rattle.shexc_constraints.specs.Symbols.{of_symbol, of_word}
use Rattle.shexc_reader.specs.Documents.{max_depth, at_first}
use Rattle.shexc_reader.specs.Grammar as g
use Rattle.shexc_reader.specs.States.{State, declared, document_in}
use Rattle.shexc_reader.specs.Symbols.{starts}
use Rattle.shexc_reader.proofs.Schemes.{no_prefix}
use Rattle.schema_reader.specs.Documents.{IsSchema, Read, resolved_import}
use Rattle.schema_reader.specs.declared.format.Format.{Format}
use Rattle.schema_reader.specs.declared.format.Format.TheVariants.{Compact, Json}
use Rattle.shexj_writer.specs.Held.{AreTexts, IsHeldDocument, IsText}
use Rattle.shexj_writer.specs.Laws.{ReadAreExpressible, ReadAreHeld, WrittenAreRead}
use Rattle.conversion_laws.specs.Laws.{CompactAreHeld, ConversionsAreRead}
use Rattle.conversion_laws.proofs.Documents.{schemas_expressible}
use Rattle.conversion_laws.proofs.ResolvedTexts.{resolved_utf8}
use Rattle.conversion_laws.proofs.TextExpressions.{decl_more, level_held}
use Rattle.conversion_laws.proofs.TextTokens.{AreTextNames, AreTextTokens, iri_held, iri_ref_utf8, is_behind, label_held, many_texts, mark_behind, tokens_texts}

-- ---- statements keep that the parts of the document so far are texts

record IsFine (a : State) : Type 0 where
  names : AreTextNames a.scope
  document : IsHeldDocument (document_in a)

declared_by : (b : Bool) (iri got : List ℕ) (old : Option (List ℕ)) → IsUtf8 iri → (old ≡ Some got → IsUtf8 got) → cond b (Some iri) old ≡ Some got → IsUtf8 got
declared_by true iri got old h k e = subst IsUtf8 (same_Some iri got e) h
declared_by false iri got old h k e = k e

declared_names : (prefix iri : List ℕ) (a : State) → IsUtf8 iri → AreTextNames a.scope → AreTextNames (declared prefix iri a).scope
declared_names prefix iri a h p = record {
  base = p.base;
  prefixes = λ other got e. declared_by (bytes_eq other prefix) iri got (a.scope.prefixes other) h (p.prefixes other got) e;
}

import_more : (imports : List (List ℕ)) (i : List ℕ) → AreTexts imports → IsText i → AreTexts (imports ++ i ∷ [])
import_more imports i h k = all_append IsText imports (i ∷ []) h (k, tt)

statement_fine : (d : ℕ) (a b : State) (ts r : Ahead Spelled) → g.Statement true d a b ts r → IsFine a → AreTextTokens ts → IsFine b × AreTextTokens r
statement_fine d a b ts r (inl (i, is, (m, w, (t, e, h)))) p u = (
  subst IsFine is (record {
    names = record { base = iri_ref_utf8 a.scope p.names t i h; prefixes = p.names.prefixes };
    document = record { imports = p.document.imports; start = p.document.start; decls = p.document.decls };
  }),
  is_behind (iri_ref_of a.scope) i m r (t, e, h) (mark_behind symbol.SparqlBase ts m w u),
)
statement_fine d a b ts r (inr (inl (t, i, is, (m, w, (k, q, (c, e, h)))))) p u = (
  subst IsFine is (record {
    names = declared_names (tokens.prefix_of t) i a (iri_ref_utf8 a.scope p.names c i h) p.names;
    document = record { imports = p.document.imports; start = p.document.start; decls = p.document.decls };
  }),
  is_behind (iri_ref_of a.scope) i k r (c, e, h) (is_behind (of_symbol symbol.PnameNs) t m k q (mark_behind symbol.SparqlPrefix ts m w u)),
)
statement_fine d a b ts r (inr (inr (inl (i, is, (m, w, h))))) p u =
    let z = iri_held a.scope p.names i m r h (mark_behind symbol.Import ts m w u) in (
      subst IsFine is (record {
        names = p.names;
        document = record { imports = import_more a.imports (chars i) p.document.imports z.0; start = p.document.start; decls = p.document.decls };
      }),
      z.1,
    )
statement_fine d a b ts r (inr (inr (inr (inl (e, fresh, is, (m, w, (k, q, h))))))) p u =
    let z = (level_held a.scope p.names (suc d)).expr e k r h (mark_behind symbol.Equals m k q (is_behind (of_word starts) w.0 ts m w.1 u)) in
    (subst IsFine is (record { names = p.names; document = record { imports = p.document.imports; start = z.0; decls = p.document.decls } }), z.1)
statement_fine d a b ts r (inr (inr (inr (inr (l, e, is, (m, h, i)))))) p u =
    let declaration : Declaration = record { label = l; expr = e } in
    let w = label_held a.scope p.names l ts m h u in
    let z = (level_held a.scope p.names (suc d)).expr e m r i w.1 in (
      subst IsFine is (record {
        names = p.names;
        document = record { imports = p.document.imports; start = p.document.start; decls = decl_more a.decls declaration p.document.decls w.0 z.0 };
      }),
      z.1,
    )

pub compact_held : CompactAreHeld
compact_held base source x own (ts, utf8, lexed, h) =
    (many_texts (g.Statement true max_depth) IsFine (statement_fine max_depth) (at_first base) x (prepend ts finished) finished h
    (record { names = record { base = own; prefixes = λ prefix iri e. absurd (no_prefix iri e) }; document = record { imports = tt; start = tt; decls = tt } })
    (tokens_texts Schema source ts utf8 lexed)).0.document

-- ---- imports of ShExJ, which are resolved against the base

import_text : (base reference : List ℕ) → IsUtf8 base → IsText reference → IsText (resolved_import base reference)
import_text base reference own h = scalars-chars (resolved_text base (encode_utf8_all reference)) (resolved_utf8 base (encode_utf8_all reference) own (reference, (h, refl)))

imports_texts : (base : List ℕ) (references : List (List ℕ)) → IsUtf8 base → AreTexts references → AreTexts (map (resolved_import base) references)
imports_texts base [] own h = tt
imports_texts base (reference ∷ references) own h = (import_text base reference own h.0, imports_texts base references own h.1)

schemas_held : ReadAreHeld → (format : Format) (base bytes : List ℕ) (r : Read) → IsUtf8 base → IsSchema format base r bytes → IsHeldDocument r.document
schemas_held read Compact base bytes r own (x, is, same, names) = subst IsHeldDocument (sym same) (compact_held base bytes x own is)
schemas_held read Json base bytes r own (doc, is, same, names) =
    let h = read bytes doc is in
    subst IsHeldDocument (sym same) (record { imports = imports_texts base doc.imports own h.imports; start = h.start; decls = h.decls })

pub conversions_read : ReadAreExpressible → ReadAreHeld → WrittenAreRead → ConversionsAreRead
conversions_read expressible read written format base bytes r some own is whole shallow =
    written r.document (schemas_held read format base bytes r own is) (schemas_expressible expressible format base bytes r some is) whole shallow
