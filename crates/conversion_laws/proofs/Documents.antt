-- The documents of ShExC have a form in ShExJ: by the form of each statement.
use Rattle.std.proofs.Common.{◌≡◌, inl, inr, ℕ, suc, Bool, true, false, cond, List, Option, Some, IsSome, subst, sym}
use Rattle.std.specs.Str.{bytes_eq}
use Rattle.std.proofs.lemmas.Option.{same_Some}
use Rattle.iri_resolve.specs.Reference.{scheme_of}
use Rattle.rdf_cursor.specs.Ahead.{Ahead, finished}
use Rattle.rdf_lex.specs.Tokens.{Spelled}
use Rattle.schema_documents.specs.Tree.{Declaration}
use Rattle.term_tokens.specs.Terms as tokens
use Rattle.schema_reader.specs.declared.format.Format.TheVariants.{Compact, Json}
use Rattle.shexc_reader.specs.Documents.{max_depth, at_first}
use Rattle.shexc_reader.specs.Grammar as g
use Rattle.shexc_reader.specs.States.{State, declared, document_in}
use Rattle.shexc_reader.proofs.Ordered.{many_keep}
use Rattle.shexc_reader.proofs.Schemes.{no_prefix}
use Rattle.shexj_writer.specs.Expressible.{IsExpressibleDocument}
use Rattle.shexj_writer.specs.Laws.{ReadAreExpressible}
use Rattle.conversion_laws.specs.Laws.{CompactAreExpressible, SchemasAreExpressible}
use Rattle.conversion_laws.proofs.Expressions.{level_form}
use Rattle.conversion_laws.proofs.Names.{AreAbsolute, iri_ref_some, label_form}
use Rattle.conversion_laws.proofs.Trees.{decl_more}

record IsFine (a : State) : Type 0 where
  scope : AreAbsolute a.scope
  document : IsExpressibleDocument (document_in a)

declared_by : (b : Bool) (iri got : List ℕ) (old : Option (List ℕ)) → IsSome (scheme_of iri) → (old ≡ Some got → IsSome (scheme_of got)) → cond b (Some iri) old ≡ Some got → IsSome (scheme_of got)
declared_by true iri got old h k e = subst (λ (t : List ℕ). IsSome (scheme_of t)) (same_Some iri got e) h
declared_by false iri got old h k e = k e

declared_absolute : (prefix iri : List ℕ) (a : State) → IsSome (scheme_of iri) → AreAbsolute a.scope → AreAbsolute (declared prefix iri a).scope
declared_absolute prefix iri a h p = record {
  base = p.base;
  prefixes = λ other got e. declared_by (bytes_eq other prefix) iri got (a.scope.prefixes other) h (p.prefixes other got) e;
}

statement_fine : (d : ℕ) (a b : State) (ts r : Ahead Spelled) → g.Statement true d a b ts r → IsFine a → IsFine b
statement_fine d a b ts r (inl (i, is, (m, w, (t, e, h)))) p =
    subst IsFine is (record {
      scope = record { base = iri_ref_some a.scope p.scope t i h; prefixes = p.scope.prefixes };
      document = record { start = p.document.start; decls = p.document.decls };
    })
statement_fine d a b ts r (inr (inl (t, i, is, (m, w, (k, q, (u, e, h)))))) p =
    subst IsFine is (record {
      scope = declared_absolute (tokens.prefix_of t) i a (iri_ref_some a.scope p.scope u i h) p.scope;
      document = record { start = p.document.start; decls = p.document.decls };
    })
statement_fine d a b ts r (inr (inr (inl (i, is, h)))) p =
    subst IsFine is (record { scope = p.scope; document = record { start = p.document.start; decls = p.document.decls } })
statement_fine d a b ts r (inr (inr (inr (inl (e, fresh, is, (m, w, (k, q, h))))))) p =
    subst IsFine is (record { scope = p.scope; document = record { start = (level_form a.scope p.scope (suc d)).expr e k r h; decls = p.document.decls } })
statement_fine d a b ts r (inr (inr (inr (inr (l, e, is, (m, h, i)))))) p =
    let declaration : Declaration = record { label = l; expr = e } in
    subst IsFine is (record {
      scope = p.scope;
      document = record {
        start = p.document.start;
        decls = decl_more a.decls declaration p.document.decls (label_form a.scope p.scope l ts m h) ((level_form a.scope p.scope (suc d)).expr e m r i);
      };
    })

pub compact_expressible : CompactAreExpressible
compact_expressible base source x some (ts, utf8, lexed, h) =
    (many_keep IsFine (g.Statement true max_depth) (λ s y m k o p. statement_fine max_depth s y m k o p) (at_first base) x _ finished h
    (record { scope = record { base = some; prefixes = λ prefix iri e. absurd (no_prefix iri e) }; document = record { start = tt; decls = tt } })).document

pub schemas_expressible : ReadAreExpressible → SchemasAreExpressible
schemas_expressible read Compact base bytes r some (x, is, same, names) = subst IsExpressibleDocument (sym same) (compact_expressible base bytes x some is)
schemas_expressible read Json base bytes r some (doc, is, same, names) =
    let h = read bytes doc is in
    subst IsExpressibleDocument (sym same) (record { start = h.start; decls = h.decls })
