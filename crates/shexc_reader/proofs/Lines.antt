-- The base and the IRI of each prefix stay on one line: by the form of each statement.
use Rattle.std.proofs.Common.{◌≡◌, inl, inr, ℕ, Bool, true, false, cond, List, Ok, Option, Some, subst}
use Rattle.std.specs.Str.{bytes_eq}
use Rattle.std.proofs.lemmas.Option.{same_Some}
use Rattle.rdf_terms.proofs.OneLine.{Clean, clean_line, line_is}
use Rattle.rdf_cursor.specs.Ahead.{Ahead, finished}
use Rattle.rdf_lex.specs.Tokens.{Spelled}
use Rattle.term_tokens.specs.Scopes.{Scope}
use Rattle.term_tokens.specs.Terms as tokens
use Rattle.term_tokens.proofs.NameLines.{PlainNames, iri_ref_clean}
use Rattle.shexc_constraints.specs.Meanings.{iri_ref_of}
use Rattle.shexc_reader.specs.Documents.{max_depth, at_first}
use Rattle.shexc_reader.specs.Grammar as g
use Rattle.shexc_reader.specs.Laws.{NamesHaveLines}
use Rattle.shexc_reader.specs.States.{State, declared}
use Rattle.shexc_reader.proofs.Ordered.{many_keep}
use Rattle.shexc_reader.proofs.Schemes.{no_prefix, raised_ok}

reference_clean : (v : Scope) → PlainNames v → (t : Spelled) (iri : List ℕ) → iri_ref_of v t ≡ Ok iri → Clean iri
unfolding iri_ref_of
reference_clean v p t iri e = iri_ref_clean false v t iri p (raised_ok (tokens.iri_ref_of false v t) iri e)

declared_by : (b : Bool) (iri got : List ℕ) (old : Option (List ℕ)) → Clean iri → (old ≡ Some got → Clean got) → cond b (Some iri) old ≡ Some got → Clean got
declared_by true iri got old h k e = subst Clean (same_Some iri got e) h
declared_by false iri got old h k e = k e

declared_plain : (prefix iri : List ℕ) (a : State) → Clean iri → PlainNames a.scope → PlainNames (declared prefix iri a).scope
declared_plain prefix iri a h p = record {
  base = p.base;
  prefixes = λ other got e. declared_by (bytes_eq other prefix) iri got (a.scope.prefixes other) h (p.prefixes other got) e;
}

abbrev IsPlain : State → Type 0
IsPlain a = PlainNames a.scope

statement_plain : (bounded : Bool) (d : ℕ) (a b : State) (ts r : Ahead Spelled) → g.Statement bounded d a b ts r → IsPlain a → IsPlain b
statement_plain bounded d a b ts r (inl (i, is, (m, w, (t, e, h)))) p =
    subst IsPlain is (record { base = reference_clean a.scope p t i h; prefixes = p.prefixes })
statement_plain bounded d a b ts r (inr (inl (t, i, is, (m, w, (k, q, (u, e, h)))))) p =
    subst IsPlain is (declared_plain (tokens.prefix_of t) i a (reference_clean a.scope p u i h) p)
statement_plain bounded d a b ts r (inr (inr (inl (i, is, h)))) p = subst IsPlain is p
statement_plain bounded d a b ts r (inr (inr (inr (inl (e, fresh, is, h))))) p = subst IsPlain is p
statement_plain bounded d a b ts r (inr (inr (inr (inr (l, e, is, h))))) p = subst IsPlain is p

pub names_lined : NamesHaveLines
names_lined base source x line (ts, utf8, tokens, h) =
    let p : IsPlain x = many_keep IsPlain (g.Statement true max_depth) (λ s y m k o q. statement_plain true max_depth s y m k o q) (at_first base) x _ finished h
    (record { base = clean_line base line; prefixes = λ prefix iri e. absurd (no_prefix iri e) }) in
    record { base = line_is x.scope.base p.base; prefixes = λ prefix iri e. line_is iri (p.prefixes prefix iri e) }
