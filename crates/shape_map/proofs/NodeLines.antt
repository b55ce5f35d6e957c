-- What tokens of a shape map alone stand for is on one line.
use Rattle.std.proofs.Common.{◌≡◌, ℕ, nat_eq, List, codes, encode_utf8_all, Ok, refl, subst, arith}
use Rattle.std.specs.List.{after_first}
use Rattle.std.specs.Str.{chars}
use Rattle.iri_resolve.proofs.ResolvedLines.{clean_behind_first}
use Rattle.rdf_terms.specs.declared.terms.Term.{Term}
use Rattle.rdf_terms.specs.declared.terms.Term.TheVariants.{Blank}
use Rattle.rdf_terms.proofs.OneLine.{Plain, plain_append, plain_chars, plain_encodes, Clean}
use Rattle.rdf_terms.proofs.TermLines.{PlainTerm, plain_written, plain_iri}
use Rattle.rdf_lex.specs.Tokens.{Spelled}
use Rattle.rdf_lex.proofs.TokenLines.{line_by}
use Rattle.rdf_cursor.specs.declared.stops.Fault.TheVariants.{Syntax}
use Rattle.rdf_cursor.specs.Symbols.{symbol_of, same_symbol, is_symbol, is_among}
use Rattle.rdf_cursor.specs.declared.symbols.Symbol.TheVariants as symbol
use Rattle.term_tokens.specs.Meanings.{name_of}
use Rattle.term_tokens.specs.Terms.{tagged_of}
use Rattle.term_tokens.proofs.NameLines.{ok_same, chosen, named_plain, tagged_plain}
use Rattle.term_tokens.proofs.TokenLines.{IsFine}
use Rattle.schema_documents.specs.declared.label.Label.TheVariants as label
use Rattle.schema_tree.specs.Targets.{target_text}
use Rattle.schema_tree.specs.declared.schema.Target.{Target}
use Rattle.schema_tree.specs.declared.schema.Target.TheVariants as target
use Rattle.shape_map.specs.Meanings.{node_tags, node_tagged_of, blank_of, blank_target_of, iri_target}

pub blank_plain : (t : Spelled) (x : Term) → IsFine t → blank_of t ≡ Ok x → PlainTerm x
unfolding blank_of is_symbol
blank_plain t x h e =
    let text = after_first (λ b. nat_eq b 58) t.text in
    let c = chosen (same_symbol (symbol_of t.kind t.text) symbol.BlankLabel) Syntax (Ok (Blank (name_of (chars text)))) x e in
    let d = clean_behind_first 58 t.text (omega arith) (h (line_by (λ k. same_symbol (symbol_of k t.text) symbol.BlankLabel) t.kind refl refl refl c.0)) in
    subst PlainTerm (ok_same (Blank (name_of (chars text))) x c.1) (named_plain (chars text) (plain_chars text d.0 d.1))

pub node_tagged_plain : (lex : List ℕ) (t : Spelled) (x : Term) → IsFine t → node_tagged_of lex t ≡ Ok x → PlainTerm x
unfolding node_tagged_of
node_tagged_plain lex t x h e = tagged_plain lex t x h (chosen (is_among node_tags t) Syntax (tagged_of lex t) x e).1

-- targets
pub start_plain : Plain (target_text target.Start)
start_plain = plain_written (codes "START") refl

pub iri_target_plain : (iri : List ℕ) → Clean iri → Plain (target_text (iri_target iri))
iri_target_plain iri h = plain_iri (chars iri) (plain_chars iri h.0 h.1)

pub blank_target_plain : (t : Spelled) (x : Target) → IsFine t → blank_target_of t ≡ Ok x → Plain (target_text x)
unfolding blank_target_of is_symbol
blank_target_plain t x h e =
    let text = after_first (λ b. nat_eq b 58) t.text in
    let goal = target.Label (label.Blank (chars text)) in
    let c = chosen (same_symbol (symbol_of t.kind t.text) symbol.BlankLabel) Syntax (Ok goal) x e in
    let d = clean_behind_first 58 t.text (omega arith) (h (line_by (λ k. same_symbol (symbol_of k t.text) symbol.BlankLabel) t.kind refl refl refl c.0)) in
    subst (λ (y : Target). Plain (target_text y)) (ok_same goal x c.1)
    (plain_append (codes "_:") (encode_utf8_all (chars text)) (refl, (refl, tt)) (plain_encodes (chars text) (plain_chars text d.0 d.1)))
