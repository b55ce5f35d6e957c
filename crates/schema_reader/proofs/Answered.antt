-- What the readers of the two formats answer, said of schema documents.
use Rattle.std.proofs.Common.{◌≡◌, ◌∙◌, ℕ, List, map, ◌<◌, ◌+◌, [], ◌∷◌, ◌++◌, length, get_or, take, refl, ap, subst, sym, Result, Ok, Err, Option, Some, None, IsSome}
use Rattle.std.specs.Prelude.{All, IfErr, IfOk}
use Rattle.std.proofs.lemmas.List.{map-append, take_more}
use Rattle.std.proofs.lemmas.List.Elements.{All-push}
use Rattle.std.specs.Option.{option_or}
use Rattle.std.specs.Str.{IsUtf8, chars}
use Rattle.std.proofs.lemmas.Str.{encodes-chars}
use Rattle.iri_resolve.specs.Reference.{scheme_of}
use Rattle.rdf_lex.specs.declared.prefixes.Prefixes.{Prefixes}
use Rattle.rdf_lex.specs.Prefixes.{base_of, iri_under}
use Rattle.schema_documents.specs.Ordered.{IsOrderedDocument}
use Rattle.schema_documents.specs.Tree.{Document, document_of}
use Rattle.schema_documents.specs.declared.error.SchemaError.{SchemaError}
use Rattle.shexc_reader.specs.declared.state.Parsed.{Parsed}
use Rattle.shexc_reader.specs.Documents as compact
use Rattle.shexc_reader.specs.Laws.{DocumentsAreOrdered, HasScheme, ImportsHaveSchemes}
use Rattle.shexc_reader.specs.States.{State, document_in}
use Rattle.shexj_reader.specs.Bytes.{IsCause}
use Rattle.shexj_reader.specs.Laws as json_laws
use Rattle.term_tokens.specs.Scopes.{scope_of}
use Rattle.schema_reader.specs.declared.format.Format.TheVariants.{Compact, Json}
use Rattle.schema_reader.specs.Documents.{AreNone, IsSchema, Read, ReadsAs, base_alone, read_of, resolved_import, with_base}
use Rattle.schema_reader.specs.Laws.{SchemasAreOne, SchemasAreOrdered}

one_read : (r q : Read) → r.document ≡ q.document → r.names ≡ q.names → r ≡ q
one_read r q d n = λ i. record { document = d i; names = n i }

-- ---- ShExC

same_scope : (p : Parsed) (x : State) → compact.IsParsedOf p x → scope_of p.prefixes ≡ x.scope
same_scope p x h = λ i. record { base = h.base i; prefixes = h.prefixes i }

reads_parsed : (p : Parsed) (x : State) (r : Read) → r.document ≡ document_in x → r.names ≡ x.scope → compact.IsParsedOf p x → read_of p ≡ r
reads_parsed p x r d n h = one_read (read_of p) r (h.document ∙ sym d) (same_scope p x h ∙ sym n)

pub compact_complete : (base source : List ℕ) (result : Result Parsed SchemaError) → compact.ReadsAll base source result → (r : Read) → IsSchema Compact base r source → ReadsAs result r
compact_complete base source (Ok p) all r (x, spelled, d, n) = reads_parsed p x r d n (all x spelled)
compact_complete base source (Err e) all r (x, spelled, d, n) = all x spelled

pub compact_none : (base source : List ℕ) (result : Result Parsed SchemaError) → compact.ReadsAll base source result → IfErr result (AreNone Compact base source)
compact_none base source (Ok p) all = tt
compact_none base source (Err e) all = λ apart r h. apart (all h.0 h.1)

pub compact_imports : (base source : List ℕ) (result : Result Parsed SchemaError) → ImportsHaveSchemes → IsSome (scheme_of base) →
    IfOk result (compact.IsRead base source) → IfOk result (λ p. All HasScheme p.doc.imports)
compact_imports base source (Ok p) law some (x, spelled, h) = subst (λ (iris : List (List ℕ)). All HasScheme iris) (sym (ap (λ (d : Document). d.imports) h.document)) (law base source x some spelled)
compact_imports base source (Err e) law some h = tt

pub compact_ordered : (base source : List ℕ) (result : Result Parsed SchemaError) → DocumentsAreOrdered → IfOk result (compact.IsRead base source) →
    IfOk result (λ p. IsOrderedDocument (document_of p.doc))
compact_ordered base source (Ok p) law (x, spelled, h) = subst IsOrderedDocument (sym h.document) (law base source x spelled)
compact_ordered base source (Err e) law h = tt

-- ---- ShExJ

-- prefixes that are made of a base alone
pub alone : (base : List ℕ) (p : Prefixes) → base_of p ≡ base → ((prefix : List ℕ) → iri_under p prefix ≡ None) → scope_of p ≡ base_alone base
alone base p own none = λ i. record { base = own i; prefixes = λ prefix. none prefix i }

pub based : (base : List ℕ) (doc : Document) (iris : List (List ℕ)) → iris ≡ map (resolved_import base) doc.imports → record doc { imports = iris } ≡ with_base base doc
based base doc iris e = λ i. record doc { imports = e i }

either_some : (a b : Option (List ℕ)) → IsSome b → IsSome (option_or a b)
either_some None b h = h
either_some (Some name) b h = refl

-- a resolved text has a scheme, as characters too
pub schemed : (base reference iri : List ℕ) → IsUtf8 iri → IsSome (scheme_of base) → scheme_of iri ≡ option_or (scheme_of reference) (scheme_of base) → HasScheme (chars iri)
schemed base reference iri utf8 h e =
    subst IsSome (sym (ap scheme_of (encodes-chars iri utf8) ∙ e)) (either_some (scheme_of reference) (scheme_of base) h)

-- one more import
pub one_more : (base : List ℕ) (references old new : List (List ℕ)) (n : ℕ) (reference iri : List ℕ) → n < length references →
    reference ≡ get_or references n reference → iri ≡ resolved_import base reference → new ≡ old ++ iri ∷ [] →
    old ≡ map (resolved_import base) (take n references) → new ≡ map (resolved_import base) (take (n + 1) references)
one_more base references old new n reference iri inside is e pushed held =
    let f = resolved_import base in
    pushed ∙ ap (λ (iris : List (List ℕ)). iris ++ iri ∷ []) held ∙ ap (λ (last : List ℕ). map f (take n references) ++ last ∷ []) (e ∙ ap f is)
    ∙ sym (map-append f (take n references) (get_or references n reference ∷ [])) ∙ ap (map f) (sym (take_more references n reference inside))

pub one_more_schemed : (old new : List (List ℕ)) (iri : List ℕ) → HasScheme iri → new ≡ old ++ iri ∷ [] → All HasScheme old → All HasScheme new
one_more_schemed old new iri h pushed held = subst (λ (iris : List (List ℕ)). All HasScheme iris) (sym pushed) (All-push HasScheme old iri held h)

pub json_complete : (base : List ℕ) (doc kept : Document) (p : Parsed) (r : Read) → document_of p.doc ≡ with_base base doc →
    scope_of p.prefixes ≡ base_alone base → doc ≡ kept → r.document ≡ with_base base kept → r.names ≡ base_alone base → read_of p ≡ r
json_complete base doc kept p r document names same d n = one_read (read_of p) r (document ∙ ap (with_base base) same ∙ sym d) (names ∙ sym n)

pub json_none : (base source : List ℕ) (e : SchemaError) → json_laws.RefusedAreNone → IsCause source e → AreNone Json base source e
json_none base source e law cause = λ apart r (doc, text, d, n). law source e doc apart cause text

-- ---- bytes are one document

pub schemas_one : compact.DocumentsAreOne → json_laws.DocumentsAreOne → SchemasAreOne
schemas_one one also Compact base bytes r other (x, h, d, n) (y, k, e, m) =
    let same : x ≡ y = one base bytes x y h k in
    one_read r other (d ∙ (λ i. document_in (same i)) ∙ sym e) (n ∙ (λ i. (same i).scope) ∙ sym m)
schemas_one one also Json base bytes r other (doc, h, d, n) (kept, k, e, m) =
    let same : doc ≡ kept = also bytes doc kept h k in
    one_read r other (d ∙ (λ i. with_base base (same i)) ∙ sym e) (n ∙ sym m)

pub schemas_ordered : DocumentsAreOrdered → json_laws.DocumentsAreOrdered → SchemasAreOrdered
schemas_ordered law also Compact base bytes r (x, h, d, n) = subst IsOrderedDocument (sym d) (law base bytes x h)
schemas_ordered law also Json base bytes r (doc, h, d, n) = subst IsOrderedDocument (sym d) (same_parts base doc (also bytes doc h))
  where
    same_parts : (base : List ℕ) (doc : Document) → IsOrderedDocument doc → IsOrderedDocument (with_base base doc)
    same_parts base doc o = record { start = o.start; decls = o.decls }
