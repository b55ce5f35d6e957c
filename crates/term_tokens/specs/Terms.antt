-- What single tokens stand for, by a base and prefixes, or what is wrong with them (RDF 1.1 Turtle, section 7.2). With the flag, what is too long is a fault.
use Rattle.std.specs.Prelude.{◌≡◌, ℕ, Bool, true, false, ◌&&◌, not, List, [], ◌∷◌, ◌++◌, length, map, Option, Some, None, is_some, Result, Ok, Err, String, string_bytes, nat_eq, nat_lt, if◌then◌else◌, codes, encode_utf8_all}
use Rattle.std.specs.declared.alloc.Global.{Global}
use Rattle.std.specs.Char.{to_ascii_lowercase}
use Rattle.std.specs.List.{before_first, after_first, starts_with}
use Rattle.std.specs.Str.{chars}
use Rattle.iri_resolve.specs.Reference.{scheme_of}
use Rattle.iri_resolve.specs.Resolution.{resolved_text}
use Rattle.rdf_terms.specs.Vocabulary.{rdf_lang_string}
use Rattle.rdf_terms.specs.Texts.{same_text}
use Rattle.rdf_terms.specs.declared.terms.Name.TheVariants.{Label}
use Rattle.rdf_terms.specs.declared.terms.Term.{Term}
use Rattle.rdf_terms.specs.declared.terms.Term.TheVariants.{Iri, Blank, Lit}
use Rattle.rdf_lex.specs.declared.kinds.Kind.{Kind}
use Rattle.rdf_lex.specs.declared.kinds.Kind.TheVariants as kinds
use Rattle.rdf_lex.specs.Tokens.{Spelled}
use Rattle.rdf_cursor.specs.declared.stops.Fault.{Fault}
use Rattle.rdf_cursor.specs.declared.stops.Fault.TheVariants.{Syntax, Long, Prefix}
use Rattle.rdf_cursor.specs.declared.stops.Stop.{Stop}
use Rattle.rdf_cursor.specs.declared.stops.Stop.TheVariants as stop
use Rattle.rdf_cursor.specs.declared.symbols.Symbol.{Symbol}
use Rattle.rdf_cursor.specs.declared.symbols.Symbol.TheVariants as symbol
use Rattle.rdf_cursor.specs.Symbols.{symbol_of, is_symbol, is_among}
use Rattle.term_tokens.specs.Meanings.{text_of}
use Rattle.term_tokens.specs.Scopes.{Scope}
use Rattle.term_tokens.specs.Vocabulary.{shorthand_datatype}

-- a token of the kind is a prefixed name, whose local name stands behind its first colon
abbrev pub is_name : Kind → Bool
is_name kinds.IriRef = false
is_name kinds.Str = false
is_name kinds.PnameNs = true
is_name kinds.PnameLn = true
is_name kinds.AtName = true
is_name kinds.BlankLabel = false
is_name kinds.LangTag = false
is_name kinds.Integer = false
is_name kinds.Decimal = false
is_name kinds.Double = false
is_name kinds.Word = false
is_name kinds.Punct = false
is_name kinds.Line = false
is_name kinds.Pattern = false

-- names with a prefix
abbrev pub names : List Symbol
names = symbol.PnameNs ∷ symbol.PnameLn ∷ []

-- language tags, keywords among them
abbrev pub tags : List Symbol
tags = symbol.LangTag ∷ symbol.AtPrefix ∷ symbol.AtBase ∷ symbol.AtStart ∷ []

-- the short forms of literals (sections 2.5.2 and 2.5.3)
abbrev pub shorthands : List Symbol
shorthands = symbol.Integer ∷ symbol.Decimal ∷ symbol.Double ∷ symbol.True ∷ symbol.False ∷ []

-- the characters that a token stands for, or that it stands for none
abbrev pub Unescaped : Result (String Global) Stop → Option (List ℕ) → Type 0
Unescaped (Ok s) text = text ≡ Some (chars (string_bytes s))
Unescaped (Err stop.Memory) text = Unit {0}
Unescaped (Err (stop.Fault f)) text = (f ≡ Syntax) × (text ≡ None)

-- how many bytes an IRI, a label or a lexical form has at most, where its length is bounded
abbrev pub max_text : ℕ
max_text = 16777216

-- what is made of a text of so many bytes
abbrev pub limited : {A : Type 0} → Bool → List ℕ → A → Result A Fault
limited k bytes x = if k && nat_lt max_text (length bytes) then Err Long else Ok x

abbrev pub is_colon : ℕ → Bool
is_colon b = nat_eq b 58

abbrev pub is_at : ℕ → Bool
is_at b = nat_eq b 64

-- an IRI of these bytes
abbrev pub iri_term : List ℕ → Term
iri_term iri = Iri (chars iri)

-- an IRI reference against the base (section 6.3)
abbrev pub resolved : Bool → Scope → Option (List ℕ) → Result (List ℕ) Fault
resolved k v None = Err Syntax
resolved k v (Some text) = let iri = resolved_text v.base (encode_utf8_all text) in limited k iri iri

-- a local name behind the IRI of its prefix, if that is declared (section 2.4)
abbrev pub joined : Bool → Option (List ℕ) → Option (List ℕ) → Result (List ℕ) Fault
joined k None iri = Err Syntax
joined k (Some local) None = Err Prefix
joined k (Some local) (Some iri) = let whole = iri ++ encode_utf8_all local in limited k whole whole

-- a name without the `@` in front of it, and the prefix of a name, without its colon
abbrev pub bare_name : Spelled → List ℕ
bare_name t = if is_symbol symbol.AtName t then after_first is_at t.text else t.text

abbrev pub prefix_of : Spelled → List ℕ
prefix_of t = before_first is_colon (bare_name t)

-- a name with a prefix, as bytes
abbrev pub name_in : Bool → Scope → Spelled → Result (List ℕ) Fault
name_in k v t = joined k (text_of t) (v.prefixes (prefix_of t))

-- the IRI of an IRIREF, as bytes
unfoldable pub iri_ref_of : Bool → Scope → Spelled → Result (List ℕ) Fault
iri_ref_of k v t = if is_symbol symbol.IriRef t then resolved k v (text_of t) else Err Syntax

-- the IRI of an IRIREF or of a prefixed name, as bytes
unfoldable pub iri_of : Bool → Scope → Spelled → Result (List ℕ) Fault
iri_of k v t = if is_among names t then name_in k v t else iri_ref_of k v t

-- the IRI of a prefixed name with an `@` in front of it, as bytes (ShEx 2.1, section 6)
unfoldable pub at_name_of : Bool → Scope → Spelled → Result (List ℕ) Fault
at_name_of k v t = if is_symbol symbol.AtName t then name_in k v t else Err Syntax

-- an IRI as it is written, which has a scheme (RDF 1.1 N-Triples, section 2.2; RFC 3986, section 3.1)
abbrev pub absolute : Bool → Option (List ℕ) → Result (List ℕ) Fault
absolute k None = Err Syntax
absolute k (Some text) = let iri = encode_utf8_all text in if is_some (scheme_of iri) then limited k iri iri else Err Syntax

-- the IRI of an IRIREF that is not resolved, as bytes
unfoldable pub absolute_of : Bool → Spelled → Result (List ℕ) Fault
absolute_of k t = if is_symbol symbol.IriRef t then absolute k (text_of t) else Err Syntax

-- what has the label of a blank node
abbrev pub labelled : {A : Type 0} → (List ℕ → A) → Bool → Spelled → Result A Fault
labelled make k t = if is_symbol symbol.BlankLabel t then (let label = after_first is_colon t.text in limited k label (make (chars label))) else Err Syntax

-- the label of a blank node, without `_:`
unfoldable pub label_of : Bool → Spelled → Result (List ℕ) Fault
label_of k t = labelled (λ label. label) k t

-- a labelled blank node
unfoldable pub blank_of : Bool → Spelled → Result Term Fault
blank_of k t = labelled (λ label. Blank (Label label)) k t

-- a lexical form
abbrev pub lexical : Bool → Option (List ℕ) → Result (List ℕ) Fault
lexical k None = Err Syntax
lexical k (Some text) = limited k (encode_utf8_all text) text

unfoldable pub string_of : Bool → Spelled → Result (List ℕ) Fault
string_of k t = if is_symbol symbol.Str t then lexical k (text_of t) else Err Syntax

-- a text in `"` on one line begins with one `"` and not with three
abbrev pub is_quoted_once : List ℕ → Bool
is_quoted_once text = starts_with nat_eq text (codes "\"") && not (starts_with nat_eq text (codes "\"\"\""))

-- the lexical form of a string in `"` on one line (RDF 1.1 N-Triples, section 2.3)
unfoldable pub short_string_of : Bool → Spelled → Result (List ℕ) Fault
short_string_of k t = if is_quoted_once (chars t.text) then string_of k t else Err Syntax

abbrev pub typed : List ℕ → List ℕ → Term
typed lex datatype = Lit (record { lex = lex; datatype = datatype; lang = None })

-- a literal of this lexical form and datatype: rdf:langString is none without a tag (RDF 1.1 Concepts, section 3.3)
abbrev pub typed_by : List ℕ → Result (List ℕ) Fault → Result Term Fault
typed_by lex (Ok iri) = if same_text (chars iri) rdf_lang_string then Err Syntax else Ok (typed lex (chars iri))
typed_by lex (Err f) = Err f

unfoldable pub typed_of : Bool → Scope → List ℕ → Spelled → Result Term Fault
typed_of k v lex t = typed_by lex (iri_of k v t)

-- the same with an IRI that is not resolved
unfoldable pub absolute_typed_of : Bool → List ℕ → Spelled → Result Term Fault
absolute_typed_of k lex t = typed_by lex (absolute_of k t)

-- a literal of this lexical form and the token's language tag, in lower case
unfoldable pub tagged_of : List ℕ → Spelled → Result Term Fault
tagged_of lex t =
    if is_among tags t then Ok (Lit (record { lex = lex; datatype = rdf_lang_string; lang = Some (map to_ascii_lowercase (chars (after_first is_at t.text))) })) else Err Syntax

-- a number or a truth value (sections 2.5.2 and 2.5.3)
unfoldable pub shorthand_of : Bool → Spelled → Result Term Fault
shorthand_of k t =
    if is_among shorthands t then limited k t.text (typed (chars t.text) (shorthand_datatype (symbol_of t.kind t.text))) else Err Syntax
