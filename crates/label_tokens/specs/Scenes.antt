-- What is known before a token of a text in ShExC: where it stands, the base and the prefixes in force, and the prefix of the token before it (ShEx 2.1, section 6).
use Rattle.std.specs.Prelude.{ℕ, false, List, [], ◌∷◌, Option, Some, None, Result, Ok, Err, if◌then◌else◌}
use Rattle.std.specs.Str.{bytes_eq}
use Rattle.rdf_cursor.specs.Symbols.{symbol_of}
use Rattle.rdf_cursor.specs.declared.stops.Fault.{Fault}
use Rattle.rdf_lex.specs.Tokens.{Spelled}
use Rattle.term_tokens.specs.Scopes.{Scope}
use Rattle.term_tokens.specs.Terms.{iri_ref_of, prefix_of}
use Rattle.label_tokens.specs.declared.spots.Role.{Role}
use Rattle.label_tokens.specs.declared.spots.Role.TheVariants.{BaseIri, PrefixIri}
use Rattle.label_tokens.specs.declared.spots.Spot.{Spot}
use Rattle.label_tokens.specs.Spots.{first_spot, next_spot}

pub record Scene : Type 0 where
  pub spot : Spot
  pub scope : Scope
  pub prefix : List ℕ

-- what was read, if anything was
abbrev pub read_of : Result (List ℕ) Fault → Option (List ℕ)
read_of (Ok iri) = Some iri
read_of (Err f) = None

-- the IRI of an IRIREF, if the token is one
abbrev pub iri_in : Scope → Spelled → Option (List ℕ)
iri_in v t = read_of (iri_ref_of false v t)

-- another base, and an IRI under a prefix
abbrev pub rebased : Option (List ℕ) → Scope → Scope
rebased None v = v
rebased (Some iri) v = record v { base = iri }

abbrev pub declared : List ℕ → Option (List ℕ) → Scope → Scope
declared prefix None v = v
declared prefix (Some iri) v = record v { prefixes = λ other. if bytes_eq other prefix then Some iri else v.prefixes other }

-- the base and the prefixes in force behind a token, by what it may be
abbrev pub scope_behind : Role → List ℕ → Spelled → Scope → Scope
scope_behind BaseIri prefix t v = rebased (iri_in v t) v
scope_behind PrefixIri prefix t v = declared prefix (iri_in v t) v
scope_behind r prefix t v = v

-- before the first token of a text with this base, and behind a token
abbrev pub first_scene : List ℕ → Scene
first_scene base = record { spot = first_spot; scope = record { base = base; prefixes = λ prefix. None }; prefix = [] }

abbrev pub next_scene : Scene → Spelled → Scene
next_scene s t = record { spot = next_spot s.spot (symbol_of t.kind t.text); scope = scope_behind s.spot.role s.prefix t s.scope; prefix = prefix_of t }

-- behind more tokens
abbrev pub scene_behind : Scene → List Spelled → Scene
scene_behind s [] = s
scene_behind s (t ∷ ts) = scene_behind (next_scene s t) ts
