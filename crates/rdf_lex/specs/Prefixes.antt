-- A base and a finite map from prefixes to IRIs, all as bytes.
use Rattle.std.specs.Prelude.{◌≡◌, ◌≢◌, ℕ, List, Option, Some, option_map, string_bytes}
use Rattle.std.specs.BTreeMap.{get_by_text}
use Rattle.rdf_terms.specs.OneLine.{IsOneLine}
use Rattle.rdf_lex.specs.declared.prefixes.Prefixes.{Prefixes}

-- the base
abbrev pub base_of : Prefixes → List ℕ
base_of p = string_bytes p.base

-- the IRI that a prefix stands for
abbrev pub iri_under : Prefixes → List ℕ → Option (List ℕ)
iri_under p prefix = option_map (λ iri. string_bytes iri) (get_by_text p.by_prefix prefix)

-- every other prefix stands for what it stood for
abbrev pub KeepsOtherPrefixes : (List ℕ → Option (List ℕ)) → (List ℕ → Option (List ℕ)) → List ℕ → Type 0
KeepsOtherPrefixes old new prefix = (other : List ℕ) → other ≢ prefix → new other ≡ old other

-- a base and the IRI of each prefix are each on one line
pub record AreOneLine (last_base : List ℕ) (under : List ℕ → Option (List ℕ)) : Type 0 where
  pub base : IsOneLine last_base
  pub prefixes : (prefix iri : List ℕ) → under prefix ≡ Some iri → IsOneLine iri
