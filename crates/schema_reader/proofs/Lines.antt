-- The base and the prefixes at the end of a document, in either format.
use Rattle.std.proofs.Common.{◌≡◌, ℕ, List, Option, Some, None, subst, sym}
use Rattle.rdf_lex.specs.Prefixes.{AreOneLine}
use Rattle.shexc_reader.specs.Laws as compact_laws
use Rattle.term_tokens.specs.Scopes.{Scope}
use Rattle.schema_reader.specs.declared.format.Format.TheVariants.{Compact, Json}
use Rattle.schema_reader.specs.Documents.{base_alone}
use Rattle.schema_reader.specs.Laws.{NamesHaveLines}

abbrev AreLines : Scope → Type 0
AreLines v = AreOneLine v.base v.prefixes

no_prefix : (iri : List ℕ) → Path (Option (List ℕ)) None (Some iri) → ⊥
no_prefix iri e = cc

pub names_lined : compact_laws.NamesHaveLines → NamesHaveLines
names_lined compact Compact base bytes r line (x, spelled, d, n) = subst AreLines (sym n) (compact base bytes x line spelled)
names_lined compact Json base bytes r line (doc, spelled, d, n) =
    subst AreLines (sym n) (record { base = line; prefixes = λ prefix iri e. absurd (no_prefix iri e) })
