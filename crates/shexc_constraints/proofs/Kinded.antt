-- The readers of the texts of exclusions, and those of facets, look no further than the next token, and take one.
use Rattle.std.proofs.Common.{ℕ, Bool, List, Option}
use Rattle.node_constraint.specs.declared.facet.Facet.{Facet}
use Rattle.rdf_cursor.specs.Properties.{IsLocal, Consumes}
use Rattle.term_tokens.specs.Scopes.{Scope}
use Rattle.shexc_constraints.specs.FacetKinds.{facet_of}
use Rattle.shexc_constraints.specs.TextKinds.{texts}
use Rattle.shexc_constraints.proofs.Places.{local_iri_text, consumes_iri_text, local_lexical_form, consumes_lexical_form, local_tag, consumes_tag, consumes_text_facet, consumes_number_facet, consumes_facet}
use Rattle.shexc_constraints.specs.declared.facets.FacetKind.{FacetKind}
use Rattle.shexc_constraints.specs.declared.facets.FacetKind.TheVariants as facets
use Rattle.shexc_constraints.specs.declared.values.TextKind.{TextKind}
use Rattle.shexc_constraints.specs.declared.values.TextKind.TheVariants as kind

pub local_texts : (v : Scope) (k : TextKind) → IsLocal (texts v k)
local_texts v kind.Iri = local_iri_text v
local_texts v kind.Literal = local_lexical_form v
local_texts v kind.Tag = local_tag v

pub consumes_texts : (v : Scope) (k : TextKind) → Consumes (texts v k)
consumes_texts v kind.Iri = consumes_iri_text v
consumes_texts v kind.Literal = consumes_lexical_form v
consumes_texts v kind.Tag = consumes_tag v

pub consumes_facet_of : (bounded : Bool) (datatype : Option (List ℕ)) (k : FacetKind) (fs : List Facet) → Consumes (facet_of bounded datatype k fs)
consumes_facet_of bounded datatype facets.Text fs = consumes_text_facet bounded datatype fs
consumes_facet_of bounded datatype facets.Number fs = consumes_number_facet bounded datatype fs
consumes_facet_of bounded datatype facets.Any fs = consumes_facet bounded datatype fs
