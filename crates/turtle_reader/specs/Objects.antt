-- The triples of subjects and their object lists (RDF 1.1 Turtle, sections 2.2 and 2.3).
use Rattle.std.specs.Prelude.{◌≡◌, ℕ, List, [], ◌∷◌, ◌++◌, Some, map, slice_get}
use Rattle.lists.specs.Additions.{Adds, AddsAll}
use Rattle.std.specs.List.{flat_map}
use Rattle.rdf_terms.specs.declared.terms.Term.{Term}
use Rattle.rdf_terms.specs.declared.terms.Term.TheVariants.{Blank, Iri}
use Rattle.graph_index.specs.declared.loading.TermTriple.{TermTriple}
use Rattle.turtle_reader.specs.declared.objects.ObjectList.{ObjectList}
use Rattle.turtle_reader.specs.declared.objects.SubjectList.{SubjectList}
use Rattle.turtle_reader.specs.declared.resource.Resource.{Resource}
use Rattle.turtle_reader.specs.declared.resource.Resource.TheVariants as resource

abbrev pub term_of : Resource → Term
term_of (resource.Iri iri) = Iri iri
term_of (resource.Blank name) = Blank name

-- the triple of a subject, a predicate and an object
abbrev pub triple_of : Term → List ℕ → Term → TermTriple
triple_of s p o = record { subject = s; predicate = Iri p; object = o }

-- the triple of three terms
abbrev pub triple_with : Term → Term → Term → TermTriple
triple_with s p o = record { subject = s; predicate = p; object = o }

-- a subject, with which triples begin, went last in the table where it was new, and has this number
pub record Leads (old terms : List Term) (s : Term) (i : ℕ) : Type 0 where
  pub added : Adds old s terms
  pub subject : slice_get terms i ≡ Some s

-- a subject and a predicate, with which a triple begins, went last in the table where they were new, and have these numbers
pub record Begins (old terms : List Term) (s p : Term) (i j : ℕ) : Type 0 where
  pub added : AddsAll old (s ∷ p ∷ []) terms
  pub subject : slice_get terms i ≡ Some s
  pub predicate : slice_get terms j ≡ Some p

-- the triples of a subject and of a list, one for each object
abbrev pub triples_of : Term → ObjectList → List TermTriple
triples_of s l = map (triple_of s l.predicate) (l.before.items ++ l.last ∷ [])

-- the triples of a subject, one list after the other
abbrev pub triples_about : SubjectList → List TermTriple
triples_about l = flat_map (triples_of (term_of l.subject)) (l.before.items ++ l.last ∷ [])

-- the triples of subjects, one subject after the other
abbrev pub all_triples_of : List SubjectList → List TermTriple
all_triples_of ls = flat_map triples_about ls
