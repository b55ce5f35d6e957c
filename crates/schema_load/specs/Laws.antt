-- The laws of loading. A function that does nothing claims each of them by its contract.
use Rattle.std.specs.Prelude.{List, ◌≡◌, ℕ, ◌<◌, length, filter}
use Rattle.std.specs.List.{AllByRecursion}
use Rattle.rdf_terms.specs.declared.terms.Term.{Term}
use Rattle.lists.specs.Distinct.{AreDistinct}
use Rattle.schema_documents.specs.Tree.{Document}
use Rattle.schema_tree.specs.declared.schema.Schema.{Schema}
use Rattle.schema_tree.specs.declared.schema.Target.{Target}
use Rattle.schema_tree.specs.Loaded.{IsLoaded}
use Rattle.schema_load.specs.declared.error.LoadError.{LoadError}
use Rattle.schema_documents.specs.Ordered.{IsOrderedDocument}
use Rattle.schema_load.specs.Parts.{AreOrdered, IsHeldBy, is_entry}
use Rattle.schema_load.specs.Reading.{parts_of}
use Rattle.schema_load.specs.Refusals.{IsRefused}
use Rattle.schema_load.specs.Stands.{Stands}

-- documents stand for one schema at most, in the numbers of one table of distinct terms
abbrev pub OneSchema : Type 0
OneSchema = (docs : List Document) (terms : List Term) (a b : Schema) → AreDistinct terms → Stands docs terms a → Stands docs terms b → a ≡ b

-- a schema has one entry for each expression of its documents that is no reference
abbrev pub OneEntryEach : Type 0
OneEntryEach = (docs : List Document) (terms : List Term) (s : Schema) → Stands docs terms s → length s.exprs ≡ length (filter is_entry (parts_of docs))

-- the schema that documents stand for keeps the rules of loaded schemas
abbrev pub StandingIsLoaded : Type 0
StandingIsLoaded = (docs : List Document) (terms : List Term) (s : Schema) → AreOrdered (parts_of docs) → Stands docs terms s → IsLoaded s

-- documents are refused for one cause
abbrev pub OneRefusal : Type 0
OneRefusal = (docs : List Document) (terms : List Term) (d e : LoadError) → IsRefused docs terms d → IsRefused docs terms e → d ≡ e

-- each part of documents is held by a declaration or by the start, so that what is too deep or has too many occurrences has one
abbrev pub EachIsHeld : Type 0
EachIsHeld = (docs : List Document) (p : ℕ) → p < length (parts_of docs) → (t : Target) × IsHeldBy (parts_of docs) p t

-- no minimum of the parts is above its bound where none of the documents is
abbrev pub OrderedParts : Type 0
OrderedParts = (docs : List Document) → AllByRecursion IsOrderedDocument docs → AreOrdered (parts_of docs)
