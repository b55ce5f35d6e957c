-- What is shown of a cycle of Shapes for which a schema is refused (ShEx 2.1, section 5.7.4; own: the lines).
use Rattle.std.specs.Prelude.{ℕ, List, [], ◌≡◌, ◌++◌, ◌==◌, ◌⊎◌, codes, if◌then◌else◌, length}
use Rattle.std.specs.Fmt.{decimal}
use Rattle.std.specs.List.{flat_map}
use Rattle.explanation_texts.specs.Names.{shape_name}
use Rattle.explanation_texts.specs.Naming.{AreNames}
use Rattle.explanation_texts.specs.declared.names.Names.{Names}
use Rattle.rdf_terms.specs.declared.terms.Term.{Term}
use Rattle.schema_documents.specs.Tree.{Document}
use Rattle.schema_files.specs.Named.{Asked}
use Rattle.schema_files.specs.Sources.{AreSources, Source, documents_of}
use Rattle.schema_load.specs.Stands.{Stands}
use Rattle.schema_tree.specs.declared.schema.Schema.{Schema}
use Rattle.schema_tree.specs.declared.schema.ShapeId.{ShapeId}
use Rattle.shex_io.specs.Files.{Told}

-- the files of a schema hold these documents
abbrev pub AreRead : Told → Asked → List Document → Type 0
AreRead told a docs = (ss : List Source) × AreSources told a ss × (docs ≡ documents_of ss)

-- the documents stand for a schema, and the names are names of its expressions and Shapes
pub record AreNamesOf (docs : List Document) (names : Names) : Type 0 where
  pub terms : List Term
  pub schema : Schema
  pub stands : Stands docs terms schema
  pub are_names : AreNames schema terms names

-- `#N is NAME` with a line feed
abbrev pub name_line : ShapeId → List ℕ → List ℕ
name_line i name = codes "#" ++ (decimal i.0 ++ (codes " is " ++ (name ++ codes "\n")))

-- the line for a Shape of this name, and nothing where the name is empty
abbrev pub line_if_named : ShapeId → List ℕ → List ℕ
line_if_named i name = if length name == 0 then [] else name_line i name

-- the lines for a Shape and for Shapes, by their names
abbrev pub shape_line : Names → ShapeId → List ℕ
shape_line names i = line_if_named i (shape_name names i)

abbrev pub shape_lines : Names → List ShapeId → List ℕ
shape_lines names shapes = flat_map (shape_line names) shapes

-- the lines are those of the Shapes, by names in the schema that the files hold
pub record NamesShapes (told : Told) (a : Asked) (shapes : List ShapeId) (shown : List ℕ) : Type 0 where
  pub documents : List Document
  pub are_read : AreRead told a documents
  pub names : Names
  pub are_names : AreNamesOf documents names
  pub lines : shown ≡ shape_lines names shapes

-- nothing is shown of a cycle, or its Shapes are named
abbrev pub ShowsCycle : Told → Asked → List ShapeId → List ℕ → Type 0
ShowsCycle told a cycle shown = (shown ≡ []) ⊎ NamesShapes told a cycle shown
