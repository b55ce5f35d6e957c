-- What programs print of a file that is refused.
use Rattle.std.specs.Prelude.{ℕ, List, [], ◌∷◌, ◌++◌, codes, encode_utf8_all}
use Rattle.std.specs.Fmt.{decimal}
use Rattle.std.specs.List.{flat_map}
use Rattle.graph_index.specs.Messages.{data_text}
use Rattle.schema_documents.specs.Messages.{schema_text}
use Rattle.schema_load.specs.Messages.{load_text}
use Rattle.schema_tree.specs.declared.schema.ShapeId.{ShapeId}
use Rattle.shape_map.specs.Messages.{map_text}
use Rattle.shex_inputs.specs.declared.error.Refusal.{Refusal}
use Rattle.shex_inputs.specs.declared.error.Refusal.TheVariants as Refusals

-- the Shapes of a cycle by their numbers, with a comma between two
abbrev pub cycle_text : List ShapeId → List ℕ
cycle_text [] = []
cycle_text (i ∷ more) = codes "#" ++ (decimal i.0 ++ flat_map (λ j. codes ",#" ++ decimal j.0) more)

-- why a file is refused: an import is shown by its IRI in angle brackets
abbrev pub refusal_text : Refusal → List ℕ
refusal_text (Refusals.Size source) = codes "Size"
refusal_text (Refusals.Schema file error) = schema_text error
refusal_text (Refusals.Import file iri) = codes "Import(<" ++ (encode_utf8_all iri ++ codes ">)")
refusal_text (Refusals.Load error) = load_text error
refusal_text (Refusals.NegatedCycle cycle) = codes "NegatedCycle(" ++ (cycle_text cycle ++ codes ")")
refusal_text (Refusals.Data error) = data_text error
refusal_text (Refusals.Map error) = map_text error
refusal_text Refusals.Pairs = codes "Pairs"
