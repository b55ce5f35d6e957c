-- What is noted beside an explanation (own).
use Rattle.std.specs.Prelude.{ℕ, Bool, List, [], ◌≡◌, ◌++◌, ◌==◌, codes, if◌then◌else◌, length}
use Rattle.std.specs.Fmt.{decimal}
use Rattle.std.specs.List.{flat_map}
use Rattle.explanation_texts.specs.Names.{shape_name}
use Rattle.explanation_texts.specs.Naming.{AreNames}
use Rattle.explanation_texts.specs.declared.names.Names.{Names}
use Rattle.idle_selectors.specs.Idle.{AreIdleLines}
use Rattle.idle_selectors.specs.Texts.{idle_text}
use Rattle.rdf_terms.specs.Order.{text_at}
use Rattle.rdf_terms.specs.declared.terms.Term.{Term}
use Rattle.rdf_terms.specs.declared.terms.Triple.{Triple}
use Rattle.schema_tree.specs.declared.schema.Schema.{Schema}
use Rattle.schema_tree.specs.declared.schema.ShapeId.{ShapeId}
use Rattle.shape_map.specs.declared.items.Item.{Item}
use Rattle.tool_words.specs.Asked.{Explaining}
use Rattle.typing_refiner.specs.declared.building.WidePair.{WidePair}

-- the number of a Shape
abbrev pub number_mark : ShapeId → List ℕ
number_mark i = codes " #" ++ decimal i.0

-- what stands behind it: the name of the Shape, if it has one
abbrev pub name_mark : List ℕ → List ℕ
name_mark name = if length name == 0 then [] else codes " " ++ name

-- a Width, or the greatest number of 64 bits where that is less, and the budget
abbrev pub width_mark : ℕ → ℕ → List ℕ
width_mark width budget = codes " width " ++ (decimal width ++ (codes " budget " ++ (decimal budget ++ codes "\n")))

-- the line for a pair whose Width is above the budget: its node, the number and the name of its Shape, its Width and the budget
abbrev pub named_line : Names → List Term → ℕ → WidePair → List ℕ
named_line names terms budget w =
    codes "wide " ++ (text_at terms w.pair.node ++ (number_mark w.pair.shape ++ (name_mark (shape_name names w.pair.shape) ++ width_mark w.width budget)))

-- the lines for such pairs, in their order
abbrev pub named_lines : Names → List Term → ℕ → List WidePair → List ℕ
named_lines names terms budget ws = flat_map (named_line names terms budget) ws

-- where something is not told, a line for each pair that is wide, and else nothing
unfoldable pub named_by : Names → List Term → ℕ → Bool → List WidePair → List ℕ
named_by names terms budget undecided wide = if undecided then named_lines names terms budget wide else []

-- the text is that of the lines for the idle selectors of the items, at most so many
pub record AreIdleNotes (terms : List Term) (g : List Triple) (items : List Item) (limit : ℕ) (notes : List ℕ) : Type 0 where
  pub lines : List (List ℕ)
  pub are_idle : AreIdleLines terms g items lines
  pub notes_are : notes ≡ idle_text limit lines

-- what is noted beside an explanation: the lines for wide pairs, where something is Unknown, and then those for the idle selectors of the map
pub record AreNotes (s : Schema) (terms : List Term) (g : List Triple) (items : List Item) (e : Explaining) (undecided : Bool) (wide : List WidePair) (notes : List ℕ) : Type 0 where
  pub names : Names
  pub are_names : AreNames s terms names
  pub idle : List ℕ
  pub idle_are : AreIdleNotes terms g items e.limit idle
  pub notes_are : notes ≡ named_by names terms e.budget undecided wide ++ idle
