-- What the shape map of a drill stands for.
use Rattle.std.specs.Prelude.{true, [], ◌∷◌, codes, None}
use Rattle.schema_tree.specs.declared.schema.Target.TheVariants as target
use Rattle.shape_map.specs.Maps.{IsMap}
use Rattle.shape_map.specs.declared.items.Focus.TheVariants.{Subject}
use Rattle.shape_map.specs.declared.items.Item.{Item}
use Rattle.shape_map.specs.declared.items.Selector.TheVariants.{Triples}
use Rattle.term_tokens.specs.Scopes.{Scope}
use Rattle.shex_drill.specs.Schema.{item_label}
use Rattle.shex_drill.specs.Terms.{IsAtHome, named}
use Rattle.shex_drill.specs.Texts.{map_text}

-- whatever has a tag is to be an item
abbrev pub map_item : Item
map_item = record { selector = Triples (record { focus = Subject; predicate = named (codes "tag"); other = None }); target = target.Label item_label; want = true }

-- the map is of this one item, wherever the empty prefix stands for its IRI
abbrev pub MapIsOfItem : Type 0
MapIsOfItem = (nodes labels : Scope) → IsAtHome nodes → IsAtHome labels → IsMap nodes labels map_text (map_item ∷ [])
