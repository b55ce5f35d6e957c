-- What is printed of a map that is refused.
use Rattle.std.specs.Prelude.{ℕ, List, ◌++◌, codes}
use Rattle.std.specs.Fmt.{decimal}
use Rattle.schema_tree.specs.declared.schema.Target.TheVariants as Targets
use Rattle.schema_tree.specs.Targets.{target_text}
use Rattle.shape_map.specs.declared.error.MapError.{MapError}
use Rattle.shape_map.specs.declared.error.MapError.TheVariants as MapErrors

-- why a map is refused; no file is refused for want of memory, which has its name here too
abbrev pub map_text : MapError → List ℕ
map_text MapErrors.NotUtf8 = codes "NotUtf8"
map_text (MapErrors.Syntax at) = codes "Syntax(" ++ (decimal at ++ codes ")")
map_text (MapErrors.Prefix at) = codes "Prefix(" ++ (decimal at ++ codes ")")
map_text (MapErrors.Label label) = codes "Label(" ++ (target_text (Targets.Label label) ++ codes ")")
map_text MapErrors.NoStart = codes "NoStart"
map_text MapErrors.Many = codes "Many"
map_text MapErrors.Full = codes "Full"
map_text MapErrors.Memory = codes "Memory"
