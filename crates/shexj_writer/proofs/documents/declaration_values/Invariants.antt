use Rattle.std.proofs.Common.{◌≡◌, map, take}
use Rattle.std.specs.List.{AllByRecursion}
use Rattle.serde_json.specs.View.{view}
use Rattle.shexj_writer.proofs.Lists.{IsHeldDecl, decl_data}
use Rattle.shexj_writer.proofs.documents.declaration_values.Given as goal

abbrev pub invariant-loop-decl : goal.invariant-loop-decl
invariant-loop-decl l =
    (map view l.all.items ≡ map decl_data (take l.decl-index l.decls)) × AllByRecursion IsHeldDecl (take l.decl-index l.decls)
