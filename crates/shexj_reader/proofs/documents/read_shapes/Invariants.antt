use Rattle.std.proofs.Common.{◌≤◌, map, take}
use Rattle.serde_json.specs.View.{items_view}
use Rattle.schema_documents.specs.Tree.{decl_of}
use Rattle.shexj_reader.specs.Documents.{SpellsDeclarations}
use Rattle.shexj_reader.specs.Nesting.{decls_nesting}
use Rattle.shexj_reader.proofs.documents.read_shapes.Given as goal

abbrev pub invariant-loop-item : goal.invariant-loop-item
invariant-loop-item l = record {
  spelled : SpellsDeclarations (map decl_of l.all.items) (items_view (take l.item-index l.item-items));
  within : decls_nesting (map decl_of l.all.items) ≤ 64;
}
