use Rattle.std.proofs.Common.{◌≡◌, drop, map}
use Rattle.schema_documents.specs.Tree.{decl_of}
use Rattle.shexj_writer.specs.Whole.{are_whole_decls}
use Rattle.shexj_writer.proofs.wholes.are_whole_decls.Given as goal

abbrev pub invariant-loop-decl : goal.invariant-loop-decl
invariant-loop-decl l = are_whole_decls (map decl_of l.decls) ≡ are_whole_decls (map decl_of (drop l.decl-index l.decls))
