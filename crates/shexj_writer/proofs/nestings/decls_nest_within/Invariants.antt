use Rattle.std.proofs.Common.{◌≡◌, drop, map, nat_le}
use Rattle.schema_documents.specs.Tree.{decl_of}
use Rattle.shexj_reader.specs.Nesting.{decls_nesting}
use Rattle.shexj_writer.proofs.nestings.decls_nest_within.Given as goal

abbrev pub invariant-loop-decl : goal.invariant-loop-decl
invariant-loop-decl l = nat_le (decls_nesting (map decl_of l.decls)) l.levels ≡ nat_le (decls_nesting (map decl_of (drop l.decl-index l.decls))) l.levels
