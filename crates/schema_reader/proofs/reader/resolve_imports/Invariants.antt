use Rattle.std.proofs.Common.{◌≡◌, All, map, take}
use Rattle.shexc_reader.specs.Laws.{HasScheme}
use Rattle.schema_reader.specs.Documents.{resolved_import}
use Rattle.schema_reader.proofs.reader.resolve_imports.Given as goal

abbrev pub invariant-loop-reference : goal.invariant-loop-reference
invariant-loop-reference l = record {
  iris : l.iris.items ≡ map (resolved_import l.base) (take l.reference-index l.references);
  schemes : All HasScheme l.iris.items;
}
