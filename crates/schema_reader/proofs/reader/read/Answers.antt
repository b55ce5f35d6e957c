use Rattle.std.proofs.Common.{subst, sym}
use Rattle.std.specs.Prelude.{IfErr}
use Rattle.schema_reader.specs.Documents.{AreNone, IsSchema}
use Rattle.schema_reader.proofs.Answered.{compact_complete, compact_imports, compact_none, compact_ordered}
use Rattle.schema_reader.proofs.reader.read.Goals as goal

pub returns-in-Compact-clause-complete : goal.returns-in-Compact-clause-complete
returns-in-Compact-clause-complete c = λ r h.
    compact_complete c.args.base.now c.args.source.now c.read.result c.read.ensures.complete r (subst (λ f. IsSchema f c.args.base.now r c.args.source.now) c.in-Compact.is h)

pub returns-in-Compact-clause-none : goal.returns-in-Compact-clause-none
returns-in-Compact-clause-none c =
    subst (λ f. IfErr c.read.result (AreNone f c.args.base.now c.args.source.now)) (sym c.in-Compact.is) (compact_none c.args.base.now c.args.source.now c.read.result c.read.ensures.complete)

pub returns-in-Compact-clause-imports : goal.returns-in-Compact-clause-imports
returns-in-Compact-clause-imports c = compact_imports c.args.base.now c.args.source.now c.read.result c.imports_have_schemes.ensures c.requires c.read.ensures.found

pub returns-in-Compact-clause-ordered : goal.returns-in-Compact-clause-ordered
returns-in-Compact-clause-ordered c = compact_ordered c.args.base.now c.args.source.now c.read.result c.documents_are_ordered.ensures c.read.ensures.found
