use Rattle.schema_reader.proofs.Answered.{one_more, one_more_schemed}
use Rattle.schema_reader.proofs.reader.resolve_imports.Goals as goal

pub loop-reference-preserved : goal.loop-reference-preserved
loop-reference-preserved c = record {
  iris = one_more c.args.base.now c.args.references.now c.loop-reference.iris.items c.push.new.self.items c.loop-reference.reference-index c.reference-item.result
      c.in_ok-resolve_import.field-0 c.loop-reference-test.true c.reference-item.is c.in_ok-resolve_import.ensures.iri c.in_ok-push.ensures.items c.loop-reference.invariant.iris;
  schemes = one_more_schemed c.loop-reference.iris.items c.push.new.self.items c.in_ok-resolve_import.field-0 c.in_ok-resolve_import.ensures.scheme c.in_ok-push.ensures.items c.loop-reference.invariant.schemes;
}
