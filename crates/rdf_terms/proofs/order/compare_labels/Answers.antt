use Rattle.std.proofs.Common.{◌∙◌}
use Rattle.rdf_terms.proofs.Comparing.{labels_compared}
use Rattle.rdf_terms.proofs.order.compare_labels.Goals as goal

pub returns : goal.returns
returns c = c.cmp.ensures ∙ labels_compared c.args.one.now c.args.other.now _ _ c.as_str.ensures.bytes c.as_str-2.ensures.bytes
