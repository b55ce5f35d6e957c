use Rattle.std.proofs.Common.{◌≡◌, [], None, subst}
use Rattle.schema_tree.specs.declared.schema.Shape.{Shape}
use Rattle.lists.proofs.Members.{not_in_none}
use Rattle.library_tests.proofs.CheckedSchemas.{more_hold, all_hold, none_there}
use Rattle.lists.proofs.Members.{no_items}
use Rattle.library_tests.proofs.verdicts.are_bare.Goals as goal

pub loop-shape-init : goal.loop-shape-init
loop-shape-init c = λ sh none. absurd (not_in_none sh none)

pub loop-shape-preserved : goal.loop-shape-preserved
loop-shape-preserved c =
    let Bare : Shape → Type 0 = λ sh. (sh.occs ≡ []) × (sh.body ≡ None) in
    more_hold Bare c.args.shapes.now c.loop-shape.shape-index c.shape-item.result c.loop-shape-test.true c.loop-shape.invariant
    (subst Bare c.shape-item.is
    (no_items c.as_slice.result.now _ c.as_slice.ensures c.if-not-is_empty.ensures, none_there _ c.if-is_some.ensures))

pub returns : goal.returns
returns c seen = all_hold (λ (sh : Shape). (sh.occs ≡ []) × (sh.body ≡ None)) c.args.shapes.now c.loop-shape.shape-index c.loop-shape-test.false c.loop-shape.invariant
