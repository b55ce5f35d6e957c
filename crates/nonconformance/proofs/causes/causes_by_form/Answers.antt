use Rattle.std.proofs.Common.{◌≡◌, ◌∙◌}
use Rattle.std.proofs.lemmas.Result.{IfOk-weaker}
use Rattle.nonconformance.proofs.Causing.{and_causes, entry_is, entry_none, none_causes, not_causes, or_causes, part_causes_are, shape_causes}
use Rattle.nonconformance.proofs.causes.causes_by_form.Goals as goal

pub returns-in_ok-found-in-Some-And : goal.returns-in_ok-found-in-Some-And
returns-in_ok-found-in-Some-And g c =
    let read = c.in-Some-And.ensures.lookup in
    let at = entry_is c.args.schema.now _ c.args.expr c.in-Some-And.field-0.now _ c.as_slice.ensures read.0 read.1 c.in-Some-And.field-0-is in
    IfOk-weaker c.as_members.result _ _
    (λ v same. and_causes c.layers_are_meanings.ensures.sure_layer c.args.schema.now c.args.terms.now (g.V.View.known c.args.view.now) c.args.node c.args.expr c.requires.loaded
    c.requires.fails
    _ c.as_slice-in-Some-And.result.now c.in_ok-found-in-Some-And.found.items c.as_slice-in-Some-And-2.result.now v.items at
    c.as_slice-in-Some-And.ensures c.in_ok-found-in-Some-And.ensures c.as_slice-in-Some-And-2.ensures.value same)
    c.as_members.ensures

pub returns-in_ok-all-in-Some-Or : goal.returns-in_ok-all-in-Some-Or
returns-in_ok-all-in-Some-Or g c =
    let read = c.in-Some-Or.ensures.lookup in
    let at = entry_is c.args.schema.now _ c.args.expr c.in-Some-Or.field-0.now _ c.as_slice.ensures read.0 read.1 c.in-Some-Or.field-0-is in
    let same : c.in_ok-all-in-Some-Or.all.items ≡ c.as_slice-in-Some-Or.result.now = c.in_ok-all-in-Some-Or.ensures.items_if_clones_equal (λ x y e. e) in
    IfOk-weaker c.sole.result _ _
    (λ v is. or_causes c.layers_are_meanings.ensures.sure_layer c.args.schema.now c.args.terms.now (g.V.View.known c.args.view.now) c.args.node c.args.expr c.requires.loaded
    c.requires.fails
    _ c.of.result v.items at (c.of.ensures ∙ same ∙ c.as_slice-in-Some-Or.ensures) is)
    c.sole.ensures

pub returns-in-Some-Not : goal.returns-in-Some-Not
returns-in-Some-Not g c =
    let read = c.in-Some-Not.ensures.lookup in
    let at = entry_is c.args.schema.now _ c.args.expr c.in-Some-Not.field-0.now _ c.as_slice.ensures read.0 read.1 c.in-Some-Not.field-0-is in
    IfOk-weaker c.sole-in-Some-Not.result _ _
    (λ v is. not_causes c.layers_are_meanings.ensures.sure_layer c.args.schema.now c.args.terms.now (g.V.View.known c.args.view.now) c.args.node c.args.expr c.requires.loaded
    c.requires.fails
    _ v.items at is)
    c.sole-in-Some-Not.ensures

pub returns-in_ok-part-in-Some-Node : goal.returns-in_ok-part-in-Some-Node
returns-in_ok-part-in-Some-Node g c =
    let read = c.in-Some-Node.ensures.lookup in
    let at = entry_is c.args.schema.now _ c.args.expr c.in-Some-Node.field-0.now _ c.as_slice.ensures read.0 read.1 c.in-Some-Node.field-0-is in
    IfOk-weaker c.as_causes.result _ _
    (λ v is. part_causes_are c.layers_are_meanings.ensures.sure_layer c.args.schema.now c.args.terms.now (g.V.View.known c.args.view.now) c.args.node c.args.expr c.requires.loaded
    c.requires.fails
    _ c.in_ok-part-in-Some-Node.part v.items at c.in_ok-part-in-Some-Node.ensures.none c.in_ok-part-in-Some-Node.ensures.first is)
    c.as_causes.ensures

pub returns-in-Some-Shape : goal.returns-in-Some-Shape
returns-in-Some-Shape g c =
    let read = c.in-Some-Shape.ensures.lookup in
    let at = entry_is c.args.schema.now _ c.args.expr c.in-Some-Shape.field-0.now _ c.as_slice.ensures read.0 read.1 c.in-Some-Shape.field-0-is in
    IfOk-weaker c.sole-in-Some-Shape.result _ _
    (λ v is. shape_causes c.layers_are_meanings.ensures.sure_layer c.args.schema.now c.args.terms.now (g.V.View.known c.args.view.now) c.args.node c.args.expr c.requires.loaded
    c.requires.fails
    _ v.items at is)
    c.sole-in-Some-Shape.ensures

pub returns-in-None : goal.returns-in-None
returns-in-None g c =
    none_causes c.layers_are_meanings.ensures.sure_layer c.args.schema.now c.args.terms.now (g.V.View.known c.args.view.now) c.args.node c.args.expr c.requires.loaded
    c.requires.fails
    c.new.result.items (entry_none c.args.schema.now _ c.args.expr c.as_slice.ensures c.in-None.ensures.lookup.0) c.new.ensures.items
