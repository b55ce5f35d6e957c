use Rattle.std.proofs.lemmas.Result.{IfOk-weaker}
use Rattle.explanations.proofs.Failing.{entry_is, pair_fails, why_and, why_not, why_or, why_shape}
use Rattle.explanations.proofs.explaining.Source.why.Goals as goal

pub returns-in-Some-And-clause-is : goal.returns-in-Some-And-clause-is
returns-in-Some-And-clause-is g c =
    let s = c.args.self.now.schema.now in
    let read = c.in-Some-And.ensures.lookup in
    let at = entry_is s _ c.args.expr c.in-Some-And.field-0.now _ c.as_slice.ensures read.0 read.1 c.in-Some-And.field-0-is in
    IfOk-weaker c.see.result _ _
    (λ w h all on. why_and s c.args.self.now.terms.now (g.V.View.known c.args.self.now.view.now) all c.args.node c.args.expr c.requires.fails _ w at (h all on))
    c.see.ensures.is

pub returns-in-Some-Or-clause-is : goal.returns-in-Some-Or-clause-is
returns-in-Some-Or-clause-is g c =
    let s = c.args.self.now.schema.now in
    let read = c.in-Some-Or.ensures.lookup in
    let at = entry_is s _ c.args.expr c.in-Some-Or.field-0.now _ c.as_slice.ensures read.0 read.1 c.in-Some-Or.field-0-is in
    IfOk-weaker c.see-in-Some-Or.result _ _
    (λ w h all on. why_or s c.args.self.now.terms.now (g.V.View.known c.args.self.now.view.now) all c.args.node c.args.expr c.requires.fails _ w at (h all on))
    c.see-in-Some-Or.ensures.is

pub returns-in-Some-Not-clause-is : goal.returns-in-Some-Not-clause-is
returns-in-Some-Not-clause-is g c =
    let s = c.args.self.now.schema.now in
    let read = c.in-Some-Not.ensures.lookup in
    let at = entry_is s _ c.args.expr c.in-Some-Not.field-0.now _ c.as_slice.ensures read.0 read.1 c.in-Some-Not.field-0-is in
    IfOk-weaker c.see-in-Some-Not.result _ _
    (λ w h all on. why_not s c.args.self.now.terms.now (g.V.View.known c.args.self.now.view.now) all c.args.node c.args.expr c.requires.fails _ w at (h all on))
    c.see-in-Some-Not.ensures.is

pub returns-in-Some-Shape-clause-numbers : goal.returns-in-Some-Shape-clause-numbers
returns-in-Some-Shape-clause-numbers g c =
    let s = c.args.self.now.schema.now in
    let terms = c.args.self.now.terms.now in
    let view = g.V.View.known c.args.self.now.view.now in
    let read = c.in-Some-Shape.ensures.lookup in
    let at = entry_is s _ c.args.expr c.in-Some-Shape.field-0.now _ c.as_slice.ensures read.0 read.1 c.in-Some-Shape.field-0-is in
    IfOk-weaker c.see-in-Some-Shape.result _ _
    (λ w h. h s terms view (pair_fails s terms view c.requires.loaded c.args.node c.args.expr _ at c.requires.fails))
    c.see-in-Some-Shape.ensures.numbers

pub returns-in-Some-Shape-clause-is : goal.returns-in-Some-Shape-clause-is
returns-in-Some-Shape-clause-is g c =
    let s = c.args.self.now.schema.now in
    let read = c.in-Some-Shape.ensures.lookup in
    let at = entry_is s _ c.args.expr c.in-Some-Shape.field-0.now _ c.as_slice.ensures read.0 read.1 c.in-Some-Shape.field-0-is in
    IfOk-weaker c.see-in-Some-Shape.result _ _
    (λ w h all on. why_shape s c.args.self.now.terms.now (g.V.View.known c.args.self.now.view.now) all c.args.node c.args.expr c.requires.fails _ w at (h all on))
    c.see-in-Some-Shape.ensures.is
