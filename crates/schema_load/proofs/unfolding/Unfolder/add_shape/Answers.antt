use Rattle.std.proofs.Common.{◌≡◌, ◌++◌, ◌∷◌, [], rules, subst}
use Rattle.std.proofs.lemmas.Option.{slice_get-get_or}
use Rattle.schema_load.specs.declared.part.Part.TheVariants as Parts
use Rattle.schema_load.specs.Building.{number_in}
use Rattle.schema_load.specs.Parts.{IsAt}
use Rattle.schema_load.proofs.Shaped.{adds_shape, extra_there, no_shape, shape_at}
use Rattle.schema_load.proofs.unfolding.Unfolder.add_shape.Goals as goal

pub shape-requires-clause-extra : goal.shape-requires-clause-extra
shape-requires-clause-extra c =
    let at = subst (λ x. IsAt c.args.self.now.parts.now c.args.place x) c.in-Shape.is (slice_get-get_or c.args.self.now.parts.now c.args.place _ c.requires.inside) in
    extra_there c.args.self.now.parts.now c.args.self.now.terms.now c.args.place c.in-Shape.shape c.requires.ready.predicates at

pub returns-in_ok-push-in-Shape : goal.returns-in_ok-push-in-Shape
returns-in_ok-push-in-Shape c =
    let at = subst (λ x. IsAt c.args.self.now.parts.now c.args.place x) c.in-Shape.is (slice_get-get_or c.args.self.now.parts.now c.args.place _ c.requires.inside) in
    let pushed : c.push.new.self.items ≡ c.args.shapes.now.items ++ c.in_ok-shape-in-Shape.field-0 ∷ [] = search rules in
    adds_shape c.args.self.now.terms.now c.args.self.now.parts.now (number_in c.args.self.now.numbers.now) c.args.place (Parts.Shape c.in-Shape.shape) c.args.shapes.now.items c.push.new.self.items at
    (c.in_ok-shape-in-Shape.field-0, shape_at c.args.self.now.terms.now c.args.self.now.parts.now (number_in c.args.self.now.numbers.now) c.args.place c.in-Shape.shape c.in_ok-shape-in-Shape.field-0 at c.in_ok-shape-in-Shape.ensures, pushed)

pub returns-in_default : goal.returns-in_default
returns-in_default c =
    adds_shape c.args.self.now.terms.now c.args.self.now.parts.now (number_in c.args.self.now.numbers.now) c.args.place _ c.args.shapes.now.items c.args.shapes.now.items
    (slice_get-get_or c.args.self.now.parts.now c.args.place _ c.requires.inside)
    (no_shape c.args.self.now.terms.now c.args.self.now.parts.now (number_in c.args.self.now.numbers.now) c.args.place _ c.args.shapes.now.items c.in_default.not-Shape)
