use Rattle.std.proofs.Common.{◌≡◌, ◌++◌, ◌∷◌, [], rules, sym, subst}
use Rattle.std.specs.Prelude.{Some}
use Rattle.strata.specs.Gathers.{FromOwn, Grows}
use Rattle.strata.proofs.Grown.{grow_none}
use Rattle.strata.proofs.Opened.{own_shape}
use Rattle.strata.proofs.edges.push_own.Goals as goal

pub returns-in_ok-push-in-Shape : goal.returns-in_ok-push-in-Shape
returns-in_ok-push-in-Shape c =
    let e : c.push.new.self.items ≡ c.args.arcs.now.items ++ record { from = c.args.from; to = c.in-Shape.to; negative = c.args.negative } ∷ [] = search rules in
    subst (λ xs. Grows (FromOwn c.args.from c.args.negative (Some c.args.expr.now)) c.args.arcs.now.items xs) (sym e)
    (subst (λ x. Grows (FromOwn c.args.from c.args.negative (Some x)) c.args.arcs.now.items (c.args.arcs.now.items ++ record { from = c.args.from; to = c.in-Shape.to; negative = c.args.negative } ∷ [])) (sym c.in-Shape.is) (own_shape c.args.from c.in-Shape.to c.args.negative c.args.arcs.now.items))

pub returns-in-And : goal.returns-in-And
returns-in-And c = subst (λ x. Grows (FromOwn c.args.from c.args.negative (Some x)) c.args.arcs.now.items c.args.arcs.now.items) (sym c.in-And.is) (grow_none _ c.args.arcs.now.items (λ a h. h))

pub returns-in-Or : goal.returns-in-Or
returns-in-Or c = subst (λ x. Grows (FromOwn c.args.from c.args.negative (Some x)) c.args.arcs.now.items c.args.arcs.now.items) (sym c.in-Or.is) (grow_none _ c.args.arcs.now.items (λ a h. h))

pub returns-in-Not : goal.returns-in-Not
returns-in-Not c = subst (λ x. Grows (FromOwn c.args.from c.args.negative (Some x)) c.args.arcs.now.items c.args.arcs.now.items) (sym c.in-Not.is) (grow_none _ c.args.arcs.now.items (λ a h. h))

pub returns-in-Node : goal.returns-in-Node
returns-in-Node c = subst (λ x. Grows (FromOwn c.args.from c.args.negative (Some x)) c.args.arcs.now.items c.args.arcs.now.items) (sym c.in-Node.is) (grow_none _ c.args.arcs.now.items (λ a h. h))
