use Rattle.std.proofs.Common.{rules, ◌≡◌, ◌∙◌, ◌⊎◌, ℕ, [], inl, inr, refl, sym, subst, Contains}
use Rattle.std.specs.Prelude.{◌↔◌}
use Rattle.agenda.proofs.Bounds.{falls}
use Rattle.demand.proofs.Opened.{Found, all_found, first_found, next_found, smaller}
use Rattle.demand.specs.Links.{StandsAny}
use Rattle.demand.proofs.links.shapes_in.Goals as goal

pub loop-next-init : goal.loop-next-init
loop-next-init c =
    let put = subst (λ xs. (q : ℕ) → Contains c.put.new.self q ↔ (Contains xs q ⊎ (q ≡ c.args.expr.0))) c.new-agenda.ensures c.in_ok-put.ensures in
    let none : c.new-shapes.result.keys ≡ [] = search rules in
    subst (Found c.args.schema.now c.args.expr c.put.new.self) (sym none) (first_found c.args.schema.now c.args.expr c.put.new.self put)

pub loop-next-smaller : goal.loop-next-smaller
loop-next-smaller c =
    falls c.loop-next.agenda c.open.new.agenda c.in-Some.next ((c.in-Some.ensures.taken c.in-Some.next).1 (inr refl))
    (λ q on. elim ((c.in_ok-open.ensures.agenda q).0 on) [
      | inl m ↦ c.in-Some.ensures.greatest q m
      | inr m ↦ smaller c.args.schema.now c.requires.loaded (record { 0 = c.in-Some.next }) q m
    ])

pub loop-next-preserved : goal.loop-next-preserved
loop-next-preserved c =
    next_found c.args.schema.now c.args.expr (record { 0 = c.in-Some.next }) c.loop-next.agenda c.take_greatest.new.self c.open.new.agenda c.loop-next.shapes.keys c.open.new.shapes.keys
    c.loop-next.invariant c.in-Some.ensures.taken c.in_ok-open.ensures.agenda c.in_ok-open.ensures.shapes

pub returns : goal.returns
returns c = λ i.
    let made : c.in_ok-list.list.items ≡ c.loop-next.shapes.keys = search rules in
    subst (λ xs. Contains xs i ↔ StandsAny c.args.schema.now i c.args.expr) (sym (c.of.ensures ∙ made))
    (all_found c.args.schema.now c.args.expr c.loop-next.agenda c.loop-next.shapes.keys (c.in_default.ensures.none refl) c.loop-next.invariant i)
