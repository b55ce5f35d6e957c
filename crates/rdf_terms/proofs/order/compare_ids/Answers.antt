use Rattle.std.proofs.Common.{◌≡◌, ap, sym, ◌∙◌}
use Rattle.rdf_terms.specs.Order.{compare_at}
use Rattle.rdf_terms.proofs.Orders.{id_itself}
use Rattle.rdf_terms.proofs.order.compare_ids.Goals as goal

pub returns-then-a-b : goal.returns-then-a-b
returns-then-a-b c =
    let same : c.args.a ≡ c.args.b = λ i. record { 0 = c.if-a-b.true i } in
    sym (id_itself c.args.terms.now c.args.a) ∙ ap (compare_at c.args.terms.now c.args.a) same
