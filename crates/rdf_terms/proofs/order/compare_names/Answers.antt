use Rattle.std.proofs.Common.{ap, sym, ◌∙◌}
use Rattle.std.proofs.lemmas.Cmp.{nat_list_cmp_total}
use Rattle.std.specs.Cmp.Lexicographic.{slice_cmp}
use Rattle.std.specs.Ordering.{nat_cmp, ordering_reverse}
use Rattle.rdf_terms.specs.Written.{printed_name}
use Rattle.rdf_terms.specs.declared.terms.Name.TheVariants.{Fresh, Label}
use Rattle.rdf_terms.proofs.order.compare_names.Goals as goal

pub returns-in-Fresh-Label : goal.returns-in-Fresh-Label
returns-in-Fresh-Label c =
    c.reverse.ensures
    ∙ ap ordering_reverse c.compare_to_anonymous-in-Fresh-Label.ensures
    ∙ sym (nat_list_cmp_total.antisymm (printed_name (Fresh c.get-in-Fresh-Label.result)) (printed_name (Label c.in-Fresh-Label.other)))
    ∙ (λ i. slice_cmp nat_cmp (printed_name ((ap (λ n. Fresh n) c.get-in-Fresh-Label.ensures.value ∙ sym c.in-Fresh-Label.is-0) i)) (printed_name (sym c.in-Fresh-Label.is-1 i)))
