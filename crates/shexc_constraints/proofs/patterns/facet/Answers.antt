use Rattle.std.proofs.Common.{◌∙◌, option_map, subst}
use Rattle.shexc_constraints.specs.Patterns.{Leads}
use Rattle.shexc_constraints.proofs.Unescaping.{leads_no_flags, leads_ok}
use Rattle.shexc_constraints.proofs.patterns.facet.Goals as goal

pub returns-in_default-flags : goal.returns-in_default-flags
returns-in_default-flags c =
    leads_no_flags c.args.characters.now c.in-Some.text.items c.in-Some.rest.now
    (subst (λ o. Leads c.args.characters.now (option_map (λ p. (p.0.items, p.1.now)) o)) c.in-Some.is c.in_ok-text.ensures) c.in_default-flags.ensures

pub returns : goal.returns
returns c =
    leads_ok c.args.characters.now c.in-Some.text.items c.in-Some.rest.now c.in-Some-flags.flags.now c.in_ok-text-2.text c.in_ok-flags.flags
    (subst (λ o. Leads c.args.characters.now (option_map (λ p. (p.0.items, p.1.now)) o)) c.in-Some.is c.in_ok-text.ensures)
    c.in-Some-flags.ensures (c.in_ok-text-2.ensures ∙ c.as_slice.ensures.value) c.in_ok-flags.ensures
