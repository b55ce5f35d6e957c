use Rattle.std.proofs.Common.{ap, sym, ◌∙◌}
use Rattle.std.specs.Option.{option_copied}
use Rattle.std.specs.Str.{chars}
use Rattle.node_constraint.specs.Facets.{text_of}
use Rattle.node_constraint.proofs.Failing.{of_term}
use Rattle.node_constraint.proofs.part.failing_facet.Goals as goal

pub returns-in-Iri : goal.returns-in-Iri
returns-in-Iri c =
    of_term c.args.facets.now c.args.term.now (chars c.as_str.result.now) (option_copied c.decimal_of-decimal.result) c.failing_facet_for.result
    (c.as_str.ensures.characters ∙ ap text_of (sym c.in-Iri.is)) c.decimal_of-decimal.ensures.value c.failing_facet_for.ensures

pub returns-in-Lit : goal.returns-in-Lit
returns-in-Lit c =
    of_term c.args.facets.now c.args.term.now (chars c.as_str-in-Lit.result.now) (option_copied c.decimal_of-decimal.result) c.failing_facet_for-in-Lit.result
    (c.as_str-in-Lit.ensures.characters ∙ c.lex.ensures ∙ ap text_of (sym c.in-Lit.is)) c.decimal_of-decimal.ensures.value c.failing_facet_for-in-Lit.ensures

pub returns-in_ok-printed-in-Blank : goal.returns-in_ok-printed-in-Blank
returns-in_ok-printed-in-Blank c =
    of_term c.args.facets.now c.args.term.now (chars c.as_str-in-Blank.result.now) (option_copied c.decimal_of-decimal.result) c.failing_facet_for-in-Blank.result
    (ap chars (c.as_str-in-Blank.ensures.value ∙ c.in_ok-printed-in-Blank.ensures) ∙ ap text_of (sym c.in-Blank.is)) c.decimal_of-decimal.ensures.value c.failing_facet_for-in-Blank.ensures
