use Rattle.std.proofs.Common.{ap, sym, ◌∙◌}
use Rattle.rdf_terms.specs.Vocabulary.{xsd_string}
use Rattle.rdf_terms.specs.Texts.{same_text}
use Rattle.rdf_terms.proofs.Escapes.{tagged_suffix, plain_suffix, typed_suffix}
use Rattle.rdf_terms.proofs.order.TextBytes.of.Goals as goal

pub returns-in-Some : goal.returns-in-Some
returns-in-Some c =
    let e = tagged_suffix c.args.literal.now c.in-Some.tag.now (sym c.in-Some.ensures) in
    cc

pub returns-in-None : goal.returns-in-None
returns-in-None c =
    let e = plain_suffix c.args.literal.now (sym c.in-None.ensures) (ap (λ t. same_text t xsd_string) (sym c.datatype.ensures) ∙ sym c.is_string.ensures ∙ c.if-is_string.true) in
    cc

pub returns-in-None-2 : goal.returns-in-None-2
returns-in-None-2 c =
    let e = typed_suffix c.args.literal.now (sym c.in-None.ensures) (ap (λ t. same_text t xsd_string) (sym c.datatype.ensures) ∙ sym c.is_string.ensures ∙ c.if-is_string.false) in
    cc
