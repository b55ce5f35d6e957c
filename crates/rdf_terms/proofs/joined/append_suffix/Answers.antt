use Rattle.std.proofs.Common.{◌++◌, ap, sym, ◌∙◌}
use Rattle.std.proofs.lemmas.List.{append-nil}
use Rattle.rdf_terms.specs.Vocabulary.{xsd_string}
use Rattle.rdf_terms.specs.Texts.{same_text}
use Rattle.rdf_terms.proofs.Joining.{no_suffix}
use Rattle.rdf_terms.proofs.joined.append_suffix.Goals as goal

pub returns-in-None : goal.returns-in-None
returns-in-None c =
    let e = no_suffix c.args.literal.now (sym c.in-None.ensures) (ap (λ t. same_text t xsd_string) (sym c.datatype.ensures) ∙ sym c.is_string.ensures ∙ c.if-is_string.true) in
    sym (append-nil c.args.out.now.items) ∙ ap (λ z. c.args.out.now.items ++ z) (sym e)
