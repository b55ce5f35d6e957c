use Rattle.std.proofs.Common.{◌≡◌, ◌∙◌, ap, sym, subst, rules}
use Rattle.iri_resolve.specs.Reference.{components_lent, components_of}
use Rattle.iri_resolve.specs.Decomposition.{IsDecomposition}
use Rattle.iri_resolve.specs.Resolution.{text_of}
use Rattle.iri_resolve.proofs.Cuts.{text_of-components_of}
use Rattle.iri_resolve.proofs.Decomposed.{decomposition}
use Rattle.iri_resolve.proofs.Unique.{components_of-unique}
use Rattle.iri_resolve.proofs.parts.split.Goals as goal

-- the parts are those of the text, and what is known of those holds of them
pub returns : goal.returns
returns c =
    let text = c.args.text.now in
    let parts : components_lent (record {
      scheme = c.cut_scheme.result.0;
      authority = c.cut_authority.result.0;
      path = c.cut_authority.result.1;
      query = c.cut-2.result.1;
      fragment = c.cut.result.1;
    }) ≡ components_of text = search rules in
    record {
      parts = parts;
      whole = ap text_of parts ∙ text_of-components_of text;
      decomposition = subst (IsDecomposition text) (sym parts) (decomposition text);
      unique = λ d h. components_of-unique text d h ∙ sym parts;
    }
