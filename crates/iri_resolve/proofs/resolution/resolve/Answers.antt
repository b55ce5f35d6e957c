use Rattle.std.proofs.Common.{◌≡◌, ◌∙◌, ap, rules, string_bytes, IsSome}
use Rattle.std.specs.Option.{option_or}
use Rattle.iri_resolve.specs.Reference.{components_of}
use Rattle.iri_resolve.specs.Resolution.{resolved_text}
use Rattle.iri_resolve.proofs.Schemes.{scheme-resolved_text}
use Rattle.iri_resolve.proofs.resolution.resolve.Goals as goal

-- the base has a scheme here, and the text that is resolved has it too
pub returns-clause-scheme : goal.returns-clause-scheme
returns-clause-scheme c =
    let base = c.args.base.now in
    let reference = c.args.reference.now in
    let text : string_bytes c.in_ok-recompose.field-0 ≡ resolved_text base reference = search rules in
    let some : IsSome (option_or (components_of reference).scheme (components_of base).scheme) = search rules in
    ap (λ t. (components_of t).scheme) text ∙ scheme-resolved_text base reference some
