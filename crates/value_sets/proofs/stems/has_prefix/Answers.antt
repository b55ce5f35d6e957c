use Rattle.std.proofs.Common.{ap, ◌∙◌, nat_eq}
use Rattle.std.proofs.lemmas.Str.Pattern.{starts_text}
use Rattle.std.specs.List.{starts_with}
use Rattle.value_sets.proofs.Prefixes.{prefix_told}
use Rattle.value_sets.proofs.stems.has_prefix.Goals as goal

pub returns : goal.returns
returns c =
    prefix_told c.args.stem.now c.args.text.now c.starts_with.result
    (starts_text c.starts_with.result c.as_str-2.result.now c.as_str.result.now c.starts_with.ensures.cases
    ∙ ap (λ z. starts_with nat_eq z c.as_str-2.result.now) c.as_str.ensures.bytes
    ∙ ap (starts_with nat_eq _) c.as_str-2.ensures.bytes)
