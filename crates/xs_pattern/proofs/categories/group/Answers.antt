use Rattle.std.proofs.Common.{◌≡◌, ◌∙◌, nat_eq, option_map, rules}
use Rattle.std.specs.List.{find}
use Rattle.xs_pattern.specs.declared.categories.TheConstants.{GROUPS}
use Rattle.xs_pattern.specs.declared.expression.Kind.TheVariants as Kinds
use Rattle.xs_pattern.proofs.Named.{group_named, group_of}
use Rattle.xs_pattern.proofs.categories.group.Goals as goal

pub returns : goal.returns
returns c =
    let kind : c.map.result ≡ option_map Kinds.Group c.listed_group.result = search rules in
    kind ∙ (group_of c.listed_group.result (find (λ e. nat_eq e.0 c.args.letter) GROUPS) c.listed_group.ensures ∙ group_named c.args.letter)
