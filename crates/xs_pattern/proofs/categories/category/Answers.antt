use Rattle.std.proofs.Common.{◌≡◌, ◌∙◌, ◌&&◌, nat_eq, option_map, rules}
use Rattle.std.specs.List.{find}
use Rattle.xs_pattern.specs.declared.categories.TheConstants.{CATEGORIES}
use Rattle.xs_pattern.specs.declared.expression.Kind.TheVariants as Kinds
use Rattle.xs_pattern.proofs.Named.{category_named, category_of}
use Rattle.xs_pattern.proofs.categories.category.Goals as goal

pub returns : goal.returns
returns c =
    let kind : c.map.result ≡ option_map Kinds.Category c.listed_category.result = search rules in
    kind
    ∙ (category_of c.listed_category.result (find (λ e. nat_eq e.0 c.args.first && nat_eq e.1 c.args.second) CATEGORIES) c.listed_category.ensures
    ∙ category_named c.args.first c.args.second)
