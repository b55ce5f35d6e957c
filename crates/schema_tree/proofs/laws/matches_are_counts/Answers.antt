use Rattle.schema_tree.specs.Satisfies.{Sat}
use Rattle.schema_tree.proofs.Copied.{dealt_from, placed_from}
use Rattle.schema_tree.proofs.laws.matches_are_counts.Goals as goal

pub returns-clause-parts_spell : goal.returns-clause-parts_spell
returns-clause-parts_spell c =
    λ s terms T occs n p k ts distinct. placed_from (Sat s terms T) occs n p distinct k ts

pub returns-clause-copies_give : goal.returns-clause-copies_give
returns-clause-copies_give c =
    λ s terms T occs n p k ts distinct sound. dealt_from (Sat s terms T) occs n p distinct sound k ts
