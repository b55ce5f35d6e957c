use Rattle.std.proofs.Common.{◌++◌, ◌∷◌, [], ◌∙◌, ap}
use Rattle.demand.proofs.Same.{same_pair}
use Rattle.indexmap.proofs.CallerLemmas.{insert_entry-new}
use Rattle.typing_session.specs.Kept.{kept_on}
use Rattle.typing_session.proofs.kept.Kept.keep.Goals as goal

pub returns-clause-kept : goal.returns-clause-kept
returns-clause-kept c =
    c.in_ok-insert.ensures.entries
    ∙ insert_entry-new same_pair c.self.inside.verdicts c.args.pair c.args.verdict (ap (λ es. kept_on es c.args.pair) c.self.view_is ∙ c.requires)
    ∙ ap (λ es. es ++ (c.args.pair, c.args.verdict) ∷ []) c.self.view_is
