use Rattle.std.proofs.Common.{◌∙◌, ap, take, drop}
use Rattle.std.proofs.lemmas.Str.Pattern.{find_char}
use Rattle.iri_resolve.proofs.Places.{first_place}
use Rattle.iri_resolve.proofs.parts.cut_before.Goals as goal

-- `find` answers the first place of the mark
pub returns-clause-front : goal.returns-clause-front
returns-clause-front c =
    let first = first_place c.args.mark c.args.text.now c.find.result (find_char c.args.mark c.args.text.now c.find.result c.find.ensures.cases c.requires) in
    c.split_at.ensures.front ∙ ap (λ n. take n c.args.text.now) (cc (first, c.unwrap_or.ensures))

pub returns-clause-rest : goal.returns-clause-rest
returns-clause-rest c =
    let first = first_place c.args.mark c.args.text.now c.find.result (find_char c.args.mark c.args.text.now c.find.result c.find.ensures.cases c.requires) in
    c.split_at.ensures.back ∙ ap (λ n. drop n c.args.text.now) (cc (first, c.unwrap_or.ensures))
