use Rattle.std.proofs.Common.{◌∙◌, ap, sym, take, Some, None, lit<}
use Rattle.std.proofs.lemmas.Str.Pattern.{rfind_char}
use Rattle.std.proofs.lemmas.Slice.{between_from_start}
use Rattle.iri_resolve.specs.Text.{slash}
use Rattle.iri_resolve.proofs.Places.{last_place}
use Rattle.iri_resolve.proofs.path.up_to_last_slash.Goals as goal

-- `rfind` answers the last place of the slash
pub returns-in-Some : goal.returns-in-Some
returns-in-Some c =
    let last = last_place slash c.args.path.now (Some c.in-Some.at) (rfind_char slash c.args.path.now (Some c.in-Some.at) c.in-Some.ensures.cases (lit< tt)) in
    c.range_inclusive.ensures.value ∙ between_from_start c.args.path.now _ ∙ ap (λ n. take n c.args.path.now) (sym last)

pub returns-in-None : goal.returns-in-None
returns-in-None c =
    let last = last_place slash c.args.path.now None (rfind_char slash c.args.path.now None c.in-None.ensures.cases (lit< tt)) in
    ap (λ n. take n c.args.path.now) (sym last)
