use Rattle.std.proofs.Common.{◌∙◌, ap, sym, take, string_bytes, lit<}
use Rattle.std.proofs.lemmas.Str.Pattern.{rfind_char}
use Rattle.iri_resolve.specs.Text.{slash}
use Rattle.iri_resolve.proofs.Places.{until_last_place}
use Rattle.iri_resolve.proofs.path.cut_last_segment.Goals as goal

-- `rfind` answers the last place of the slash
pub returns : goal.returns
returns c =
    let text = c.deref.result.now in
    let last = until_last_place slash text c.rfind.result (rfind_char slash text c.rfind.result c.rfind.ensures.cases (lit< tt)) in
    c.truncate.ensures.bytes
    ∙ ap (λ n. take n (string_bytes c.args.output.now)) c.unwrap_or.ensures
    ∙ rw c.deref.ensures at (sym last)
