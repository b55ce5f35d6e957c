use Rattle.std.proofs.Common.{ap, encode_utf8_all, sym, ◌∙◌}
use Rattle.std.proofs.lemmas.Str.{encodes-chars}
use Rattle.std.specs.Cmp.Lexicographic.{bytes_decides}
use Rattle.std.specs.Str.{chars}
use Rattle.turtle_reader.proofs.objects.ObjectList.is_of.Goals as goal

pub returns : goal.returns
returns c =
    let same = bytes_decides c.as_str.result.now c.args.predicate.now in (
      λ h. sym c.as_str.ensures.characters ∙ ap chars (same.0 (sym c.eq.ensures ∙ h)),
      λ h. c.eq.ensures ∙ same.1 (c.as_str.ensures.bytes ∙ ap encode_utf8_all h ∙ encodes-chars c.args.predicate.now c.utf8.predicate),
    )
