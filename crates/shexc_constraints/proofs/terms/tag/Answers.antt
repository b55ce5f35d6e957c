use Rattle.std.proofs.Common.{rules, string_bytes, ap, ◌∙◌, map}
use Rattle.std.proofs.lemmas.Str.{IsUtf8-string_bytes}
use Rattle.std.specs.Char.{to_ascii_lowercase}
use Rattle.rdf_cursor.specs.Lent.{spelled}
use Rattle.shexc_constraints.proofs.Texts.{tag_is}
use Rattle.shexc_constraints.proofs.terms.tag.Goals as goal

pub returns : goal.returns
returns c = tag_is (spelled c.args.token) c.after_at.result.now (string_bytes c.make_ascii_lowercase.new.self) c.from_string.result (search rules) c.after_at.ensures c.after_at.utf8 (IsUtf8-string_bytes c.make_ascii_lowercase.new.self)
    (c.make_ascii_lowercase.ensures.bytes ∙ ap (map to_ascii_lowercase) c.in_ok-lowered.ensures.ok) c.from_string.ensures
