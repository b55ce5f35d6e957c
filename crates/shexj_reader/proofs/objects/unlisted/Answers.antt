use Rattle.std.proofs.Common.{ap, ◌∙◌, encode_utf8_all}
use Rattle.std.proofs.lemmas.Str.{encodes-chars}
use Rattle.shexj_reader.specs.Faults.{key}
use Rattle.shexj_reader.proofs.objects.unlisted.Goals as goal

pub returns-in-Ok : goal.returns-in-Ok
returns-in-Ok c = ap key (ap encode_utf8_all c.in-Ok.ensures ∙ encodes-chars c.args.name.now c.utf8.name)
