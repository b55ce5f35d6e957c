use Rattle.std.proofs.Common.{ap, ◌∙◌, encode_utf8_all}
use Rattle.std.proofs.lemmas.Str.{encodes-chars}
use Rattle.shexj_reader.specs.Faults.{form}
use Rattle.shexj_reader.proofs.objects.bad_form.Goals as goal

pub returns-in-Ok : goal.returns-in-Ok
returns-in-Ok c = ap form (ap encode_utf8_all c.in-Ok.ensures ∙ encodes-chars c.args.key.now c.utf8.key)
