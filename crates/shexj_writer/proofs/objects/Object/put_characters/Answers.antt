use Rattle.std.proofs.lemmas.Str.{encodes-chars, scalars-chars}
use Rattle.shexj_writer.proofs.objects.Object.put_characters.Goals as goal

pub returns-clause-put : goal.returns-clause-put
returns-clause-put c = rw (encodes-chars c.args.text.now c.utf8.text) c.put_word.ensures

pub returns-clause-scalars : goal.returns-clause-scalars
returns-clause-scalars c = scalars-chars c.args.text.now c.utf8.text
