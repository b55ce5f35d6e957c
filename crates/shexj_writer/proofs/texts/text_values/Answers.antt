use Rattle.std.proofs.Common.{◌∙◌, arith}
use Rattle.shexj_writer.specs.Texts.{text_data}
use Rattle.shexj_writer.proofs.Lists.{all_written, texts_are}
use Rattle.shexj_writer.proofs.texts.text_values.Goals as goal

pub returns-clause-values : goal.returns-clause-values
returns-clause-values c =
    all_written text_data c.args.texts.now c.loop-text.all.items c.loop-text.text-index (omega arith) c.loop-text.invariant.0 ∙ texts_are c.args.texts.now
