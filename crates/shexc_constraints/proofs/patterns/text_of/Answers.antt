use Rattle.std.proofs.Common.{rules, string_bytes}
use Rattle.shexc_constraints.proofs.Unescaping.{text_more, text_whole}
use Rattle.shexc_constraints.proofs.patterns.text_of.Goals as goal

pub loop-c-preserved : goal.loop-c-preserved
loop-c-preserved c = text_more c.args.characters.now c.loop-c.c-index _ _ (string_bytes c.loop-c.text) (string_bytes c.push.new.self) c.loop-c-test.true c.c-item.is c.loop-c.invariant (search rules)

pub returns : goal.returns
returns c = text_whole c.args.characters.now c.loop-c.c-index (string_bytes c.loop-c.text) _ c.requires c.loop-c-test.false c.loop-c.invariant (search rules)
