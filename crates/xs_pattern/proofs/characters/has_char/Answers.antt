use Rattle.std.proofs.Common.{sym}
use Rattle.std.proofs.lemmas.Bool.{ltb-true}
use Rattle.xs_pattern.proofs.Stepped.{set_at}
use Rattle.xs_pattern.proofs.characters.has_char.Goals as goal

pub returns-in-Some : goal.returns-in-Some
returns-in-Some c =
    set_at c.args.flags c.args.c c.args.sets.now c.args.number c.in-Some.set.now c.args.alike.now c.has.result c.requires
    (ltb-true _ _ (sym c.in-Some.ensures.lookup.0)) c.in-Some.ensures.lookup.1 c.has.ensures
