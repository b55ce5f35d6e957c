use Rattle.xs_pattern.proofs.Ascii.{ascii_added}
use Rattle.xs_pattern.proofs.characters.add_ascii_others.Goals as goal

pub returns : goal.returns
returns c =
    ascii_added c.add_some-2.result c.args.alike.now.items c.add_some.new.alike.items c.add_some-2.new.alike.items c.args.c _ _
    c.requires c.other_case.ensures c.beyond_ascii.ensures c.in_ok-add_some.ensures c.add_some-2.ensures
