use Rattle.std.proofs.Common.{rules, sym}
use Rattle.shexc_constraints.proofs.Unescaping.{comes_first, comes_on, comes_none, piece_behind}
use Rattle.shexc_constraints.proofs.patterns.read_text.Goals as goal

pub loop-rest-init : goal.loop-rest-init
loop-rest-init c = comes_first c.args.text.now _ (search rules) c.requires

pub loop-rest-preserved : goal.loop-rest-preserved
loop-rest-preserved c =
    comes_on c.args.text.now c.loop-rest.out.items c.push.new.out.items c.loop-rest.rest.now (c.in-Some.piece, c.in-Some.behind.now)
    (sym c.loop-rest-test.ensures) c.in-Some.ensures c.in_ok-push.ensures c.loop-rest.invariant

pub loop-rest-smaller : goal.loop-rest-smaller
loop-rest-smaller c = piece_behind c.loop-rest.rest.now (c.in-Some.piece, c.in-Some.behind.now) (sym c.in-Some.ensures)

pub returns-in_default : goal.returns-in_default
returns-in_default c = comes_none c.args.text.now c.loop-rest.out.items c.loop-rest.rest.now (sym c.loop-rest-test.ensures) c.in_default.ensures c.loop-rest.invariant
