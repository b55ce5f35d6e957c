use Rattle.library_tests.proofs.AskedTwice.{kept_then, terms_asked}
use Rattle.library_tests.proofs.sessions.asked_twice.Goals as goal

pub asked_again-requires-clause-kept : goal.asked_again-requires-clause-kept
asked_again-requires-clause-kept g c =
    kept_then c.args.node c.args.expr c.args.session.now c.ask.new.self c.ask.ensures.alone c.in_ok-first.ensures.keeps
