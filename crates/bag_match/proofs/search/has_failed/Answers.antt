use Rattle.std.proofs.Common.{rules}
use Rattle.bag_match.proofs.Failing.{got_read, has_failed_is}
use Rattle.bag_match.proofs.search.has_failed.Goals as goal

pub returns-in-Some : goal.returns-in-Some
returns-in-Some c so =
    has_failed_is c.args.failed.now c.args.left c.in-Some.found.now c.args.counts.now
    (got_read c.args.failed.now c.args.left c.in-Some.found.now c.in-Some.ensures.lookup.0 c.in-Some.ensures.lookup.1) (search rules)
