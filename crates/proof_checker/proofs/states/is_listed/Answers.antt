use Rattle.std.proofs.Common.{rules, Ok, Err}
use Rattle.std.specs.Prelude.{Contains}
use Rattle.lists.proofs.Tests.{holds_so, neither}
use Rattle.bag_match.specs.Counts.{state_of}
use Rattle.proof_checker.specs.Stated.{compare_states}
use Rattle.lists.proofs.Halving.{halves}
use Rattle.proof_checker.proofs.Halved.{listed, missed}
use Rattle.proof_checker.proofs.states.is_listed.Goals as goal

pub returns-in-Ok : goal.returns-in-Ok
returns-in-Ok c =
    holds_so (Contains c.args.states.now (state_of c.args.done c.args.counts.now))
    (listed c.args.states.now (state_of c.args.done c.args.counts.now) c.in-Ok.field-0 c.in-Ok.ensures.bound
    (halves (λ r. compare_states r (state_of c.args.done c.args.counts.now)) c.args.states.now (Ok c.in-Ok.field-0) c.in-Ok.ensures.position (λ a r q k. search rules)))

pub returns-in-Err : goal.returns-in-Err
returns-in-Err c =
    neither (Contains c.args.states.now (state_of c.args.done c.args.counts.now))
    (missed c.args.states.now (state_of c.args.done c.args.counts.now) c.in-Err.field-0 c.requires
    (halves (λ r. compare_states r (state_of c.args.done c.args.counts.now)) c.args.states.now (Err c.in-Err.field-0) c.in-Err.ensures.position (λ a r q k. search rules)))
