use Rattle.std.proofs.Common.{drop, slice_index}
use Rattle.tally.specs.Plan.{plans_of}
use Rattle.tally.proofs.Members.{EachRest, OneRest}
use Rattle.tally.proofs.counting.+walk.Given as goal

abbrev pub invariant-common_interval-loop-member : goal.invariant-common_interval-loop-member
invariant-common_interval-loop-member l =
    EachRest (plans_of l.members) (plans_of (drop l.member-index l.members)) (slice_index l.low)
    (slice_index l.high) l.common

abbrev pub invariant-sum_of_intervals-loop-member : goal.invariant-sum_of_intervals-loop-member
invariant-sum_of_intervals-loop-member l =
    OneRest (plans_of l.members) (plans_of (drop l.member-index l.members)) (slice_index l.low)
    (slice_index l.high) l.sum
