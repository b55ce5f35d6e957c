use Rattle.std.proofs.Common.{◌≡◌, ◌++◌, drop, map}
use Rattle.nonconformance.specs.declared.cause.Cause.TheVariants.{Member}
use Rattle.nonconformance.proofs.causes.as_members.Given as goal

abbrev pub invariant-loop-member : goal.invariant-loop-member
invariant-loop-member l = l.causes.items ++ map Member (drop l.member-index l.members) ≡ map Member l.members
