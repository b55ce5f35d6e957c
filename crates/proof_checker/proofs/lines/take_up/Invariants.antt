use Rattle.std.proofs.Common.{◌≡◌, ◌++◌}
use Rattle.lists.specs.Distinct.{AreDistinct}
use Rattle.proof_file.specs.Accepts.{AreNumbers}
use Rattle.proof_checker.specs.Checks.{KeepsTerms, TakesUp}
use Rattle.proof_checker.proofs.lines.take_up.Given as goal

abbrev pub invariant-loop-term : goal.invariant-loop-term
invariant-loop-term l =
    record {
      rest : l.fn.lines.items ≡ l.yielded ++ l.term-iterator.rest.items;
      numbers : AreNumbers l.terms l.yielded l.nodes.items;
      table : TakesUp l.fn.terms l.yielded l.terms;
      kept : KeepsTerms l.fn.terms l.terms;
      distinct : AreDistinct l.terms;
    }
