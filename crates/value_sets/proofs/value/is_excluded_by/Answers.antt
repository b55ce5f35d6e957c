use Rattle.std.proofs.Common.{IsTrue, ◌↔◌, subst, sym}
use Rattle.value_sets.specs.Matching.{HasStem}
use Rattle.value_sets.specs.Values.{IsExcludedBy}
use Rattle.value_sets.specs.declared.value.Except.{Except}
use Rattle.value_sets.proofs.Deciding.{same_told}
use Rattle.value_sets.proofs.value.is_excluded_by.Goals as goal

pub returns-in-Exact : goal.returns-in-Exact
returns-in-Exact c =
    subst (λ (e : Except). IsTrue c.eq.result ↔ IsExcludedBy (HasStem c.args.matching) e c.args.text.now) (sym c.in-Exact.is)
    (same_told c.args.text.now c.in-Exact.exact c.eq.result c.eq.ensures)
