use Rattle.std.proofs.Common.{rules, subst, sym}
use Rattle.lists.proofs.Halving.{halves}
use Rattle.shard_checks.proofs.Gathered.{has_line, tells}
use Rattle.shard_checks.specs.Sets.{Knows}
use Rattle.shard_checks.proofs.line_set.LineSet.has.Goals as goal

pub returns : goal.returns
returns c = λ lines knows.
    let found = c.as_slice-lines.result.now in
    let line = c.args.line.now in
    has_line line found c.binary_search_by.result c.is_ok.result lines (subst (λ xs. Knows xs lines) (sym c.as_slice-lines.ensures.value) knows) c.binary_search_by.ensures.bound
    (halves (tells line) found c.binary_search_by.result c.binary_search_by.ensures.position (λ a r q k. search rules)) c.is_ok.ensures.value
