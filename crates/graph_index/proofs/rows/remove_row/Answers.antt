use Rattle.std.proofs.Common.{IsSomeAnd, Option, subst}
use Rattle.std.proofs.lemmas.Result.{on_ok_weaker}
use Rattle.graph_index.specs.Contents.{Arrangement, IsArranged}
use Rattle.graph_index.proofs.rows.remove_row.Goals as goal

pub returns-clause-arranged : goal.returns-clause-arranged
returns-clause-arranged c =
    on_ok_weaker c.remove.result (λ step triples other p sealed.
    step triples other p (subst (λ (o : Option Arrangement). IsSomeAnd o (IsArranged c.args.terms.now triples)) c.in-Some.is sealed)) c.remove.ensures.arranged
