use Rattle.std.proofs.Common.{◌↔◌, ap, arith, length, subst, Contains, Err}
use Rattle.std.proofs.lemmas.Result.{err_from_is_err_and}
use Rattle.schema_tree.specs.declared.schema.Pair.{Pair}
use Rattle.demand.proofs.Reached.{passed_on}
use Rattle.typing_session.specs.Kept.{pairs_of}
use Rattle.typing_session.proofs.Walking.{met_fresh, too_many}
use Rattle.typing_session.proofs.fresh.fresh.Goals as goal

pub follow-requires-clause-apart : goal.follow-requires-clause-apart
follow-requires-clause-apart c = λ q h. ((c.in_ok-met.ensures q).0 h).1

pub returns-in_err-follow-clause-many : goal.returns-in_err-follow-clause-many
returns-in_err-follow-clause-many c = λ e.
    let p = err_from_is_err_and c.from_residual-in_err-follow.result c.from_residual-in_err-follow.ensures.1 in
    too_many c.args.schema.now c.args.graph.now.triples (pairs_of c.args.kept.now) c.args.node c.args.expr c.in_ok-met.met c.in_ok-met.ensures
    (c.in_err-follow.ensures.many (ap (λ z. Err z) (passed_on _ _ _ _ p.1 p.2 e)))

pub returns-clause-fresh : goal.returns-clause-fresh
returns-clause-fresh c =
    met_fresh c.args.schema.now c.args.terms.now c.args.graph.now.triples (pairs_of c.args.kept.now) c.args.node c.args.expr c.in_ok-met.met c.follow.new.met c.in_ok-list.list.items c.requires.closed c.in_ok-met.ensures
    c.in_ok-follow.ensures.followed c.in_ok-follow.ensures.whole c.in_ok-list.ensures.sorted
    (subst (λ xs. (q : Pair) → Contains c.in_ok-list.list.items q ↔ Contains xs q) c.as_slice.ensures c.in_ok-list.ensures.same)

pub returns-clause-few : goal.returns-clause-few
returns-clause-few c = let a = c.in_ok-list.ensures.few in let b = c.in_ok-follow.ensures.few in let e = ap length c.as_slice.ensures in omega (arith, a, b, e)
