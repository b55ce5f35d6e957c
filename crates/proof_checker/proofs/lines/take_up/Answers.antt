use Rattle.std.proofs.Common.{ap, Err, Result, ◌≡◌, ◌∙◌, ◌++◌, ◌∷◌, [], subst, sym}
use Rattle.std.proofs.lemmas.Result.{err_from_is_err_and}
use Rattle.rdf_terms.specs.declared.table.PutError.{PutError}
use Rattle.rdf_terms.specs.declared.table.PutError.TheVariants.{Full}
use Rattle.proof_file.specs.Accepts.{AreNumbers}
use Rattle.proof_checker.proofs.TakenUp.{adds_keeps, cannot_take, keeps_on, numbers_push, rest_moves, rest_split, takes_push}
use Rattle.proof_checker.proofs.lines.take_up.Goals as goal

pub loop-term-preserved : goal.loop-term-preserved
loop-term-preserved c =
    let keeps = adds_keeps c.loop-term.terms c.in-Some.term c.put.new.self c.in_ok-node.ensures.added in
    record {
      rest = rest_moves c.args.lines.items c.loop-term.yielded c.loop-term.term-iterator.rest.items c.in-Some.term c.next.new.self.rest.items c.loop-term.invariant.rest c.in-Some.ensures.steps.0;
      numbers = subst (λ ns. AreNumbers c.put.new.self (c.loop-term.yielded ++ c.in-Some.term ∷ []) ns) (sym c.in-Ok-push.ensures.items)
          (numbers_push c.loop-term.terms c.put.new.self c.loop-term.yielded c.loop-term.nodes.items c.in-Some.term c.in_ok-node.node keeps c.loop-term.invariant.numbers c.in_ok-node.ensures.number);
      table = takes_push c.args.terms.now c.loop-term.yielded c.loop-term.terms c.in-Some.term c.put.new.self c.loop-term.invariant.table c.in_ok-node.ensures.added;
      kept = keeps_on c.args.terms.now c.loop-term.terms c.put.new.self c.loop-term.invariant.kept keeps;
      distinct = c.in_ok-node.ensures.distinct;
    }

same_error : {A : Type 0} (d e : PutError) → ◌≡◌ {A = Result A PutError} (Err d) (Err e) → d ≡ e
same_error d e same = cc

pub returns-in_err-node-clause-full : goal.returns-in_err-node-clause-full
returns-in_err-node-clause-full c = λ full.
    let p = err_from_is_err_and c.from_residual.result c.from_residual.ensures.1 in
    let cause = c.in_err-node.ensures.full.0 (ap (λ e. Err e) (sym p.2 ∙ same_error p.0 Full (sym p.1 ∙ full))) in
    cannot_take c.args.terms.now c.loop-term.yielded c.loop-term.terms c.next.new.self.rest.items c.args.lines.items c.in-Some.term
    c.loop-term.invariant.table c.loop-term.invariant.kept c.loop-term.invariant.distinct cause.0 cause.1
    (rest_split c.args.lines.items c.loop-term.yielded c.loop-term.term-iterator.rest.items c.in-Some.term c.next.new.self.rest.items c.loop-term.invariant.rest c.in-Some.ensures.steps.0)

pub returns-in_default-push-clause-kept : goal.returns-in_default-push-clause-kept
returns-in_default-push-clause-kept c =
    keeps_on c.args.terms.now c.loop-term.terms c.put.new.self c.loop-term.invariant.kept (adds_keeps c.loop-term.terms c.in-Some.term c.put.new.self c.in_ok-node.ensures.added)
