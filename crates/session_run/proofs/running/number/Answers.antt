use Rattle.std.proofs.Common.{◌≤◌, Err, ap, length, refl, subst}
use Rattle.std.proofs.lemmas.Result.{err_from_is_err_and}
use Rattle.rdf_terms.specs.Tables.{max_terms}
use Rattle.session_run.proofs.Ran.{put_fills}
use Rattle.session_run.proofs.running.number.Goals as goal

pub returns-in_err-id-clause-stops : goal.returns-in_err-id-clause-stops
returns-in_err-id-clause-stops c =
    let p = err_from_is_err_and c.from_residual.result c.from_residual.ensures.1 in
    rw (p.1, p.2) (put_fills c.args.session.now.terms c.args.term c.in_err-id.field-0.0 _ (λ e. c.in_err-id.ensures.full.0 (ap (λ z. Err z) e)) refl)

pub returns-clause-few : goal.returns-clause-few
returns-clause-few c = subst (λ ts. length ts ≤ max_terms) c.terms.ensures (subst (λ k. k ≤ max_terms) c.len-count.ensures.count c.len-count.ensures.few)
