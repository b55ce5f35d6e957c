use Rattle.std.proofs.Common.{◌≤◌, ◌++◌, ◌∙◌, ap, subst, sym}
use Rattle.std.proofs.lemmas.Result.{err_from_is_err_and}
use Rattle.std.specs.Prelude.{All, Contains}
use Rattle.graph_index.specs.Laws.{IsOfTable}
use Rattle.rdf_terms.specs.Tables.{max_terms}
use Rattle.proof_checker.specs.Checks.{FailsAs, IsAcceptedFor, IsTrueAs}
use Rattle.shape_map.specs.Results.{result_text}
use Rattle.shex_inputs.specs.Held.{Held, held_by}
use Rattle.shex_run.specs.Checking.{ConfirmStops}
use Rattle.shex_run.specs.Proofs.{Accepted}
use Rattle.shex_run.proofs.Confirmed.{is_true, stops}
use Rattle.shex_run.proofs.Settled.{answers_there}
use Rattle.schema_tree.proofs.Strata.{stratified_no_cycle, stratum_stratified}
use Rattle.shex_run.proofs.checking.confirm.Goals as goal

pub check-checked-requires-clause-stratified : goal.check-checked-requires-clause-stratified
check-checked-requires-clause-stratified c =
    stratified_no_cycle c.args.holding.now.schema c.args.holding.now.strata (stratum_stratified c.args.holding.now.schema c.args.holding.now.strata c.requires.strata)

pub check-checked-requires-clause-numbers : goal.check-checked-requires-clause-numbers
check-checked-requires-clause-numbers c = subst (All (IsOfTable c.args.holding.now.terms)) (sym c.seal.ensures.same) c.requires.of_table

pub write_result-requires : goal.write_result-requires
write_result-requires c = λ a h.
    let found = c.in-Ok.ensures.accepted.found in
    answers_there c.check-checked.new.terms found.proof.nodes found.nodes found.proof.claims c.in-Ok.claims found.read.numbers found.claims a
    (subst (λ xs. Contains xs a) c.list.ensures h)

pub returns-in-Ok-write_result-clause-confirmed : goal.returns-in-Ok-write_result-clause-confirmed
returns-in-Ok-write_result-clause-confirmed c =
    let terms = c.check-checked.new.terms in
    let held : Held = held_by c.args.holding.now c.args.digests.now in
    let accepted : Accepted held c.args.proof.now terms c.in-Ok.claims = record {
      found = subst (λ ts. IsAcceptedFor held.schema held.files held.terms terms ts c.args.proof.now c.in-Ok.claims) c.seal.ensures.same c.in-Ok.ensures.accepted;
      few = subst (λ k. k ≤ max_terms) c.len-count.ensures.count c.len-count.ensures.few;
    } in
    let sound : IsTrueAs held.schema held.terms terms held.graph c.args.proof.now c.in-Ok.claims =
    subst (λ ts. IsTrueAs held.schema held.terms terms ts c.args.proof.now c.in-Ok.claims) c.seal.ensures.same c.in-Ok.ensures.sound in
    record {
      terms = terms;
      answers = c.in-Ok.claims;
      accepted = accepted;
      truth = is_true held c.requires.loaded c.requires.strata c.requires.distinct c.typing_is_one.ensures.exists c.args.proof.now terms c.in-Ok.claims sound accepted;
      text_is = c.in-Ok-write_result.ensures.written ∙ ap (λ zs. zs ++ result_text terms c.list.result.now) c.new-text.ensures.items ∙ ap (λ xs. result_text terms xs) c.list.ensures;
    }

pub returns-in-Err-clause-stops : goal.returns-in-Err-clause-stops
returns-in-Err-clause-stops c =
    let terms = c.check-checked.new.terms in
    let held : Held = held_by c.args.holding.now c.args.digests.now in
    let fails : FailsAs held.schema held.files held.terms terms held.graph c.args.proof.now c.in-Err.error =
    subst (λ ts. FailsAs held.schema held.files held.terms terms ts c.args.proof.now c.in-Err.error) c.seal.ensures.same c.in-Err.ensures.fails in
    subst (λ s. ConfirmStops held c.args.proof.now s) (sym c.check_stop.ensures)
    (stops held terms c.args.proof.now c.in-Err.error (subst (λ k. k ≤ max_terms) c.len-count.ensures.count c.len-count.ensures.few) fails)

pub returns-in_err-seal-clause-stops : goal.returns-in_err-seal-clause-stops
returns-in_err-seal-clause-stops c =
    let p = err_from_is_err_and c.from_residual.result c.from_residual.ensures.1 in
    rw (p.1, p.2) tt
