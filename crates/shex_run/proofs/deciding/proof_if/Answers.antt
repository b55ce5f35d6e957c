use Rattle.std.proofs.Common.{rules, ◌≡◌, List, subst, sym, true}
use Rattle.std.specs.Prelude.{is_some}
use Rattle.proof_file.specs.declared.Section.{Section}
use Rattle.rdf_terms.specs.declared.terms.TermId.{TermId}
use Rattle.typing_answers.specs.Proofs.{AreShownFor}
use Rattle.shex_run.proofs.deciding.proof_if.Goals as goal

pub returns-clause-proof : goal.returns-clause-proof
returns-clause-proof c = λ s g f pairs budget verdicts shown.
    let on : is_some c.args.head ≡ true = search (rules) in
    let P : List TermId → List Section → Type 0 = λ nodes sections. AreShownFor s c.args.terms.now g f pairs budget verdicts nodes sections c.args.answers.now in
    let records = c.into_records-records.result in
    c.in_ok-proof_of.ensures.proof s g f pairs budget verdicts
    (subst (λ sections. P records.nodes.items sections) (sym c.into_records-records.ensures.sections) (subst (λ nodes. P nodes c.args.refined.sections) (sym c.into_records-records.ensures.nodes) (shown on)))
