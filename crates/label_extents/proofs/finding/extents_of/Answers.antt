use Rattle.std.proofs.Common.{◌∙◌, subst, sym}
use Rattle.schema_tree.proofs.Strata.{stratum_stratified}
use Rattle.typing_answers.proofs.Knowing.{know_alike}
use Rattle.typing_refiner.specs.Refinement.{known_by_it}
use Rattle.label_extents.specs.Extents.{AreInOrder, IsNode}
use Rattle.label_extents.proofs.Judged.{AreVerdicts}
use Rattle.label_extents.proofs.Whole.{are_members, are_of_table, are_whole, found, gives, hold_decided, verdict}
use Rattle.label_extents.proofs.finding.extents_of.Goals as goal

pub refine-requires-clause-stratified : goal.refine-requires-clause-stratified
refine-requires-clause-stratified c = stratum_stratified c.args.schema.now c.args.strata.now c.requires.strata

pub returns-clause-found : goal.returns-clause-found
returns-clause-found c =
    let s = c.args.schema.now in
    let terms = c.args.terms.now in
    let g = c.args.graph.now.triples in
    let nodes = c.as_slice-nodes.result.now in
    let view = known_by_it c.in_ok-refined.refined in
    let (known, refined, same) = c.in_ok-refined.ensures.verdicts in
    let ordered : AreInOrder terms (IsNode g) nodes = subst (AreInOrder terms (IsNode g)) (sym c.as_slice-nodes.ensures.value) c.in_ok-ordered.ensures in
    let are : AreVerdicts s terms g c.args.strata.now c.in_ok-pairs.pairs c.args.budget known view = record {
      loaded = c.requires.loaded;
      strata = c.requires.strata;
      needs = c.in_ok-pairs.ensures.closed;
      refined = refined;
      alike = know_alike view known same;
    } in
    let law = c.sure_answers_are_true.ensures in
    let some = c.verdict_is_one.ensures.some in
    let one = c.verdict_is_one.ensures.one in
    let by = verdict s terms g c.args.strata.now c.in_ok-pairs.pairs c.args.budget known view nodes law some one are ordered c.in_ok-pairs.ensures.demanded in
    let told = gives s terms g c.args.strata.now c.in_ok-pairs.pairs c.args.budget known view nodes law some one are ordered c.in_ok-pairs.ensures.demanded in
    found s terms g c.args.strata.now c.in_ok-pairs.pairs c.args.budget known view nodes law some one are ordered c.in_ok-pairs.ensures.demanded
    (record { members = c.of.result; undecided = c.in_ok-found.found.undecided; wide = c.of-2.result })
    (c.of.ensures ∙ c.in_ok-found.ensures.members by told) (c.in_ok-found.ensures.undecided by told)
    (λ width widths. c.of-2.ensures ∙ c.in_ok-wide.ensures ∙ c.in_ok-refined.ensures.wide width widths)

pub returns-clause-members : goal.returns-clause-members
returns-clause-members c = are_members c.args.schema.now c.args.terms.now c.args.graph.now.triples c.args.strata.now c.args.budget _ (returns-clause-found c)

pub returns-clause-decided : goal.returns-clause-decided
returns-clause-decided c = hold_decided c.args.schema.now c.args.terms.now c.args.graph.now.triples c.args.strata.now c.args.budget _ (returns-clause-found c)

pub returns-clause-whole : goal.returns-clause-whole
returns-clause-whole c = are_whole c.args.schema.now c.args.terms.now c.args.graph.now.triples c.args.strata.now c.args.budget _ (returns-clause-found c)

pub returns-clause-of_table : goal.returns-clause-of_table
returns-clause-of_table c = are_of_table c.args.schema.now c.args.terms.now c.args.graph.now.triples c.args.strata.now c.args.budget _ (returns-clause-found c)
