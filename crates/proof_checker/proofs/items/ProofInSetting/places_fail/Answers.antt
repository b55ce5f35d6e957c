use Rattle.std.proofs.Common.{arith, rules}
use Rattle.schema_tree.specs.declared.verdicts.Lean.TheVariants.{Impossible}
use Rattle.schema_tree.specs.Places.{MayFail, MayHold}
use Rattle.schema_tree.specs.Relevant.{relevant_in_order}
use Rattle.proof_file.specs.Accepts.{no_of, yes_of}
use Rattle.proof_file.specs.Views.{plus_view}
use Rattle.bag_match.proofs.Allowed.{as_many}
use Rattle.bag_match.proofs.Neighbours.{relevant_few}
use Rattle.proof_checker.specs.Faults.{proof_in, setting}
use Rattle.proof_checker.proofs.Formed.{counts_found}
use Rattle.proof_checker.proofs.items.ProofInSetting.places_fail.Goals as goal

pub have_counts-requires-clause-few : goal.have_counts-requires-clause-few
have_counts-requires-clause-few c =
    let h = c.args.self.now in
    let view = plus_view h.strata.now (yes_of (setting h) (proof_in h)) (no_of (setting h) (proof_in h)) c.args.stratum in
    let many = as_many (MayHold h.schema.now h.terms.now view Impossible) (MayFail h.schema.now h.terms.now view Impossible) c.args.shape.now c.args.node
    (relevant_in_order h.terms.now h.graph.now.triples c.args.shape.now c.args.node) c.args.places.now (c.in_ok-values_fit.ensures.0 c.if-not-branch.false) in
    let few = relevant_few h.terms.now h.graph.now.triples c.args.shape.now c.args.node in
    omega (arith, many, few, c.requires.ready.few)

pub returns : goal.returns
returns c =
    let h = c.args.self.now in
    counts_found (setting h) (proof_in h) c.args.stratum c.args.node c.args.shape.now c.args.places.now c.in_ok-counts.counts c.then_some.result c.then_some.ensures
    (search rules) (c.in_ok-values_fit.ensures.0 c.if-not-branch.false) c.in_ok-counts.ensures
