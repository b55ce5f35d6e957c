use Rattle.std.proofs.Common.{subst}
use Rattle.std.specs.Prelude.{IsTrue, ◌↔◌}
use Rattle.std.proofs.lemmas.Result.{IfOk-weaker}
use Rattle.schema_tree.specs.declared.verdicts.Lean.TheVariants.{Impossible}
use Rattle.schema_tree.specs.Places.{AreAllowed, MayFail, MayHold}
use Rattle.proof_file.specs.Accepts.{PassesPlus, no_of, yes_of}
use Rattle.proof_file.specs.declared.Why.TheVariants as Whys
use Rattle.proof_checker.specs.declared.standings.Reader.TheVariants.{Confirms}
use Rattle.proof_checker.specs.Faults.{known_to, proof_in, setting}
use Rattle.proof_checker.specs.Standings.{known_from}
use Rattle.proof_checker.proofs.Alike.{values_same}
use Rattle.lists.proofs.Exactly.{in_turn}
use Rattle.proof_checker.proofs.Known.{known_is_view}
use Rattle.proof_checker.proofs.items.ProofInSetting.values_fit.Goals as goal

pub returns : goal.returns
returns c =
    let h = c.args.self.now in
    let a = known_from h.strata.now h.standings.now (Confirms c.args.stratum) in
    let b = known_to h (Confirms c.args.stratum) in
    let alike = known_is_view h.strata.now (yes_of (setting h) (proof_in h)) (no_of (setting h) (proof_in h)) h.standings.now c.requires.ready.standings (Confirms c.args.stratum) in
    IfOk-weaker c.are_allowed.result
    (λ r. IsTrue r ↔ AreAllowed (MayHold h.schema.now h.terms.now a Impossible) (MayFail h.schema.now h.terms.now a Impossible) c.args.shape.now c.args.node c.args.triples.now c.args.places.now)
    (λ r. IsTrue r ↔ PassesPlus (setting h) (proof_in h) c.args.stratum c.args.node c.args.shape.now c.args.places.now Whys.Value)
    (λ r same. subst (λ ts. IsTrue r ↔ AreAllowed (MayHold h.schema.now h.terms.now b Impossible) (MayFail h.schema.now h.terms.now b Impossible) c.args.shape.now c.args.node ts c.args.places.now)
    c.requires.triples
    (in_turn same (values_same c.layers_are_meanings.ensures.sure_answers h.schema.now h.terms.now c.requires.ready.loaded a b alike Impossible c.args.shape.now c.args.node c.args.triples.now c.args.places.now)))
    c.are_allowed.ensures
