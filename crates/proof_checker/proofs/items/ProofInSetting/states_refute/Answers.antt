use Rattle.std.specs.Prelude.{IsTrue, ◌↔◌}
use Rattle.std.proofs.lemmas.Result.{IfOk-weaker}
use Rattle.schema_tree.specs.declared.verdicts.Lean.TheVariants.{Possible}
use Rattle.schema_tree.specs.Places.{MayFail, MayHold}
use Rattle.proof_file.specs.Accepts.{AreStates, no_of, yes_of}
use Rattle.proof_checker.specs.declared.standings.Reader.TheVariants.{Refutes}
use Rattle.proof_checker.specs.Faults.{known_to, proof_in, setting}
use Rattle.proof_checker.specs.Standings.{known_from}
use Rattle.proof_checker.proofs.Alike.{states_same}
use Rattle.lists.proofs.Exactly.{in_turn}
use Rattle.proof_checker.proofs.Known.{known_is_view}
use Rattle.proof_checker.proofs.items.ProofInSetting.states_refute.Goals as goal

pub returns : goal.returns
returns c =
    let h = c.args.self.now in
    let reader = Refutes c.args.stratum c.args.rank in
    let a = known_from h.strata.now h.standings.now reader in
    let b = known_to h reader in
    let alike = known_is_view h.strata.now (yes_of (setting h) (proof_in h)) (no_of (setting h) (proof_in h)) h.standings.now c.requires.ready.standings reader in
    IfOk-weaker c.are_states.result
    (λ r. IsTrue r ↔ AreStates (MayHold h.schema.now h.terms.now a Possible) (MayFail h.schema.now h.terms.now a Possible) c.args.shape.now c.args.node c.args.triples.now c.args.states.now)
    (λ r. IsTrue r ↔ AreStates (MayHold h.schema.now h.terms.now b Possible) (MayFail h.schema.now h.terms.now b Possible) c.args.shape.now c.args.node c.args.triples.now c.args.states.now)
    (λ r same. in_turn same (states_same c.layers_are_meanings.ensures.sure_answers h.schema.now h.terms.now c.requires.ready.loaded a b alike Possible c.args.shape.now c.args.node c.args.triples.now c.args.states.now))
    c.are_states.ensures
