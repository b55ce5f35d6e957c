use Rattle.std.proofs.Common.{subst, sym}
use Rattle.schema_tree.specs.Sure.{IsSure}
use Rattle.proof_file.specs.Accepts.{no_of, verdict_of, yes_of}
use Rattle.proof_checker.specs.declared.standings.Reader.TheVariants as Readers
use Rattle.proof_checker.specs.Faults.{known_to, proof_in, setting}
use Rattle.proof_checker.specs.Standings.{known_from}
use Rattle.lists.proofs.Exactly.{in_turn}
use Rattle.proof_checker.proofs.Known.{known_is_view}
use Rattle.proof_checker.proofs.items.ProofInSetting.is_sure.Goals as goal

pub returns : goal.returns
returns c =
    let h = c.args.self.now in
    let a = known_from h.strata.now h.standings.now Readers.Claims in
    let b = known_to h Readers.Claims in
    let alike = known_is_view h.strata.now (yes_of (setting h) (proof_in h)) (no_of (setting h) (proof_in h)) h.standings.now c.requires.ready.standings Readers.Claims in
    let moves = c.layers_are_meanings.ensures.sure_answers h.schema.now h.terms.now a b c.requires.ready.loaded alike c.args.node c.args.expr (verdict_of c.args.holds) in
    in_turn c.is_asked.ensures (
      (λ same. moves.0 (subst (λ v. IsSure h.schema.now h.terms.now a c.args.node c.args.expr v) same c.in_ok-verdict.ensures.verdict)),
      λ held_b. sym (c.in_ok-verdict.ensures.no_other (verdict_of c.args.holds) (moves.1 held_b)),
    )
