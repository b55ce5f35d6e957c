use Rattle.std.proofs.Common.{refl, subst, sym}
use Rattle.schema_tree.specs.Loaded.{IsTarget}
use Rattle.schema_tree.proofs.OneTarget.{target_once}
use Rattle.proof_file.specs.Accepts.{Passes, checks_of, is_claim}
use Rattle.proof_checker.specs.Faults.{FoundBy, proof_in, setting}
use Rattle.proof_checker.proofs.Found.{claim_found, entry_there, some_of}
use Rattle.proof_checker.proofs.items.ProofInSetting.claim_fails.Goals as goal

pub returns : goal.returns
returns c =
    let h = c.args.self.now in
    let target = some_of c.target.result c.in-Some-target.expr (λ e. IsTarget h.schema.now c.args.claim.now.target e) c.in-Some-target.is c.target.ensures.found in
    subst (λ o. FoundBy (Passes (setting h) (proof_in h) (is_claim c.args.claim.now)) (checks_of (is_claim c.args.claim.now)) o) (sym c.then_some.ensures)
    (claim_found (setting h) (proof_in h) c.args.claim.now c.in-Some.node.now c.in-Some-target.expr
    (entry_there h.nodes.now h.nodes.now c.args.claim.now.node c.in-Some.node.now refl c.in-Some.ensures.lookup.3.0 c.in-Some.ensures.lookup.1) c.in-Some.ensures.lookup.3.0
    target (λ d is. target_once h.schema.now c.requires.ready.loaded.once c.args.claim.now.target d c.in-Some-target.expr is target)
    c.in_ok-sure.sure c.in_ok-sure.ensures)
