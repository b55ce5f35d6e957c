use Rattle.std.proofs.Common.{length, refl, subst, sym, ◌∙◌, ◌<◌}
use Rattle.std.specs.Prelude.{Some, Option}
use Rattle.std.proofs.lemmas.Result.{IfOk-weaker}
use Rattle.proof_file.specs.Accepts.{Passes, PassesKind, checks_of, in_section, kind_checks}
use Rattle.proof_file.specs.declared.Why.{Why}
use Rattle.proof_checker.specs.Faults.{FoundBy, proof_in, setting}
use Rattle.proof_checker.proofs.Found.{entry_there, record_found}
use Rattle.proof_checker.proofs.items.ProofInSetting.record_fails.Goals as goal

pub kind_fails-requires-clause-shape : goal.kind_fails-requires-clause-shape
kind_fails-requires-clause-shape c =
    c.requires.ready.loaded.shapes (record { 0 = c.args.entry.now.shape }) c.in-Some-get.shape.now
    (entry_there c.as_slice.result.now c.args.self.now.schema.now.shapes c.args.entry.now.shape c.in-Some-get.shape.now c.as_slice.ensures c.in-Some-get.ensures.lookup.3.0 c.in-Some-get.ensures.lookup.1)

pub returns : goal.returns
returns c =
    let r = c.args.entry.now in
    let h = c.args.self.now in
    let inside : r.shape < length h.schema.now.shapes = subst (λ zs. r.shape < length zs) c.as_slice.ensures c.in-Some-get.ensures.lookup.3.0 in
    IfOk-weaker c.kind_fails.result
    (λ (o : Option Why). FoundBy (PassesKind (setting h) (proof_in h) c.args.stratum r.kind (Some c.in-Some.node.now) (Some c.in-Some-get.shape.now)) (kind_checks r.kind) o)
    (λ (o : Option Why). FoundBy (Passes (setting h) (proof_in h) (in_section c.args.stratum r)) (checks_of (in_section c.args.stratum r)) o)
    (λ o found. record_found (setting h) (proof_in h) c.args.stratum r.node r.shape r.kind c.in-Some.node.now c.in-Some-get.shape.now
    (entry_there h.nodes.now h.nodes.now r.node c.in-Some.node.now refl c.in-Some.ensures.lookup.3.0 c.in-Some.ensures.lookup.1)
    (entry_there c.as_slice.result.now h.schema.now.shapes r.shape c.in-Some-get.shape.now c.as_slice.ensures c.in-Some-get.ensures.lookup.3.0 c.in-Some-get.ensures.lookup.1)
    c.in-Some.ensures.lookup.3.0 inside (sym c.stratum_of.ensures ∙ c.if-stratum_of-stratum.false) o found)
    c.kind_fails.ensures
