use Rattle.std.proofs.Common.{ap, subst, sym}
use Rattle.std.specs.Prelude.{option_map}
use Rattle.std.proofs.lemmas.Result.{err_from_is_err_and}
use Rattle.command_words.specs.Lent.{drill_of}
use Rattle.command_words.specs.Requests.{default_budget}
use Rattle.shex_run.specs.Drills.{IsDrillProof}
use Rattle.shex_run.specs.Proofs.{IsStoredProofOf}
use Rattle.shex_run.proofs.Drilled.{drill_unstored}
use Rattle.shex_run.proofs.drilling.drill.Goals as goal

pub returns-in_err-store-clause-stops : goal.returns-in_err-store-clause-stops
returns-in_err-store-clause-stops g c =
    let p = err_from_is_err_and c.from_residual-in_err-store.result c.from_residual-in_err-store.ensures.1 in
    let d = drill_of c.args.drilling.now in
    let reply = c.in_ok-text.ensures.drilled in
    let due : IsDrillProof d.items c.as_slice.result.now = record {
      question = reply.question;
      answers = reply.answers;
      are_answers = reply.are_answers;
      proof = subst (λ bytes. IsStoredProofOf reply.question default_budget reply.answers bytes) (sym c.as_slice.ensures.value) reply.proof;
    } in
    rw (p.1, p.2)
    (drill_unstored (g.F.Files.told c.args.files.now) (g.F.Files.told c.store.new.files) d c.in-Some.name.now c.as_slice.result.now (ap (option_map (λ s. s.now)) c.in-Some.is) due c.in_err-store.ensures.part c.store.ensures.others
    (g.F.Files.faults c.args.files.now) (g.F.Files.faults c.store.new.files) (g.F.Files.blame c.store.new.files)
    (g.F.Files.act c.store.new.files) c.in_err-store.field-0.0 c.in_err-store.ensures.stops)
