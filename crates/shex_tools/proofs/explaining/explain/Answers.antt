use Rattle.std.proofs.Common.{subst, sym}
use Rattle.std.specs.Prelude.{IfErr, IfOk}
use Rattle.proof_file.specs.declared.head.Digests.{Digests}
use Rattle.shex_inputs.specs.Held.{IsTaken, held_by}
use Rattle.tool_words.specs.Asked.{of_reasons}
use Rattle.tool_words.specs.Lent.{explaining_of}
use Rattle.shex_tools.specs.Calls.{inputs_of}
use Rattle.shex_tools.specs.Results.{IsExplained}
use Rattle.shex_tools.specs.Stopping.{Explains, FaultsAs}
use Rattle.shex_tools.proofs.explaining.explain.Goals as goal

pub explain_held-response-requires-clause-taken : goal.explain_held-response-requires-clause-taken
explain_held-response-requires-clause-taken g c =
    subst (λ t. (digests : Digests) × IsTaken t (inputs_of (of_reasons (explaining_of c.args.explaining.now))) (held_by c.in_ok-holding.holding digests))
    (sym c.hold.ensures.told_stays) c.in_ok-holding.ensures.taken

pub returns-clause-explained : goal.returns-clause-explained
returns-clause-explained g c =
    subst (λ t. IfOk c.explain_held-response.result (λ r. IsExplained t (explaining_of c.args.explaining.now) r.status r.text.items r.notes.items))
    c.hold.ensures.told_stays c.explain_held-response.ensures.explained

pub returns-clause-cause : goal.returns-clause-cause
returns-clause-cause g c =
    subst (λ t. IfErr c.explain_held-response.result (Explains t (of_reasons (explaining_of c.args.explaining.now)))) c.hold.ensures.told_stays c.explain_held-response.ensures.cause

pub returns-clause-faults : goal.returns-clause-faults
returns-clause-faults g c =
    subst (λ k. IfErr c.explain_held-response.result (FaultsAs (of_reasons (explaining_of c.args.explaining.now)) k (g.F.Files.faults c.explain_held-response.new.files)
    (g.F.Files.blame c.explain_held-response.new.files) (g.F.Files.act c.explain_held-response.new.files))) c.in_ok-holding.ensures.faults_stay c.explain_held-response.ensures.faults
