use Rattle.std.proofs.Common.{subst, sym, refl}
use Rattle.tool_words.specs.Lent.{tool_call_of}
use Rattle.shex_tools.specs.Outcomes.{IsRefused}
use Rattle.shex_tools.specs.Stopping.{Explains, FaultsAs}
use Rattle.shex_tools.specs.declared.stop.Stop.{Stop}
use Rattle.shex_tools.proofs.Ended.{ends_before, with_answer, with_failure}
use Rattle.shex_tools.proofs.top.end_call.Goals as goal

pub returns-in-Ok : goal.returns-in-Ok
returns-in-Ok g c = λ words is_call.
    with_answer words (tool_call_of c.args.call.now) is_call _ _ _ _ c.in-Ok.response.text.items c.in-Ok.response.notes.items c.in-Ok.response.status c.in-Ok.ensures.answer
    (record { told_same = c.in-Ok.ensures.told_stays; faults_same = c.in-Ok.ensures.faults_stay }) c.print.ensures

pub end_refusal-requires-clause-refused : goal.end_refusal-requires-clause-refused
end_refusal-requires-clause-refused g c =
    let k = tool_call_of c.args.call.now in
    let C : Stop → Type 0 = λ s. Explains (g.F.Files.told c.args.files.now) k s in
    subst (λ t. IsRefused t k c.in-Err-Refused.refusal) (sym c.respond.ensures.told_stays) (subst C c.in-Err-Refused.field-0-is c.in-Err-Refused.ensures.cause)

pub returns-in-Err-Refused : goal.returns-in-Err-Refused
returns-in-Err-Refused g c = λ words is_call.
    let k = tool_call_of c.args.call.now in
    let f = c.respond.new.files in
    let A : Stop → Type 0 = λ s. FaultsAs k (g.F.Files.faults c.args.files.now) (g.F.Files.faults f) (g.F.Files.blame f) (g.F.Files.act f) s in
    ends_before words _ _ _ _ _ _ c.respond.ensures.told_stays (subst A c.in-Err-Refused.field-0-is c.in-Err-Refused.ensures.faults)
    (c.end_refusal.ensures words is_call _ (record { got_same = refl; faults_same = refl }))

pub returns-in-Err-Failed : goal.returns-in-Err-Failed
returns-in-Err-Failed g c = λ words is_call.
    let k = tool_call_of c.args.call.now in
    let C : Stop → Type 0 = λ s. Explains (g.F.Files.told c.args.files.now) k s in
    let A : Stop → Type 0 = λ s. FaultsAs k (g.F.Files.faults c.args.files.now) (g.F.Files.faults c.respond.new.files) (g.F.Files.blame c.respond.new.files) (g.F.Files.act c.respond.new.files) s in
    with_failure words k is_call _ _ _ _ c.in-Err-Failed.source (subst C c.in-Err-Failed.field-0-is c.in-Err-Failed.ensures.cause)
    (subst A c.in-Err-Failed.field-0-is c.in-Err-Failed.ensures.faults) c.respond.ensures.told_stays (record { got_same = refl; faults_same = refl })
    (c.say.ensures _ c.failed.ensures)
