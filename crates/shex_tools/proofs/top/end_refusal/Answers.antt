use Rattle.std.proofs.Common.{subst, refl}
use Rattle.program_ends.specs.Ends.{wanting}
use Rattle.program_ends.specs.Printing.{PrintsTo, SinkSeen}
use Rattle.shard_answers.specs.declared.error.CallFile.TheVariants.{Input}
use Rattle.tool_words.specs.Lent.{tool_call_of}
use Rattle.shex_tools.specs.Stopping.{LeavesUnshown}
use Rattle.shex_tools.specs.declared.stop.Unshown.{Unshown}
use Rattle.shex_tools.proofs.Ended.{with_failure, with_refusal}
use Rattle.shex_tools.proofs.top.end_refusal.Goals as goal

pub returns-in-Ok : goal.returns-in-Ok
returns-in-Ok g c = λ words is_call out quiet.
    let before = c.args.err.now in
    let after = c.print.new.sink in
    let err : SinkSeen = record {
      got = g.E.Sink.got before;
      got_after = g.E.Sink.got after;
      faults = g.E.Sink.faults before;
      faults_after = g.E.Sink.faults after;
    } in
    let prints = subst (λ t. PrintsTo err t 3 c.print.result) c.as_slice.ensures.value c.print.ensures in
    with_refusal words (tool_call_of c.args.call.now) is_call _ out err _ c.args.refusal.now c.in-Ok.text.items c.requires.refused c.in-Ok.ensures.text
    (record { told_same = c.in-Ok.ensures.told_stays; faults_same = c.in-Ok.ensures.faults_stay }) quiet prints

pub returns-in-Err-Failed : goal.returns-in-Err-Failed
returns-in-Err-Failed g c = λ words is_call out quiet.
    let k = tool_call_of c.args.call.now in
    let told = g.F.Files.told c.args.files.now in
    let faults = g.F.Files.faults c.args.files.now in
    let f = c.refusal_text.new.files in
    let P : Unshown → Type 0 = λ e. LeavesUnshown told k faults (g.F.Files.faults f) (g.F.Files.blame f) (g.F.Files.act f) e in
    let unshown = subst P c.in-Err-Failed.field-0-is c.in-Err-Failed.ensures.unshown in
    with_failure words k is_call _ out _ _ (Input c.in-Err-Failed.source) unshown.0 unshown.1 c.refusal_text.ensures.told_stays quiet (c.say.ensures _ c.failed.ensures)

pub returns-in-Err-Memory : goal.returns-in-Err-Memory
returns-in-Err-Memory g c = λ words is_call out quiet.
    let k = tool_call_of c.args.call.now in
    let told = g.F.Files.told c.args.files.now in
    let faults = g.F.Files.faults c.args.files.now in
    let f = c.refusal_text.new.files in
    let P : Unshown → Type 0 = λ e. LeavesUnshown told k faults (g.F.Files.faults f) (g.F.Files.blame f) (g.F.Files.act f) e in
    let still = subst P c.in-Err-Memory.field-0-is c.in-Err-Memory.ensures.unshown in
    wanting (record { told_same = c.refusal_text.ensures.told_stays; faults_same = still }) quiet (record { got_same = refl; faults_same = refl }) refl
