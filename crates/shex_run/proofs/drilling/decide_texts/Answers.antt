use Rattle.std.proofs.Common.{subst, sym}
use Rattle.shex_drill.specs.Files.{contents_of}
use Rattle.shex_run.specs.Ready.{AreTexts}
use Rattle.shex_run.specs.Stopping.{IsFit}
use Rattle.shex_run.proofs.Drilled.{are_decided, drill_fits}
use Rattle.shex_run.proofs.drilling.decide_texts.Goals as goal

pub decide_map-decided-requires-clause-fit : goal.decide_map-decided-requires-clause-fit
decide_map-decided-requires-clause-fit c = subst IsFit (sym c.requires.asked) drill_fits

pub unreachable-requires : goal.unreachable-requires
unreachable-requires c =
    are_decided c.drill_is_taken.ensures (contents_of c.hold.new.files)
    (subst AreTexts (sym c.hold.ensures.texts_stay) c.requires.texts) c.args.validation.now c.requires.asked c.in-Err.stop c.in-Err.ensures.cause _ _
    c.in-Err.ensures.faults c.in_default.not-Memory
