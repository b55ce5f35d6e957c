use Rattle.std.proofs.Common.{◌≡◌, false, replicate, rules}
use Rattle.std.proofs.lemmas.List.{get_or_default}
use Rattle.graph_index.proofs.Noted.{none_gathered, gathers_more}
use Rattle.graph_index.proofs.numbers.numbers_in.Goals as goal

pub loop-triple-init : goal.loop-triple-init
loop-triple-init c =
    let blank : c.in_ok-marks.marks.items ≡ replicate c.args.len false = search rules in
    none_gathered c.args.len c.args.triples.now c.in_ok-marks.marks.items c.new-ids.result.items blank c.new-ids.ensures.items

pub loop-triple-preserved : goal.loop-triple-preserved
loop-triple-preserved c =
    gathers_more c.args.len c.args.triples.now c.loop-triple.triple-index c.loop-triple.marks.items c.note_all.new.marks.items c.loop-triple.ids.items c.note_all.new.ids.items _ c.loop-triple.invariant
    (λ d. get_or_default c.args.triples.now c.loop-triple.triple-index _ d c.loop-triple-test.true) c.in_ok-note_all.ensures.size c.in_ok-note_all.ensures.noted c.in_ok-note_all.ensures.held c.in_ok-note_all.ensures.kept
