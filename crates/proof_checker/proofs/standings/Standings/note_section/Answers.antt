use Rattle.proof_checker.proofs.Noted.{all_noted, next_noted}
use Rattle.proof_checker.proofs.standings.Standings.note_section.Goals as goal

pub loop-entry-preserved : goal.loop-entry-preserved
loop-entry-preserved c =
    λ plus minus ok. next_noted c.args.nodes.now c.args.records.now c.loop-entry.entry-index c.entry-item.result c.loop-entry-test.true c.entry-item.is plus minus c.note_record.new.self
    (c.in_ok-note_record.ensures _ _ (c.loop-entry.invariant plus minus ok))

pub returns : goal.returns
returns c =
    λ plus minus ok. all_noted c.args.nodes.now c.args.records.now c.loop-entry.entry-index c.loop-entry-test.false plus minus c.loop-entry.self
    (c.loop-entry.invariant plus minus ok)
