use Rattle.std.proofs.Common.{◌∙◌}
use Rattle.proof_file.proofs.Drafted.{draft_begins, draft_grows, draft_ends}
use Rattle.proof_file.proofs.read.add_lines.Goals as goal

pub lines-init : goal.lines-init
lines-init c = (c.new-lines.ensures.0, draft_begins c.new-lines.result c.args.draft.now c.args.bytes.now c.new-lines.ensures c.requires.plain c.requires.head)

pub lines-preserved : goal.lines-preserved
lines-preserved c =
    let w = c.lines.invariant.1.0 in (
      c.in-Line.ensures.whole ∙ c.lines.invariant.0,
      draft_grows w c.lines.lines c.next.new.self c.in-Line.line c.lines.draft c.add.new.self (c.in-Line.ensures.goes w c.lines.invariant.1.1.0) c.lines.invariant.1.1.1 c.in_ok-add-in-Line.ensures.head c.in_ok-add-in-Line.ensures.body,
    )

pub returns-in-End-clause-found : goal.returns-in-End-clause-found
returns-in-End-clause-found c =
    let w = c.lines.invariant.1.0 in
    draft_ends w c.lines.lines c.next.new.self c.lines.draft c.args.bytes.now (c.in-End.ensures.goes w c.lines.invariant.1.1.0) c.lines.invariant.1.1.1 (c.in-End.ensures.whole ∙ c.lines.invariant.0)
