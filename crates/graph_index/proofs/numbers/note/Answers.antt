use Rattle.std.proofs.Common.{sym, ◌∙◌}
use Rattle.graph_index.proofs.Noted.{is_known, notes_more}
use Rattle.graph_index.proofs.numbers.note.Goals as goal

pub returns-in_ok-push-clause-noted : goal.returns-in_ok-push-clause-noted
returns-in_ok-push-clause-noted c = notes_more c.args.marks.now.items c.args.ids.now.items c.push.new.self.items c.args.n c.requires.noted c.requires.within c.in_ok-push.ensures.items

pub returns-else-not-index-clause-held : goal.returns-else-not-index-clause-held
returns-else-not-index-clause-held c = is_known c.args.marks.now.items c.args.ids.now.items c.args.n c.index.result.now c.requires.noted c.requires.within (sym c.index.ensures ∙ c.if-not-index.false)
