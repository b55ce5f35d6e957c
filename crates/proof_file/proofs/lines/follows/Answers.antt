use Rattle.std.proofs.Common.{subst, sym}
use Rattle.std.specs.Prelude.{◌↔◌, IsTrue}
use Rattle.proof_file.specs.Reader.{Follows}
use Rattle.proof_file.proofs.lines.follows.Goals as goal

pub returns-in-Section : goal.returns-in-Section
returns-in-Section c = subst (λ stage. IsTrue c.follows_section.result ↔ Follows stage c.args.last.now c.args.line.now) (sym c.in-Section.is) (c.follows_section.ensures c.args.last.now)

pub returns-in-Record : goal.returns-in-Record
returns-in-Record c = subst (λ stage. IsTrue c.follows_record.result ↔ Follows stage c.args.last.now c.args.line.now) (sym c.in-Record.is) (c.follows_record.ensures c.args.last.now)
