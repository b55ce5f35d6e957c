use Rattle.std.proofs.Common.{◌≡◌, sym, ◌∙◌, subst, true≢false}
use Rattle.std.specs.Str.{IsUtf8}
use Rattle.proof_file.specs.Reader.{Follows, HasNoEnd}
use Rattle.proof_file.specs.Text.{line_text}
use Rattle.proof_file.proofs.Apart.{line_same, whole}
use Rattle.proof_file.proofs.Faults.{utf8_line, no_feed}
use Rattle.proof_file.proofs.lines.read_next.Goals as goal

pub returns-in_default : goal.returns-in_default
returns-in_default c = λ l good e. c.in_default.ensures.cases.0 (subst IsUtf8 (sym e) (utf8_line l good.0))

pub returns-then-follows : goal.returns-then-follows
returns-then-follows c =
    let is : c.args.text.now ≡ line_text c.in_ok-line.line = sym c.in-Ok.ensures.cases.0 ∙ c.in_ok-line.ensures.0 in
    (is, ((c.in_ok-line.ensures.1.0, (c.in_ok-line.ensures.1.1, no_feed c.in_ok-line.line (subst HasNoEnd is c.requires))), c.follows.ensures.0 c.if-follows.true))

pub returns-else-follows : goal.returns-else-follows
returns-else-follows c = λ l good e.
    let is : c.args.text.now ≡ line_text c.in_ok-line.line = sym c.in-Ok.ensures.cases.0 ∙ c.in_ok-line.ensures.0 in
    let same = line_same l c.in_ok-line.line (whole l good.0) c.in_ok-line.ensures.1 (sym e ∙ is) in
    true≢false (sym (c.follows.ensures.1 (subst (Follows c.args.stage c.args.last.now) same good.1)) ∙ c.if-follows.false)
