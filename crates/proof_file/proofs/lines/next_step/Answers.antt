use Rattle.std.proofs.Common.{inl, refl, subst, sym, ◌∙◌, true≢false, Err}
use Rattle.proof_file.specs.Reading.{Reads}
use Rattle.proof_file.specs.Reader.{IsNext}
use Rattle.proof_file.specs.Text.{line_text}
use Rattle.proof_file.proofs.Steps.{stuck_none, stuck_line}
use Rattle.proof_file.proofs.lines.next_step.Goals as goal

pub returns-in_default : goal.returns-in_default
returns-in_default c = inl (refl, stuck_none c.args.stage c.args.last.now c.args.rest.now c.in_default.ensures)

pub returns-in-Err-Bad : goal.returns-in-Err-Bad
returns-in-Err-Bad c =
    let none = subst (λ z. Reads line_text (IsNext c.args.stage c.args.last.now) c.in-Some.text.now (Err z)) c.in-Err-Bad.field-0-is c.in-Err-Bad.ensures in
    inl (
      refl,
      stuck_line c.args.stage c.args.last.now c.args.rest.now c.in-Some.text.now c.in-Some.more.now c.in-Some.ensures.0 c.in-Some.ensures.1
          (λ last. true≢false (sym (c.is_last.ensures.1 last) ∙ c.if-is_last.false)) none,
    )
