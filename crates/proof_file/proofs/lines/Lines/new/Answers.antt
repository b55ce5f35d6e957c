use Rattle.std.proofs.Common.{inl, inr, refl, arith}
use Rattle.proof_file.proofs.Steps.{past_first, heading_first, no_first}
use Rattle.proof_file.proofs.lines.Lines.new.Goals as goal

pub returns-in-Some : goal.returns-in-Some
returns-in-Some c = elim c.in-Some.ensures [
  | inl h ↦ (refl, inl (past_first _ h.1 h.0 refl))
  | inr h ↦ (refl, inr (inl (heading_first _ h.1 h.0 refl)))
]

pub returns-in-None : goal.returns-in-None
returns-in-None c = (refl, inr (inr (refl, ((omega arith), no_first c.args.bytes.now c.in-None.ensures))))
