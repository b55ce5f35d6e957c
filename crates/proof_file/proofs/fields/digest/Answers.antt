use Rattle.std.proofs.Common.{◌≡◌, ◌∷◌, [], ◌+◌, ◌*◌, ◌<◌, ◌∙◌, ℕ, ap, subst, length, get_or}
use Rattle.proof_file.specs.Text.{hex_text}
use Rattle.proof_file.proofs.Hex.{no_digest, not_sized}
use Rattle.proof_file.proofs.fields.digest.Goals as goal

pub returns-then-digits-ne64 : goal.returns-then-digits-ne64
returns-then-digits-ne64 c = not_sized c.args.field.now (λ e. c.if-digits-ne64.true (ap length c.as_bytes-digits.ensures.value ∙ e))

pub returns-in_default : goal.returns-in_default
returns-in_default c = no_digest c.args.field.now c.loop-i.i c.loop-i-test.true
    (subst (λ z. (n : ℕ) → n < 256 → ¬ (get_or z (2 * c.loop-i.i) 0 ∷ get_or z (2 * c.loop-i.i + 1) 0 ∷ [] ≡ hex_text n)) c.as_bytes-digits.ensures.value c.in_default.ensures)
