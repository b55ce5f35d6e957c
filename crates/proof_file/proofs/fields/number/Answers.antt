use Rattle.std.proofs.Common.{◌≡◌, ◌<◌, ◌^◌, ◌∙◌, sym, arith}
use Rattle.std.proofs.lemmas.Fmt.{decimal_injective}
use Rattle.proof_file.proofs.fields.number.Goals as goal

pub returns-in_default : goal.returns-in_default
returns-in_default c = λ x small e.
    let below : c.in-Some.n < 2 ^ 64 = c.in-Some.ensures.small in
    let same : c.in-Some.n ≡ x = decimal_injective c.in-Some.n x below (omega arith) (sym c.in-Some.ensures.found ∙ e) in
    omega (arith, c.if-n-from.false)
