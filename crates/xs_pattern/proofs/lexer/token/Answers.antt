use Rattle.std.proofs.Common.{◌≡◌, true}
use Rattle.xs_pattern.specs.Lexing.{begins}
use Rattle.xs_pattern.proofs.Loops.{class_told}
use Rattle.xs_pattern.proofs.lexer.token.Goals as goal

pub returns-then-begins : goal.returns-then-begins
returns-then-begins c =
    let bracket : begins 91 c.args.text.now ≡ true = cc in rw (class_told c.args.text.now bracket) c.class_token.ensures
