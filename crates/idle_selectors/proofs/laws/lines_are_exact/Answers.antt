use Rattle.idle_selectors.proofs.Noted.{exact}
use Rattle.idle_selectors.proofs.laws.lines_are_exact.Goals as goal

pub returns : goal.returns
returns c = λ terms graph items lines a. exact terms graph items lines a
