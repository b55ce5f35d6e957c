use Rattle.std.proofs.Common.{◌≡◌, ◌++◌, take}
use Rattle.shex_tools.specs.Notes.{named_lines}
use Rattle.shex_tools.proofs.noting.push_wides.Given as goal

-- the lines of the pairs so far
abbrev pub invariant-loop-pair : goal.invariant-loop-pair
invariant-loop-pair l = l.out.items ≡ l.fn.out.items ++ named_lines l.setting.names.now l.setting.terms.now l.budget (take l.pair-index l.fn.wide)
