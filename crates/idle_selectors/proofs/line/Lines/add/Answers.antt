use Rattle.std.proofs.Common.{List, ℕ, subst}
use Rattle.std.specs.Cmp.Lexicographic.{bytes_decides}
use Rattle.lists.specs.Additions.{Adds}
use Rattle.lists.proofs.Distinct.{adds_item}
use Rattle.idle_selectors.specs.Texts.{same_line}
use Rattle.idle_selectors.proofs.line.Lines.add.Goals as goal

pub returns : goal.returns
returns c =
    subst (λ ts. Adds ts c.args.bytes.items c.insert.new.self.keys) c.self.view_is
    (subst (λ (x : List ℕ). Adds c.self.inside.lines.keys x c.insert.new.self.keys) c.of.ensures
    (adds_item same_line bytes_decides c.self.inside.lines.keys c.of.result c.insert.new.self.keys c.in_ok-insert.ensures.keys))
