use Rattle.std.proofs.Common.{codes}
use Rattle.idle_selectors.specs.Texts.{pattern_text}
use Rattle.idle_selectors.proofs.Noted.{chained}
use Rattle.idle_selectors.proofs.listing.push_unmatched.Goals as goal

pub returns : goal.returns
returns c =
    chained c.args.out.now.items c.extend_from_slice.new.self.items c.push_pattern.new.out.items _ (codes "nothing selected: ")
    (pattern_text c.args.pattern.now) (codes "\n") c.in_ok-extend_from_slice.ensures.items
    c.in_ok-push_pattern.ensures c.in_ok-extend_from_slice-2.ensures.items
