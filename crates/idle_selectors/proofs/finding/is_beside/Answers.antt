use Rattle.idle_selectors.proofs.finding.is_beside.Goals as goal

pub returns : goal.returns
returns c =
    let same = c.beside.ensures in (
      λ h. (let (t, held) = c.holds_some.ensures.0 h in let (there, at, by) = (same t).0 held in (t, there, at, by)),
      λ w. c.holds_some.ensures.1 (w.0, (same w.0).1 (w.1, w.2, w.3)),
    )
