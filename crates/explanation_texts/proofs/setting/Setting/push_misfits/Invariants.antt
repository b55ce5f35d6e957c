use Rattle.std.proofs.Common.{◌≡◌, ◌++◌, take}
use Rattle.std.specs.List.{flat_map}
use Rattle.explanation_texts.specs.Reasons.{misfit_line}
use Rattle.explanation_texts.proofs.setting.Setting.push_misfits.Given as goal

abbrev pub invariant-loop-misfit : goal.invariant-loop-misfit
invariant-loop-misfit l = l.out.items ≡ l.fn.out.items ++ flat_map (misfit_line l.self l.occs) (take l.misfit-index l.misfits)
