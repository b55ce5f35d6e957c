use Rattle.std.proofs.Common.{◌≡◌, map, take}
use Rattle.serde_json.specs.View.{view}
use Rattle.explanation_texts.specs.Trees.{misfit_data}
use Rattle.explanation_texts.proofs.setting.Setting.misfit_values.Given as goal

abbrev pub invariant-loop-misfit : goal.invariant-loop-misfit
invariant-loop-misfit l = map view l.values.items ≡ map (misfit_data l.self l.occs) (take l.misfit-index l.misfits)
