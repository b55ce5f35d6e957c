use Rattle.std.proofs.Common.{◌≡◌, ◌++◌, false, drop, string_bytes}
use Rattle.json_paths.specs.Texts.{path_text}
use Rattle.json_paths.proofs.key_path.text_of.Given as goal

abbrev pub invariant-loop-step : goal.invariant-loop-step
invariant-loop-step l = string_bytes l.text ++ path_text l.follows (drop l.step-index l.steps) ≡ path_text false l.steps
