use Rattle.std.proofs.Common.{◌∙◌, Bor, ap, map, sym}
use Rattle.std.proofs.lemmas.List.{take-map}
use Rattle.explanations.specs.declared.explanation.ToldReason.{ToldReason}
use Rattle.explanation_texts.proofs.blocks.first_reasons.Goals as goal

pub returns : goal.returns
returns c = ap (map (λ (r : Bor ToldReason). r.now)) c.shown.ensures ∙ sym (take-map (λ (r : Bor ToldReason). r.now) c.args.limit c.args.reasons.now)
