use Rattle.std.proofs.Common.{◌≡◌, map, take}
use Rattle.serde_json.specs.View.{view}
use Rattle.explanation_texts.specs.Trees.{offer_data}
use Rattle.explanation_texts.proofs.setting.Setting.offer_values.Given as goal

abbrev pub invariant-loop-offer : goal.invariant-loop-offer
invariant-loop-offer l = map view l.values.items ≡ map (offer_data l.self.terms.now l.occs) (take l.offer-index l.offers)
