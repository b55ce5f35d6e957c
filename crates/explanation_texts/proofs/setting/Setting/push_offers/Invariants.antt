use Rattle.std.proofs.Common.{◌≡◌, ◌++◌, take}
use Rattle.std.specs.List.{flat_map}
use Rattle.explanation_texts.specs.Reasons.{offer_line}
use Rattle.explanation_texts.proofs.setting.Setting.push_offers.Given as goal

abbrev pub invariant-loop-offer : goal.invariant-loop-offer
invariant-loop-offer l = l.out.items ≡ l.fn.out.items ++ flat_map (offer_line l.self.terms.now l.occs) (take l.offer-index l.offers)
