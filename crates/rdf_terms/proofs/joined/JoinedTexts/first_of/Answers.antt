use Rattle.std.proofs.Common.{◌≡◌, ◌<◌, ◌≤◌, ◌∙◌, arith, get_or, length, subst, sym, take}
use Rattle.std.specs.List.{flat_map}
use Rattle.std.proofs.lemmas.List.{get_or_default}
use Rattle.rdf_terms.specs.Written.{term_text}
use Rattle.rdf_terms.proofs.Joining.{front_within}
use Rattle.rdf_terms.proofs.joined.JoinedTexts.first_of.Goals as goal

pub returns-clause-within : goal.returns-clause-within
returns-clause-within c =
    let long = c.args.self.now.joined.long in
    let inside : c.args.number < length c.args.self.now.firsts.items = (let a = c.requires in omega (arith, a, long)) in
    let b : get_or c.args.self.now.firsts.items c.args.number 0 ≡ length (flat_map term_text (take c.args.number c.args.self.now.terms.now)) = c.args.self.now.joined.begins c.args.number c.requires in
    subst (λ z. z ≤ length c.args.self.now.bytes.items) (sym (c.index.ensures ∙ get_or_default c.args.self.now.firsts.items c.args.number _ 0 inside ∙ b))
    (front_within c.args.self.now.terms.now c.args.number c.args.self.now.bytes.items c.args.self.now.joined.texts)
