use Rattle.std.proofs.Common.{rules, ◌<◌, ◌≤◌, length}
use Rattle.rdf_terms.proofs.Joining.{in_turn, no_text, text_there}
use Rattle.rdf_terms.proofs.joined.JoinedTexts.text.Goals as goal

pub slice_bounds-result-count : goal.slice_bounds-result-count
slice_bounds-result-count c =
    let inside : c.args.n.0 < length c.args.self.now.terms.now = search rules in
    in_turn c.args.self.now.terms.now c.args.n.0 c.first_of-first.result c.first_of-end.result inside c.first_of-first.ensures.begins c.first_of-end.ensures.begins

pub returns-then-number-len : goal.returns-then-number-len
returns-then-number-len c =
    let inside : c.args.n.0 < length c.args.self.now.terms.now = search rules in
    text_there c.args.self.now.terms.now c.args.self.now.bytes.items c.as_slice.result.now c.args.n c.first_of-first.result c.first_of-end.result inside c.as_slice.ensures.value c.args.self.now.joined.texts
    c.first_of-first.ensures.begins c.first_of-end.ensures.begins

pub returns-else-number-len : goal.returns-else-number-len
returns-else-number-len c =
    let past : length c.args.self.now.terms.now ≤ c.args.n.0 = search rules in
    no_text c.args.self.now.terms.now c.args.n past
