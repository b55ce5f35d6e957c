use Rattle.std.proofs.Common.{◌≡◌, ◌∙◌, ◌<◌, ◌+◌, ◌++◌, [], ◌∷◌, ap, arith, length, rules, set, subst, sym}
use Rattle.std.proofs.lemmas.List.{length-append}
use Rattle.std.specs.Prelude.{vec_len}
use Rattle.schema_tree.specs.Edges.{level}
use Rattle.schema_tree.proofs.Strata.{edge_from}
use Rattle.strata.specs.Arcs.{AreFound}
use Rattle.strata.proofs.Rising.{in_range}
use Rattle.strata.proofs.Searching.{found_more, has_more}
use Rattle.strata.proofs.cycle.rank_start.Goals as goal

pub index-requires : goal.index-requires
index-requires c =
    let from = edge_from c.args.s.now c.args.arc.from c.args.arc.to (c.requires.edges.sound c.args.arc c.requires.held).0 in
    let count : vec_len c.args.ranks.now ≡ length c.args.ranks.now.items = search rules in
    omega (arith, from, count, c.requires.found.ranked.size)

pub returns-then-index-ne0-clause-has : goal.returns-then-index-ne0-clause-has
returns-then-index-ne0-clause-has c =
    let from = edge_from c.args.s.now c.args.arc.from c.args.arc.to (c.requires.edges.sound c.args.arc c.requires.held).0 in
    let value = in_range c.args.ranks.now.items c.args.arc.from.0 c.index.result.now (omega (arith, from, c.requires.found.ranked.size)) in
    omega (arith, value, c.index.ensures, c.if-index-ne0.true)

pub index_mut-requires : goal.index_mut-requires
index_mut-requires c =
    let from = edge_from c.args.s.now c.args.arc.from c.args.arc.to (c.requires.edges.sound c.args.arc c.requires.held).0 in
    let count : vec_len c.args.ranks.now ≡ length c.args.ranks.now.items = search rules in
    omega (arith, from, count, c.requires.found.ranked.size)

pub returns-clause-found : goal.returns-clause-found
returns-clause-found c =
    let from = edge_from c.args.s.now c.args.arc.from c.args.arc.to (c.requires.edges.sound c.args.arc c.requires.held).0 in
    let value = in_range c.args.ranks.now.items c.args.arc.from.0 c.index.result.now (omega (arith, from, c.requires.found.ranked.size)) in
    let none : level c.args.ranks.now.items c.args.arc.from ≡ 0 = omega (arith, value, c.index.ensures, c.if-index-ne0.false) in
    let items : c.push.new.self.items ≡ c.args.found.now.items ++ c.args.arc.from ∷ [] = search rules in
    let long : c.len.result ≡ length c.push.new.self.items = search rules in
    let count : c.len.result ≡ length c.args.found.now.items + 1 = long ∙ (ap length items ∙ length-append c.args.found.now.items (c.args.arc.from ∷ [])) in
    subst (λ xs. AreFound c.args.s.now c.args.arcs.now c.args.goal (set c.args.ranks.now.items c.args.arc.from.0 c.len.result) xs) (sym items)
    (subst (λ n. AreFound c.args.s.now c.args.arcs.now c.args.goal (set c.args.ranks.now.items c.args.arc.from.0 n) (c.args.found.now.items ++ c.args.arc.from ∷ [])) (sym count)
    (found_more c.args.s.now c.args.arcs.now c.args.goal c.args.ranks.now.items c.args.found.now.items c.requires.found c.args.arc none from c.requires.held c.requires.leads))

pub returns-clause-has : goal.returns-clause-has
returns-clause-has c =
    let from = edge_from c.args.s.now c.args.arc.from c.args.arc.to (c.requires.edges.sound c.args.arc c.requires.held).0 in
    let value = in_range c.args.ranks.now.items c.args.arc.from.0 c.index.result.now (omega (arith, from, c.requires.found.ranked.size)) in
    let none : level c.args.ranks.now.items c.args.arc.from ≡ 0 = omega (arith, value, c.index.ensures, c.if-index-ne0.false) in
    let items : c.push.new.self.items ≡ c.args.found.now.items ++ c.args.arc.from ∷ [] = search rules in
    let long : c.len.result ≡ length c.push.new.self.items = search rules in
    let count : c.len.result ≡ length c.args.found.now.items + 1 = long ∙ (ap length items ∙ length-append c.args.found.now.items (c.args.arc.from ∷ [])) in
    subst (λ n. 0 < level (set c.args.ranks.now.items c.args.arc.from.0 n) c.args.arc.from) (sym count)
    (has_more c.args.s.now c.args.arcs.now c.args.goal c.args.ranks.now.items c.args.found.now.items c.requires.found c.args.arc none from)
