use Rattle.std.proofs.Common.{arith, map}
use Rattle.schema_tree.proofs.Below.{level_top}
use Rattle.typing_refiner.proofs.Filed.{filed_first}
use Rattle.typing_refiner.proofs.Sectioned.{filed_end}
use Rattle.typing_refiner.proofs.ground.Ground.records.Goals as goal

pub file_all-requires : goal.file_all-requires
file_all-requires c = record {
  ready = c.requires.ready;
  each = c.requires.each;
  strata = λ i. (let t = level_top c.args.self.now.strata.now i.0 in let e = c.in_ok-lists.ensures.count in let r = c.top.ensures in omega (arith, t, e, r));
  none = c.new-nodes.ensures.items;
  filed = filed_first c.args.self.now.terms.now c.args.self.now.strata.now c.args.self.now.table.now c.args.kinds.items c.new-nodes.result.items (map (λ v. v.items) c.in_ok-lists.lists.items)
      c.new-nodes.ensures.items c.in_ok-lists.ensures.empty;
}

pub sections_of-requires : goal.sections_of-requires
sections_of-requires c = let e = c.in_ok-lists.ensures.count in let s = c.file_all.ensures.same in let t = c.top.type_inv in omega (arith, e, s, t)

pub returns : goal.returns
returns c =
    filed_end c.args.self.now.terms.now c.args.self.now.strata.now c.args.self.now.table.now c.args.kinds.items c.file_all.new.nodes.items (map (λ v. v.items) c.file_all.new.lists.items) c.in_ok-sections.sections.items
    c.requires.each c.in_ok-file_all.ensures.filed c.in_ok-sections.ensures
