use Rattle.std.proofs.Common.{◌∙◌, ap, map, subst, Some}
use Rattle.typing_refiner.specs.Filing.{IsPushed}
use Rattle.typing_refiner.proofs.Filed.{filed_next, filed_past}
use Rattle.typing_refiner.proofs.ground.Ground.file.Goals as goal

pub returns-in_ok-push_record-in-Some-clause-filed : goal.returns-in_ok-push_record-in-Some-clause-filed
returns-in_ok-push_record-in-Some-clause-filed c = λ kinds said filed.
    filed_next c.args.self.now.terms.now c.args.self.now.strata.now c.args.self.now.table.now c.requires.ready.sorted kinds c.args.at c.pair_of-pair.result c.in-Some.kind c.pair_of-pair.ensures
    (said ∙ ap (λ z. Some z) c.in-Some.is) c.args.nodes.now.items c.number_of.new.nodes.items c.in_ok-node-in-Some.node c.in_ok-node-in-Some.ensures (map (λ l. l.items) c.args.lists.now.items)
    (map (λ l. l.items) c.push_record.new.lists.items)
    (subst (λ k. IsPushed (map (λ l. l.items) c.args.lists.now.items) k (record { node = c.in_ok-node-in-Some.node; shape = c.pair_of-pair.result.shape.0; kind = c.in-Some.kind }) (map (λ l. l.items) c.push_record.new.lists.items)) c.stratum_of.ensures c.in_ok-push_record-in-Some.ensures.pushed) filed

pub returns-in-None-clause-filed : goal.returns-in-None-clause-filed
returns-in-None-clause-filed c = λ kinds said filed.
    filed_past c.args.self.now.terms.now c.args.self.now.strata.now c.args.self.now.table.now kinds c.args.at c.args.nodes.now.items (map (λ l. l.items) c.args.lists.now.items)
    (said ∙ ap (λ z. Some z) c.in-None.is) filed
