use Rattle.std.proofs.Common.{◌≡◌, ◌<◌, ◌++◌, ◌∷◌, [], rules, set, subst, sym, true}
use Rattle.schema_load.specs.Steps.{Keeps}
use Rattle.schema_load.proofs.Sorts.{kept_more}
use Rattle.schema_load.proofs.Visits.{flag_off}
use Rattle.schema_load.proofs.sorting.finish.Goals as goal

pub returns-clause-kept : goal.returns-clause-kept
returns-clause-kept c = λ parts targets keeps ready.
    let pushed : c.push.new.self.items ≡ c.args.order.now.items ++ c.args.place ∷ [] = search rules in
    subst (λ xs. Keeps parts targets (set c.args.done.now.items c.args.place true) xs) (sym pushed)
    (kept_more parts targets c.args.done.now.items c.args.order.now.items c.args.place (subst (λ n. c.args.place < n) keeps.size c.requires) keeps
    (flag_off c.args.done.now.items c.args.place c.index.result.now c.index.ensures c.if-index.false, ready))
