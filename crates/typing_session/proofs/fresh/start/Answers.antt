use Rattle.std.proofs.Common.{◌∙◌, ◌++◌, ap, map, subst}
use Rattle.demand.specs.Closing.{Grows}
use Rattle.schema_tree.specs.Entries.{pair_of}
use Rattle.typing_session.specs.Kept.{fresh_of}
use Rattle.typing_session.proofs.Walking.{start_met}
use Rattle.typing_session.proofs.fresh.start.Goals as goal

pub returns : goal.returns
returns c =
    start_met c.args.schema.now c.args.kept.now c.args.node c.args.expr c.in_ok-shapes.shapes c.push_pairs.new.found.items c.in_ok-missing.missing.items c.new-met.result c.put_all.new.self c.in_ok-shapes.ensures
    (c.in_ok-push_pairs.ensures ∙ (ap (λ xs. xs ++ map (pair_of c.args.node) c.as_slice.result.now) c.new-pairs.ensures.items ∙ ap (map (pair_of c.args.node)) c.as_slice.ensures))
    (c.in_ok-missing.ensures ∙ ap (fresh_of c.args.kept.now) c.as_slice-2.ensures.value) c.new-met.ensures
    (subst (λ xs. Grows c.new-met.result xs c.put_all.new.self) c.as_slice-3.ensures.value c.in_ok-put_all.ensures)
