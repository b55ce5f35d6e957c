use Rattle.std.proofs.Common.{◌∙◌, ◌↔◌, ◌++◌, ap, refl, sym, subst, length, ltb-false, Contains}
use borrow.Author.Tests.{ltb-true}
use Rattle.std.specs.List.{flat_map}
use Rattle.std.proofs.lemmas.Option.{slice_get_past, slice_get_read}
use Rattle.schema_tree.specs.Needs.{Needs}
use Rattle.lists.proofs.Members.{not_in_none}
use Rattle.demand.specs.Needed.{needs_at}
use Rattle.demand.proofs.Needing.{needs_exactly, needs_nothing}
use Rattle.demand.proofs.needs.needs_into.Goals as goal

pub returns-in_ok-push_needs : goal.returns-in_ok-push_needs
returns-in_ok-push_needs c = λ q.
    subst (λ xs. Contains xs q ↔ Needs c.args.schema.now c.args.graph.now.triples c.args.pair q)
    (sym (c.in_ok-push_needs.ensures c.args.terms.now c.requires.sealed
    ∙ (ap (λ xs. xs ++ flat_map (needs_at c.args.terms.now c.args.graph.now.triples c.args.pair.node) c.as_slice.result.now) c.clear.ensures.items
    ∙ ap (λ xs. flat_map (needs_at c.args.terms.now c.args.graph.now.triples c.args.pair.node) xs) c.as_slice.ensures)))
    (needs_exactly c.args.schema.now c.args.terms.now c.args.graph.now.triples c.args.links.now c.requires.links c.args.pair c.in-Some.own.now
    (slice_get_read c.args.links.now (length c.args.links.now) c.args.pair.shape.0 c.in-Some.own.now refl
    (ltb-true c.args.pair.shape.0 (length c.args.links.now) (sym c.in-Some.ensures.lookup.0)) c.in-Some.ensures.lookup.1) q)

pub returns-in_default : goal.returns-in_default
returns-in_default c = λ q. (
  (λ d. absurd (not_in_none q (subst (λ xs. Contains xs q) c.clear.ensures.items d))),
  (λ need. absurd (needs_nothing c.args.schema.now c.args.terms.now c.args.graph.now.triples c.args.links.now c.requires.links c.args.pair
      (slice_get_past c.args.links.now c.args.pair.shape.0 (ltb-false c.args.pair.shape.0 (length c.args.links.now) (sym c.in_default.ensures.lookup.0))) q need)),
)
