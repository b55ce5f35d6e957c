use Rattle.std.proofs.Common.{◌∙◌, ◌++◌, ap, length, ltb-false, map, refl, sym}
use borrow.Author.Tests.{ltb-true}
use Rattle.std.proofs.lemmas.Option.{slice_get_past, slice_get_read}
use Rattle.std.specs.List.{flat_map}
use Rattle.std.specs.Prelude.{option_map}
use Rattle.typing_session.specs.Uses.{users_by}
use Rattle.typing_session.proofs.Using.{get_map, no_users, users_are}
use Rattle.typing_session.proofs.users.users.Goals.{in-Some+in_ok-push_by_uses, in_default}
use Rattle.typing_session.proofs.users.users.Goals as goal

pub returns : goal.returns
returns c = elim c.match-get.branch [
  | in-Some+in_ok-push_by_uses w ↦
      users_are c.args.schema.now c.args.terms.now c.args.graph.now.triples (map (λ l. l.items) c.args.uses.now) c.requires.uses c.args.pair w.in-Some.own.now.items
      (get_map (λ l. l.items) c.args.uses.now c.args.pair.shape.0
      ∙ ap (option_map (λ l. l.items)) (slice_get_read c.args.uses.now (length c.args.uses.now) c.args.pair.shape.0 w.in-Some.own.now refl
      (ltb-true c.args.pair.shape.0 (length c.args.uses.now) (sym w.in-Some.ensures.lookup.0)) w.in-Some.ensures.lookup.1))
      c.match-get.found.items
      (ap (λ v. v.items) w.found-is
      ∙ (w.in_ok-push_by_uses.ensures ∙ (ap (λ xs. xs ++ flat_map (users_by c.args.terms.now c.args.graph.now.triples c.args.pair.node) w.as_slice.result.now) c.new-found.ensures.items
      ∙ ap (λ xs. flat_map (users_by c.args.terms.now c.args.graph.now.triples c.args.pair.node) xs) w.as_slice.ensures.value)))
  | in_default w ↦
      no_users c.args.schema.now c.requires.loaded c.args.graph.now.triples (map (λ l. l.items) c.args.uses.now) c.requires.uses c.args.pair
      (get_map (λ l. l.items) c.args.uses.now c.args.pair.shape.0
      ∙ ap (option_map (λ l. l.items)) (slice_get_past c.args.uses.now c.args.pair.shape.0 (ltb-false c.args.pair.shape.0 (length c.args.uses.now) (sym w.in_default.ensures.lookup.0))))
      c.match-get.found.items (ap (λ v. v.items) w.found-is ∙ c.new-found.ensures.items)
]
