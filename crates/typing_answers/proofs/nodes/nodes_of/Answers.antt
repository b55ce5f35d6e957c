use Rattle.std.proofs.Common.{inl, inr, map, subst, sym}
use Rattle.std.proofs.lemmas.List.Elements.{Contains-append_cases, Contains-append_left, Contains-append_right}
use Rattle.std.specs.Prelude.{Contains}
use Rattle.lists.proofs.Members.{from_map, in_map}
use Rattle.typing_answers.proofs.nodes.nodes_of.Goals as goal

pub returns-clause-exactly : goal.returns-clause-exactly
returns-clause-exactly c = λ n. (
  λ h. elim (Contains-append_cases (map (λ x. x.node) c.args.answers.now) c.args.recorded.now n (subst (λ xs. Contains xs n) c.in_ok-nodes.ensures ((c.in_ok-put_in_order.ensures.same n).0 h))) [
    | inl answered ↦ inr (from_map (λ x. x.node) c.args.answers.now n answered)
    | inr own ↦ inl own
  ],
  λ h. (c.in_ok-put_in_order.ensures.same n).1 (subst (λ xs. Contains xs n) (sym c.in_ok-nodes.ensures) (elim h [
    | inl own ↦ Contains-append_right (map (λ x. x.node) c.args.answers.now) c.args.recorded.now n own
    | inr answered ↦ Contains-append_left (map (λ x. x.node) c.args.answers.now) c.args.recorded.now n (subst (λ m. Contains (map (λ x. x.node) c.args.answers.now) m) answered.2 (in_map (λ x. x.node) c.args.answers.now answered.0 answered.1))
  ])),
)
