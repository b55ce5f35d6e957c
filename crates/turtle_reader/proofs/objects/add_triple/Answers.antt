use Rattle.std.proofs.Common.{rules, ◌≡◌, ◌++◌, ◌∷◌, [], ◌-◌, ◌<◌, length, refl, arith, ap, ◌∙◌}
use Rattle.std.specs.Vec.{vec_len}
use Rattle.std.proofs.lemmas.Result.{on_ok_weaker}
use Rattle.std.specs.Str.{chars}
use Rattle.rdf_terms.specs.declared.terms.Term.{Term}
use Rattle.turtle_reader.specs.Objects.{triple_of, triples_about}
use Rattle.turtle_reader.proofs.Adding.{last_gives_more}
use Rattle.turtle_reader.proofs.objects.add_triple.Goals as goal

pub returns-then-is : goal.returns-then-is
returns-then-is c =
    let size : vec_len c.args.lists.now ≡ length c.args.lists.now.items = search rules in
    let some : 0 < vec_len c.args.lists.now = c.in-Some.ensures.variant.0 refl in
    on_ok_weaker c.add.result (λ e. last_gives_more triples_about c.args.lists.now.items (vec_len c.args.lists.now - 1) c.in-Some.last.now c.add.new.self _
    (omega arith) c.in-Some.ensures.value
    (e ∙ ap (λ (s : Term). triples_about c.in-Some.last.now ++ triple_of s (chars c.args.predicate.now) c.args.object ∷ []) (c.if-is.ensures.0 refl)))
    c.add.ensures
