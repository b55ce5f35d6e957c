use Rattle.std.proofs.Common.{◌∙◌, ap, sym, refl, subst, true≢false, length, Contains}
use Rattle.lists.specs.Additions.{Adds}
use Rattle.lists.proofs.Distinct.{adds_item, distinct_items}
use Rattle.graph_index.specs.Contents.{max_triples}
use Rattle.graph_index.proofs.Held.{same_triple, triple_decides, told_new, told_old, still_few}
use Rattle.graph_index.proofs.graph.Graph.add.Goals as goal

missing : (c : goal.Joined-self) → Contains c.args.self.now.triples c.args.t → ⊥
missing c = told_new c.self.inside.held.keys c.args.self.now.triples c.args.t c.in-Ok-true.field-0 (ap (λ g. g.triples) c.self.view_is) c.in-Ok-true.ensures.added c.in-Ok-true.field-0-test

there : (c : goal.In-Ok-false) → Contains c.args.self.now.triples c.args.t
there c = told_old c.self.inside.held.keys c.args.self.now.triples c.args.t c.in-Ok-false.field-0 (ap (λ g. g.triples) c.self.view_is) c.in-Ok-false.ensures.added c.in-Ok-false.field-0-test

pub invariant_of-self : goal.invariant_of-self
invariant_of-self c =
    still_few (length c.self.inside.held.keys) (length c.insert.new.self.keys) max_triples c.in-Ok-true.field-0 c.in-Ok-true.ensures.len c.self.invariant
    (λ full. true≢false (sym (c.if-lacks_room.ensures.lacks.1 (missing c, ap (λ g. length g.triples) (sym c.self.view_is) ∙ full))))

pub returns-in-Ok-true-clause-new : goal.returns-in-Ok-true-clause-new
returns-in-Ok-true-clause-new c = (λ e. missing c, λ new. refl)

pub returns-in-Ok-true-clause-added : goal.returns-in-Ok-true-clause-added
returns-in-Ok-true-clause-added c =
    subst (λ ts. Adds ts c.args.t c.insert.new.self.keys) (ap (λ g. g.triples) c.self.view_is) (adds_item same_triple triple_decides _ c.args.t c.insert.new.self.keys c.in-Ok-true.ensures.keys)

pub returns-in-Ok-true-clause-distinct : goal.returns-in-Ok-true-clause-distinct
returns-in-Ok-true-clause-distinct c = distinct_items same_triple triple_decides _ c.insert.ensures.unique

pub returns-in-Ok-false-clause-new : goal.returns-in-Ok-false-clause-new
returns-in-Ok-false-clause-new c = (λ e. absurd (true≢false (sym e)), λ new. absurd (new (there c)))

pub returns-in-Ok-false-clause-added : goal.returns-in-Ok-false-clause-added
returns-in-Ok-false-clause-added c =
    subst (λ ts. Adds ts c.args.t c.insert.new.self.keys) (ap (λ g. g.triples) c.self.view_is) (adds_item same_triple triple_decides _ c.args.t c.insert.new.self.keys c.in-Ok-false.ensures.keys)
