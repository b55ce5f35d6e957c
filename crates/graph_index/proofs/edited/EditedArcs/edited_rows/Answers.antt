use Rattle.std.proofs.Common.{ap, length, option_copied, sym, ◌∙◌, ◌≡◌}
use Rattle.std.proofs.lemmas.List.{nil_from_length}
use Rattle.std.specs.Map.{lookup}
use Rattle.rdf_terms.specs.Graphs.{same_id}
use Rattle.indexmap.specs.IndexMap.{spare}
use Rattle.graph_index.proofs.Overlaid.{absent_lent, found_lent, grouped_lent}
use Rattle.graph_index.proofs.edited.EditedArcs.edited_rows.Goals as goal

pub returns-then-is_empty-clause-absent : goal.returns-then-is_empty-clause-absent
returns-then-is_empty-clause-absent c =
    let nothing : length c.self.inside.edited.entries ≡ 0 = c.is_empty.ensures.0 c.if-is_empty.true in
    absent_lent c.self.inside.sealed.end c.self.inside.sealed.rows.items c.self.inside.edited.entries (spare c.self.inside.edited) c.args.self.now c.self.view_is c.self.invariant
    c.args.n (ap (lookup (same_id c.args.n)) (nil_from_length _ nothing))

pub returns-in-Some-clause-found : goal.returns-in-Some-clause-found
returns-in-Some-clause-found c =
    found_lent c.self.inside.sealed.end c.self.inside.sealed.rows.items c.self.inside.edited.entries (spare c.self.inside.edited) c.args.self.now c.self.view_is c.self.invariant
    c.as_slice.result.now c.args.n c.in-Some.rows.now (sym c.get.ensures.value ∙ ap option_copied c.in-Some.is) c.as_slice.ensures.value

pub returns-in-Some-clause-grouped : goal.returns-in-Some-clause-grouped
returns-in-Some-clause-grouped c =
    grouped_lent c.self.inside.sealed.end c.self.inside.sealed.rows.items c.self.inside.edited.entries (spare c.self.inside.edited) c.args.self.now c.self.view_is c.self.invariant
    c.as_slice.result.now c.args.n c.in-Some.rows.now (sym c.get.ensures.value ∙ ap option_copied c.in-Some.is) c.as_slice.ensures.value

pub returns-in-None-clause-absent : goal.returns-in-None-clause-absent
returns-in-None-clause-absent c =
    absent_lent c.self.inside.sealed.end c.self.inside.sealed.rows.items c.self.inside.edited.entries (spare c.self.inside.edited) c.args.self.now c.self.view_is c.self.invariant
    c.args.n (sym c.get.ensures.value ∙ ap option_copied c.in-None.is)
