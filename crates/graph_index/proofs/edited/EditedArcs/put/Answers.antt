use Rattle.std.proofs.Common.{subst, sym}
use Rattle.indexmap.specs.IndexMap.{spare}
use Rattle.graph_index.specs.Edits.{AreInTexts, Incidence}
use Rattle.graph_index.proofs.Overlaid.{put_edits, rows_put}
use Rattle.graph_index.proofs.edited.EditedArcs.put.Goals as goal

pub invariant_of-self : goal.invariant_of-self
invariant_of-self c =
    put_edits c.self.inside.sealed.end c.self.inside.edited.entries c.insert.new.self.entries c.args.n c.args.rows c.in-Ok.ensures.updates.0 c.self.invariant
    (subst (λ (w : Incidence). AreInTexts w.end c.args.n c.args.rows.items) (sym c.self.view_is) c.requires.in_texts) c.insert.ensures.unique

pub returns : goal.returns
returns c =
    rows_put c.self.inside.sealed.end c.self.inside.sealed.rows.items c.self.inside.edited.entries (spare c.self.inside.edited) c.args.self.now c.self.view_is c.self.invariant
    c.insert.new.self.entries (spare c.insert.new.self) c.args.n c.args.rows c.in-Ok.ensures.updates.0 c.requires.in_texts c.insert.ensures.unique
