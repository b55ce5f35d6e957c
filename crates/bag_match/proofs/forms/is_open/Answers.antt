use Rattle.std.proofs.Common.{rules, ◌≡◌, true}
use Rattle.std.specs.List.{list_any}
use Rattle.rdf_terms.specs.Graphs.{same_id}
use Rattle.schema_tree.specs.Relevant.{is_forward}
use Rattle.bag_match.proofs.Keyed.{open_by_extra}
use Rattle.bag_match.proofs.forms.is_open.Goals as goal

pub returns : goal.returns
returns c =
    let out : same_id c.args.triple.s c.args.node ≡ true = search rules in
    let fits : list_any (is_forward c.args.node c.args.triple) c.args.shape.now.occs ≡ true = search rules in
    open_by_extra c.args.shape.now c.args.node c.args.triple c.is_among.result c.requires.near out fits (search rules) (search rules)
