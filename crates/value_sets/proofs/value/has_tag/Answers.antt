use Rattle.value_sets.specs.Values.{tag_of}
use Rattle.value_sets.proofs.Deciding.{tag_told}
use Rattle.value_sets.proofs.value.has_tag.Goals as goal

pub returns-in-Some : goal.returns-in-Some
returns-in-Some c =
    tag_told c.in-Some.own.now c.args.tag.now (tag_of c.args.term.now) c.eq.result c.in-Some.ensures c.eq.ensures
