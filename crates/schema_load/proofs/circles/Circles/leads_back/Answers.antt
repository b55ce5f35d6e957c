use Rattle.std.proofs.Common.{arith, get_or, refl, subst}
use Rattle.std.specs.Prelude.{Contains}
use Rattle.std.proofs.lemmas.Option.{slice_get-get_or}
use Rattle.schema_load.proofs.Grouped.{leads_back_by}
use Rattle.schema_load.proofs.circles.Circles.leads_back.Goals as goal

pub has_group-requires : goal.has_group-requires
has_group-requires c = record {
  within = λ q has.
      let at = slice_get-get_or c.args.self.now.parts.now c.args.place c.index-self-place.result c.requires.within in
      let low = c.requires.known.inside c.args.place q (get_or c.args.self.now.parts.now c.args.place c.index-self-place.result, at, subst (λ ps. Contains ps q) c.steps.ensures has) in
      let size = c.requires.known.groups.size in
      omega arith;
}

pub returns : goal.returns
returns c =
    leads_back_by c.args.self.now.parts.now c.args.self.now.targets.now c.requires.known.once c.requires.known.targets c.args.self.now.groups.now c.requires.known.groups c.args.place (get_or c.args.self.now.parts.now c.args.place c.index-self-place.result) c.has_group.result c.steps.result.now
    (get_or c.args.self.now.groups.now c.args.place 0) c.requires.known.inside (slice_get-get_or c.args.self.now.parts.now c.args.place c.index-self-place.result c.requires.within) c.steps.ensures refl c.has_group.ensures
