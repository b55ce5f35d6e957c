use Rattle.std.proofs.Common.{refl}
use Rattle.std.proofs.lemmas.Option.{slice_get_read}
use Rattle.schema_load.specs.Building.{number_in}
use Rattle.schema_load.specs.Parts.{IsAt}
use Rattle.schema_load.proofs.Labelled.{no_label}
use Rattle.schema_load.proofs.labels.add_label.Goals as goal

pub returns-in_default : goal.returns-in_default
returns-in_default c =
    let at : IsAt c.args.parts.now c.args.place c.index-parts-place.result = slice_get_read c.args.parts.now _ c.args.place c.index-parts-place.result refl c.requires.within c.index-parts-place.is in
    no_label c.args.parts.now (number_in c.args.numbers.now) c.args.place c.index-parts-place.result c.args.labels.now at c.in_default.not-Declares
