use Rattle.std.proofs.Common.{subst, sym}
use Rattle.value_sets.specs.StemIndex.{AreApart}
use Rattle.value_sets.proofs.Apart.{found_by_last}
use Rattle.value_sets.proofs.stem_index.StemIndex.has.Goals as goal

pub count_upto-requires : goal.count_upto-requires
count_upto-requires c = subst AreApart (sym c.as_slice-stems.ensures.value) c.args.self.now.apart

pub returns : goal.returns
returns c =
    found_by_last c.args.self.now.stems.items c.as_slice-stems.result.now c.args.text.now c.count_upto.result c.begins_with_last.result c.as_slice-stems.ensures.value c.args.self.now.apart c.count_upto.ensures c.begins_with_last.ensures
