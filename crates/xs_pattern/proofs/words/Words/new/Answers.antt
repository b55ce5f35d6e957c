use Rattle.std.proofs.Common.{◌∙◌, ap, length, refl, rules, true}
use Rattle.std.proofs.lemmas.List.{length-replicate}
use Rattle.xs_pattern.specs.Way.{way_of}
use Rattle.xs_pattern.proofs.Stepped.{counted_is, made}
use Rattle.xs_pattern.proofs.words.Words.new.Goals as goal

pub place_of-requires-clause-count : goal.place_of-requires-clause-count
place_of-requires-clause-count c = counted_is (way_of c.args.way.now) c.args.numbers.items c.len-count.result c.requires.numbers (search rules)

pub place_of-requires-2-clause-count : goal.place_of-requires-2-clause-count
place_of-requires-2-clause-count c = counted_is (way_of c.args.way.now) c.args.numbers.items c.len-count.result c.requires.numbers (search rules)

pub place_of-requires-3-clause-count : goal.place_of-requires-3-clause-count
place_of-requires-3-clause-count c = counted_is (way_of c.args.way.now) c.args.numbers.items c.len-count.result c.requires.numbers (search rules)

pub place_of-requires-4-clause-count : goal.place_of-requires-4-clause-count
place_of-requires-4-clause-count c = counted_is (way_of c.args.way.now) c.args.numbers.items c.len-count.result c.requires.numbers (search rules)

pub fill_rows-requires-clause-count : goal.fill_rows-requires-clause-count
fill_rows-requires-clause-count c = counted_is (way_of c.args.way.now) c.args.numbers.items c.len-count.result c.requires.numbers (search rules)

pub returns : goal.returns
returns c =
    made (length c.args.all.now) c.args.sets.items (way_of c.args.way.now)
    (record {
      start = c.in_ok-start.start;
      inside = c.in_ok-inside.inside;
      end = c.in_ok-end.end;
      alone = c.in_ok-alone.alone;
      behind = c.fill_rows.new.rows;
      numbers = c.args.numbers;
      sets = c.args.sets;
    })
    (ap length c.requires.all ∙ length-replicate (length c.args.sets.items) true) c.requires.numbers c.requires.few refl
    c.in_ok-start.ensures c.in_ok-inside.ensures c.in_ok-end.ensures c.in_ok-alone.ensures c.in_ok-fill_rows.ensures
