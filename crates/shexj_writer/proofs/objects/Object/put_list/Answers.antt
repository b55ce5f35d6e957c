use Rattle.std.proofs.Common.{◌≡◌, length, eqb, false, rules, sym}
use Rattle.shexj_writer.proofs.Lists.{some_list}
use Rattle.shexj_writer.proofs.objects.Object.put_list.Goals as goal

pub returns-else-is_empty : goal.returns-else-is_empty
returns-else-is_empty c =
    let some : eqb (length c.args.items.items) 0 ≡ false = search rules in
    rw (some_list c.args.items.items some, sym c.from.ensures) c.put.ensures
