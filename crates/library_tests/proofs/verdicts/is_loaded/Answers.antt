use Rattle.std.proofs.Common.{Contains, ◌≤◌, length, refl, sym, subst}
use Rattle.library_tests.proofs.CheckedSchemas.{none_there, seen_loaded}
use Rattle.lists.proofs.Members.{no_items}
use Rattle.library_tests.proofs.verdicts.is_loaded.Goals as goal

pub returns : goal.returns
returns c seen =
    seen_loaded c.args.schema.now (no_items c.args.schema.now.labels _ refl c.if-not-is_empty.ensures) (none_there _ c.if-is_some.ensures)
    (subst (λ xs. length xs ≤ 4096) c.as_slice.ensures c.if-as_slice-gt4096.false)
    (λ sh k. c.if-not-are_bare.ensures refl sh (subst (λ xs. Contains xs sh) (sym c.as_slice-else-as_slice-gt4096.ensures) k))
    (c.all_refer_below.ensures seen)
