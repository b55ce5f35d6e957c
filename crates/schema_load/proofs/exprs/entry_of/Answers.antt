use Rattle.std.proofs.Common.{refl, rules, subst, sym, ◌<◌, length}
use Rattle.std.specs.Prelude.{Contains}
use Rattle.schema_load.specs.Parts.{Names}
use Rattle.schema_load.proofs.exprs.entry_of.Goals as goal

pub ids_of-requires : goal.ids_of-requires
ids_of-requires c = λ q has. c.requires.inside q (subst (λ x. Names x q) (sym c.in-And.is) (subst (λ ps. Contains ps q) c.as_slice.ensures has))

pub ids_of-requires-in-Or : goal.ids_of-requires-in-Or
ids_of-requires-in-Or c = λ q has. c.requires.inside q (subst (λ x. Names x q) (sym c.in-Or.is) (subst (λ ps. Contains ps q) c.as_slice-in-Or.ensures has))

pub bounds-numbers-member : goal.bounds-numbers-member
bounds-numbers-member c = c.requires.inside c.in-Not.member (subst (λ x. Names x c.in-Not.member) (sym c.in-Not.is) refl)

pub offset_bounds-numbers-member : goal.offset_bounds-numbers-member
offset_bounds-numbers-member c = let lt : c.in-Not.member < length c.args.numbers.now = c.requires.inside c.in-Not.member (subst (λ x. Names x c.in-Not.member) (sym c.in-Not.is) refl) in search rules
