use Rattle.std.proofs.Common.{◌≡◌, subst, sym, true≢false, Contains, slice_get, Some, refl}
use Rattle.lists.proofs.Distinct.{found_item, missed_item}
use Rattle.lists.proofs.Members.{got_in}
use Rattle.demand.proofs.Same.{pair_decides, same_pair}
use Rattle.demand.proofs.table.PairTable.find.Goals as goal

pub returns-in-Some-clause-found : goal.returns-in-Some-clause-found
returns-in-Some-clause-found c =
    subst (λ ts. slice_get ts c.in-Some.place ≡ Some c.args.pair) c.self.view_is (found_item same_pair pair_decides _ c.args.pair c.in-Some.place (sym c.in-Some.ensures.index))

pub returns-in-Some-clause-absent : goal.returns-in-Some-clause-absent
returns-in-Some-clause-absent c =
    (λ e. absurd (true≢false e), λ missing. absurd (missing (got_in _ _ _ (returns-in-Some-clause-found c))))

pub returns-in-None-clause-absent : goal.returns-in-None-clause-absent
returns-in-None-clause-absent c =
    (λ e. subst (λ ts. Contains ts c.args.pair → ⊥) c.self.view_is (missed_item same_pair pair_decides _ c.args.pair (sym c.in-None.ensures.found)), λ missing. refl)
