use Rattle.std.proofs.Common.{◌≡◌, subst, sym, true≢false, Contains, slice_get, Some, refl}
use Rattle.lists.proofs.Distinct.{found_item, missed_item}
use Rattle.lists.proofs.Members.{got_in}
use Rattle.rdf_terms.proofs.SameTerms.{same_term, term_decides}
use Rattle.rdf_terms.proofs.table.TermTable.find.Goals as goal

pub returns-in-Some-clause-found : goal.returns-in-Some-clause-found
returns-in-Some-clause-found c =
    subst (λ ts. slice_get ts c.in-Some.place ≡ Some c.args.term.now) c.self.view_is (found_item same_term term_decides _ c.args.term.now c.in-Some.place (sym c.in-Some.ensures.index))

pub returns-in-Some-clause-absent : goal.returns-in-Some-clause-absent
returns-in-Some-clause-absent c =
    (λ e. absurd (true≢false e), λ missing. absurd (missing (got_in _ _ _ (returns-in-Some-clause-found c))))

pub returns-in-None-clause-absent : goal.returns-in-None-clause-absent
returns-in-None-clause-absent c =
    (λ e. subst (λ ts. Contains ts c.args.term.now → ⊥) c.self.view_is (missed_item same_term term_decides _ c.args.term.now (sym c.in-None.ensures.found)), λ missing. refl)
