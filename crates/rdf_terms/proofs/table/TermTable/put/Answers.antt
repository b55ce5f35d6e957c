use Rattle.std.proofs.Common.{◌≡◌, subst, sym, ◌∙◌, Contains, slice_get, Some, ap, length, arith, refl, inl}
use Rattle.lists.specs.Distinct.{AreDistinct}
use Rattle.lists.specs.Additions.{Adds}
use Rattle.rdf_terms.specs.Tables.{max_terms}
use Rattle.lists.proofs.Distinct.{found_item, missed_item, adds_item, distinct_items, inserted_item}
use Rattle.lists.proofs.Members.{got_in}
use Rattle.rdf_terms.proofs.SameTerms.{same_term, term_decides}
use Rattle.rdf_terms.proofs.table.TermTable.put.Goals as goal

pub returns-in-Ok-clause-number : goal.returns-in-Ok-clause-number
returns-in-Ok-clause-number c = inserted_item same_term term_decides _ c.args.term c.in-Ok.place c.in-Ok.ensures.stored

pub returns-in-Ok-clause-added : goal.returns-in-Ok-clause-added
returns-in-Ok-clause-added c =
    subst (λ ts. Adds ts c.args.term c.insert_full.new.self.keys) c.self.view_is (adds_item same_term term_decides _ c.args.term _ c.in-Ok.ensures.keys)

pub returns-in-Ok-clause-distinct : goal.returns-in-Ok-clause-distinct
returns-in-Ok-clause-distinct c = distinct_items same_term term_decides _ c.insert_full.ensures.unique

pub returns-then-len-lt-MAX_TERMS-clause-distinct : goal.returns-then-len-lt-MAX_TERMS-clause-distinct
returns-then-len-lt-MAX_TERMS-clause-distinct c = distinct_items same_term term_decides _ c.insert_full.ensures.unique

pub returns-in-Some-clause-number : goal.returns-in-Some-clause-number
returns-in-Some-clause-number c =
    subst (λ ts. slice_get ts c.in-Some.place ≡ Some c.args.term) c.self.view_is (found_item same_term term_decides _ c.args.term c.in-Some.place (sym c.in-Some.ensures.index))

pub returns-in-Some-clause-added : goal.returns-in-Some-clause-added
returns-in-Some-clause-added c = inl (got_in _ _ _ (returns-in-Some-clause-number c), refl)

pub returns-in-Some-clause-full : goal.returns-in-Some-clause-full
returns-in-Some-clause-full c = (λ e. cc, λ new. absurd (new.0 (got_in _ _ _ (returns-in-Some-clause-number c))))

pub returns-in-Some-clause-distinct : goal.returns-in-Some-clause-distinct
returns-in-Some-clause-distinct c = subst AreDistinct c.self.view_is (distinct_items same_term term_decides _ c.len.ensures.unique)

pub returns-clause-full : goal.returns-clause-full
returns-clause-full c = (
  λ e. (
    subst (λ ts. Contains ts c.args.term → ⊥) c.self.view_is (missed_item same_term term_decides _ c.args.term (sym c.in-None.ensures.found)),
    ap length (sym c.self.view_is) ∙ (let same : length c.self.inside.terms.keys ≡ max_terms = omega (arith, c.self.invariant, c.len.ensures.len, c.if-len-lt-MAX_TERMS.false) in same),
  ),
  λ new. refl,
)

pub returns-clause-distinct : goal.returns-clause-distinct
returns-clause-distinct c = subst AreDistinct c.self.view_is (distinct_items same_term term_decides _ c.len.ensures.unique)
