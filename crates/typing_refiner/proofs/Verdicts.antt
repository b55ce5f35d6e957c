-- What the verdicts of refinement say.
use Rattle.std.proofs.Common.{◌≡◌, ℕ, zero, suc, ◌<◌, inl, inr, List, [], ◌∷◌, ◌++◌, refl, sym, subst, arith, length}
use Rattle.std.proofs.lemmas.List.{append-nil}
use Rattle.std.specs.Prelude.{Contains, Some, None, slice_get}
use Rattle.lists.specs.Distinct.{AreDistinct}
use Rattle.rdf_terms.specs.declared.terms.Term.{Term}
use Rattle.rdf_terms.specs.declared.terms.Triple.{Triple}
use Rattle.schema_tree.specs.declared.schema.Pair.{Pair}
use Rattle.schema_tree.specs.declared.schema.Schema.{Schema}
use Rattle.schema_tree.specs.declared.verdicts.Verdict.{Verdict}
use Rattle.schema_tree.specs.declared.verdicts.Verdict.TheVariants.{Yes, No, Unknown}
use Rattle.schema_tree.specs.Edges.{IsStratified}
use Rattle.schema_tree.specs.Laws.{NarrowIsKnown, RefinementIsTrue, StrataGiveOneTyping, TypingExists, WidthIsOne}
use Rattle.schema_tree.specs.Loaded.{IsLoaded}
use Rattle.schema_tree.specs.Needs.{HoldNeeds}
use Rattle.schema_tree.specs.Sure.{Known, PairIs}
use Rattle.schema_tree.specs.Typings.{HaveSame}
use Rattle.removal_laws.specs.Marks.{KnowSame, known_by, marked}
use Rattle.removal_laws.proofs.Known.{answers_in, answers_none, answers_out, same_alike}
use Rattle.demand.proofs.Led.{leads_wide, led_there}
use Rattle.typing_refiner.specs.Refined.{verdicts_of}
use Rattle.locality_laws.specs.Laws.{RefinementIsIndependent}
use Rattle.typing_refiner.specs.Statements.{AreTrue, AreTrueByAll, AreVerdictsByAll, IsRefinementOf, IsUnknownOnlyWide}
use Rattle.typing_refiner.proofs.Strata.{nothing_known}

same_with_none : (xs : List Pair) → HaveSame (xs ++ []) xs
same_with_none xs = subst (λ ys. HaveSame ys xs) (sym (append-nil xs)) ((λ q c. c), (λ q c. c))

-- the marks alone know the same
pub plain : (pairs : List Pair) (marks : List Verdict) → KnowSame (known_by nothing_known pairs marks) (verdicts_of pairs marks)
plain pairs marks = (same_with_none (marked Yes pairs marks), same_with_none (marked No pairs marks))

module _ (pairs : List Pair) (distinct : AreDistinct pairs) (marks : List Verdict) where
  told : (q : Pair) (v : Verdict) → PairIs (known_by nothing_known pairs marks) q v → PairIs (verdicts_of pairs marks) q v
  told q v = (same_alike (known_by nothing_known pairs marks) (verdicts_of pairs marks) (plain pairs marks) q v).0

  pub told_in : (i : ℕ) (q : Pair) (v : Verdict) → slice_get pairs i ≡ Some q → slice_get marks i ≡ Some v → PairIs (verdicts_of pairs marks) q v
  told_in i q v at mark = told q v (answers_in nothing_known pairs distinct marks i q v at mark)

  pub told_none : (i : ℕ) (q : Pair) → slice_get pairs i ≡ Some q → slice_get marks i ≡ None → PairIs (verdicts_of pairs marks) q Unknown
  told_none i q at mark = told q Unknown (answers_none nothing_known pairs distinct marks i q at mark)

  pub told_out : (q : Pair) → ¬ Contains pairs q → PairIs (verdicts_of pairs marks) q Unknown
  told_out q none = told q Unknown (answers_out nothing_known pairs distinct marks q Unknown none (nowhere q, nowhere q))
    where
      nowhere : (q : Pair) → ¬ Contains {X = Pair} [] q
      nowhere q (k, l, e) = omega (arith, l)

-- ---- one more that is Unknown

pub one_unknown : (marks new : List Verdict) → new ≡ marks ++ Unknown ∷ [] → ((i : ℕ) → i < length marks → slice_get marks i ≡ Some Unknown) →
    (i : ℕ) → i < length new → slice_get new i ≡ Some Unknown
one_unknown marks new is all i inside = subst (λ xs. slice_get xs i ≡ Some Unknown) (sym is) (go marks all i (subst (λ xs. i < length xs) is inside))
  where
    go : (xs : List Verdict) → ((i : ℕ) → i < length xs → slice_get xs i ≡ Some Unknown) → (i : ℕ) → i < length (xs ++ Unknown ∷ []) → slice_get (xs ++ Unknown ∷ []) i ≡ Some Unknown
    go [] all zero l = refl
    go [] all (suc i) l = absurd (let e : suc i < 1 = l in omega (arith, e))
    go (x ∷ xs) all zero l = all 0 (let e : 0 < suc (length xs) = omega arith in e)
    go (x ∷ xs) all (suc i) l = go xs (λ j lt. all (suc j) (let e : suc j < suc (length xs) = omega (arith, lt) in e)) i (let e : suc i < suc (length (xs ++ Unknown ∷ [])) = l in omega (arith, e))

-- ---- laws

module _ (s : Schema) (terms : List Term) (g : List Triple) (f : List ℕ) (budget : ℕ) (pairs : List Pair) (verdicts : Known) (loaded : IsLoaded s)
    (r : IsRefinementOf s terms g f budget pairs verdicts) where
  pub unknown_only : NarrowIsKnown → WidthIsOne → IsStratified s f → HoldNeeds s g pairs → IsUnknownOnlyWide s terms g f budget pairs verdicts
  unknown_only law widths strat closed p c unknown =
      let (known, is, same) = r in
      leads_wide s loaded g pairs widths terms budget p (λ q leads. led_there s g pairs closed p q c leads)
      (λ narrow. elim (law s terms g f pairs budget known loaded strat closed is p c narrow) [ inl y ↦ unknown.0 (same.0.1 p y) | inr n ↦ unknown.1 (same.1.1 p n) ])

  pub are_true : RefinementIsTrue → AreTrue s terms g f budget pairs verdicts
  are_true law U T typing holds =
      let (known, is, same) = r in
      let agrees = law s terms g f U T loaded typing pairs budget holds known is in (
        (λ p yes_. agrees.0 p ((same_alike verdicts known same p Yes).0 yes_)),
        (λ p no_. agrees.1 p ((same_alike verdicts known same p No).0 no_)),
      )

  pub by_all : RefinementIsTrue → TypingExists → StrataGiveOneTyping → IsStratified s f → AreTrueByAll s terms g f budget pairs verdicts
  by_all law exists one strat h U T by ends typing holds =
      let (W, is) = exists s terms g f U loaded strat in
      let agrees = are_true law U W is holds in
      let same = one s terms g f h U W T strat by ends is typing in
      ((λ p yes_. same.0 p (agrees.0 p yes_)), (λ p no_ c. agrees.1 p no_ (same.1 p c)))

  pub by_each : RefinementIsIndependent → IsStratified s f → AreVerdictsByAll s terms g budget pairs verdicts
  by_each law strat h whole by refined =
      let (known, is, same) = r in
      let other = law s terms g f h budget pairs known whole strat by is refined in (
        ((λ p c. other.0.0 p (same.0.0 p c)), (λ p c. same.0.1 p (other.0.1 p c))),
        ((λ p c. other.1.0 p (same.1.0 p c)), (λ p c. same.1.1 p (other.1.1 p c))),
      )
