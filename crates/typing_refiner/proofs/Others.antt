-- What refinement of a list over what is kept of others claims of an answer.
use Rattle.std.proofs.Common.{◌≡◌, ℕ, inl, inr, List, ◌++◌, subst, sym, Result, Ok, Err}
use Rattle.std.proofs.lemmas.List.Elements.{Contains-append_cases, Contains-append_left}
use Rattle.std.specs.Prelude.{◌↔◌, Contains, IfOk}
use Rattle.lists.specs.Distinct.{AreDistinct}
use Rattle.lists.proofs.Decided.{Decided, decide_member}
use Rattle.rdf_terms.specs.declared.terms.Term.{Term}
use Rattle.rdf_terms.specs.declared.terms.Triple.{Triple}
use Rattle.schema_tree.specs.declared.schema.Pair.{Pair}
use Rattle.schema_tree.specs.declared.schema.Schema.{Schema}
use Rattle.schema_tree.specs.declared.verdicts.Verdict.{Verdict}
use Rattle.schema_tree.specs.declared.verdicts.Verdict.TheVariants.{No, Unknown, Yes}
use Rattle.schema_tree.specs.Edges.{IsStratified}
use Rattle.schema_tree.specs.Laws.{StrataGiveOneTyping, TypingExists}
use Rattle.schema_tree.specs.Loaded.{IsLoaded}
use Rattle.schema_tree.specs.Sure.{Known, PairIs}
use Rattle.schema_tree.proofs.Decide.{same_pairs}
use Rattle.removal_laws.specs.Marks.{known_by, marked, outside}
use Rattle.removal_laws.proofs.Known.{same_alike, to_outside}
use Rattle.locality_laws.specs.Laws.{RefinementOverKeptIsLocal, UnknownIsWide, VerdictIsIndependent, VerdictIsTrue}
use Rattle.locality_laws.specs.Local.{AreKept}
use Rattle.locality_laws.proofs.Alike.{by_members, one_verdict}
use Rattle.typing_refiner.specs.Refined.{IsRefinedOn, verdicts_of}
use Rattle.typing_refiner.specs.Refinement.{Refinement, known_by_it}
use Rattle.typing_refiner.specs.Statements.{AreTrueByAll, AreVerdictsOn, AreVerdictsOnByAll, IsUnknownOnlyWide}
use Rattle.typing_refiner.proofs.Verdicts.{told_out}

-- of one of the pairs, the marks know what they know beside what is kept
module _ (elsewhere : Known) (pairs : List Pair) (marks : List Verdict) (p : Pair) (held : Contains pairs p) where
  beside : (v : Verdict) (others : List Pair) → Contains (marked v pairs marks) p ↔ Contains (marked v pairs marks ++ outside pairs others) p
  beside v others = (
    (λ c. Contains-append_left (marked v pairs marks) (outside pairs others) p c),
    (λ c. elim (Contains-append_cases (marked v pairs marks) (outside pairs others) p c) [ inl m ↦ m | inr o ↦ absurd ((to_outside pairs others p o).1 held) ]),
  )

  same_beside : (v : Verdict) → PairIs (verdicts_of pairs marks) p v ↔ PairIs (known_by elsewhere pairs marks) p v
  same_beside v = by_members (verdicts_of pairs marks) (known_by elsewhere pairs marks) p (beside Yes elsewhere.yes) (beside No elsewhere.no) v

module _ (s : Schema) (terms : List Term) (g : List Triple) (f : List ℕ) (budget : ℕ) (pairs : List Pair) where
  are_verdicts : (elsewhere : Known) (marks : List Verdict) → RefinementOverKeptIsLocal → IsStratified s f → AreKept s terms g f budget elsewhere pairs → AreDistinct pairs →
      IsRefinedOn s terms g f pairs budget elsewhere (known_by elsewhere pairs marks) → AreVerdictsOn s terms g f budget pairs (verdicts_of pairs marks)
  are_verdicts elsewhere marks law strat kept distinct (known, are, same) = (
    (λ p v held is. law s terms g f budget pairs elsewhere known strat kept are p v held ((same_alike (known_by elsewhere pairs marks) known same p v).0 ((same_beside elsewhere pairs marks p held v).0 is))),
    (λ p none. told_out pairs distinct marks p none),
  )

  module _ (verdicts : Known) (are : AreVerdictsOn s terms g f budget pairs verdicts) (loaded : IsLoaded s) (strat : IsStratified s f) where
    unknown_only : UnknownIsWide → IsUnknownOnlyWide s terms g f budget pairs verdicts
    unknown_only law p held unknown = law s terms g f budget loaded strat p (are.0 p Unknown held unknown)

    by_each : VerdictIsIndependent → AreVerdictsOnByAll s terms g budget pairs verdicts
    by_each law h by = ((λ p v held is. law s terms g f h budget loaded strat by p v (are.0 p v held is)), are.1)

    -- what has Yes or No is of the list
    listed : (p : Pair) (v : Verdict) → PairIs verdicts p v → ¬ (v ≡ Unknown) → Contains pairs p
    listed p v is known = by (decide_member same_pairs pairs p)
      where
        by : Decided (Contains pairs p) → Contains pairs p
        by (inl held) = held
        by (inr none) = absurd (known (one_verdict verdicts p v Unknown is (are.1 p none)))

    by_all : VerdictIsTrue → TypingExists → StrataGiveOneTyping → AreTrueByAll s terms g f budget pairs verdicts
    by_all law exists one h U T by ends typing holds =
        let (W, is) = exists s terms g f U loaded strat in
        let same = one s terms g f h U W T strat by ends is typing in (
          (λ p yes_. let held = listed p Yes yes_ (λ e. cc) in same.0 p ((law s terms g f budget U W loaded is ends p (holds p held)).0 (are.0 p Yes held yes_))),
          (λ p no_ c. let held = listed p No no_ (λ e. cc) in (law s terms g f budget U W loaded is ends p (holds p held)).1 (are.0 p No held no_) (same.1 p c)),
        )

module _ {E : Type 0} (s : Schema) (terms : List Term) (g : List Triple) (f : List ℕ) (budget : ℕ) (pairs : List Pair) (loaded : IsLoaded s) (strat : IsStratified s f) where
  pub ok_verdicts : (elsewhere : Known) (result : Result Refinement E) → RefinementOverKeptIsLocal → AreKept s terms g f budget elsewhere pairs → AreDistinct pairs →
      IfOk result (λ r. IsRefinedOn s terms g f pairs budget elsewhere (known_by elsewhere pairs r.marks)) → IfOk result (λ r. r.pairs ≡ pairs) →
      IfOk result (λ r. AreVerdictsOn s terms g f budget pairs (known_by_it r))
  ok_verdicts elsewhere (Ok r) law kept distinct a b =
      subst (λ ps. AreVerdictsOn s terms g f budget pairs (verdicts_of ps r.marks)) (sym b) (are_verdicts s terms g f budget pairs elsewhere r.marks law strat kept distinct a)
  ok_verdicts elsewhere (Err e) law kept distinct a b = a

  pub ok_by_each : (result : Result Refinement E) → VerdictIsIndependent → IfOk result (λ r. AreVerdictsOn s terms g f budget pairs (known_by_it r)) →
      IfOk result (λ r. AreVerdictsOnByAll s terms g budget pairs (known_by_it r))
  ok_by_each (Ok r) law h = by_each s terms g f budget pairs (known_by_it r) h loaded strat law
  ok_by_each (Err e) law h = h

  pub ok_unknown : (result : Result Refinement E) → UnknownIsWide → IfOk result (λ r. AreVerdictsOn s terms g f budget pairs (known_by_it r)) →
      IfOk result (λ r. IsUnknownOnlyWide s terms g f budget pairs (known_by_it r))
  ok_unknown (Ok r) law h = unknown_only s terms g f budget pairs (known_by_it r) h loaded strat law
  ok_unknown (Err e) law h = h

  pub ok_true_by_all : (result : Result Refinement E) → VerdictIsTrue → TypingExists → StrataGiveOneTyping → IfOk result (λ r. AreVerdictsOn s terms g f budget pairs (known_by_it r)) →
      IfOk result (λ r. AreTrueByAll s terms g f budget pairs (known_by_it r))
  ok_true_by_all (Ok r) law exists one h = by_all s terms g f budget pairs (known_by_it r) h loaded strat law exists one
  ok_true_by_all (Err e) law exists one h = h
