-- Strata, one after another.
use Rattle.std.proofs.Common.{◌≡◌, ◌≢◌, ◌∙◌, ℕ, zero, suc, ◌<◌, ◌+◌, inl, inr, List, [], ◌∷◌, ◌++◌, ap, refl, sym, subst, arith, length, take, get_or, max}
use Rattle.std.proofs.lemmas.List.{append-nil, take_more}
use Rattle.std.proofs.lemmas.Bool.{cases_eq}
use Rattle.std.proofs.lemmas.List.Elements.{Contains-append_cases, Contains-append_left, Contains-append_right}
use Rattle.lists.proofs.Members.{in_one, is_first, not_in_none}
use Rattle.schema_tree.specs.Removal.{AreRefinedBelow}
use Rattle.removal_laws.specs.Marks.{known_by, marked, outside}
use Rattle.removal_laws.proofs.Marking.{to_mark}
use Rattle.std.proofs.lemmas.Option.{slice_get_within}
use Rattle.std.specs.Prelude.{◌↔◌, Contains, Some, slice_get}
use Rattle.schema_tree.specs.declared.schema.Pair.{Pair}
use Rattle.schema_tree.specs.declared.verdicts.Verdict.{Verdict}
use Rattle.schema_tree.specs.declared.verdicts.Verdict.TheVariants.{Yes, No, Unknown}
use Rattle.schema_tree.specs.Sure.{Known}
use Rattle.schema_tree.specs.declared.schema.Schema.{Schema}
use Rattle.rdf_terms.specs.declared.terms.Term.{Term}
use Rattle.rdf_terms.specs.declared.terms.Triple.{Triple}
use Rattle.schema_tree.specs.Typings.{HaveSame, top_of}
use Rattle.removal_laws.proofs.Confirming.{above, refined}
use Rattle.removal_laws.proofs.Removing.{ended, low}
use Rattle.typing_refiner.specs.declared.ground.Ground.{Ground}
use Rattle.typing_refiner.specs.Ready.{IsBefore, IsConfirming, IsLow, IsOpen, IsReady, IsRemoving, known_of}
use Rattle.locality_laws.specs.Local.{AreRefinedOn}
use Rattle.typing_refiner.specs.Refined.{AreRefinedFrom, IsRefinedOn, IsRefinedOver, IsStratumDone, verdicts_of}
use Rattle.typing_refiner.specs.Statements.{IsRefinementOf}

top_push : (xs : List ℕ) (x : ℕ) → top_of (xs ++ x ∷ []) ≡ max (top_of xs) x
top_push [] x = omega arith
top_push (y ∷ ys) x = let deeper = top_push ys x in omega (arith, deeper)

pub top_more : (xs : List ℕ) (i : ℕ) → i < length xs → (top : ℕ) → top ≡ top_of (take i xs) → max top (get_or xs i 0) ≡ top_of (take (i + 1) xs)
top_more xs i inside top is =
    ap (λ t. max t (get_or xs i 0)) is ∙ (sym (top_push (take i xs) (get_or xs i 0)) ∙ ap top_of (sym (take_more xs i 0 inside)))

module _ (h : Ground) (ready : IsReady h) (elsewhere lower : Known) (k : ℕ) where
  -- what is known below a stratum is of lower strata
  pub is_low : (marks : List Verdict) → IsBefore h elsewhere lower k marks → IsLow h lower k
  is_low marks before = low h.schema.now h.terms.now h.graph.now.triples h.strata.now h.table.now h.budget elsewhere ready.distinct lower k marks before

  -- a stratum is refined
  pub done : (old middle marks : List Verdict) (gone : List Pair) → IsRemoving h elsewhere lower k middle gone (λ i. ⊥) → IsConfirming h elsewhere lower k marks gone (λ i. ⊥) →
      IsStratumDone h elsewhere lower k gone marks
  done old middle marks gone removing confirming = record {
    kept = confirming.cand;
    refined = refined h.schema.now h.terms.now h.graph.now.triples h.strata.now h.table.now h.budget elsewhere ready.distinct lower k marks gone (λ i. ⊥) confirming (λ i e. e)
        middle (λ i. ⊥) removing
        (ended h.schema.now h.terms.now h.graph.now.triples h.strata.now h.table.now h.budget elsewhere ready.distinct lower k middle gone (λ i. ⊥) removing (λ i e. e));
    above = above h.schema.now h.terms.now h.graph.now.triples h.strata.now h.table.now h.budget elsewhere ready.distinct lower k marks gone (λ i. ⊥) confirming (λ i e. e);
  }

-- one more stratum
pub one_more : (h : Ground) (elsewhere first : Known) (k : ℕ) (old marks : List Verdict) (gone : List Pair) → (r : IsRefinedOver h elsewhere first k old) →
    IsStratumDone h elsewhere r.known k gone marks → IsRefinedOver h elsewhere first (suc k) marks
one_more h elsewhere first k old marks gone r d = record {
  known = record { yes = r.known.yes ++ d.kept; no = r.known.no ++ gone };
  are = (r.known, gone, d.kept, r.are, d.refined, refl, refl);
  before = d.above;
}

-- at first no pair has a verdict
pub at_first : (h : Ground) (elsewhere : Known) (marks : List Verdict) → length marks ≡ length h.table.now → ((i : ℕ) → i < length marks → slice_get marks i ≡ Some Unknown) →
    IsRefinedOver h elsewhere (known_of h elsewhere marks) 0 marks
at_first h elsewhere marks same unknown = record {
  known = known_of h elsewhere marks;
  are = (refl, refl);
  before = record {
    knows = (((λ q c. c), (λ q c. c)), ((λ q c. c), (λ q c. c)));
    new = λ i p at le. unknown i (let w = slice_get_within h.table.now i p at in omega arith);
  };
}

-- the open pairs of the stratum have none
pub fresh : (h : Ground) (elsewhere first : Known) (k : ℕ) (marks : List Verdict) → IsRefinedOver h elsewhere first k marks → (i : ℕ) → IsOpen h k i → slice_get marks i ≡ Some Unknown
fresh h elsewhere first k marks r i (p, at, narrow) = r.before.new i p at (let e = narrow.1 in omega arith)

-- the numbers below one that have P
abbrev pub AreBelow : (ℕ → Type 0) → ℕ → List ℕ → Type 0
AreBelow P at xs = (i : ℕ) → Contains xs i ↔ ((i < at) × P i)

pub below_put : (P : ℕ → Type 0) (at : ℕ) (old new : List ℕ) → AreBelow P at old → P at → new ≡ old ++ at ∷ [] → AreBelow P (at + 1) new
below_put P at old new h p is i = (
  (λ c. elim (Contains-append_cases old (at ∷ []) i (subst (λ xs. Contains xs i) is c)) [
    | inl l ↦ (let (lt, q) = (h i).0 l in ((let e : i < at + 1 = omega arith in e), q))
    | inr r ↦ (let e : at ≡ i = in_one at i r in ((let l : i < at + 1 = omega arith in l), subst P e p))
  ]),
  (λ (lt, q). subst (λ xs. Contains xs i) (sym is) (elim (cases_eq i at) [
    | inl e ↦ Contains-append_right old (at ∷ []) i (subst (λ z. Contains (at ∷ []) z) (sym e) (is_first at []))
    | inr ne ↦ Contains-append_left old (at ∷ []) i ((h i).1 ((let l : i < at = omega arith in l), q))
  ])),
)

pub below_pass : (P : ℕ → Type 0) (at : ℕ) (old : List ℕ) → AreBelow P at old → ¬ P at → AreBelow P (at + 1) old
below_pass P at old h none i = (
  (λ c. let (lt, q) = (h i).0 c in ((let l : i < at + 1 = omega arith in l), q)),
  (λ (lt, q). elim (cases_eq i at) [ inl e ↦ absurd (none (subst P e q)) | inr ne ↦ (h i).1 ((let l : i < at = omega arith in l), q) ]),
)

pub one_more_at : (h : Ground) (elsewhere first : Known) (k : ℕ) (old marks : List Verdict) (gone : List Pair) → (r : IsRefinedOver h elsewhere first k old) →
    IsStratumDone h elsewhere r.known k gone marks → IsRefinedOver h elsewhere first (k + 1) marks
one_more_at h elsewhere first k old marks gone r d =
    let e : suc k ≡ k + 1 = omega arith in subst (λ j. IsRefinedOver h elsewhere first j marks) e (one_more h elsewhere first k old marks gone r d)

-- ---- over nothing that is kept, the verdicts are those of refinement

nothing_in : (xs : List Pair) → ((q : Pair) → ¬ Contains xs q) → xs ≡ []
nothing_in [] none = refl
nothing_in (x ∷ xs) none = absurd (none x (is_first x xs))

unmarked : (h : Ground) (marks : List Verdict) → length marks ≡ length h.table.now → ((i : ℕ) → i < length marks → slice_get marks i ≡ Some Unknown) → (v : Verdict) → v ≢ Unknown →
    (q : Pair) → ¬ Contains (marked v h.table.now marks ++ []) q
unmarked h marks same unknown v ne q c = elim (Contains-append_cases (marked v h.table.now marks) [] q c) [
  | inl m ↦ (let (i, there, mark) = to_mark v h.table.now marks q m in
      let w = slice_get_within marks i v mark in
      let both : Some v ≡ Some Unknown = sym mark ∙ unknown i w in ne (let e : v ≡ Unknown = cc in e))
  | inr n ↦ not_in_none q n
]

abbrev pub nothing_known : Known
nothing_known = record { yes = []; no = [] }

first_is : (h : Ground) (marks : List Verdict) → length marks ≡ length h.table.now → ((i : ℕ) → i < length marks → slice_get marks i ≡ Some Unknown) →
    ((known_of h nothing_known marks).yes ≡ []) × ((known_of h nothing_known marks).no ≡ [])
first_is h marks same unknown = (
  nothing_in _ (unmarked h marks same unknown Yes (λ e. cc)),
  nothing_in _ (unmarked h marks same unknown No (λ e. cc)),
)

from_first : (h : Ground) (first : Known) → first.yes ≡ [] → first.no ≡ [] → (k : ℕ) (known : Known) → AreRefinedFrom h first k known →
    AreRefinedBelow h.schema.now h.terms.now h.graph.now.triples h.strata.now h.table.now h.budget k known
from_first h first yes_none no_none zero known (a, b) = (a ∙ yes_none, b ∙ no_none)
from_first h first yes_none no_none (suc k) known (lower, gone, kept, before, r, a, b) = (lower, gone, kept, from_first h first yes_none no_none k lower before, r, a, b)

-- ---- over what is kept, the marks know what a refinement says

pub marks_of_none : (v : Verdict) (pairs : List Pair) → marked v pairs [] ≡ []
marks_of_none v [] = refl
marks_of_none v (p ∷ ps) = refl

unmarked_by : (v : Verdict) (pairs : List Pair) (marks : List Verdict) → v ≢ Unknown → length marks ≡ length pairs → ((i : ℕ) → i < length marks → slice_get marks i ≡ Some Unknown) →
    marked v pairs marks ≡ []
unmarked_by v pairs marks ne same unknown = nothing_in (marked v pairs marks) (λ q m.
    let (i, there, mark) = to_mark v pairs marks q m in
    let w = slice_get_within marks i v mark in
    let both : Some v ≡ Some Unknown = sym mark ∙ unknown i w in ne (let e : v ≡ Unknown = cc in e))

pub begun_with : (elsewhere : Known) (pairs : List Pair) (marks : List Verdict) → length marks ≡ length pairs → ((i : ℕ) → i < length marks → slice_get marks i ≡ Some Unknown) →
    known_by elsewhere pairs marks ≡ known_by elsewhere pairs []
begun_with elsewhere pairs marks same unknown = λ i. record {
  yes = (unmarked_by Yes pairs marks (λ e. cc) same unknown ∙ sym (marks_of_none Yes pairs)) i ++ outside pairs elsewhere.yes;
  no = (unmarked_by No pairs marks (λ e. cc) same unknown ∙ sym (marks_of_none No pairs)) i ++ outside pairs elsewhere.no;
}

pub refined_on :
    (h : Ground) (pairs : List Pair) (elsewhere : Known) (old marks : List Verdict) → h.table.now ≡ pairs → length old ≡ length pairs → ((i : ℕ) → i < length old → slice_get old i ≡ Some Unknown) →
    IsRefinedOver h elsewhere (known_of h elsewhere old) (suc (top_of h.strata.now)) marks →
    IsRefinedOn h.schema.now h.terms.now h.graph.now.triples h.strata.now pairs h.budget elsewhere (known_by elsewhere pairs marks)
refined_on h pairs elsewhere old marks is same unknown r =
    subst (λ ps. IsRefinedOn h.schema.now h.terms.now h.graph.now.triples h.strata.now ps h.budget elsewhere (known_by elsewhere ps marks)) is
    (r.known, subst (λ first. AreRefinedFrom h first (suc (top_of h.strata.now)) r.known) (begun_with elsewhere h.table.now old (same ∙ sym (ap length is)) unknown) r.are, r.before.knows)

-- ---- over nothing that is kept, they are those of refinement

from_none : (s : Schema) (terms : List Term) (g : List Triple) (f : List ℕ) (pairs : List Pair) (budget : ℕ) (first : Known) → first.yes ≡ [] → first.no ≡ [] → (k : ℕ) (known : Known) →
    AreRefinedOn s terms g f pairs budget first k known → AreRefinedBelow s terms g f pairs budget k known
from_none s terms g f pairs budget first yes_none no_none zero known (a, b) = (a ∙ yes_none, b ∙ no_none)
from_none s terms g f pairs budget first yes_none no_none (suc k) known (lower, gone, kept, before, r, a, b) =
    (lower, gone, kept, from_none s terms g f pairs budget first yes_none no_none k lower before, r, a, b)

same_by_none : (xs : List Pair) (known : List Pair) → HaveSame (xs ++ []) known → HaveSame xs known
same_by_none xs known same = subst (λ ys. HaveSame ys known) (append-nil xs) same

pub over_nothing : (s : Schema) (terms : List Term) (g : List Triple) (f : List ℕ) (pairs : List Pair) (budget : ℕ) (marks : List Verdict) →
    IsRefinedOn s terms g f pairs budget nothing_known (known_by nothing_known pairs marks) → IsRefinementOf s terms g f budget pairs (verdicts_of pairs marks)
over_nothing s terms g f pairs budget marks (known, are, same) = (
  known,
  from_none s terms g f pairs budget (known_by nothing_known pairs []) (ap (λ xs. xs ++ []) (marks_of_none Yes pairs)) (ap (λ xs. xs ++ []) (marks_of_none No pairs)) (suc (top_of f)) known are,
  (same_by_none (marked Yes pairs marks) known.yes same.0, same_by_none (marked No pairs marks) known.no same.1),
)
