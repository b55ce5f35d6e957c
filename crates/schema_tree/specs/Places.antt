-- Which places the triples of a pair may take (own: matching by counts, in place of the parts of ShEx 2.1, section 5.5.2).
use Rattle.std.specs.Prelude.{ℕ, suc, Bool, true, false, List, [], ◌∷◌, ◌≡◌, slice_get, Option, Some, None, Contains, ⊤, not, filter, nat_eq, if◌then◌else◌}
use Rattle.std.specs.List.{AllByRecursion, list_any}
use Rattle.rdf_terms.specs.declared.terms.TermId.{TermId}
use Rattle.rdf_terms.specs.declared.terms.Term.{Term}
use Rattle.rdf_terms.specs.declared.terms.Triple.{Triple}
use Rattle.rdf_terms.specs.Graphs.{outs, same_id}
use Rattle.tally.specs.Plan.{Plan}
use Rattle.tally.specs.Copies.{Copies}
use Rattle.schema_tree.specs.declared.schema.Schema.{Schema}
use Rattle.schema_tree.specs.declared.schema.Shape.{Shape}
use Rattle.schema_tree.specs.declared.schema.ExprId.{ExprId}
use Rattle.schema_tree.specs.declared.schema.Occurrence.{Occurrence}
use Rattle.schema_tree.specs.declared.schema.Pair.{Pair}
use Rattle.schema_tree.specs.declared.verdicts.Verdict.TheVariants.{Yes, No}
use Rattle.schema_tree.specs.declared.verdicts.Lean.{Lean}
use Rattle.schema_tree.specs.declared.verdicts.Lean.TheVariants.{Possible, Impossible}
use Rattle.schema_tree.specs.declared.verdicts.Place.{Place}
use Rattle.schema_tree.specs.declared.verdicts.Place.TheVariants.{At, Rest}
use Rattle.schema_tree.specs.Entries.{shape_at}
use Rattle.schema_tree.specs.Matches.{fits, other_end}
use Rattle.schema_tree.specs.Relevant.{is_relevant, is_forward, relevant_in_order}
use Rattle.schema_tree.specs.Sure.{Known, IsSure}

-- the value is Yes, or is Unknown and that counts as possible: then it is not No; an absent value is Yes
abbrev pub MayHold : Schema → List Term → Known → Lean → TermId → Option ExprId → Type 0
MayHold s terms view lean n None = ⊤
MayHold s terms view Impossible n (Some e) = IsSure s terms view n e Yes
MayHold s terms view Possible n (Some e) = ¬ IsSure s terms view n e No

-- the value is No, or is Unknown and that counts as possible: then it is not Yes
abbrev pub MayFail : Schema → List Term → Known → Lean → TermId → Option ExprId → Type 0
MayFail s terms view lean n None = ⊥
MayFail s terms view Impossible n (Some e) = IsSure s terms view n e No
MayFail s terms view Possible n (Some e) = ¬ IsSure s terms view n e Yes

-- hold and fail say of a value at a node whether it may be satisfied, and whether it may not be
module _ (hold fail : TermId → Option ExprId → Type 0) (sh : Shape) (n : TermId) where
  -- an arc out may stay in the remainder; the test says whether a forward occurrence fits it
  abbrev pub MayStayOut : Triple → Bool → Type 0
  MayStayOut t true = Contains sh.extra t.p × AllByRecursion (λ o. fail t.o o.value) (filter (is_forward n t) sh.occs)
  MayStayOut t false = sh.closed ≡ false

  -- a triple may stay in the remainder; the test says whether it is an arc out
  abbrev pub MayStay : Triple → Bool → Type 0
  MayStay t true = MayStayOut t (list_any (is_forward n t) sh.occs)
  MayStay t false = ⊤

  -- the occurrence, if there is one, may take the triple
  abbrev pub MayTake : Triple → Option Occurrence → Type 0
  MayTake t None = ⊥
  MayTake t (Some o) = (fits o n t ≡ true) × hold (other_end o.inverse t) o.value

  -- the place is allowed for the triple
  abbrev pub IsAllowed : Triple → Place → Type 0
  IsAllowed t (At i) = MayTake t (slice_get sh.occs i)
  IsAllowed t Rest = MayStay t (same_id t.s n)

  -- one allowed place for each triple, in their order
  abbrev pub AreAllowed : List Triple → List Place → Type 0
  AreAllowed [] [] = ⊤
  AreAllowed [] (p ∷ ps) = ⊥
  AreAllowed (t ∷ ts) [] = ⊥
  AreAllowed (t ∷ ts) (p ∷ ps) = IsAllowed t p × AreAllowed ts ps

-- one more where the place is the occurrence i
abbrev pub add_place : ℕ → Place → ℕ → ℕ
add_place i (At j) k = if nat_eq i j then suc k else k
add_place i Rest k = k

-- how many of the places are the occurrence i
abbrev pub times : List Place → ℕ → ℕ
times [] i = 0
times (p ∷ ps) i = add_place i p (times ps i)

-- the counts spell the expression once; where there is none, each is 0
abbrev pub HaveCounts : Option Plan → (ℕ → ℕ) → Type 0
HaveCounts None counts = (i : ℕ) → counts i ≡ 0
HaveCounts (Some c) counts = Copies c counts 1

-- the pair is shut: the Shape is closed, and the node has an arc out that no occurrence fits
abbrev pub IsShut : List Triple → Shape → TermId → Type 0
IsShut g sh n = (sh.closed ≡ true) × (list_any (λ t. not (is_relevant sh.occs n t)) (outs g n) ≡ true)

-- the pair is not shut, and some list of allowed places for ts has matching counts
pub record HasPlaces (hold fail : TermId → Option ExprId → Type 0) (g : List Triple) (sh : Shape) (n : TermId) (ts : List Triple) : Type 0 where
  pub open_to : ¬ IsShut g sh n
  pub places : List Place
  pub allowed : AreAllowed hold fail sh n ts places
  pub spelled : HaveCounts sh.body (times places)

-- n has the Shape, if there is one, by places for its relevant triples in order that the view and the lean allow
abbrev pub CanMatch : Schema → List Term → List Triple → Known → Lean → TermId → Option Shape → Type 0
CanMatch s terms g view lean n None = ⊥
CanMatch s terms g view lean n (Some sh) =
    HasPlaces (MayHold s terms view lean) (MayFail s terms view lean) g sh n (relevant_in_order terms g sh n)

-- the node of a pair has its Shape by such places
abbrev pub PairCanMatch : Schema → List Term → List Triple → Known → Lean → Pair → Type 0
PairCanMatch s terms g view lean p = CanMatch s terms g view lean p.node (shape_at s p.shape)
