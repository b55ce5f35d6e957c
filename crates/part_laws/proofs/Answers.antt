-- Verdicts, answers and complete typings over a part that is enough.
use Rattle.std.proofs.Common.{◌≡◌, ℕ, ◌≤◌, ◌⊎◌, Bool, true, false, suc, inl, inr, List, [], ◌∷◌, arith, sym, subst, ap, ◌∙◌}
use Rattle.std.proofs.lemmas.List.Sums.{sum_by-cons}
use Rattle.std.specs.List.{sum_by}
use Rattle.std.specs.Prelude.{◌↔◌, Contains}
use Rattle.demand.specs.declared.reach.Root.{Root}
use Rattle.demand.specs.Demand.{AreAsked, IsAsked}
use Rattle.lists.specs.Distinct.{AreDistinct}
use Rattle.lists.proofs.Members.{in_rest, not_in_none}
use Rattle.locality_laws.specs.Laws.{RefinementIsLocal}
use Rattle.rdf_terms.specs.declared.terms.Term.{Term}
use Rattle.rdf_terms.specs.declared.terms.TermId.{TermId}
use Rattle.rdf_terms.specs.declared.terms.Triple.{Triple}
use Rattle.removal_laws.proofs.Carried.{sure_carries}
use Rattle.schema_tree.specs.declared.schema.ExprId.{ExprId}
use Rattle.schema_tree.specs.declared.schema.Pair.{Pair}
use Rattle.schema_tree.specs.declared.schema.Schema.{Schema}
use Rattle.schema_tree.specs.declared.schema.ShapeId.{ShapeId}
use Rattle.schema_tree.specs.declared.verdicts.Verdict.{Verdict}
use Rattle.schema_tree.specs.declared.verdicts.Verdict.TheVariants.{No, Unknown, Yes}
use Rattle.schema_tree.specs.Edges.{StandsIn}
use Rattle.schema_tree.specs.Entries.{pair_of, shape_at}
use Rattle.schema_tree.specs.Laws.{NarrowIsKnown, OneVerdict, OrderIsWhole, RefinementExists, RefinementIsTrue, SatFollowsPairs, ShapesArePlaces, SomeVerdict, WidthIsOne}
use Rattle.schema_tree.specs.Matches.{other_end}
use Rattle.schema_tree.specs.Needs.{HoldNeeds, Leads, here, step}
use Rattle.schema_tree.specs.Removal.{IsRefined}
use Rattle.schema_tree.specs.Sure.{Agrees, IsSure, Known, PairIs}
use Rattle.schema_tree.specs.Typings.{HoldsEnds}
use Rattle.schema_tree.specs.Width.{HasWidth, IsWithinWidth}
use Rattle.schema_tree.proofs.Decide.{same_pairs}
use Rattle.lists.proofs.Decided.{Decided, decide_member}
use Rattle.part_laws.specs.Laws.{AnswerIsSame, MatchIsSame, NeedsAreSame, NeighIsSame, ReachIsSame, RefinementIsSame, RelevantIsSame, ShapeIsSame, TypingIsSame, VerdictIsSame, WidthIsSame}
use Rattle.part_laws.specs.Parts.{IsPartAt}
use Rattle.part_laws.proofs.Alike.{AreAlike, alike_turned, refined_alike, verdict_alike}
use Rattle.part_laws.proofs.Near.{HaveSameAt, match_same, needs_there, neigh_moved, order_same, relevant_same, same_turned, shape_same, width_same}
use Rattle.part_laws.proofs.Shards.{asked_closed, asked_node, asked_same, asked_whole, closed_whole, near_at, node_there, once, same_at}

-- ---- at a node

pub neigh_is_same : NeighIsSame
neigh_is_same terms whole part nodes d e at n c =
    let same = near_at whole part nodes at n c in (neigh_moved whole part n d e same, order_same whole part n d e same terms)

pub relevant_is_same : RelevantIsSame
relevant_is_same s terms whole part nodes d e at n c i sh is = relevant_same whole part n d e sh (same_at s whole part nodes at n c i sh is) terms

has_width : (s : Schema) (terms : List Term) (g h : List Triple) (d : AreDistinct g) (e : AreDistinct h) (p : Pair) →
    HaveSameAt g h p.node (shape_at s p.shape) → (w : ℕ) → HasWidth s terms g p w → HasWidth s terms h p w
has_width s terms g h d e p same w has =
    record { plain = has.plain; tells = has.tells; is = has.is ∙ width_same g h p.node d e has.plain (shape_at s p.shape) same }

pub width_is_same : WidthIsSame
width_is_same s terms whole part nodes d e at p c w =
    let same = same_at s whole part nodes at p.node c p.shape in
    (has_width s terms whole part d e p same w, has_width s terms part whole e d p (same_turned whole part p.node (shape_at s p.shape) same) w)

pub match_is_same : MatchIsSame
match_is_same s terms whole part nodes d e at p c view lean =
    let same = same_at s whole part nodes at p.node c p.shape in (
      match_same whole part p.node d e s terms view lean (shape_at s p.shape) same,
      match_same part whole p.node e d s terms view lean (shape_at s p.shape) (same_turned whole part p.node (shape_at s p.shape) same),
    )

pub shape_is_same : ShapesArePlaces → OrderIsWhole → ShapeIsSame
shape_is_same law order s terms whole part nodes loaded d e at n c T i =
    let same = same_at s whole part nodes at n c i in (
      shape_same whole part n d e law order s terms loaded T i same,
      shape_same part whole n e d law order s terms loaded T i (same_turned whole part n (shape_at s i) same),
    )

pub needs_are_same : NeedsAreSame
needs_are_same s whole part nodes at p q c =
    let same = same_at s whole part nodes at p.node c p.shape in
    (needs_there whole part s p q same, needs_there part whole s p q (same_turned whole part p.node (shape_at s p.shape) same))

-- ---- of roots

pub reach_is_same : ReachIsSame
reach_is_same s whole part nodes roots shard q = (asked_same s whole part nodes roots shard q, asked_node s whole part nodes roots shard q)

within : (s : Schema) (terms : List Term) (g h : List Triple) (bound : ℕ) (p : Pair) → ((w : ℕ) → HasWidth s terms g p w → HasWidth s terms h p w) →
    IsWithinWidth s terms g bound p → IsWithinWidth s terms h bound p
within s terms g h bound p to (w, has, le) = (w, to w has, le)

alike : (s : Schema) (terms : List Term) (whole part : List Triple) (nodes : List TermId) (budget : ℕ) (pairs : List Pair) → AreDistinct whole → AreDistinct part → IsPartAt s whole part nodes →
    ((q : Pair) → Contains pairs q → Contains nodes q.node) → AreAlike s terms terms whole part budget pairs
alike s terms whole part nodes budget pairs d e at there = record {
  match_alike = λ p c view lean. match_is_same s terms whole part nodes d e at p (there p c) view lean;
  width_alike = λ p c. (
    within s terms whole part budget p (λ w. (width_is_same s terms whole part nodes d e at p (there p c) w).0),
    within s terms part whole budget p (λ w. (width_is_same s terms whole part nodes d e at p (there p c) w).1),
  );
}

module _ (s : Schema) (terms : List Term) (whole part : List Triple) (nodes : List TermId) (f : List ℕ) (budget : ℕ) (d : AreDistinct whole) (e : AreDistinct part)
    (at : IsPartAt s whole part nodes) (pairs : List Pair) (there : (q : Pair) → Contains pairs q → Contains nodes q.node) where
  both : AreAlike s terms terms whole part budget pairs
  both = alike s terms whole part nodes budget pairs d e at there

  turned : AreAlike s terms terms part whole budget pairs
  turned = alike_turned s terms terms whole part budget pairs both

  refined_there : (known : Known) → IsRefined s terms whole f pairs budget known → IsRefined s terms part f pairs budget known
  refined_there known r = refined_alike s terms terms whole part f budget pairs both known r

  pub refined_back : (known : Known) → IsRefined s terms part f pairs budget known → IsRefined s terms whole f pairs budget known
  refined_back known r = refined_alike s terms terms part whole f budget pairs turned known r

  pub closed_over : HoldNeeds s part pairs → HoldNeeds s whole pairs
  closed_over closed p q c need = closed p q c ((needs_are_same s whole part nodes at p q (there p c)).0 need)

pub refinement_is_same : RefinementIsSame
refinement_is_same s terms whole part nodes f budget d e at pairs there known =
    (refined_there s terms whole part nodes f budget d e at pairs there known, refined_back s terms whole part nodes f budget d e at pairs there known)

pub verdict_is_same : RefinementExists → RefinementIsLocal → VerdictIsSame
verdict_is_same exists local s terms whole part nodes f budget loaded d e at pairs apart closed there p held v =
    let over = closed_over s terms whole part nodes f budget d e at pairs there closed in (
      verdict_alike s terms terms whole part f budget pairs (both s terms whole part nodes f budget d e at pairs there) exists local loaded apart over closed p held v,
      verdict_alike s terms terms part whole f budget pairs (turned s terms whole part nodes f budget d e at pairs there) exists local loaded apart closed over p held v,
    )

-- ---- answers

-- views that answer alike for the node with the Shapes that stand in an expression make the same sure of it
module _ (one : OneVerdict) (some : SomeVerdict) (s : Schema) (terms : List Term) (a b : Known) (n : TermId) (x : ExprId)
    (same : (i : ShapeId) (sign : Bool) → StandsIn s i x sign → (v : Verdict) → PairIs a (pair_of n i) v ↔ PairIs b (pair_of n i) v) where
  yes_there : IsSure s terms a n x Yes → IsSure s terms b n x Yes
  yes_there = (sure_carries s terms a b n (suc x.0) x).0 ((λ i sign st. (same i sign st Yes).0), (λ i st. (same i true st No).0))

  no_there : IsSure s terms a n x No → IsSure s terms b n x No
  no_there = (sure_carries s terms a b n (suc x.0) x).1 ((λ i sign st. (same i sign st No).0), (λ i st. (same i true st Yes).0))

  yes_back : IsSure s terms b n x Yes → IsSure s terms a n x Yes
  yes_back = (sure_carries s terms b a n (suc x.0) x).0 ((λ i sign st. (same i sign st Yes).1), (λ i st. (same i true st No).1))

  no_back : IsSure s terms b n x No → IsSure s terms a n x No
  no_back = (sure_carries s terms b a n (suc x.0) x).1 ((λ i sign st. (same i sign st No).1), (λ i st. (same i true st Yes).1))

  pub sure_there : (v : Verdict) → IsSure s terms a n x v → IsSure s terms b n x v
  sure_there Yes h = yes_there h
  sure_there No h = no_there h
  sure_there Unknown h = let (w, is) = some s terms b n x in by w is
    where
      by : (w : Verdict) → IsSure s terms b n x w → IsSure s terms b n x Unknown
      by Yes is = let f : Yes ≡ Unknown = one s terms a n x Yes Unknown (yes_back is) h in absurd (cc)
      by No is = let f : No ≡ Unknown = one s terms a n x No Unknown (no_back is) h in absurd (cc)
      by Unknown is = is

pub answer_is_same : RefinementIsLocal → OneVerdict → SomeVerdict → AnswerIsSame
answer_is_same local one some s terms whole part nodes roots all f budget d e shard among pairs pairs_all known known_all asked refined asked_all refined_all r held v = (
  sure_there one some s terms known_all known r.node r.expr (λ i sign st w. ((says i sign st w).1, (says i sign st w).0)) v,
  sure_there one some s terms known known_all r.node r.expr says v,
)
  where
    says : (i : ShapeId) (sign : Bool) → StandsIn s i r.expr sign → (w : Verdict) → PairIs known (pair_of r.node i) w ↔ PairIs known_all (pair_of r.node i) w
    says i sign st w =
        local s terms whole f budget pairs pairs_all known known_all (closed_whole s whole part nodes roots shard terms pairs asked) (asked_closed s terms whole all pairs_all asked_all)
        (refined_back s terms whole part nodes f budget d e shard.at pairs (node_there s whole part nodes roots shard terms pairs asked) known refined) refined_all
        (pair_of r.node i) ((asked.exactly (pair_of r.node i)).1 (r, held, (i, sign, st, here))) ((asked_all.exactly (pair_of r.node i)).1 (r, among r held, (i, sign, st, here))) w

-- ---- complete typings

-- no less than each of the numbers
one_of_sum : (k : Pair → ℕ) (ps : List Pair) (p : Pair) → Contains ps p → k p ≤ sum_by k ps
one_of_sum k [] p c = absurd (not_in_none p c)
one_of_sum k (q ∷ ps) p c = elim (in_rest q ps p c) [
  | inl is ↦ (let e : k q ≡ k p = ap k is in let sum = sum_by-cons k q ps in omega (arith, e, sum))
  | inr later ↦ (let le = one_of_sum k ps p later in let sum = sum_by-cons k q ps in omega (arith, le, sum))
]

module _ (s : Schema) (g : List Triple) where
  pub led_inside : (U : List TermId) → HoldsEnds U g → (p q : Pair) → Leads s g p q → Contains U p.node → Contains U q.node
  led_inside U ends p q here c = c
  led_inside U ends p q (step u need rest) c = led_inside U ends u q rest (subst (λ m. Contains U m) (sym need.end) (end need.occ.inverse))
    where
      end : (inverse : Bool) → Contains U (other_end inverse need.triple)
      end true = (ends need.triple need.held).0
      end false = (ends need.triple need.held).1

  asked_inside : (U : List TermId) (roots : List Root) → HoldsEnds U g → ((r : Root) → Contains roots r → Contains U r.node) → (q : Pair) → IsAsked s g roots q → Contains U q.node
  asked_inside U roots ends there q (r, held, (i, sign, st, leads)) = led_inside U ends (pair_of r.node i) q leads (there r held)

  closed_leads : (pairs : List Pair) → HoldNeeds s g pairs → (p q : Pair) → Contains pairs p → Leads s g p q → Contains pairs q
  closed_leads pairs closed p q c here = c
  closed_leads pairs closed p q c (step u need rest) = closed_leads pairs closed u q (closed p u c need) rest

by_known : (known : Known) (T W : List Pair) → Agrees T known → Agrees W known → (p : Pair) → Contains known.yes p ⊎ Contains known.no p → Contains T p → Contains W p
by_known known T W at aw p (inl h) c = aw.0 p h
by_known known T W at aw p (inr h) c = by (decide_member same_pairs known.yes p)
  where
    by : Decided (Contains known.yes p) → Contains W p
    by (inl k) = aw.0 p k
    by (inr none) = absurd (at.1 p (none, h) c)

pub typing_is_same : RefinementExists → RefinementIsTrue → NarrowIsKnown → SatFollowsPairs → WidthIsOne → TypingIsSame
typing_is_same exists truth narrow follows widths s terms whole part nodes roots f U V T W loaded strat d e shard typing_whole typing_part ends_whole ends_part rooted pairs asked = (
  (λ p c. (by_known known T W agrees_whole agrees_part p (decided p c), by_known known W T agrees_part agrees_whole p (decided p c))),
  (λ r held. (
    follows s terms T W r.node r.expr (λ i sign st. (same r held i sign st).0) (λ i st. (same r held i true st).1),
    follows s terms W T r.node r.expr (λ i sign st. (same r held i sign st).1) (λ i st. (same r held i true st).0),
  )),
)
  where
    width : Pair → ℕ
    width p = (widths s terms whole p).0.0

    budget : ℕ
    budget = sum_by width pairs

    apart : AreDistinct pairs
    apart = once s whole part nodes roots shard terms pairs asked

    closed : HoldNeeds s whole pairs
    closed = closed_whole s whole part nodes roots shard terms pairs asked

    asked_too : AreAsked s terms whole roots pairs
    asked_too = asked_whole s whole part nodes roots shard terms pairs asked

    known : Known
    known = (exists s terms whole f pairs budget loaded apart).0

    refined : IsRefined s terms whole f pairs budget known
    refined = (exists s terms whole f pairs budget loaded apart).1

    agrees_whole : Agrees T known
    agrees_whole =
        truth s terms whole f U T loaded typing_whole pairs budget
        (λ q c. asked_inside s whole U roots ends_whole (λ r held. (rooted r held).0) q ((asked_too.exactly q).0 c)) known refined

    agrees_part : Agrees W known
    agrees_part =
        truth s terms part f V W loaded typing_part pairs budget
        (λ q c. asked_inside s part V roots ends_part (λ r held. (rooted r held).1) q ((asked.exactly q).0 c)) known
        (refined_there s terms whole part nodes f budget d e shard.at pairs (node_there s whole part nodes roots shard terms pairs asked) known refined)

    decided : (p : Pair) → Contains pairs p → Contains known.yes p ⊎ Contains known.no p
    decided p c =
        narrow s terms whole f pairs budget known loaded strat closed refined p c
        (λ q leads. (width q, (widths s terms whole q).0.1, one_of_sum width pairs q (closed_leads s whole pairs closed p q c leads)))

    same : (r : Root) → Contains roots r → (i : ShapeId) (sign : Bool) → StandsIn s i r.expr sign → Contains T (pair_of r.node i) ↔ Contains W (pair_of r.node i)
    same r held i sign st =
        let c = (asked.exactly (pair_of r.node i)).1 (r, held, (i, sign, st, here)) in
        let p = pair_of r.node i in
        (by_known known T W agrees_whole agrees_part p (decided p c), by_known known W T agrees_part agrees_whole p (decided p c))
