-- What roots reach over a part that is enough for them.
use Rattle.std.proofs.Common.{◌≡◌, ◌⊎◌, inl, inr, List, sym, subst, Bool, true, false, true≢false, refl}
use Rattle.std.proofs.lemmas.Bool.{and_parts}
use Rattle.std.specs.Prelude.{◌↔◌, ◌||◌, Contains, Some}
use Rattle.demand.specs.declared.reach.Root.{Root}
use Rattle.demand.specs.Demand.{AreAsked, IsAsked}
use Rattle.demand.proofs.PairOrder.{pairs_once}
use Rattle.lists.specs.Distinct.{AreDistinct}
use Rattle.rdf_terms.specs.declared.terms.Term.{Term}
use Rattle.rdf_terms.specs.declared.terms.TermId.{TermId}
use Rattle.rdf_terms.specs.declared.terms.Triple.{Triple}
use Rattle.rdf_terms.specs.Graphs.{same_id}
use Rattle.rdf_terms.proofs.SameTerms.{same_is}
use Rattle.schema_tree.specs.declared.schema.Occurrence.{Occurrence}
use Rattle.schema_tree.specs.declared.schema.Pair.{Pair}
use Rattle.schema_tree.specs.declared.schema.Schema.{Schema}
use Rattle.schema_tree.specs.declared.schema.Shape.{Shape}
use Rattle.schema_tree.specs.declared.schema.ShapeId.{ShapeId}
use Rattle.schema_tree.specs.Edges.{Edge}
use Rattle.schema_tree.specs.Entries.{pair_of, shape_at}
use Rattle.schema_tree.specs.Matches.{fits, near_end}
use Rattle.schema_tree.specs.Needs.{HoldNeeds, Leads, Needs, here, step}
use Rattle.schema_tree.specs.Relevant.{is_relevant}
use Rattle.part_laws.specs.Laws.{FollowedIsReached, WholeIsPart}
use Rattle.part_laws.specs.Parts.{AreFollowed, IsPartAt, IsShard, IsWholeAt}
use Rattle.part_laws.proofs.Near.{HaveSameAt, needs_there, some_passing, same_turned}

-- at each of the nodes the part has what a Shape reads, and no others
module _ (s : Schema) (whole part : List Triple) (nodes : List TermId) (at : IsPartAt s whole part nodes) (n : TermId) (c : Contains nodes n) (i : ShapeId) where
  node_is : (m : TermId) → same_id m n ≡ true → Contains nodes m
  node_is m x = subst (λ z. Contains nodes z) (sym (same_is m n x)) c

  by_way : (sh : Shape) → shape_at s i ≡ Some sh → (t : Triple) → Contains whole t → (o : Occurrence) → Contains sh.occs o → (inverse : Bool) → o.inverse ≡ inverse → same_id o.predicate t.p ≡ true →
      same_id (near_end inverse t) n ≡ true → Contains part t
  by_way sh is t held o of false way p e = at.outward t held (node_is t.s e)
  by_way sh is t held o of true way p e =
      at.inward t held (node_is t.o e) (record { id = i; shape = sh; is = is; occ = o; of = of; inverse = way; predicate = same_is o.predicate t.p p })

  pub same_at : HaveSameAt whole part n (shape_at s i)
  same_at sh is t read = ((λ held. by (same_id t.s n) (is_relevant sh.occs n t) refl refl read held), at.inside t)
    where
      by : (a b : Bool) → same_id t.s n ≡ a → is_relevant sh.occs n t ≡ b → (a || b) ≡ true → Contains whole t → Contains part t
      by true b x y z held = at.outward t held (node_is t.s x)
      by false true x y z held =
          let (o, of, fit) = some_passing (λ o. fits o n t) sh.occs y in
          let (p, e) = and_parts (same_id o.predicate t.p) (same_id (near_end o.inverse t) n) fit in
          by_way sh is t held o of o.inverse refl p e
      by false false x y z held = absurd (true≢false (sym z))

-- the same where it has all triples there
pub near_at : (whole part : List Triple) (nodes : List TermId) → IsWholeAt whole part nodes → (n : TermId) → Contains nodes n → (t : Triple) →
    (same_id t.s n || same_id t.o n) ≡ true → Contains whole t ↔ Contains part t
near_at whole part nodes at n c t near = ((λ held. at.covers t held (ends (same_id t.s n) (same_id t.o n) refl refl near)), at.inside t)
  where
    ends : (a b : Bool) → same_id t.s n ≡ a → same_id t.o n ≡ b → (a || b) ≡ true → Contains nodes t.s ⊎ Contains nodes t.o
    ends true b x y z = inl (subst (λ m. Contains nodes m) (sym (same_is t.s n x)) c)
    ends false true x y z = inr (subst (λ m. Contains nodes m) (sym (same_is t.o n y)) c)
    ends false false x y z = absurd (true≢false (sym z))

pub whole_is_part : WholeIsPart
whole_is_part s whole part nodes at =
    record { inside = at.inside; outward = λ t held c. at.covers t held (inl c); inward = λ t held c read. at.covers t held (inr c) }

-- a need is along an edge
abbrev edge_of : (s : Schema) (g : List Triple) (p q : Pair) → Needs s g p q → Edge s p.shape q.shape
edge_of s g p q n = record { shape = n.shape; is = n.is; occ = n.occ; of = n.of; sign = n.sign; stands = n.stands }

pub leads_on : (s : Schema) (g : List Triple) (p r q : Pair) → Leads s g p r → Needs s g r q → Leads s g p q
leads_on s g p r q here need = step q need here
leads_on s g p r q (step u first rest) need = step u first (leads_on s g u r q rest need)

-- what roots reach has all that it needs
pub asked_on : (s : Schema) (g : List Triple) (roots : List Root) (p q : Pair) → IsAsked s g roots p → Needs s g p q → IsAsked s g roots q
asked_on s g roots p q (r, held, (i, sign, st, leads)) need = (r, held, (i, sign, st, leads_on s g (pair_of r.node i) p q leads need))

pub asked_closed : (s : Schema) (terms : List Term) (g : List Triple) (roots : List Root) (pairs : List Pair) → AreAsked s terms g roots pairs → HoldNeeds s g pairs
asked_closed s terms g roots pairs asked p q c need = (asked.exactly q).1 (asked_on s g roots p q ((asked.exactly p).0 c) need)

module _ (s : Schema) (whole part : List Triple) (nodes : List TermId) (roots : List Root) (shard : IsShard s whole part nodes roots) where
  pub to_part : (p q : Pair) → Contains nodes p.node → Needs s whole p q → Needs s part p q
  to_part p q c need = needs_there whole part s p q (same_at s whole part nodes shard.at p.node c p.shape) need

  pub to_whole : (p q : Pair) → Contains nodes p.node → Needs s part p q → Needs s whole p q
  to_whole p q c need = needs_there part whole s p q (same_turned whole part p.node (shape_at s p.shape) (same_at s whole part nodes shard.at p.node c p.shape)) need

  leads_to : (p q : Pair) → IsAsked s part roots p → Leads s whole p q → IsAsked s part roots q
  leads_to p q a here = a
  leads_to p q a (step u need rest) = leads_to u q (asked_on s part roots p u a (to_part p u (shard.reached p a) need)) rest

  leads_back : (p q : Pair) → IsAsked s part roots p → Leads s part p q → Leads s whole p q
  leads_back p q a here = here
  leads_back p q a (step u need rest) = step u (to_whole p u (shard.reached p a) need) (leads_back u q (asked_on s part roots p u a need) rest)

  pub asked_same : (q : Pair) → IsAsked s whole roots q ↔ IsAsked s part roots q
  asked_same q = (
    (λ (r, held, (i, sign, st, leads)). leads_to (pair_of r.node i) q (r, held, (i, sign, st, here)) leads),
    (λ (r, held, (i, sign, st, leads)). (r, held, (i, sign, st, leads_back (pair_of r.node i) q (r, held, (i, sign, st, here)) leads))),
  )

  pub asked_node : (q : Pair) → IsAsked s whole roots q → Contains nodes q.node
  asked_node q a = shard.reached q ((asked_same q).0 a)

  module _ (terms : List Term) (pairs : List Pair) (asked : AreAsked s terms part roots pairs) where
    pub once : AreDistinct pairs
    once = pairs_once terms pairs asked.sorted

    pub node_there : (q : Pair) → Contains pairs q → Contains nodes q.node
    node_there q c = asked_node q ((asked_same q).1 ((asked.exactly q).0 c))

    pub asked_whole : AreAsked s terms whole roots pairs
    asked_whole = record {
      sorted = asked.sorted;
      exactly = λ q. ((λ c. (asked_same q).1 ((asked.exactly q).0 c)), (λ a. (asked.exactly q).1 ((asked_same q).0 a)));
    }

    pub closed_part : HoldNeeds s part pairs
    closed_part = asked_closed s terms part roots pairs asked

    pub closed_whole : HoldNeeds s whole pairs
    closed_whole = asked_closed s terms whole roots pairs asked_whole

-- where nodes are followed, a need leads from them to them alone
module _ (s : Schema) (g : List Triple) (nodes : List TermId) (roots : List Root) (are : AreFollowed s g nodes roots) where
  stays : (p q : Pair) → Contains nodes p.node → Needs s g p q → Contains nodes q.node
  stays p q c need =
      subst (λ m. Contains nodes m) (sym need.end) (are.followed p.shape q.shape (edge_of s g p q need) p.node need.triple c need.held need.fit)

  leads_in : (p q : Pair) → Contains nodes p.node → Leads s g p q → Contains nodes q.node
  leads_in p q c here = c
  leads_in p q c (step u need rest) = leads_in u q (stays p u c need) rest

  followed_in : (q : Pair) → IsAsked s g roots q → Contains nodes q.node
  followed_in q (r, held, (i, sign, st, leads)) = leads_in (pair_of r.node i) q (are.rooted r held) leads

pub followed_is_reached : FollowedIsReached
followed_is_reached s g nodes roots are q a = followed_in s g nodes roots are q a
