-- The pairs that roots reach.
use Rattle.std.proofs.Common.{◌≡◌, ◌≤◌, inl, inr, List, [], refl, arith, subst, length, Result, Ok, Err}
use Rattle.std.specs.List.Sorted.{IsStrictlySortedBy}
use Rattle.std.specs.Prelude.{◌↔◌, Contains, IfErr, IfOk}
use Rattle.lists.proofs.Among.{few_among}
use Rattle.rdf_terms.specs.declared.terms.Term.{Term}
use Rattle.demand.proofs.Led.{led_there}
use Rattle.demand.specs.Orders.{compare_pairs, max_pairs}
use Rattle.schema_tree.specs.declared.schema.Pair.{Pair}
use Rattle.rdf_terms.specs.declared.terms.Triple.{Triple}
use Rattle.schema_tree.specs.declared.schema.Schema.{Schema}
use Rattle.schema_tree.specs.Entries.{pair_of}
use Rattle.schema_tree.specs.Needs.{HoldNeeds, Leads, here}
use Rattle.demand.specs.Closing.{AddsStarts, GrowsByNeeds, Starts, StopsAtStart, StopsByNeeds}
use Rattle.demand.specs.Demand.{AreAsked, AreTooMany, IsAsked}
use Rattle.demand.specs.declared.error.DemandError.{DemandError}
use Rattle.demand.specs.declared.error.DemandError.TheVariants as Errors
use Rattle.demand.specs.declared.reach.Root.{Root}

-- the pairs at which some root starts
abbrev pub IsStart : Schema → List Root → List Pair → Type 0
IsStart s roots seen = (q : Pair) → Contains seen q ↔ Starts s roots q

no_pair : (old : List Pair) (q : Pair) → old ≡ [] → ¬ Contains old q
no_pair old q none c = let (i, l, e) = subst (λ xs. Contains xs q) none c in omega arith

pub is_start : (s : Schema) (roots : List Root) (old new : List Pair) → old ≡ [] → AddsStarts s roots old new → IsStart s roots new
is_start s roots old new none h q = ((λ c. elim ((h q).0 c) [ inl o ↦ absurd (no_pair old q none o) | inr t ↦ t ]), (λ t. (h q).1 (inr t)))

-- a root reaches what needs lead to from where it starts
pub to_asked : (s : Schema) (g : List Triple) (roots : List Root) (p q : Pair) → Starts s roots p → Leads s g p q → IsAsked s g roots q
to_asked s g roots p q (r, held, (node, (sign, st))) leads = (r, held, (p.shape, sign, st, subst (λ m. Leads s g (pair_of m p.shape) q) node leads))

pub asked_exactly : (s : Schema) (g : List Triple) (roots : List Root) (start seen : List Pair) → IsStart s roots start → GrowsByNeeds s g start seen → HoldNeeds s g seen →
    (q : Pair) → Contains seen q ↔ IsAsked s g roots q
asked_exactly s g roots start seen starts led closed q = (
  (λ c. let (p, of, leads) = led.1 q c in to_asked s g roots p q ((starts p).0 of) leads),
  (λ (r, held, (i, sign, st, leads)). led_there s g seen closed (pair_of r.node i) q (led.0 (pair_of r.node i) ((starts (pair_of r.node i)).1 (r, held, (refl, (sign, st))))) leads),
)

pub too_many : (s : Schema) (g : List Triple) (roots : List Root) (start : List Pair) → IsStart s roots start → (e : DemandError) → StopsByNeeds s g start e → e ≡ Errors.Pairs → AreTooMany s g roots
too_many s g roots start starts Errors.Pairs h is = record {
  pairs = h.pairs;
  distinct = h.distinct;
  many = h.many;
  reached = λ q c. (let (p, of, leads) = h.all q c in to_asked s g roots p q ((starts p).0 of) leads);
}
too_many s g roots start starts Errors.Memory h is = absurd (cc)

pub too_many_roots : (s : Schema) (g : List Triple) (roots : List Root) (old : List Pair) → old ≡ [] → (e : DemandError) → StopsAtStart s roots old e → e ≡ Errors.Pairs → AreTooMany s g roots
too_many_roots s g roots old none Errors.Pairs h is = record {
  pairs = h.pairs;
  distinct = h.distinct;
  many = h.many;
  reached = λ q c. elim (h.all q c) [ inl o ↦ absurd (no_pair old q none o) | inr t ↦ to_asked s g roots q q t here ];
}
too_many_roots s g roots old none Errors.Memory h is = absurd (cc)

-- an error that is passed on
pub passed_on : {A E : Type 0} (r : Result A E) (y x z : E) → r ≡ Err y → y ≡ x → r ≡ Err z → x ≡ z
passed_on r y x z a same b = cc

-- pairs that hold what they need do so in any order
pub closed_in_order : (s : Schema) (g : List Triple) (seen list : List Pair) → HoldNeeds s g seen → ((q : Pair) → Contains list q ↔ Contains seen q) → HoldNeeds s g list
closed_in_order s g seen list closed same p q c need = (same q).1 (closed p q ((same p).0 c) need)

pub grown_in_order : (s : Schema) (g : List Triple) (start seen list : List Pair) → GrowsByNeeds s g start seen → ((q : Pair) → Contains list q ↔ Contains seen q) → GrowsByNeeds s g start list
grown_in_order s g start seen list grown same = ((λ q c. (same q).1 (grown.0 q c)), (λ q c. grown.1 q ((same q).0 c)))

-- what is answered, where roots start at these pairs
module _ (s : Schema) (terms : List Term) (g : List Triple) (roots : List Root) (start : List Pair) (starts : IsStart s roots start) where
  pub asked : (r : Result (List Pair) DemandError) → IfOk r (IsStrictlySortedBy (compare_pairs terms)) → IfOk r (HoldNeeds s g) → IfOk r (GrowsByNeeds s g start) → IfOk r (AreAsked s terms g roots)
  asked (Ok list) sorted whole grown = record { sorted = sorted; exactly = asked_exactly s g roots start list starts grown whole }
  asked (Err e) sorted whole grown = tt

  pub too_many_pairs : (r : Result (List Pair) DemandError) → IfErr r (StopsByNeeds s g start) → r ≡ Err Errors.Pairs → AreTooMany s g roots
  too_many_pairs (Ok list) stops is = absurd (cc)
  too_many_pairs (Err e) stops is = too_many s g roots start starts e stops (cc)

-- what is given leaves no room for too many
pub not_many : (s : Schema) (terms : List Term) (g : List Triple) (roots : List Root) (r : Result (List Pair) DemandError) → IfOk r (AreAsked s terms g roots) → IfOk r (λ p. length p ≤ max_pairs) →
    IfOk r (λ p. ¬ AreTooMany s g roots)
not_many s terms g roots (Ok list) asked few = λ many.
    let l = few_among many.pairs list many.distinct (λ q c. (asked.exactly q).1 (many.reached q c)) in
    let m = many.many in omega (arith, l, m, few)
not_many s terms g roots (Err e) asked few = tt
