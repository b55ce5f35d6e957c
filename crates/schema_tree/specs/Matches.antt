-- When a set of triples matches a triple expression (ShEx 2.1, section 5.5.2, `matches`).
use Rattle.std.specs.Prelude.{Bool, true, false, List, [], ◌∷◌, slice_get, Option, Some, None, ◌≡◌, ◌⊎◌, ◌≤◌, length, ⊤, ◌&&◌}
use Rattle.std.specs.List.{AllByRecursion, flat_map}
use Rattle.std.specs.List.Sorted.{IsPermutation}
use Rattle.rdf_terms.specs.declared.terms.TermId.{TermId}
use Rattle.rdf_terms.specs.declared.terms.Triple.{Triple}
use Rattle.rdf_terms.specs.Graphs.{same_id}
use Rattle.tally.specs.Deals.{IsUpTo}
use Rattle.tally.specs.Plan.{Plan, sym, each, one, many, Plans, no_plans, more_plans}
use Rattle.schema_tree.specs.declared.schema.Occurrence.{Occurrence}
use Rattle.schema_tree.specs.declared.schema.ExprId.{ExprId}

-- each triple stands in exactly one of the parts, once, and the parts hold nothing else; parts may be empty
abbrev pub Deals : List Triple → List (List Triple) → Type 0
Deals ts parts = IsPermutation ts (flat_map (λ part. part) parts)

-- the end of a triple where an occurrence stands: the subject, or the object where it is inverse
abbrev pub near_end : Bool → Triple → TermId
near_end false t = t.s
near_end true t = t.o

-- the other end, at which an occurrence looks
abbrev pub other_end : Bool → Triple → TermId
other_end false t = t.o
other_end true t = t.s

-- predicate and direction of the occurrence agree with the triple at n
abbrev pub fits : Occurrence → TermId → Triple → Bool
fits o n t = same_id o.predicate t.p && same_id (near_end o.inverse t) n

-- the value expression, if there is one, is satisfied
abbrev pub SatValue : (ExprId → Type 0) → Option ExprId → Type 0
SatValue sat None = ⊤
SatValue sat (Some e) = sat e

-- the triple at n is one that the occurrence takes: it fits, and its other end satisfies the value
abbrev pub Takes : (TermId → ExprId → Type 0) → TermId → Option Occurrence → Triple → Type 0
Takes sat n None t = ⊥
Takes sat n (Some o) t = (fits o n t ≡ true) × SatValue (sat (other_end o.inverse t)) o.value

-- sat says what a node satisfies, occs are the occurrences of the Shape, and n is the node
module _ (sat : TermId → ExprId → Type 0) (occs : List Occurrence) (n : TermId) where
  unfoldable mutual
    -- a TripleConstraint is matched by one triple that it takes; an EachOf by one part for each member; a OneOf by what
    -- matches some member; a cardinality by so many parts that match what it repeats
    pub Matches : Plan → List Triple → Type 0
    Matches (sym i) ts = (t : Triple) × (ts ≡ t ∷ []) × Takes sat n (slice_get occs i) t
    Matches (each members) ts = (parts : List (List Triple)) × Deals ts parts × MatchesEach members parts
    Matches (one members) ts = MatchesOne members ts
    Matches (many min bound c) ts =
        (parts : List (List Triple)) × (min ≤ length parts) × IsUpTo (length parts) bound × Deals ts parts × AllByRecursion (λ part. Matches c part) parts

    -- each part matches its member
    pub MatchesEach : Plans → List (List Triple) → Type 0
    MatchesEach no_plans [] = ⊤
    MatchesEach no_plans (part ∷ parts) = ⊥
    MatchesEach (more_plans c rest) [] = ⊥
    MatchesEach (more_plans c rest) (part ∷ parts) = Matches c part × MatchesEach rest parts

    -- the triples match some member
    pub MatchesOne : Plans → List Triple → Type 0
    MatchesOne no_plans ts = ⊥
    MatchesOne (more_plans c rest) ts = Matches c ts ⊎ MatchesOne rest ts
