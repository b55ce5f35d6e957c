-- To how many different counts of triples a Shape's occurrences can come, at most, as the triples of a node are given to them (own:
-- what the budget is held against).
use Rattle.std.specs.Prelude.{ℕ, zero, suc, Bool, true, false, ◌≡◌, ◌≤◌, ◌<◌, Contains, List, [], ◌∷◌, ◌+◌, ◌*◌, ◌&&◌, ◌||◌, not, if◌then◌else◌, filter, map, count_by, max, min, slice_get, Option, Some, None}
use Rattle.std.specs.Bool.{beq}
use Rattle.std.specs.List.{list_all, list_any}
use Rattle.rdf_terms.specs.declared.terms.Term.{Term}
use Rattle.rdf_terms.specs.declared.terms.TermId.{TermId}
use Rattle.rdf_terms.specs.declared.terms.Triple.{Triple}
use Rattle.rdf_terms.specs.Graphs.{same_id, is_loop}
use Rattle.lists.specs.Distinct.{AreDistinct}
use Rattle.schema_tree.specs.declared.schema.Occurrence.{Occurrence}
use Rattle.schema_tree.specs.declared.schema.Schema.{Schema}
use Rattle.schema_tree.specs.declared.schema.Shape.{Shape}
use Rattle.schema_tree.specs.declared.schema.ExprId.{ExprId}
use Rattle.schema_tree.specs.declared.schema.Expr.{Expr}
use Rattle.schema_tree.specs.declared.schema.Expr.TheVariants as Exprs
use Rattle.schema_tree.specs.declared.schema.Pair.{Pair}
use Rattle.schema_tree.specs.declared.verdicts.Verdict.{Verdict}
use Rattle.schema_tree.specs.declared.verdicts.Verdict.TheVariants.{Yes, No, Unknown}
use Rattle.schema_tree.specs.Entries.{entry, shape_at, SatNodeAt}
use Rattle.schema_tree.specs.Matches.{fits, other_end}
use Rattle.schema_tree.specs.Relevant.{relevant, is_forward}

-- the row under a row: 0 at 0, and at p its value at p - 1 and the upper row's at p
abbrev pub next_row : (ℕ → ℕ) → ℕ → ℕ
next_row row zero = 0
next_row row (suc p) = next_row row p + row (suc p)

-- the ways to spread d like things over p places: 1 for d = 0, 0 for p = 0, else those for p - 1 and those for d - 1
abbrev pub ways : ℕ → ℕ → ℕ
ways zero p = 1
ways (suc d) p = next_row (ways d) p

-- the two have the same predicate and direction, and both or none are self-loops
abbrev pub same_class : TermId → Triple → Triple → Bool
same_class n a b = same_id a.p b.p && beq (is_loop a) (is_loop b) && beq (same_id a.s n) (same_id b.s n)

-- the first of each class
abbrev pub firsts : (Triple → Triple → Bool) → List Triple → List Triple
firsts same [] = []
firsts same (t ∷ ts) = t ∷ filter (λ u. not (same t u)) (firsts same ts)

-- the triple may stay in the remainder, by its form: an arc in that is no self-loop, an arc out whose predicate is in
-- extra, or an arc out that no forward occurrence fits
abbrev pub is_open : Shape → TermId → Triple → Bool
is_open sh n t =
    (same_id t.o n && not (is_loop t))
    || (same_id t.s n && (list_any (λ p. same_id p t.p) sh.extra || not (list_any (is_forward n t) sh.occs)))

-- how many places the triple has, by its form
abbrev pub places_for : Shape → TermId → Triple → ℕ
places_for sh n t = count_by (λ o. fits o n t) sh.occs + (if is_open sh n t then 1 else 0)

-- the product of the numbers, 1 for none
abbrev pub product : List ℕ → ℕ
product [] = 1
product (k ∷ ks) = k * product ks

-- the product of the ways of each class of ts
abbrev pub coarse_over : Shape → TermId → List Triple → ℕ
coarse_over sh n ts = product (map (λ t. ways (count_by (same_class n t) ts) (places_for sh n t)) (firsts (same_class n) ts))

-- what is known of an expression at a node without a look at Shapes: a node constraint is Yes or No, any other Unknown
abbrev pub PlainEntry : List Term → TermId → Option Expr → Verdict → Type 0
PlainEntry terms n None v = v ≡ Unknown
PlainEntry terms n (Some (Exprs.And es)) v = v ≡ Unknown
PlainEntry terms n (Some (Exprs.Or es)) v = v ≡ Unknown
PlainEntry terms n (Some (Exprs.Not e)) v = v ≡ Unknown
PlainEntry terms n (Some (Exprs.Node c)) Yes = SatNodeAt c (slice_get terms n.0)
PlainEntry terms n (Some (Exprs.Node c)) No = ¬ SatNodeAt c (slice_get terms n.0)
PlainEntry terms n (Some (Exprs.Node c)) Unknown = ⊥
PlainEntry terms n (Some (Exprs.Shape i)) v = v ≡ Unknown

-- the same of the value of an occurrence; an absent one is Yes
abbrev pub PlainIs : Schema → List Term → TermId → Option ExprId → Verdict → Type 0
PlainIs s terms n None v = v ≡ Yes
PlainIs s terms n (Some e) v = PlainEntry terms n (entry s e) v

-- the verdict is not No
abbrev pub is_possible : Verdict → Bool
is_possible Yes = true
is_possible No = false
is_possible Unknown = true

-- the verdict is Yes
abbrev pub is_certain : Verdict → Bool
is_certain Yes = true
is_certain No = false
is_certain Unknown = false

-- plain is what is known of values without a look at Shapes
module _ (plain : TermId → Option ExprId → Verdict) where
  -- the occurrence is open for the triple: it fits and, where its value is absent or a node constraint, takes it
  abbrev pub is_open_at : TermId → Triple → Occurrence → Bool
  is_open_at n t o = fits o n t && is_possible (plain (other_end o.inverse t) o.value)

  -- the occurrence is forward, and its value is absent or a node constraint, and takes the triple
  abbrev pub is_taken_by : TermId → Triple → Occurrence → Bool
  is_taken_by n t o = is_forward n t o && is_certain (plain t.o o.value)

  -- the remainder is open for the triple: an arc in that is no self-loop, an arc out that no forward occurrence fits, or
  -- one whose predicate is in extra and that no forward occurrence takes by an absent value or a node constraint
  abbrev pub is_open_rest : Shape → TermId → Triple → Bool
  is_open_rest sh n t =
      (same_id t.o n && not (is_loop t))
      || (same_id t.s n && ((list_any (λ p. same_id p t.p) sh.extra && not (list_any (is_taken_by n t) sh.occs)) || not (list_any (is_forward n t) sh.occs)))

  -- how many places are open for the triple
  abbrev pub open_places_for : Shape → TermId → Triple → ℕ
  open_places_for sh n t = count_by (is_open_at n t) sh.occs + (if is_open_rest sh n t then 1 else 0)

  -- the two are of one class, and the same places are open for both
  abbrev pub same_fine_class : Shape → TermId → Triple → Triple → Bool
  same_fine_class sh n a b =
      same_class n a b
      && (list_all (λ o. beq (is_open_at n a o) (is_open_at n b o)) sh.occs && beq (is_open_rest sh n a) (is_open_rest sh n b))

  -- the product of the ways of each such class of ts, where one place is counted where none is open
  abbrev pub fine_over : Shape → TermId → List Triple → ℕ
  fine_over sh n ts =
      product (map (λ t. ways (count_by (same_fine_class sh n t) ts) (max 1 (open_places_for sh n t))) (firsts (same_fine_class sh n) ts))

  -- the lesser of both for the relevant triples of n, and 1 where there is no such Shape
  abbrev pub width_of : Option Shape → List Triple → TermId → ℕ
  width_of None g n = 1
  width_of (Some sh) g n = min (coarse_over sh n (relevant sh.occs g n)) (fine_over sh n (relevant sh.occs g n))

-- the product over the classes by form alone, and 1 where there is no such Shape
abbrev pub coarse_of : Option Shape → List Triple → TermId → ℕ
coarse_of None g n = 1
coarse_of (Some sh) g n = coarse_over sh n (relevant sh.occs g n)

-- the same of a pair
abbrev pub coarse : Schema → List Triple → Pair → ℕ
coarse s g p = coarse_of (shape_at s p.shape) g p.node

-- the Width of a pair is w
pub record HasWidth (s : Schema) (terms : List Term) (g : List Triple) (p : Pair) (w : ℕ) : Type 0 where
  pub plain : TermId → Option ExprId → Verdict
  pub tells : (n : TermId) (v : Option ExprId) → PlainIs s terms n v (plain n v)
  pub is : w ≡ width_of plain (shape_at s p.shape) g p.node

-- the Width of a pair is at most the bound
abbrev pub IsWithinWidth : Schema → List Term → List Triple → ℕ → Pair → Type 0
IsWithinWidth s terms g bound p = (w : ℕ) × HasWidth s terms g p w × (w ≤ bound)

-- the Width of a pair is above the bound
abbrev pub IsWide : Schema → List Term → List Triple → ℕ → Pair → Type 0
IsWide s terms g bound p = (w : ℕ) × HasWidth s terms g p w × (bound < w)

-- the Shape has no inverse occurrence, no EXTRA, and one occurrence for each predicate
pub record IsPlain (sh : Shape) : Type 0 where
  pub forward : (o : Occurrence) → Contains sh.occs o → o.inverse ≡ false
  pub no_extra : sh.extra ≡ []
  pub apart : AreDistinct (map (λ o. o.predicate) sh.occs)
