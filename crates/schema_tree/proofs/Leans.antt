-- What is sure under a view is true of every typing that agrees with it, and so are placements.
use Rattle.std.proofs.Common.{◌≡◌, refl, ℕ, zero, suc, List, [], ◌∷◌, Bool, true, false, filter}
use Rattle.std.specs.Prelude.{Contains, Option, Some, None, slice_get}
use Rattle.std.specs.List.{list_any}
use Rattle.std.specs.List.Sorted.{IsPermutation}
use Rattle.rdf_terms.specs.declared.terms.TermId.{TermId}
use Rattle.rdf_terms.specs.declared.terms.Term.{Term}
use Rattle.rdf_terms.specs.declared.terms.Triple.{Triple}
use Rattle.rdf_terms.specs.Graphs.{neigh, same_id}
use Rattle.schema_tree.specs.declared.schema.Schema.{Schema}
use Rattle.schema_tree.specs.declared.schema.Shape.{Shape}
use Rattle.schema_tree.specs.declared.schema.Occurrence.{Occurrence}
use Rattle.schema_tree.specs.declared.schema.ExprId.{ExprId}
use Rattle.schema_tree.specs.declared.schema.Expr.{Expr}
use Rattle.schema_tree.specs.declared.schema.Expr.TheVariants as Exprs
use Rattle.schema_tree.specs.declared.verdicts.Verdict.{Verdict}
use Rattle.schema_tree.specs.declared.verdicts.Verdict.TheVariants.{Yes, No}
use Rattle.schema_tree.specs.declared.verdicts.Lean.TheVariants.{Possible, Impossible}
use Rattle.schema_tree.specs.declared.schema.Pair.{Pair}
use Rattle.schema_tree.specs.declared.verdicts.Place.{Place}
use Rattle.schema_tree.specs.declared.verdicts.Place.TheVariants.{At, Rest}
use Rattle.schema_tree.specs.Entries.{entry}
use Rattle.schema_tree.specs.Satisfies.{Sat, SatWithin, SatEntry}
use Rattle.schema_tree.specs.Matches.{SatValue, fits, other_end}
use Rattle.schema_tree.specs.Shapes.{ShapeHolds}
use Rattle.schema_tree.specs.Sure.{Known, SureWithin, SureEntry, Agrees}
use Rattle.schema_tree.specs.Places.{MayHold, MayFail, MayTake, MayStay, MayStayOut, IsAllowed, AreAllowed, HasPlaces}
use Rattle.schema_tree.proofs.ToPlaces.{to_places}
use Rattle.schema_tree.proofs.FromPlaces.{from_places}
use Rattle.schema_tree.proofs.Made.{IsWellMade}
use Rattle.lists.proofs.Quantifiers.{all_weaker, some_weaker, some_against}
use Rattle.lists.proofs.Members.{got_in, is_first, is_later}
use Rattle.lists.proofs.Filters.{in_filter}
use Rattle.schema_tree.specs.Relevant.{is_relevant, is_forward}

module _ (s : Schema) (terms : List Term) (view : Known) (T : List Pair) (agrees : Agrees T view) (n : TermId) where
  yes_entry :
      (member : ExprId → Verdict → Type 0) (sat : ExprId → Type 0) → ((e : ExprId) → member e Yes → sat e) →
      ((e : ExprId) → member e No → ¬ sat e) →
      (x : Option Expr) → SureEntry view terms n member x Yes → SatEntry T terms n sat x
  yes_entry member sat y d None h = h
  yes_entry member sat y d (Some (Exprs.And es)) h = all_weaker (λ e. member e Yes) sat es (λ e c. y e) h
  yes_entry member sat y d (Some (Exprs.Or es)) h = some_weaker (λ e. member e Yes) sat es (λ e c. y e) h
  yes_entry member sat y d (Some (Exprs.Not e)) h = d e h
  yes_entry member sat y d (Some (Exprs.Node c)) h = h
  yes_entry member sat y d (Some (Exprs.Shape i)) h = agrees.0 _ h

  no_entry :
      (member : ExprId → Verdict → Type 0) (sat : ExprId → Type 0) → ((e : ExprId) → member e Yes → sat e) →
      ((e : ExprId) → member e No → ¬ sat e) →
      (x : Option Expr) → SureEntry view terms n member x No → ¬ SatEntry T terms n sat x
  no_entry member sat y d None h t = t
  no_entry member sat y d (Some (Exprs.And es)) h t = some_against (λ e. member e No) sat d es h t
  no_entry member sat y d (Some (Exprs.Or es)) h t = some_against sat (λ e. member e No) (λ e p q. d e q p) es t h
  no_entry member sat y d (Some (Exprs.Not e)) h t = t (y e h)
  no_entry member sat y d (Some (Exprs.Node c)) h t = h t
  no_entry member sat y d (Some (Exprs.Shape i)) h t = agrees.1 _ h t

  pub sure_sound :
      (k : ℕ) (e : ExprId) →
      (SureWithin k s terms view n e Yes → SatWithin k s terms T n e) × (SureWithin k s terms view n e No → ¬ SatWithin k s terms T n e)
  unfolding SureWithin SatWithin
  sure_sound zero e = ((λ h. h), λ h t. t)
  sure_sound (suc k) e = (
    yes_entry (SureWithin k s terms view n) (SatWithin k s terms T n) (λ d. (sure_sound k d).0) (λ d. (sure_sound k d).1) (entry s e),
    no_entry (SureWithin k s terms view n) (SatWithin k s terms T n) (λ d. (sure_sound k d).0) (λ d. (sure_sound k d).1) (entry s e),
  )

-- what may hold and fail of the values may do so of more, at the ends of the triples that base holds of
module _ (hold fail hold' fail' : TermId → Option ExprId → Type 0) (sh : Shape) (n : TermId) (base : Triple → Type 0)
    (h : (t : Triple) (o : Occurrence) → base t → Contains sh.occs o → fits o n t ≡ true → hold (other_end o.inverse t) o.value → hold' (other_end o.inverse t) o.value)
    (f : (t : Triple) (o : Occurrence) → base t → Contains sh.extra t.p → Contains sh.occs o → is_forward n t o ≡ true → fail t.o o.value → fail' t.o o.value) where
  allowed_weaker : (t : Triple) (p : Place) → base t → IsAllowed hold fail sh n t p → IsAllowed hold' fail' sh n t p
  allowed_weaker t (At i) in_base a = take (slice_get sh.occs i) refl a
    where
      take : (x : Option Occurrence) → slice_get sh.occs i ≡ x → MayTake hold fail sh n t x → MayTake hold' fail' sh n t x
      take None is b = b
      take (Some o) is b = (b.0, h t o in_base (got_in sh.occs i o is) b.0 b.1)
  allowed_weaker t Rest in_base a = stay (same_id t.s n) a
    where
      out : (b : Bool) → MayStayOut hold fail sh n t b → MayStayOut hold' fail' sh n t b
      out true c = (
        c.0,
        all_weaker (λ o. fail t.o o.value) (λ o. fail' t.o o.value) (filter (is_forward n t) sh.occs)
            (λ o i. let m = in_filter (is_forward n t) sh.occs o i in f t o in_base c.0 m.0 m.1) c.1,
      )
      out false c = c

      stay : (b : Bool) → MayStay hold fail sh n t b → MayStay hold' fail' sh n t b
      stay true c = out (list_any (is_forward n t) sh.occs) c
      stay false c = c

  -- places that are allowed stay so
  pub all_weaker_allowed :
      (ts : List Triple) (ps : List Place) → ((t : Triple) → Contains ts t → base t) → AreAllowed hold fail sh n ts ps →
      AreAllowed hold' fail' sh n ts ps
  all_weaker_allowed [] [] inside a = a
  all_weaker_allowed [] (p ∷ ps) inside a = a
  all_weaker_allowed (t ∷ ts) [] inside a = a
  all_weaker_allowed (t ∷ ts) (p ∷ ps) inside a =
      (allowed_weaker t p (inside t (is_first t ts)) a.0, all_weaker_allowed ts ps (λ u c. inside u (is_later t ts u c)) a.1)

  pub places_weaker :
      (g ts : List Triple) → ((t : Triple) → Contains ts t → base t) → HasPlaces hold fail g sh n ts → HasPlaces hold' fail' g sh n ts
  places_weaker g ts inside r =
      record { open_to = r.open_to; places = r.places; allowed = all_weaker_allowed ts r.places inside r.allowed; spelled = r.spelled }

module _ (s : Schema) (terms : List Term) (g : List Triple) (view : Known) (T : List Pair) (agrees : Agrees T view) (sh : Shape) (made : IsWellMade sh) (n : TermId)
    (order : List Triple) (ordered : IsPermutation (neigh g n) order) where
  yes_value : (m : TermId) (v : Option ExprId) → MayHold s terms view Impossible m v → SatValue (Sat s terms T m) v
  yes_value m None h = h
  yes_value m (Some e) h = (sure_sound s terms view T agrees m (suc e.0) e).0 h

  no_value : (m : TermId) (v : Option ExprId) → MayFail s terms view Impossible m v → ¬ SatValue (Sat s terms T m) v
  no_value m None h = absurd h
  no_value m (Some e) h = (sure_sound s terms view T agrees m (suc e.0) e).1 h

  may_hold : (m : TermId) (v : Option ExprId) → SatValue (Sat s terms T m) v → MayHold s terms view Possible m v
  may_hold m None h = h
  may_hold m (Some e) h = λ d. (sure_sound s terms view T agrees m (suc e.0) e).1 d h

  may_fail : (m : TermId) (v : Option ExprId) → ¬ SatValue (Sat s terms T m) v → MayFail s terms view Possible m v
  may_fail m None h = h tt
  may_fail m (Some e) h = λ d. h ((sure_sound s terms view T agrees m (suc e.0) e).0 d)

  -- a placement for which Unknown is impossible holds under every typing that agrees with the view
  pub placed_true :
      HasPlaces (MayHold s terms view Impossible) (MayFail s terms view Impossible) g sh n (filter (is_relevant sh.occs n) order) → ShapeHolds (Sat s terms T) g n (Some sh)
  placed_true h = from_places (Sat s terms T) g sh n made order ordered
      (places_weaker _ _ _ _ sh n (λ t. Unit {0}) (λ t o b of fit. yes_value _ o.value) (λ t o b extra of fit. no_value _ o.value) g _ (λ t c. tt) h)

  -- where there is none for which Unknown is possible, none is had under any such typing
  pub never_true :
      ¬ HasPlaces (MayHold s terms view Possible) (MayFail s terms view Possible) g sh n (filter (is_relevant sh.occs n) order) → ¬ ShapeHolds (Sat s terms T) g n (Some sh)
  never_true none h =
      none (places_weaker _ _ _ _ sh n (λ t. Unit {0}) (λ t o b of fit. may_hold _ o.value) (λ t o b extra of fit. may_fail _ o.value) g _ (λ t c. tt)
      (to_places (Sat s terms T) g sh n (λ c e. (made c e).0) order ordered h))
