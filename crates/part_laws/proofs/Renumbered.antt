-- What a graph says by other numbers: the order at a node, what is sure, what can match, the Width and what is needed.
use Rattle.std.proofs.Common.{◌≡◌, ◌∙◌, ℕ, zero, suc, inl, inr, List, [], ◌∷◌, ◌++◌, refl, arith, sym, subst, ap, Bool, true, false, true≢false, eq-eqb, filter, map, max, min, not, All}
use Rattle.std.proofs.lemmas.Cmp.{nat_cmp_total, tied_itself}
use Rattle.std.proofs.lemmas.List.{map-append}
use Rattle.std.proofs.lemmas.List.Elements.{All-contains}
use Rattle.std.proofs.lemmas.Option.{slice_get_cases}
use Rattle.std.specs.Bool.{beq}
use Rattle.std.specs.Cmp.Lexicographic.{slice_cmp}
use Rattle.std.specs.declared.cmp.Ordering.{Ordering}
use Rattle.std.specs.declared.cmp.Ordering.TheVariants.{Equal, Greater, Less}
use Rattle.std.specs.FinMap.{nat_cmp-IsAntisymmetric, slice_cmp-IsAntisymmetric}
use Rattle.std.specs.List.{AllByRecursion, list_any}
use Rattle.std.specs.Ordering.{nat_cmp, ordering_then}
use Rattle.std.specs.Prelude.{◌↔◌, ◌&&◌, ◌||◌, ◌+◌, ◌<◌, Contains, Option, Some, None, count_by, length, slice_get, if◌then◌else◌}
use Rattle.graph_index.specs.Laws.{IsOfTable}
use Rattle.lists.specs.Distinct.{AreDistinct}
use Rattle.lists.specs.Sorting.{sorted_by}
use Rattle.lists.proofs.Exactly.{in_turn, itself, not_same, two_same}
use Rattle.lists.proofs.Filters.{filter_same, in_filter}
use Rattle.lists.proofs.Members.{from_map, got_in, in_map}
use Rattle.lists.proofs.Quantifiers.{all_same, some_same}
use Rattle.node_constraint.specs.Constraint.{Constraint}
use Rattle.part_laws.specs.Numbers.{IsRenumbering, known_renumbered, pair_renumbered, renumbered}
use Rattle.part_laws.proofs.Mapped.{all_alike, any_alike, any_mapped, count_alike, count_mapped, filter_mapped, map_mapped, sorted_mapped}
use Rattle.rdf_terms.specs.declared.terms.Term.{Term}
use Rattle.rdf_terms.specs.declared.terms.TermId.{TermId}
use Rattle.rdf_terms.specs.declared.terms.Triple.{Triple}
use Rattle.rdf_terms.specs.Graphs.{ins, is_loop, neigh, outs, same_id}
use Rattle.rdf_terms.specs.Laws.{IsTerm, TextsAreDistinct}
use Rattle.rdf_terms.specs.Order.{by_object, by_subject, compare_at, neighbourhood, text_at, text_if_any}
use Rattle.rdf_terms.proofs.SameTerms.{same_is}
use Rattle.schema_tree.specs.declared.schema.Expr.{Expr}
use Rattle.schema_tree.specs.declared.schema.Expr.TheVariants as Exprs
use Rattle.schema_tree.specs.declared.schema.ExprId.{ExprId}
use Rattle.schema_tree.specs.declared.schema.Occurrence.{Occurrence}
use Rattle.schema_tree.specs.declared.schema.Pair.{Pair}
use Rattle.schema_tree.specs.declared.schema.Schema.{Schema}
use Rattle.schema_tree.specs.declared.schema.Shape.{Shape}
use Rattle.schema_tree.specs.declared.schema.ShapeId.{ShapeId}
use Rattle.schema_tree.specs.declared.verdicts.Lean.{Lean}
use Rattle.schema_tree.specs.declared.verdicts.Lean.TheVariants.{Impossible, Possible}
use Rattle.schema_tree.specs.declared.verdicts.Place.{Place}
use Rattle.schema_tree.specs.declared.verdicts.Place.TheVariants.{At, Rest}
use Rattle.schema_tree.specs.declared.verdicts.Verdict.{Verdict}
use Rattle.schema_tree.specs.declared.verdicts.Verdict.TheVariants.{No, Unknown, Yes}
use Rattle.schema_tree.specs.Entries.{SatNodeAt, entry, pair_of, shape_at}
use Rattle.schema_tree.specs.Matches.{fits, near_end, other_end}
use Rattle.schema_tree.specs.Needs.{Needs}
use Rattle.schema_tree.specs.Places.{AreAllowed, CanMatch, IsAllowed, IsShut, MayFail, MayHold, MayStay, MayStayOut, MayTake, PairCanMatch}
use Rattle.schema_tree.specs.Relevant.{is_forward, is_relevant, relevant, relevant_in_order}
use Rattle.schema_tree.specs.Sure.{Known, PairIs, SureEntry, SureWithin}
use Rattle.schema_tree.specs.Width.{HasWidth, PlainEntry, PlainIs, coarse_over, fine_over, firsts, is_certain, is_open, is_open_at, is_open_rest, is_possible, is_taken_by, open_places_for, places_for, product, same_class, same_fine_class, ways, width_of}

equal_self : (n : ℕ) → nat_cmp n n ≡ Equal
equal_self n = tied_itself nat_cmp_total n

module _ (s : Schema) (own terms : List Term) (m : TermId → TermId) (is : IsRenumbering s own terms m) where
  abbrev to : Triple → Triple
  to t = renumbered m t

  abbrev pair_to : Pair → Pair
  pair_to q = pair_renumbered m q

  -- ---- tests

  id_to : (a b : TermId) → same_id (m a) (m b) ≡ same_id a b
  id_to a b = by (same_id a b) refl (same_id (m a) (m b)) refl
    where
      by : (x : Bool) → same_id a b ≡ x → (y : Bool) → same_id (m a) (m b) ≡ y → same_id (m a) (m b) ≡ same_id a b
      by true e y h = eq-eqb (m a).0 (m b).0 (ap (λ n. (m n).0) (same_is a b e)) ∙ sym e
      by false e true h = absurd (true≢false (sym (eq-eqb a.0 b.0 (ap (λ (n : TermId). n.0) (is.apart a b (same_is (m a) (m b) h)))) ∙ e))
      by false e false h = h ∙ sym e

  near_to : (inverse : Bool) (t : Triple) → near_end inverse (to t) ≡ m (near_end inverse t)
  near_to true t = refl
  near_to false t = refl

  pub other_to : (inverse : Bool) (t : Triple) → other_end inverse (to t) ≡ m (other_end inverse t)
  other_to true t = refl
  other_to false t = refl

  loop_to : (t : Triple) → is_loop (to t) ≡ is_loop t
  loop_to t = id_to t.s t.o

  pub fits_to : (o : Occurrence) → m o.predicate ≡ o.predicate → (n : TermId) (t : Triple) → fits o (m n) (to t) ≡ fits o n t
  fits_to o keeps n t = λ i. predicate i && near i
    where
      predicate : same_id o.predicate (m t.p) ≡ same_id o.predicate t.p
      predicate = ap (λ z. same_id z (m t.p)) (sym keeps) ∙ id_to o.predicate t.p

      near : same_id (near_end o.inverse (to t)) (m n) ≡ same_id (near_end o.inverse t) n
      near = ap (λ z. same_id z (m n)) (near_to o.inverse t) ∙ id_to (near_end o.inverse t) n

  pub pair_apart : (p q : Pair) → pair_to p ≡ pair_to q → p ≡ q
  pair_apart p q e = λ i. record { node = is.apart p.node q.node (ap (λ (z : Pair). z.node) e) i; shape = (e i).shape }

  pub triple_apart : (t u : Triple) → to t ≡ to u → t ≡ u
  triple_apart t u e = λ i. record {
    s = is.apart t.s u.s (ap (λ (z : Triple). z.s) e) i;
    p = is.apart t.p u.p (ap (λ (z : Triple). z.p) e) i;
    o = is.apart t.o u.o (ap (λ (z : Triple). z.o) e) i;
  }

  pub pair_there : (ps : List Pair) (p : Pair) → Contains ps p ↔ Contains (map pair_to ps) (pair_to p)
  pair_there ps p = (in_map pair_to ps p, (λ c. let (q, held, e) = from_map pair_to ps (pair_to p) c in subst (λ z. Contains ps z) (pair_apart q p e) held))

  -- ---- what is sure

  view_to : (view : Known) (p : Pair) (v : Verdict) → PairIs view p v ↔ PairIs (known_renumbered m view) (pair_to p) v
  view_to view p Yes = pair_there view.yes p
  view_to view p No = two_same (not_same (pair_there view.yes p)) (pair_there view.no p)
  view_to view p Unknown = two_same (not_same (pair_there view.yes p)) (not_same (pair_there view.no p))

  node_to : (n : TermId) (c : Constraint) → SatNodeAt c (slice_get own n.0) ↔ SatNodeAt c (slice_get terms (m n).0)
  node_to n c = ((λ h. subst (λ x. SatNodeAt c x) (sym (is.term n)) h), (λ h. subst (λ x. SatNodeAt c x) (is.term n) h))

  entry_to : (view : Known) (n : TermId) (a b : ExprId → Verdict → Type 0) → ((e : ExprId) (v : Verdict) → a e v ↔ b e v) → (x : Option Expr) (v : Verdict) →
      SureEntry view own n a x v ↔ SureEntry (known_renumbered m view) terms (m n) b x v
  entry_to view n a b h None v = itself
  entry_to view n a b h (Some (Exprs.And es)) Yes = all_same (λ e. a e Yes) (λ e. b e Yes) es (λ e c. h e Yes)
  entry_to view n a b h (Some (Exprs.And es)) No = some_same (λ e. a e No) (λ e. b e No) es (λ e c. h e No)
  entry_to view n a b h (Some (Exprs.And es)) Unknown =
      two_same (not_same (some_same (λ e. a e No) (λ e. b e No) es (λ e c. h e No))) (some_same (λ e. a e Unknown) (λ e. b e Unknown) es (λ e c. h e Unknown))
  entry_to view n a b h (Some (Exprs.Or es)) Yes = some_same (λ e. a e Yes) (λ e. b e Yes) es (λ e c. h e Yes)
  entry_to view n a b h (Some (Exprs.Or es)) No = all_same (λ e. a e No) (λ e. b e No) es (λ e c. h e No)
  entry_to view n a b h (Some (Exprs.Or es)) Unknown =
      two_same (not_same (some_same (λ e. a e Yes) (λ e. b e Yes) es (λ e c. h e Yes))) (some_same (λ e. a e Unknown) (λ e. b e Unknown) es (λ e c. h e Unknown))
  entry_to view n a b h (Some (Exprs.Not e)) Yes = h e No
  entry_to view n a b h (Some (Exprs.Not e)) No = h e Yes
  entry_to view n a b h (Some (Exprs.Not e)) Unknown = h e Unknown
  entry_to view n a b h (Some (Exprs.Node c)) Yes = node_to n c
  entry_to view n a b h (Some (Exprs.Node c)) No = not_same (node_to n c)
  entry_to view n a b h (Some (Exprs.Node c)) Unknown = itself
  entry_to view n a b h (Some (Exprs.Shape i)) v = view_to view (pair_of n i) v

  pub sure_to : (view : Known) (n : TermId) (k : ℕ) (e : ExprId) (v : Verdict) → SureWithin k s own view n e v ↔ SureWithin k s terms (known_renumbered m view) (m n) e v
  unfolding SureWithin
  sure_to view n zero e v = itself
  sure_to view n (suc k) e v = entry_to view n (SureWithin k s own view n) (SureWithin k s terms (known_renumbered m view) (m n)) (sure_to view n k) (entry s e) v

  hold_to : (view : Known) (lean : Lean) (n : TermId) (x : Option ExprId) → MayHold s own view lean n x ↔ MayHold s terms (known_renumbered m view) lean (m n) x
  hold_to view Possible n None = itself
  hold_to view Impossible n None = itself
  hold_to view Possible n (Some e) = not_same (sure_to view n (suc e.0) e No)
  hold_to view Impossible n (Some e) = sure_to view n (suc e.0) e Yes

  fail_to : (view : Known) (lean : Lean) (n : TermId) (x : Option ExprId) → MayFail s own view lean n x ↔ MayFail s terms (known_renumbered m view) lean (m n) x
  fail_to view Possible n None = itself
  fail_to view Impossible n None = itself
  fail_to view Possible n (Some e) = not_same (sure_to view n (suc e.0) e Yes)
  fail_to view Impossible n (Some e) = sure_to view n (suc e.0) e No

  plain_from : (n : TermId) (x : Option Expr) (v : Verdict) → PlainEntry terms (m n) x v → PlainEntry own n x v
  plain_from n None v h = h
  plain_from n (Some (Exprs.And es)) v h = h
  plain_from n (Some (Exprs.Or es)) v h = h
  plain_from n (Some (Exprs.Not e)) v h = h
  plain_from n (Some (Exprs.Node c)) Yes h = (node_to n c).1 h
  plain_from n (Some (Exprs.Node c)) No h = (not_same (node_to n c)).1 h
  plain_from n (Some (Exprs.Node c)) Unknown h = h
  plain_from n (Some (Exprs.Shape i)) v h = h

  pub plain_is_from : (n : TermId) (x : Option ExprId) (v : Verdict) → PlainIs s terms (m n) x v → PlainIs s own n x v
  plain_is_from n None v h = h
  plain_is_from n (Some e) v h = plain_from n (entry s e) v h

  -- ---- at a node with a Shape whose predicates keep their numbers

  module _ (sh : Shape) (occs_keep : (o : Occurrence) → Contains sh.occs o → m o.predicate ≡ o.predicate) (extra_keep : (p : TermId) → Contains sh.extra p → m p ≡ p) (n : TermId) where
    relevant_to : (t : Triple) → is_relevant sh.occs (m n) (to t) ≡ is_relevant sh.occs n t
    relevant_to t = any_alike (λ o. fits o (m n) (to t)) (λ o. fits o n t) sh.occs (λ o c. fits_to o (occs_keep o c) n t)

    forward_to : (t : Triple) (o : Occurrence) → Contains sh.occs o → is_forward (m n) (to t) o ≡ is_forward n t o
    forward_to t o c = ap (λ b. not o.inverse && b) (fits_to o (occs_keep o c) n t)

    any_forward_to : (t : Triple) → list_any (is_forward (m n) (to t)) sh.occs ≡ list_any (is_forward n t) sh.occs
    any_forward_to t = any_alike (is_forward (m n) (to t)) (is_forward n t) sh.occs (forward_to t)

    in_extra_to : (p : TermId) → list_any (λ x. same_id x (m p)) sh.extra ≡ list_any (λ x. same_id x p) sh.extra
    in_extra_to p = any_alike (λ x. same_id x (m p)) (λ x. same_id x p) sh.extra (λ x c. ap (λ z. same_id z (m p)) (sym (extra_keep x c)) ∙ id_to x p)

    of_extra : (p : TermId) → Contains sh.extra p ↔ Contains sh.extra (m p)
    of_extra p = (
      (λ c. subst (λ z. Contains sh.extra z) (sym (extra_keep p c)) c),
      (λ c. subst (λ z. Contains sh.extra z) (is.apart (m p) p (extra_keep (m p) c)) c),
    )

    shut_to : (g : List Triple) → IsShut (map to g) sh (m n) ↔ IsShut g sh n
    shut_to g = ((λ x. (x.0, sym any ∙ x.1)), (λ x. (x.0, any ∙ x.1)))
      where
        any : list_any (λ t. not (is_relevant sh.occs (m n) t)) (outs (map to g) (m n)) ≡ list_any (λ t. not (is_relevant sh.occs n t)) (outs g n)
        any =
            ap (λ zs. list_any (λ t. not (is_relevant sh.occs (m n) t)) zs) (filter_mapped to (λ t. same_id t.s n) (λ t. same_id t.s (m n)) g (λ t. id_to t.s n))
            ∙ any_mapped to (λ t. not (is_relevant sh.occs n t)) (λ t. not (is_relevant sh.occs (m n) t)) (outs g n) (λ t. ap not (relevant_to t))

    -- places
    module _ (hold fail hold_there fail_there : TermId → Option ExprId → Type 0) (holds : (k : TermId) (x : Option ExprId) → hold k x ↔ hold_there (m k) x)
        (fails : (k : TermId) (x : Option ExprId) → fail k x ↔ fail_there (m k) x) where
      take_to : (t : Triple) (x : Option Occurrence) → ((o : Occurrence) → x ≡ Some o → Contains sh.occs o) → MayTake hold fail sh n t x ↔ MayTake hold_there fail_there sh (m n) (to t) x
      take_to t None there = itself
      take_to t (Some o) there = two_same fit held
        where
          fit : (fits o n t ≡ true) ↔ (fits o (m n) (to t) ≡ true)
          fit = let e = fits_to o (occs_keep o (there o refl)) n t in ((λ h. e ∙ h), (λ h. sym e ∙ h))

          held : hold (other_end o.inverse t) o.value ↔ hold_there (other_end o.inverse (to t)) o.value
          held = in_turn (holds (other_end o.inverse t) o.value) (at (other_to o.inverse t))
            where
              at : {k : TermId} → k ≡ m (other_end o.inverse t) → hold_there (m (other_end o.inverse t)) o.value ↔ hold_there k o.value
              at e = ((λ h. subst (λ z. hold_there z o.value) (sym e) h), (λ h. subst (λ z. hold_there z o.value) e h))

      stay_out_to : (t : Triple) (b : Bool) → MayStayOut hold fail sh n t b ↔ MayStayOut hold_there fail_there sh (m n) (to t) b
      stay_out_to t true = two_same (of_extra t.p) (in_turn (all_same (λ o. fail t.o o.value) (λ o. fail_there (m t.o) o.value) (filter (is_forward n t) sh.occs) (λ o c. fails t.o o.value)) moved)
        where
          moved : AllByRecursion (λ o. fail_there (m t.o) o.value) (filter (is_forward n t) sh.occs) ↔ AllByRecursion (λ o. fail_there (m t.o) o.value) (filter (is_forward (m n) (to t)) sh.occs)
          moved =
              let e = filter_same (is_forward (m n) (to t)) (is_forward n t) sh.occs (forward_to t) in
              ((λ h. subst (λ zs. AllByRecursion (λ o. fail_there (m t.o) o.value) zs) (sym e) h), (λ h. subst (λ zs. AllByRecursion (λ o. fail_there (m t.o) o.value) zs) e h))
      stay_out_to t false = itself

      stay_to : (t : Triple) (a b : Bool) → b ≡ a → MayStay hold fail sh n t a ↔ MayStay hold_there fail_there sh (m n) (to t) b
      stay_to t true true e =
          in_turn (stay_out_to t (list_any (is_forward n t) sh.occs))
          ((λ h. subst (λ b. MayStayOut hold_there fail_there sh (m n) (to t) b) (sym (any_forward_to t)) h), (λ h. subst (λ b. MayStayOut hold_there fail_there sh (m n) (to t) b) (any_forward_to t) h))
      stay_to t false false e = itself
      stay_to t true false e = absurd (true≢false (sym e))
      stay_to t false true e = absurd (true≢false e)

      allowed_at : (t : Triple) (p : Place) → IsAllowed hold fail sh n t p ↔ IsAllowed hold_there fail_there sh (m n) (to t) p
      allowed_at t (At i) = take_to t (slice_get sh.occs i) (λ o e. got_in sh.occs i o e)
      allowed_at t Rest = stay_to t (same_id t.s n) (same_id (m t.s) (m n)) (id_to t.s n)

      pub allowed_to : (ts : List Triple) (ps : List Place) → AreAllowed hold fail sh n ts ps ↔ AreAllowed hold_there fail_there sh (m n) (map to ts) ps
      allowed_to [] [] = itself
      allowed_to [] (p ∷ ps) = itself
      allowed_to (t ∷ ts) [] = itself
      allowed_to (t ∷ ts) (p ∷ ps) = two_same (allowed_at t p) (allowed_to ts ps)

    -- the Width
    relevant_list : (g : List Triple) → relevant sh.occs (map to g) (m n) ≡ map to (relevant sh.occs g n)
    relevant_list g =
        ap (λ zs. filter (is_relevant sh.occs (m n)) zs)
        (filter_mapped to (λ t. same_id t.s n || same_id t.o n) (λ t. same_id t.s (m n) || same_id t.o (m n)) g (λ t i. id_to t.s n i || id_to t.o n i))
        ∙ filter_mapped to (is_relevant sh.occs n) (is_relevant sh.occs (m n)) (neigh g n) relevant_to

    firsts_to : (same other : Triple → Triple → Bool) → ((a b : Triple) → other (to a) (to b) ≡ same a b) → (ts : List Triple) → firsts other (map to ts) ≡ map to (firsts same ts)
    firsts_to same other e [] = refl
    firsts_to same other e (t ∷ ts) =
        ap (λ zs. to t ∷ zs) (ap (λ zs. filter (λ u. not (other (to t) u)) zs) (firsts_to same other e ts)
        ∙ filter_mapped to (λ u. not (same t u)) (λ u. not (other (to t) u)) (firsts same ts) (λ u. ap not (e t u)))

    product_to : (same other : Triple → Triple → Bool) (many most : Triple → ℕ) → ((a b : Triple) → other (to a) (to b) ≡ same a b) → ((t : Triple) → most (to t) ≡ many t) → (ts : List Triple) →
        product (map (λ t. ways (count_by (other t) (map to ts)) (most t)) (firsts other (map to ts))) ≡ product (map (λ t. ways (count_by (same t) ts) (many t)) (firsts same ts))
    product_to same other many most e k ts =
        ap (λ zs. product (map (λ t. ways (count_by (other t) (map to ts)) (most t)) zs)) (firsts_to same other e ts)
        ∙ ap (λ zs. product zs) (map_mapped to (λ t. ways (count_by (same t) ts) (many t)) (λ t. ways (count_by (other t) (map to ts)) (most t)) (firsts same ts)
        (λ t i. ways (count_mapped to (same t) (other (to t)) ts (e t) i) (k t i)))

    class_to : (a b : Triple) → same_class (m n) (to a) (to b) ≡ same_class n a b
    class_to a b = λ i. id_to a.p b.p i && beq (loop_to a i) (loop_to b i) && beq (id_to a.s n i) (id_to b.s n i)

    open_to : (t : Triple) → is_open sh (m n) (to t) ≡ is_open sh n t
    open_to t = λ i. (id_to t.o n i && not (loop_to t i)) || (id_to t.s n i && (in_extra_to t.p i || not (any_forward_to t i)))

    places_to : (t : Triple) → places_for sh (m n) (to t) ≡ places_for sh n t
    places_to t = λ i. count_alike (λ o. fits o (m n) (to t)) (λ o. fits o n t) sh.occs (λ o c. fits_to o (occs_keep o c) n t) i + (if open_to t i then 1 else 0)

    module _ (plain : TermId → Option ExprId → Verdict) where
      abbrev plain_own : TermId → Option ExprId → Verdict
      plain_own k x = plain (m k) x

      open_at_to : (t : Triple) (o : Occurrence) → Contains sh.occs o → is_open_at plain (m n) (to t) o ≡ is_open_at plain_own n t o
      open_at_to t o c = λ i. fits_to o (occs_keep o c) n t i && is_possible (plain (other_to o.inverse t i) o.value)

      taken_to : (t : Triple) (o : Occurrence) → Contains sh.occs o → is_taken_by plain (m n) (to t) o ≡ is_taken_by plain_own n t o
      taken_to t o c = ap (λ b. b && is_certain (plain (m t.o) o.value)) (forward_to t o c)

      open_rest_to : (t : Triple) → is_open_rest plain sh (m n) (to t) ≡ is_open_rest plain_own sh n t
      open_rest_to t = λ i.
          (id_to t.o n i && not (loop_to t i))
          || (id_to t.s n i && ((in_extra_to t.p i && not (any_alike (is_taken_by plain (m n) (to t)) (is_taken_by plain_own n t) sh.occs (taken_to t) i)) || not (any_forward_to t i)))

      open_many_to : (t : Triple) → max 1 (open_places_for plain sh (m n) (to t)) ≡ max 1 (open_places_for plain_own sh n t)
      open_many_to t = λ i. max 1 (count_alike (is_open_at plain (m n) (to t)) (is_open_at plain_own n t) sh.occs (open_at_to t) i + (if open_rest_to t i then 1 else 0))

      fine_to : (a b : Triple) → same_fine_class plain sh (m n) (to a) (to b) ≡ same_fine_class plain_own sh n a b
      fine_to a b = λ i.
          class_to a b i
          && (all_alike (λ o. beq (is_open_at plain (m n) (to a) o) (is_open_at plain (m n) (to b) o)) (λ o. beq (is_open_at plain_own n a o) (is_open_at plain_own n b o)) sh.occs
          (λ o c j. beq (open_at_to a o c j) (open_at_to b o c j)) i && beq (open_rest_to a i) (open_rest_to b i))

      pub shape_width_to : (g : List Triple) → width_of plain (Some sh) (map to g) (m n) ≡ width_of plain_own (Some sh) g n
      shape_width_to g =
          (λ i. min (coarse_over sh (m n) (relevant_list g i)) (fine_over plain sh (m n) (relevant_list g i)))
          ∙ (λ i. min (product_to (same_class n) (same_class (m n)) (places_for sh n) (places_for sh (m n)) class_to places_to (relevant sh.occs g n) i)
          (product_to (same_fine_class plain_own sh n) (same_fine_class plain sh (m n)) (λ t. max 1 (open_places_for plain_own sh n t)) (λ t. max 1 (open_places_for plain sh (m n) t)) fine_to open_many_to (relevant sh.occs g n) i))

  -- ---- the order at a node

  module _ (distinct : AreDistinct own) (whole : (x : Term) → Contains own x → IsTerm x) (texts : TextsAreDistinct) where
    text_to : (n : TermId) → text_at terms (m n) ≡ text_at own n
    text_to n = ap text_if_any (is.term n)

    term_of : (n : TermId) → n.0 < length own → (x : Term) × (slice_get own n.0 ≡ Some x)
    term_of n lt = elim (slice_get_cases own n.0).1 [
      | inl (x, below, there, at) ↦ (x, there)
      | inr (past, none_there) ↦ absurd (omega (arith, lt, past))
    ]

    tie_is : (a b : TermId) → a.0 < length own → b.0 < length own → text_at own a ≡ text_at own b → a ≡ b
    tie_is a b la lb e =
        let (x, xa) = term_of a la in
        let (y, yb) = term_of b lb in
        let same : x ≡ y = texts x y (whole x (got_in own a.0 x xa)) (whole y (got_in own b.0 y yb)) (sym (ap text_if_any xa) ∙ e ∙ ap text_if_any yb) in
        (λ i. record { 0 = distinct a.0 b.0 y (xa ∙ ap Some same) yb i })

    compare_to : (a b : TermId) → a.0 < length own → b.0 < length own → compare_at terms (m a) (m b) ≡ compare_at own a b
    compare_to a b la lb =
        (λ i. ordering_then (slice_cmp nat_cmp (text_to a i) (text_to b i)) (nat_cmp (m a).0 (m b).0)) ∙ by (slice_cmp nat_cmp (text_at own a) (text_at own b)) refl
      where
        by : (r : Ordering) → slice_cmp nat_cmp (text_at own a) (text_at own b) ≡ r → ordering_then r (nat_cmp (m a).0 (m b).0) ≡ ordering_then r (nat_cmp a.0 b.0)
        by Less e = refl
        by Greater e = refl
        by Equal e =
            let one = tie_is a b la lb (slice_cmp-IsAntisymmetric nat_cmp-IsAntisymmetric (text_at own a) (text_at own b) e) in
            ap (λ z. nat_cmp (m z).0 (m b).0) one ∙ equal_self (m b).0 ∙ sym (equal_self b.0) ∙ ap (λ (z : TermId). nat_cmp z.0 b.0) (sym one)

    module _ (g : List Triple) (ends : All (IsOfTable own) g) where
      of_table : (t : Triple) → Contains g t → IsOfTable own t
      of_table t c = All-contains (IsOfTable own) g t ends c

      objects_to : (t u : Triple) → Contains g t → Contains g u → by_object terms (to t) (to u) ≡ by_object own t u
      objects_to t u c d =
          let a = of_table t c in
          let b = of_table u d in
          (λ i. ordering_then (compare_to t.p u.p a.predicate b.predicate i) (compare_to t.o u.o a.object b.object i))

      subjects_to : (t u : Triple) → Contains g t → Contains g u → by_subject terms (to t) (to u) ≡ by_subject own t u
      subjects_to t u c d =
          let a = of_table t c in
          let b = of_table u d in
          (λ i. ordering_then (compare_to t.p u.p a.predicate b.predicate i) (compare_to t.s u.s a.subject b.subject i))

      outs_to : (n : TermId) → sorted_by (by_object terms) (outs (map to g) (m n)) ≡ map to (sorted_by (by_object own) (outs g n))
      outs_to n =
          ap (sorted_by (by_object terms)) (filter_mapped to (λ t. same_id t.s n) (λ t. same_id t.s (m n)) g (λ t. id_to t.s n))
          ∙ sorted_mapped to (by_object own) (by_object terms) (outs g n) (λ t u c d. objects_to t u (in_filter (λ v. same_id v.s n) g t c).0 (in_filter (λ v. same_id v.s n) g u d).0)

      ins_to : (n : TermId) → sorted_by (by_subject terms) (ins (map to g) (m n)) ≡ map to (sorted_by (by_subject own) (ins g n))
      ins_to n =
          ap (sorted_by (by_subject terms)) (filter_mapped to (λ t. same_id t.o n) (λ t. same_id t.o (m n)) g (λ t. id_to t.o n))
          ∙ sorted_mapped to (by_subject own) (by_subject terms) (ins g n) (λ t u c d. subjects_to t u (in_filter (λ v. same_id v.o n) g t c).0 (in_filter (λ v. same_id v.o n) g u d).0)

      neighbourhood_to : (n : TermId) → neighbourhood terms (map to g) (m n) ≡ map to (neighbourhood own g n)
      neighbourhood_to n =
          (λ i. outs_to n i ++ filter (λ t. not (is_loop t)) (ins_to n i))
          ∙ ap (λ zs. map to (sorted_by (by_object own) (outs g n)) ++ zs)
          (filter_mapped to (λ t. not (is_loop t)) (λ t. not (is_loop t)) (sorted_by (by_subject own) (ins g n)) (λ t. ap not (loop_to t)))
          ∙ sym (map-append to (sorted_by (by_object own) (outs g n)) (filter (λ t. not (is_loop t)) (sorted_by (by_subject own) (ins g n))))

      -- ---- of a Shape of the schema

      occs_of : (i : ShapeId) (sh : Shape) → shape_at s i ≡ Some sh → (o : Occurrence) → Contains sh.occs o → m o.predicate ≡ o.predicate
      occs_of i sh at o c = is.predicates o.predicate (record { id = i; shape = sh; is = at; stands = inl (o, c, refl) })

      extra_of : (i : ShapeId) (sh : Shape) → shape_at s i ≡ Some sh → (p : TermId) → Contains sh.extra p → m p ≡ p
      extra_of i sh at p c = is.predicates p (record { id = i; shape = sh; is = at; stands = inr c })

      in_order_to : (i : ShapeId) (sh : Shape) → shape_at s i ≡ Some sh → (n : TermId) → relevant_in_order terms (map to g) sh (m n) ≡ map to (relevant_in_order own g sh n)
      in_order_to i sh at n =
          ap (λ zs. filter (is_relevant sh.occs (m n)) zs) (neighbourhood_to n)
          ∙ filter_mapped to (is_relevant sh.occs n) (is_relevant sh.occs (m n)) (neighbourhood own g n) (relevant_to sh (occs_of i sh at) (extra_of i sh at) n)

      module _ (view : Known) (lean : Lean) (n : TermId) (i : ShapeId) where
        match_there : (x : Option Shape) → shape_at s i ≡ x → CanMatch s own g view lean n x → CanMatch s terms (map to g) (known_renumbered m view) lean (m n) x
        match_there None at h = h
        match_there (Some sh) at h = record {
          open_to = λ shut. h.open_to ((shut_to sh (occs_of i sh at) (extra_of i sh at) n g).0 shut);
          places = h.places;
          allowed =
              subst (λ ts. AreAllowed (MayHold s terms (known_renumbered m view) lean) (MayFail s terms (known_renumbered m view) lean) sh (m n) ts h.places) (sym (in_order_to i sh at n))
              ((allowed_to sh (occs_of i sh at) (extra_of i sh at) n (MayHold s own view lean) (MayFail s own view lean) (MayHold s terms (known_renumbered m view) lean) (MayFail s terms (known_renumbered m view) lean)
              (hold_to view lean) (fail_to view lean) (relevant_in_order own g sh n) h.places).0 h.allowed);
          spelled = h.spelled;
        }

        match_back : (x : Option Shape) → shape_at s i ≡ x → CanMatch s terms (map to g) (known_renumbered m view) lean (m n) x → CanMatch s own g view lean n x
        match_back None at h = h
        match_back (Some sh) at h = record {
          open_to = λ shut. h.open_to ((shut_to sh (occs_of i sh at) (extra_of i sh at) n g).1 shut);
          places = h.places;
          allowed =
              (allowed_to sh (occs_of i sh at) (extra_of i sh at) n (MayHold s own view lean) (MayFail s own view lean) (MayHold s terms (known_renumbered m view) lean) (MayFail s terms (known_renumbered m view) lean)
              (hold_to view lean) (fail_to view lean) (relevant_in_order own g sh n) h.places).1
              (subst (λ ts. AreAllowed (MayHold s terms (known_renumbered m view) lean) (MayFail s terms (known_renumbered m view) lean) sh (m n) ts h.places) (in_order_to i sh at n) h.allowed);
          spelled = h.spelled;
        }

      pub match_to : (view : Known) (lean : Lean) (p : Pair) → PairCanMatch s own g view lean p ↔ PairCanMatch s terms (map to g) (known_renumbered m view) lean (pair_to p)
      match_to view lean p = (match_there view lean p.node p.shape (shape_at s p.shape) refl, match_back view lean p.node p.shape (shape_at s p.shape) refl)

      width_by : (plain : TermId → Option ExprId → Verdict) (n : TermId) (i : ShapeId) (x : Option Shape) → shape_at s i ≡ x → width_of plain x (map to g) (m n) ≡ width_of (λ k v. plain (m k) v) x g n
      width_by plain n i None at = refl
      width_by plain n i (Some sh) at = shape_width_to sh (occs_of i sh at) (extra_of i sh at) n plain g

      pub width_back : (p : Pair) (w : ℕ) → HasWidth s terms (map to g) (pair_to p) w → HasWidth s own g p w
      width_back p w h = record {
        plain = λ k v. h.plain (m k) v;
        tells = λ k v. plain_is_from k v (h.plain (m k) v) (h.tells (m k) v);
        is = h.is ∙ width_by h.plain p.node p.shape (shape_at s p.shape) refl;
      }

      -- ---- what is needed

      pub needs_back : (p r : Pair) → Needs s (map to g) (pair_to p) r → (q : Pair) × Needs s g p q × (pair_to q ≡ r)
      needs_back p r n =
          let (t, held, e) = from_map to g n.triple n.held in (
            record { node = other_end n.occ.inverse t; shape = r.shape },
            record {
              shape = n.shape;
              is = n.is;
              occ = n.occ;
              of = n.of;
              triple = t;
              held = held;
              fit = sym (fits_to n.occ (occs_of p.shape n.shape n.is n.occ n.of) p.node t) ∙ subst (λ u. fits n.occ (m p.node) u ≡ true) (sym e) n.fit;
              end = refl;
              sign = n.sign;
              stands = n.stands;
            },
            (λ i. record { node = (sym (other_to n.occ.inverse t) ∙ ap (other_end n.occ.inverse) e ∙ sym n.end) i; shape = r.shape }),
          )
