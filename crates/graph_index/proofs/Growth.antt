-- What is lent stays the same where the table grows.
use Rattle.std.proofs.Common.{◌≡◌, ℕ, ◌<◌, List, [], ◌∷◌, ◌++◌, ap, ◌∙◌, length, suc, zero, arith, Bool, true, nat_lt, ltb-true, lt-ltb, ◌&&◌, refl, All, Option, Some, None}
use Rattle.std.proofs.lemmas.Bool.{and_parts}
use Rattle.std.proofs.lemmas.List.Elements.{All-filter, All-head, All-tail}
use Rattle.std.specs.Cmp.Lexicographic.{slice_cmp}
use Rattle.std.specs.FinMap.{nat_cmp-IsAntisymmetric, slice_cmp-IsAntisymmetric}
use Rattle.std.specs.List.{slice_get}
use Rattle.std.specs.Option.{IsSomeAnd}
use Rattle.std.specs.Ordering.{nat_cmp, ordering_then}
use Rattle.std.specs.declared.cmp.Ordering.{Ordering}
use Rattle.std.specs.declared.cmp.Ordering.TheVariants.{Less, Equal, Greater}
use Rattle.rdf_terms.specs.declared.terms.Term.{Term}
use Rattle.rdf_terms.specs.declared.terms.TermId.{TermId}
use Rattle.rdf_terms.specs.declared.terms.Triple.{Triple}
use Rattle.rdf_terms.specs.Graphs.{outs, ins, same_id}
use Rattle.rdf_terms.specs.Order.{compare_at, text_at, text_if_any, by_object, by_subject}
use Rattle.graph_index.specs.Contents.{Arrangement, IsArranged}
use Rattle.graph_index.specs.Laws.{IsOfTable, SealingOutlivesGrowth, OrderIsByTexts}
use Rattle.rdf_terms.proofs.Orders.{object_total, subject_total}
use Rattle.lists.proofs.Sorting.{Passes, sorted_alike}

front_stays : {X : Type 0} (xs ys : List X) (i : ℕ) → i < length xs → slice_get xs i ≡ slice_get (xs ++ ys) i
front_stays [] ys i h = absurd (omega arith)
front_stays (x ∷ xs) ys zero h = refl
front_stays (x ∷ xs) ys (suc i) h = front_stays xs ys i (omega arith)

module _ (terms more : List Term) where
  text_stays : (n : TermId) → n.0 < length terms → text_at terms n ≡ text_at (terms ++ more) n
  text_stays n h = ap text_if_any (front_stays terms more n.0 h)

  order_stays : (a b : TermId) → a.0 < length terms → b.0 < length terms → compare_at terms a b ≡ compare_at (terms ++ more) a b
  order_stays a b h k =
      ap (λ z. ordering_then (slice_cmp nat_cmp z (text_at terms b)) (nat_cmp a.0 b.0)) (text_stays a h)
      ∙ ap (λ z. ordering_then (slice_cmp nat_cmp (text_at (terms ++ more) a) z) (nat_cmp a.0 b.0)) (text_stays b k)

  abbrev within : Triple → Bool
  within t = nat_lt t.s.0 (length terms) && (nat_lt t.p.0 (length terms) && nat_lt t.o.0 (length terms))

  of_table : (t : Triple) → within t ≡ true → IsOfTable terms t
  of_table t h =
      let first = and_parts _ _ h in
      let second = and_parts _ _ first.1 in
      record { subject = ltb-true _ _ first.0; predicate = ltb-true _ _ second.0; object = ltb-true _ _ second.1 }

  passes : (t : Triple) → IsOfTable terms t → within t ≡ true
  passes t h = rw (lt-ltb _ _ h.subject, lt-ltb _ _ h.predicate, lt-ltb _ _ h.object) refl

  objects_stay : (x y : Triple) → within x ≡ true → within y ≡ true → by_object terms x y ≡ by_object (terms ++ more) x y
  objects_stay x y h k =
      let a = of_table x h in
      let b = of_table y k in
      ap (λ z. ordering_then z (compare_at terms x.o y.o)) (order_stays x.p y.p a.predicate b.predicate)
      ∙ ap (ordering_then (compare_at (terms ++ more) x.p y.p)) (order_stays x.o y.o a.object b.object)

  subjects_stay : (x y : Triple) → within x ≡ true → within y ≡ true → by_subject terms x y ≡ by_subject (terms ++ more) x y
  subjects_stay x y h k =
      let a = of_table x h in
      let b = of_table y k in
      ap (λ z. ordering_then z (compare_at terms x.s y.s)) (order_stays x.p y.p a.predicate b.predicate)
      ∙ ap (ordering_then (compare_at (terms ++ more) x.p y.p)) (order_stays x.s y.s a.subject b.subject)

  outs_pass : (ts : List Triple) → All (IsOfTable terms) ts → Passes (by_object terms) (object_total terms) (by_object (terms ++ more)) within objects_stay ts
  outs_pass [] h = tt
  outs_pass (t ∷ ts) h = (passes t (All-head (IsOfTable terms) t ts h), outs_pass ts (All-tail (IsOfTable terms) t ts h))

  ins_pass : (ts : List Triple) → All (IsOfTable terms) ts → Passes (by_subject terms) (subject_total terms) (by_subject (terms ++ more)) within subjects_stay ts
  ins_pass [] h = tt
  ins_pass (t ∷ ts) h = (passes t (All-head (IsOfTable terms) t ts h), ins_pass ts (All-tail (IsOfTable terms) t ts h))

  arranged : (ts : List Triple) (a : Arrangement) → All (IsOfTable terms) ts → IsArranged terms ts a → IsArranged (terms ++ more) ts a
  arranged ts a h k = record {
    outward = λ n. k.outward n ∙ sorted_alike (by_object terms) (object_total terms) (by_object (terms ++ more)) within objects_stay (outs ts n)
        (outs_pass (outs ts n) (All-filter (λ t. same_id t.s n) (IsOfTable terms) ts h));
    inward = λ n. k.inward n ∙ sorted_alike (by_subject terms) (subject_total terms) (by_subject (terms ++ more)) within subjects_stay (ins ts n)
        (ins_pass (ins ts n) (All-filter (λ t. same_id t.o n) (IsOfTable terms) ts h));
  }

pub outlives : SealingOutlivesGrowth
outlives terms more g h k = by g.lent k
  where
    by : (o : Option Arrangement) → IsSomeAnd o (IsArranged terms g.triples) → IsSomeAnd o (IsArranged (terms ++ more) g.triples)
    by None k = k
    by (Some a) k = arranged terms more g.triples a h k

pub by_texts : OrderIsByTexts
by_texts terms a b other = by (slice_cmp nat_cmp (text_at terms a) (text_at terms b)) refl
  where
    by : (r : Ordering) → slice_cmp nat_cmp (text_at terms a) (text_at terms b) ≡ r → ordering_then r (nat_cmp a.0 b.0) ≡ r
    by Less e = refl
    by Equal e = absurd (other (slice_cmp-IsAntisymmetric nat_cmp-IsAntisymmetric (text_at terms a) (text_at terms b) e))
    by Greater e = refl
