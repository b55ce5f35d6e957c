-- Rows that are kept up when a triple is inserted or removed.
use Rattle.std.proofs.Common.{◌≡◌, ℕ, List, ◌∷◌, refl, ap, sym, ◌∙◌, Bool, true, false, cond, if◌then◌else◌, not, filter, All, subst, eq-eqb, IsPermutation}
use Rattle.std.proofs.lemmas.Bool.{eqb-true}
use Rattle.rdf_terms.specs.declared.terms.Term.{Term}
use Rattle.rdf_terms.specs.declared.terms.TermId.{TermId}
use Rattle.rdf_terms.specs.declared.terms.Triple.{Triple}
use Rattle.rdf_terms.specs.Graphs.{ins, is_loop, outs, same_id}
use Rattle.lists.specs.Sorting.{insert_by, sorted_by}
use Rattle.lists.proofs.Filters.{filter_comm}
use Rattle.lists.proofs.Sorting.{filter_sorted_by}
use Rattle.graph_index.specs.Contents.{Arrangement, IsArranged}
use Rattle.graph_index.specs.Edits.{AreInTextsOf, AreKept, GivesRows, HasSameRows, Incidence, PutsRows}
use Rattle.graph_index.specs.Places.{AreApart, IsPlaced}
use Rattle.graph_index.specs.Rows.{AreArranged, IsByPredicate, arcs_at, by_texts, node_at}
use Rattle.graph_index.specs.declared.ends.End.{End}
use Rattle.graph_index.specs.declared.ends.End.TheVariants.{Object, Subject}
use Rattle.graph_index.proofs.Lent.{of_others}
use Rattle.graph_index.proofs.Permuted.{rows_one, texts_total}

itself : (n : TermId) → same_id n n ≡ true
itself n = eq-eqb n.0 n.0 refl

-- ---- the triples of a node, with one more

own_more : (end : End) (t : Triple) (ts : List Triple) → arcs_at end (t ∷ ts) (node_at end t) ≡ t ∷ arcs_at end ts (node_at end t)
own_more end t ts = ap (λ b. cond b (t ∷ arcs_at end ts (node_at end t)) (arcs_at end ts (node_at end t))) (itself (node_at end t))

-- what sorted rows of the node are with the triple
pub more_sorted : (end : End) (terms : List Term) (t : Triple) (ts rows : List Triple) → rows ≡ sorted_by (by_texts end terms) (arcs_at end ts (node_at end t))
    → insert_by (by_texts end terms) t rows ≡ sorted_by (by_texts end terms) (arcs_at end (t ∷ ts) (node_at end t))
more_sorted end terms t ts rows is = ap (insert_by (by_texts end terms) t) is ∙ ap (sorted_by (by_texts end terms)) (sym (own_more end t ts))

-- what they are where the triple is one of them
pub as_inserted : (end : End) (terms : List Term) (t : Triple) (ts left rows : List Triple) → IsPermutation ts (t ∷ left) → rows ≡ sorted_by (by_texts end terms) (arcs_at end ts (node_at end t))
    → rows ≡ sorted_by (by_texts end terms) (t ∷ arcs_at end left (node_at end t))
as_inserted end terms t ts left rows p is =
    is ∙ rows_one end terms (node_at end t) ts (t ∷ left) p ∙ ap (sorted_by (by_texts end terms)) (own_more end t left)

-- ---- both orders

module _ (end : End) (terms : List Term) (t : Triple) (old new own : List Triple) (gives : GivesRows end (node_at end t) own old new) where
  inserted_by : (b : Bool) (n : TermId) (ts : List Triple) → same_id (node_at end t) n ≡ b → own ≡ insert_by (by_texts end terms) t (arcs_at end old (node_at end t))
      → ((m : TermId) → arcs_at end old m ≡ sorted_by (by_texts end terms) (arcs_at end ts m))
      → cond b own (arcs_at end old n) ≡ sorted_by (by_texts end terms) (cond b (t ∷ arcs_at end ts n) (arcs_at end ts n))
  inserted_by true n ts e is sorted = is ∙ ap (insert_by (by_texts end terms) t) (ap (arcs_at end old) (same_node (node_at end t) n e) ∙ sorted n)
    where
      same_node : (a b : TermId) → same_id a b ≡ true → a ≡ b
      same_node a b h = λ i. record { 0 = eqb-true a.0 b.0 h i }
  inserted_by false n ts e is sorted = sorted n

  pub all_inserted : (ts more : List Triple) → IsPermutation more (t ∷ ts) → own ≡ insert_by (by_texts end terms) t (arcs_at end old (node_at end t))
      → ((m : TermId) → arcs_at end old m ≡ sorted_by (by_texts end terms) (arcs_at end ts m)) → (n : TermId) → arcs_at end new n ≡ sorted_by (by_texts end terms) (arcs_at end more n)
  all_inserted ts more p is sorted n = gives n ∙ inserted_by (same_id (node_at end t) n) n ts refl is sorted ∙ sym (rows_one end terms n more (t ∷ ts) p)

  removed_by : (b : Bool) (n : TermId) (left : List Triple) → same_id (node_at end t) n ≡ b → own ≡ sorted_by (by_texts end terms) (arcs_at end left (node_at end t))
      → arcs_at end old n ≡ sorted_by (by_texts end terms) (cond b (t ∷ arcs_at end left n) (arcs_at end left n))
      → cond b own (arcs_at end old n) ≡ sorted_by (by_texts end terms) (arcs_at end left n)
  removed_by true n left e is sorted = is ∙ ap (λ (m : TermId). sorted_by (by_texts end terms) (arcs_at end left m)) (same_node (node_at end t) n e)
    where
      same_node : (a b : TermId) → same_id a b ≡ true → a ≡ b
      same_node a b h = λ i. record { 0 = eqb-true a.0 b.0 h i }
  removed_by false n left e is sorted = sorted

  pub all_removed : (ts left : List Triple) → IsPermutation ts (t ∷ left) → own ≡ sorted_by (by_texts end terms) (arcs_at end left (node_at end t))
      → ((m : TermId) → arcs_at end old m ≡ sorted_by (by_texts end terms) (arcs_at end ts m)) → (n : TermId) → arcs_at end new n ≡ sorted_by (by_texts end terms) (arcs_at end left n)
  all_removed ts left p is sorted n = gives n ∙ removed_by (same_id (node_at end t) n) n left refl is (sorted n ∙ rows_one end terms n ts (t ∷ left) p)

-- ---- what stays so of the rows

others_put : (old new old_in new_in own own_in : List Triple) (n : TermId) → GivesRows Object n own old new → GivesRows Object n own_in old_in new_in → own ≡ filter (λ t. not (is_loop t)) own_in
    → ((m : TermId) → arcs_at Object old m ≡ filter (λ t. not (is_loop t)) (arcs_at Object old_in m)) → (m : TermId) → arcs_at Object new m ≡ filter (λ t. not (is_loop t)) (arcs_at Object new_in m)
others_put old new old_in new_in own own_in n h k e others m = h m ∙ by (same_id n m) ∙ ap (filter (λ t. not (is_loop t))) (sym (k m))
  where
    by : (b : Bool) → cond b own (arcs_at Object old m) ≡ filter (λ t. not (is_loop t)) (cond b own_in (arcs_at Object old_in m))
    by true = e
    by false = others m

pub put_kept : (places : List ℕ) (a a' b b' c c' : Incidence) (s o : TermId) (out_rows in_rows others : List Triple) → others ≡ filter (λ t. not (is_loop t)) in_rows
    → PutsRows s out_rows a a' → PutsRows o in_rows b b' → PutsRows o others c c' → AreKept places a b c → AreKept places a' b' c'
put_kept places a a' b b' c c' s o out_rows in_rows others e h k l kept = record {
  apart = kept.apart;
  outward_placed = subst (All (IsPlaced places)) (sym h.sealed) kept.outward_placed;
  inward_placed = subst (All (IsPlaced places)) (sym k.sealed) kept.inward_placed;
  outward_by_predicate = λ n. subst (λ (v : List Triple). IsByPredicate places (arcs_at Subject v n)) (sym h.sealed) (kept.outward_by_predicate n);
  inward_by_predicate = λ n. subst (λ (v : List Triple). IsByPredicate places (arcs_at Object v n)) (sym k.sealed) (kept.inward_by_predicate n);
  outward_end = h.end ∙ kept.outward_end;
  inward_end = k.end ∙ kept.inward_end;
  others_end = l.end ∙ kept.others_end;
  others =
      others_put c.rows c'.rows b.rows b'.rows others in_rows o (subst (λ (end : End). GivesRows end o others c.rows c'.rows) kept.others_end l.rows)
      (subst (λ (end : End). GivesRows end o in_rows b.rows b'.rows) kept.inward_end k.rows) e kept.others;
}

-- ---- rows that were put in order, and no node edited yet

pub fresh_kept :
    (places lent also : List ℕ) (triples out_rows in_rows other_rows : List Triple) (a b c : Incidence) → lent ≡ places → also ≡ places → AreApart places → All (IsPlaced places) triples
    → AreArranged Subject lent triples out_rows → AreArranged Object also triples in_rows → other_rows ≡ filter (λ t. not (is_loop t)) in_rows
    → a.end ≡ Subject → b.end ≡ Object → c.end ≡ Object → a.sealed ≡ out_rows → b.sealed ≡ in_rows → b.rows ≡ in_rows → c.rows ≡ other_rows → AreKept places a b c
fresh_kept places lent also triples out_rows in_rows other_rows a b c is as_well apart placed up also_up others ea eb ec sa sb rb rc =
    let out_up : AreArranged Subject places triples out_rows = subst (λ (v : List ℕ). AreArranged Subject v triples out_rows) is up in
    let in_up : AreArranged Object places triples in_rows = subst (λ (v : List ℕ). AreArranged Object v triples in_rows) as_well also_up in
    record {
      apart = apart;
      outward_placed = subst (All (IsPlaced places)) (sym sa) (out_up.placed placed);
      inward_placed = subst (All (IsPlaced places)) (sym sb) (in_up.placed placed);
      outward_by_predicate = λ n. subst (λ (v : List Triple). IsByPredicate places (arcs_at Subject v n)) (sym sa) (out_up.by_predicate n);
      inward_by_predicate = λ n. subst (λ (v : List Triple). IsByPredicate places (arcs_at Object v n)) (sym sb) (in_up.by_predicate n);
      outward_end = ea;
      inward_end = eb;
      others_end = ec;
      others = λ n.
          ap (λ (v : List Triple). arcs_at Object v n) rc ∙ of_others in_rows other_rows n others
          ∙ ap (λ (v : List Triple). filter (λ t. not (is_loop t)) (arcs_at Object v n)) (sym rb);
    }

-- ---- what the rows of both orders are after an edit

pub arranged_more :
    (terms : List Term) (t : Triple) (old new : Arrangement) (triples more : List Triple) → IsPermutation more (t ∷ triples)
    → GivesRows Subject t.s (insert_by (by_texts Subject terms) t (outs old.outward t.s)) old.outward new.outward
    → GivesRows Object t.o (insert_by (by_texts Object terms) t (ins old.inward t.o)) old.inward new.inward → IsArranged terms triples old → IsArranged terms more new
arranged_more terms t old new triples more p gives_out gives_in arranged = record {
  outward = all_inserted Subject terms t old.outward new.outward (insert_by (by_texts Subject terms) t (outs old.outward t.s)) gives_out triples more p refl arranged.outward;
  inward = all_inserted Object terms t old.inward new.inward (insert_by (by_texts Object terms) t (ins old.inward t.o)) gives_in triples more p refl arranged.inward;
}

pub arranged_less :
    (terms : List Term) (t : Triple) (old new : Arrangement) (triples left : List Triple) → IsPermutation triples (t ∷ left)
    → GivesRows Subject t.s (sorted_by (by_texts Subject terms) (outs left t.s)) old.outward new.outward → GivesRows Object t.o (sorted_by (by_texts Object terms) (ins left t.o)) old.inward new.inward
    → IsArranged terms triples old → IsArranged terms left new
arranged_less terms t old new triples left p gives_out gives_in arranged = record {
  outward = all_removed Subject terms t old.outward new.outward (sorted_by (by_texts Subject terms) (outs left t.s)) gives_out triples left p refl arranged.outward;
  inward = all_removed Object terms t old.inward new.inward (sorted_by (by_texts Object terms) (ins left t.o)) gives_in triples left p refl arranged.inward;
}

-- ---- edits of rows that were made ready

-- what an edit put holds of what there was before the rows were made ready
pub from_same :
    (N : End → TermId) (F : End → List Triple → List Triple) (a ready new : Incidence) → HasSameRows a ready → PutsRows (N ready.end)
    (F ready.end ready.rows) ready new → PutsRows (N a.end) (F a.end a.rows) a new
from_same N F a ready new same puts = record {
  end = puts.end ∙ same.end;
  sealed = puts.sealed ∙ same.sealed;
  rows =
      subst (λ (r : List Triple). GivesRows a.end (N a.end) (F a.end r) r new.rows) same.rows
      (subst (λ (e : End). GivesRows e (N e) (F e ready.rows) ready.rows new.rows) same.end puts.rows);
}

-- what is so of the rows of a node is so of them when they were made ready
pub of_ready : (P : End → List Triple → Type 0) (a ready : Incidence) (end : End) → a.end ≡ end → HasSameRows a ready → P end a.rows → P ready.end ready.rows
of_ready P a ready end is same h =
    subst (λ (e : End). P e ready.rows) (sym (same.end ∙ is)) (subst (P end) (sym same.rows) h)

-- those that are no self-loops
abbrev nl : Triple → Bool
nl t = not (is_loop t)

others_sorted : (terms : List Term) (us rows others : List Triple) → rows ≡ sorted_by (by_texts Object terms) us → others ≡ filter nl rows → others ≡ sorted_by (by_texts Object terms) (filter nl us)
others_sorted terms us rows others is e = e ∙ ap (filter nl) is ∙ filter_sorted_by (by_texts Object terms) (texts_total Object terms) nl us

pub others_in_texts : (terms : List Term) (n : TermId) (ts rows others : List Triple) → rows ≡ sorted_by (by_texts Object terms) (ins ts n) →
    others ≡ filter nl rows → AreInTextsOf terms Object n others
others_in_texts terms n ts rows others is e =
    (filter nl ts, others_sorted terms (ins ts n) rows others is e ∙ ap (sorted_by (by_texts Object terms)) (filter_comm nl (λ t. same_id t.o n) ts))

pub others_more : (terms : List Term) (t : Triple) (us rows others : List Triple) → rows ≡ sorted_by (by_texts Object terms) us → others ≡ filter nl rows
    → (if is_loop t then others else insert_by (by_texts Object terms) t others) ≡ filter nl (insert_by (by_texts Object terms) t rows)
others_more terms t us rows others is e =
    by (is_loop t) (others_sorted terms us rows others is e)
    ∙ sym (filter_sorted_by (by_texts Object terms) (texts_total Object terms) nl (t ∷ us)) ∙ ap (filter nl) (ap (insert_by (by_texts Object terms) t) (sym is))
  where
    by : (b : Bool) → others ≡ sorted_by (by_texts Object terms) (filter nl us)
        → (if b then others else insert_by (by_texts Object terms) t others) ≡ sorted_by (by_texts Object terms) (cond (not b) (t ∷ filter nl us) (filter nl us))
    by true h = h
    by false h = ap (insert_by (by_texts Object terms) t) h

-- with a triple that is one of them, or a self-loop
pub others_one : (terms : List Term) (t : Triple) (left rows others : List Triple) → rows ≡ sorted_by (by_texts Object terms) (t ∷ ins left t.o) → others ≡ filter nl rows
    → others ≡ sorted_by (by_texts Object terms) (if is_loop t then ins (filter nl left) t.o else t ∷ ins (filter nl left) t.o)
others_one terms t left rows others is e =
    others_sorted terms (t ∷ ins left t.o) rows others is e ∙ by (is_loop t) (filter_comm nl (λ u. same_id u.o t.o) left)
  where
    by : (b : Bool) → filter nl (ins left t.o) ≡ ins (filter nl left) t.o
        → sorted_by (by_texts Object terms) (cond (not b) (t ∷ filter nl (ins left t.o)) (filter nl (ins left t.o)))
        ≡ sorted_by (by_texts Object terms) (if b then ins (filter nl left) t.o else t ∷ ins (filter nl left) t.o)
    by true h = ap (sorted_by (by_texts Object terms)) h
    by false h = ap (λ (v : List Triple). sorted_by (by_texts Object terms) (t ∷ v)) h

pub others_less : (terms : List Term) (t : Triple) (left : List Triple) → sorted_by (by_texts Object terms) (ins (filter nl left) t.o) ≡ filter nl (sorted_by (by_texts Object terms) (ins left t.o))
others_less terms t left =
    ap (sorted_by (by_texts Object terms)) (sym (filter_comm nl (λ u. same_id u.o t.o) left)) ∙ sym (filter_sorted_by (by_texts Object terms) (texts_total Object terms) nl (ins left t.o))

-- rows that are lent as they were put in order
pub lent_arranged :
    (terms : List Term) (triples out_rows in_rows outward inward : List Triple) → outward ≡ out_rows → inward ≡ in_rows → IsArranged terms triples (record { outward = out_rows; inward = in_rows })
    → IsArranged terms triples (record { outward = outward; inward = inward })
lent_arranged terms triples out_rows in_rows outward inward e f h = record {
  outward = λ n. ap (λ (v : List Triple). outs v n) e
      ∙ h.outward n;
  inward = λ n. ap (λ (v : List Triple). ins v n) f ∙ h.inward n;
}
