-- Rows of one node in the order of texts.
use Rattle.std.proofs.Common.{◌≡◌, ℕ, ◌+◌, ◌≤◌, ◌<◌, List, refl, ap, sym, ◌∙◌, length, drop, length-drop, get_or, get_or-drop, arith, false, subst}
use Rattle.std.specs.Ordering.{is_lt, ordering_then}
use Rattle.std.specs.declared.cmp.Ordering.{Ordering}
use Rattle.std.specs.declared.cmp.Ordering.TheVariants.{Less, Equal, Greater}
use Rattle.rdf_terms.specs.declared.terms.Term.{Term}
use Rattle.rdf_terms.specs.declared.terms.TermId.{TermId}
use Rattle.rdf_terms.specs.declared.terms.Triple.{Triple}
use Rattle.rdf_terms.specs.Graphs.{same_id}
use Rattle.rdf_terms.specs.Order.{compare_at}
use Rattle.rdf_terms.proofs.Orders.{id_total}
use Rattle.lists.specs.Sorting.{sorted_by}
use Rattle.lists.proofs.Filters.{filter_all, in_filter}
use Rattle.lists.proofs.Sorting.{filter_sorted_by, lower, rises_far, rises_sorted, weak}
use Rattle.graph_index.specs.Edits.{AreInTexts, IsGrouped}
use Rattle.graph_index.specs.Rows.{arcs_at, by_texts, node_across, node_at}
use Rattle.graph_index.specs.declared.ends.End.{End}
use Rattle.graph_index.proofs.Noted.{id_is}
use Rattle.graph_index.proofs.Orders.{id_alone}
use Rattle.graph_index.proofs.Permuted.{equal_of, texts_total}

first_not : (r s : Ordering) → is_lt (ordering_then r s) ≡ false → is_lt r ≡ false
first_not Less s h = h
first_not Equal s h = refl
first_not Greater s h = refl

between : (terms : List Term) (a b c : TermId) → is_lt (compare_at terms b a) ≡ false → is_lt (compare_at terms c b) ≡ false → a.0 ≡ c.0 → b.0 ≡ c.0
between terms a b c h k e =
    id_alone terms b c (equal_of (compare_at terms) (id_total terms) b c (ap (λ (z : TermId). is_lt (compare_at terms b z)) (sym (id_is a c e)) ∙ h) k)

module _ (end : End) (terms : List Term) (ts : List Triple) where
  abbrev row : Triple → ℕ → Triple
  row d n = get_or (sorted_by (by_texts end terms) ts) n d

  falls : (d : Triple) (m n : ℕ) → m ≤ n → n < length (sorted_by (by_texts end terms) ts) → is_lt (compare_at terms (row d n).p (row d m).p) ≡ false
  falls d m n x y =
      first_not (compare_at terms (row d n).p (row d m).p) (compare_at terms (node_across end (row d n)) (node_across end (row d m)))
      (rises_far (lower (by_texts end terms) (texts_total end terms)) (weak (by_texts end terms) (texts_total end terms)) (sorted_by (by_texts end terms) ts) (rises_sorted (by_texts end terms) (texts_total end terms) ts) m n d x y)

  pub grouped_sorted : IsGrouped (sorted_by (by_texts end terms) ts)
  grouped_sorted i j k d a b l e = between terms (row d i).p (row d j).p (row d k).p (falls d i j a (omega (arith, b, l))) (falls d j k b l) e

pub grouped_rows : (end : End) (n : TermId) (rows : List Triple) → AreInTexts end n rows → IsGrouped rows
grouped_rows end n rows (terms, ts, is) = subst IsGrouped (sym is) (grouped_sorted end terms (arcs_at end ts n))

-- rows behind a place
pub grouped_behind : (rows rest : List Triple) (n : ℕ) → rest ≡ drop n rows → IsGrouped rows → IsGrouped rest
grouped_behind rows rest n is h = subst IsGrouped (sym is) (λ i j k d a b l e.
    rw (get_or-drop n rows j d, get_or-drop n rows k d)
    (h (n + i) (n + j) (n + k) d (omega (arith, a)) (omega (arith, b)) (omega (arith, l, length-drop n rows)) (sym (ap (λ (t : Triple). t.p.0) (get_or-drop n rows i d)) ∙ e
    ∙ ap (λ (t : Triple). t.p.0) (get_or-drop n rows k d))))

own_again : (end : End) (n : TermId) (ts : List Triple) → arcs_at end (arcs_at end ts n) n ≡ arcs_at end ts n
own_again end n ts = filter_all (λ t. same_id (node_at end t) n) (arcs_at end ts n) (λ t h. (in_filter (λ t. same_id (node_at end t) n) ts t h).1)

-- they are all of the node
pub own_rows : (end : End) (n : TermId) (rows : List Triple) → AreInTexts end n rows → arcs_at end rows n ≡ rows
own_rows end n rows (terms, ts, is) =
    ap (λ (v : List Triple). arcs_at end v n) is
    ∙ filter_sorted_by (by_texts end terms) (texts_total end terms) (λ t. same_id (node_at end t) n) (arcs_at end ts n)
    ∙ ap (sorted_by (by_texts end terms)) (own_again end n ts) ∙ sym is
