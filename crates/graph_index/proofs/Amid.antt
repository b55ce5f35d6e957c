-- A row that is put among those of its node, or taken out of them.
use Rattle.std.proofs.Common.{◌≡◌, ◌<◌, List, ◌∷◌, ap, sym, ◌∙◌, refl, Option, None, Some, subst, vec_capacity, vec_len}
use Rattle.std.specs.Global.{Vec}
use Rattle.std.specs.Map.{lookup}
use Rattle.std.specs.Option.{IsSomeAnd}
use Rattle.rdf_terms.specs.declared.terms.Term.{Term}
use Rattle.rdf_terms.specs.declared.terms.TermId.{TermId}
use Rattle.rdf_terms.specs.declared.terms.Triple.{Triple}
use Rattle.rdf_terms.specs.Graphs.{same_id}
use Rattle.lists.specs.Sorting.{insert_by, sorted_by}
use Rattle.graph_index.specs.Edits.{AreInTexts, AreInTextsOf, Incidence, IsReady, PutsRows}
use Rattle.graph_index.specs.Rows.{arcs_at, by_texts, node_at}
use Rattle.graph_index.specs.declared.ends.End.{End}
use Rattle.graph_index.proofs.KeptUp.{more_sorted}

-- room in a node's own rows
pub room_of : (a : Incidence) (n m : TermId) (fresh : Option (Vec Triple)) (es : List (TermId × Vec Triple)) (v : Vec Triple) →
    ((w : Vec Triple) → fresh ≡ Some w → ⊥) → a.edited ≡ es → n ≡ m → lookup (same_id m) es ≡ Some v
    → IsReady n fresh a → vec_len v < vec_capacity v
room_of a n m None es v other held same look ready =
    subst (λ (o : Option (Vec Triple)). IsSomeAnd o (λ own. vec_len own < vec_capacity own))
    (ap (λ (z : TermId). lookup (same_id z) a.edited) same ∙ ap (lookup (same_id m)) held ∙ look) ready
room_of a n m (Some w) es v other held same look ready = absurd (other w refl)

-- rows that are put under another name
pub puts_alike : (n m : TermId) (rows also : List Triple) (a b : Incidence) → n ≡ m → rows ≡ also → PutsRows n rows a b → PutsRows m also a b
puts_alike n m rows also a b same is puts = subst (λ (z : TermId). PutsRows z also a b) same (subst (λ (v : List Triple). PutsRows n v a b) is puts)

module _ (a : Incidence) (terms : List Term) (t : Triple) (end : End) (at : end ≡ a.end) where
  abbrev pub own : List Triple
  own = arcs_at a.end a.rows (node_at a.end t)

  pub is_put : (new rows : List Triple) → rows ≡ own → new ≡ insert_by (by_texts end terms) t rows → new ≡ insert_by (by_texts a.end terms) t own
  is_put new rows here is = is ∙ ap (λ (z : End). insert_by (by_texts z terms) t rows) at ∙ ap (insert_by (by_texts a.end terms) t) here

  pub sorted_here : (rows : List Triple) → rows ≡ own → AreInTextsOf terms a.end (node_at a.end t) own → (ts : List Triple) × (rows ≡ sorted_by (by_texts end terms) ts)
  sorted_here rows here (ts, is) = (arcs_at a.end ts (node_at a.end t), here ∙ is ∙ ap (λ (z : End). sorted_by (by_texts z terms) (arcs_at a.end ts (node_at a.end t))) (sym at))

  pub put_in_texts : (new : List Triple) (n : TermId) → new ≡ insert_by (by_texts a.end terms) t own → n ≡ node_at a.end t → AreInTextsOf terms a.end (node_at a.end t) own → AreInTexts a.end n new
  put_in_texts new n is same (ts, sorted) = (
    terms,
    t ∷ ts,
    is ∙ more_sorted a.end terms t ts own sorted ∙ ap (λ (z : TermId). sorted_by (by_texts a.end terms) (arcs_at a.end (t ∷ ts) z)) (sym same),
  )

  abbrev pub IsOneOf : List Triple → Type 0
  IsOneOf ts = own ≡ sorted_by (by_texts a.end terms) (t ∷ arcs_at a.end ts (node_at a.end t))

  pub one_here : (rows : List Triple) → rows ≡ own → (ts : List Triple) → IsOneOf ts → rows ≡ sorted_by (by_texts end terms) (t ∷ arcs_at a.end ts (node_at a.end t))
  one_here rows here ts is = here ∙ is ∙ ap (λ (z : End). sorted_by (by_texts z terms) (t ∷ arcs_at a.end ts (node_at a.end t))) (sym at)

  pub is_taken : (new rows : List Triple) → rows ≡ own → ((us : List Triple) → rows ≡ sorted_by (by_texts end terms) (t ∷ us) →
      new ≡ sorted_by (by_texts end terms) us) → (ts : List Triple) → IsOneOf ts
      → new ≡ sorted_by (by_texts a.end terms) (arcs_at a.end ts (node_at a.end t))
  is_taken new rows here takes ts is = takes (arcs_at a.end ts (node_at a.end t)) (one_here rows here ts is) ∙ ap (λ (z : End). sorted_by (by_texts z terms) (arcs_at a.end ts (node_at a.end t))) at

  pub taken_in_texts : (new : List Triple) (n : TermId) (ts : List Triple) → new ≡ sorted_by (by_texts a.end terms) (arcs_at a.end ts (node_at a.end t)) → n ≡ node_at a.end t → AreInTexts a.end n new
  taken_in_texts new n ts is same = (terms, ts, is ∙ ap (λ (z : TermId). sorted_by (by_texts a.end terms) (arcs_at a.end ts z)) (sym same))
