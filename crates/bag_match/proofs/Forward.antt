-- What forward occurrences fit in a neighbourhood: nothing behind the arcs out.
use Rattle.std.proofs.Common.{◌≡◌, ℕ, length, List, [], ◌∷◌, drop, filter, not, refl, ap, sym, ◌∙◌, Bool, true, false, true≢false}
use Rattle.std.proofs.Math.Seq.{drop-append_seam}
use Rattle.std.proofs.lemmas.Bool.{eq-eqb, eqb-true}
use Rattle.std.proofs.lemmas.List.Sorted.{Contains-permutation, IsPermutation-sym, length_permutation}
use Rattle.std.specs.Prelude.{◌&&◌, ◌||◌}
use Rattle.std.specs.List.{list_any}
use Rattle.rdf_terms.specs.declared.terms.TermId.{TermId}
use Rattle.rdf_terms.specs.declared.terms.Term.{Term}
use Rattle.rdf_terms.specs.declared.terms.Triple.{Triple}
use Rattle.rdf_terms.specs.Graphs.{ins, is_loop, outs, same_id}
use Rattle.rdf_terms.specs.Order.{by_object, by_subject, neighbourhood}
use Rattle.lists.specs.Sorting.{sorted_by}
use Rattle.lists.proofs.Filters.{filter_none, in_filter}
use Rattle.lists.proofs.Ordered.{sorted_same}
use Rattle.schema_tree.specs.declared.schema.Occurrence.{Occurrence}
use Rattle.schema_tree.specs.Matches.{near_end}
use Rattle.schema_tree.specs.Relevant.{is_relevant}

-- an arc in that is no self-loop does not leave the node
not_out : (n : TermId) (t : Triple) → not (is_loop t) ≡ true → same_id t.o n ≡ true → same_id t.s n ≡ false
not_out n t no_loop into = go (same_id t.s n) refl
  where
    go : (b : Bool) → same_id t.s n ≡ b → same_id t.s n ≡ false
    go false out = out
    go true out = absurd (true≢false (sym no_loop ∙ ap not (eq-eqb t.s.0 t.o.0 (eqb-true t.s.0 n.0 out ∙ sym (eqb-true t.o.0 n.0 into)))))

module _ (n : TermId) (t : Triple) (behind : same_id t.s n ≡ false) where
  -- forward occurrences fit no triple of another subject
  pub none_fits : (occs : List Occurrence) → list_any (λ o. o.inverse) occs ≡ false → is_relevant occs n t ≡ false
  none_fits [] forward = refl
  none_fits (o ∷ occs) forward = go o.inverse (same_id o.predicate t.p) forward (none_fits occs)
    where
      go : (b p : Bool) → (b || list_any (λ o. o.inverse) occs) ≡ false → (list_any (λ o. o.inverse) occs ≡ false → is_relevant occs n t ≡ false) →
          ((p && same_id (near_end b t) n) || is_relevant occs n t) ≡ false
      go true p inverse deeper = absurd (true≢false inverse)
      go false true others deeper = ap (λ b. b || is_relevant occs n t) behind ∙ deeper others
      go false false others deeper = deeper others

module _ (terms : List Term) (g : List Triple) (n : TermId) (occs : List Occurrence) where
  none_into : list_any (λ o. o.inverse) occs ≡ false → filter (is_relevant occs n) (filter (λ t. not (is_loop t)) (sorted_by (by_subject terms) (ins g n))) ≡ []
  none_into forward =
      filter_none (is_relevant occs n) (filter (λ t. not (is_loop t)) (sorted_by (by_subject terms) (ins g n)))
      (λ t held.
      let (sorted, no_loop) = in_filter (λ t. not (is_loop t)) (sorted_by (by_subject terms) (ins g n)) t held in
      let there = Contains-permutation (sorted_by (by_subject terms) (ins g n))
      (ins g n) t (IsPermutation-sym (ins g n) (sorted_by (by_subject terms) (ins g n)) (sorted_same (by_subject terms) (ins g n))) sorted in
      none_fits n t (not_out n t no_loop (in_filter (λ t. same_id t.o n) g t there).1) occs forward)

  -- where all are forward, the arcs out are enough
  pub outs_enough : (near outward : List Triple) (count : ℕ) → near ≡ neighbourhood terms g n → outward ≡ sorted_by (by_object terms) (outs g n) → count ≡ length outward →
      list_any (λ o. o.inverse) occs ≡ false → filter (is_relevant occs n) (drop count near) ≡ []
  outs_enough near outward count whole first is forward =
      ap (λ zs. filter (is_relevant occs n) (drop count zs)) whole
      ∙ ap (λ k. filter (is_relevant occs n) (drop k (neighbourhood terms g n))) (is ∙ ap (λ zs. length zs) first)
      ∙ ap (λ zs. filter (is_relevant occs n) zs) (drop-append_seam (sorted_by (by_object terms) (outs g n)) (filter (λ t. not (is_loop t)) (sorted_by (by_subject terms) (ins g n))))
      ∙ none_into forward

-- the arcs out are as many in their order
pub outs_long : (terms : List Term) (g : List Triple) (n : TermId) (outward : List Triple) → outward ≡ sorted_by (by_object terms) (outs g n) → length outward ≡ length (outs g n)
outs_long terms g n outward first =
    ap (λ zs. length zs) first ∙ length_permutation (outs g n) (sorted_by (by_object terms) (outs g n)) (sorted_same (by_object terms) (outs g n))
