-- Triples that have one place alone by their form.
use Rattle.std.proofs.Common.{◌≡◌, ◌∙◌, ◌≤◌, ◌-◌, ◌^◌, ◌⊎◌, ℕ, inl, inr, List, ◌∷◌, arith, ap, sym, subst, drop, length, lit≤, min}
use Rattle.std.proofs.lemmas.List.{drop_all}
use Rattle.std.specs.Prelude.{Contains, Some}
use Rattle.rdf_terms.specs.declared.terms.Term.{Term}
use Rattle.rdf_terms.specs.declared.terms.Triple.{Triple}
use Rattle.schema_tree.specs.declared.schema.Pair.{Pair}
use Rattle.schema_tree.specs.declared.schema.Schema.{Schema}
use Rattle.schema_tree.specs.declared.schema.Shape.{Shape}
use Rattle.schema_tree.specs.Entries.{shape_at}
use Rattle.schema_tree.specs.Relevant.{relevant, relevant_in_order}
use Rattle.schema_tree.specs.Width.{HasWidth, coarse, coarse_of, coarse_over, fine_over, places_for, width_of}
use Rattle.schema_tree.proofs.PlainWidth.{one_over}
use Rattle.schema_tree.proofs.Widths.{fine_some}
use Rattle.lists.proofs.Members.{in_rest, not_in_none}
use Rattle.bag_match.proofs.Counted.{there}

-- of some items one more holds
pub next_left : (Q : Triple → Type 0) (before after : List Triple) (x t : Triple) → before ≡ x ∷ after → Q x → Contains before t ⊎ Q t → Contains after t ⊎ Q t
next_left Q before after x t is holds (inl c) = elim (in_rest x after t (subst (λ ys. Contains ys t) is c)) [ inl e ↦ inr (subst Q e holds) | inr later ↦ inl later ]
next_left Q before after x t is holds (inr q) = inr q

-- of all it holds
pub none_left : (Q : Triple → Type 0) (xs : List Triple) (i : ℕ) (t : Triple) → length xs ≤ i → Contains (drop i xs) t ⊎ Q t → Q t
none_left Q xs i t past (inl c) = absurd (not_in_none t (subst (λ ys. Contains ys t) (drop_all i xs past) c))
none_left Q xs i t past (inr q) = q

-- a pair is as wide as one where each of its triples has one place
module _ (s : Schema) (terms : List Term) (g : List Triple) (p : Pair) (sh : Shape) (ts : List Triple) (is : shape_at s p.shape ≡ Some sh) (same : ts ≡ relevant_in_order terms g sh p.node)
    (one : (t : Triple) → Contains ts t → places_for sh p.node t ≡ 1) where
  coarse_one : coarse_over sh p.node (relevant sh.occs g p.node) ≡ 1
  coarse_one = one_over sh p.node (relevant sh.occs g p.node) (λ t c. one t (subst (λ us. Contains us t) (sym same) (there terms g sh p.node t c)))

  least_one : (x y most : ℕ) → x ≡ 1 → 1 ≤ y → 2 ≤ most → 1 ≡ min (min x y) most
  least_one x y most e some many = omega (arith, e, some, many)

  pub width_one : (w : ℕ) → HasWidth s terms g p w → 1 ≡ min w (2 ^ 64 - 1)
  width_one w has =
      least_one (coarse_over sh p.node (relevant sh.occs g p.node)) (fine_over has.plain sh p.node (relevant sh.occs g p.node)) (2 ^ 64 - 1) coarse_one
      (fine_some has.plain sh p.node (relevant sh.occs g p.node)) (lit≤ tt)
      ∙ ap (λ k. min k (2 ^ 64 - 1)) (sym (has.is ∙ ap (λ o. width_of has.plain o g p.node) is))

  pub narrower_one : 1 ≤ coarse s g p
  narrower_one = subst (λ o. 1 ≤ coarse_of o g p.node) (sym is) (let e = coarse_one in omega (arith, e))
