-- Where it can be decided whether a pair is correct, a stratum has a greatest typing.
use Rattle.std.proofs.Common.{◌≡◌, ℕ, zero, suc, ◌<◌, ◌≤◌, ◌⊎◌, inl, inr, List, [], ◌∷◌, ◌++◌, arith, sym, subst, length}
use Rattle.std.specs.Prelude.{Contains, remove}
use Rattle.std.proofs.lemmas.List.Sorted.{IsPermutation-remove, Contains-permutation, IsPermutation-sym}
use Rattle.std.specs.List.Sorted.{IsPermutation}
use Rattle.std.proofs.lemmas.Bool.{cases_lt}
use Rattle.std.proofs.lemmas.List.Edits.{length-remove}
use Rattle.std.proofs.lemmas.List.Elements.{Contains-append_cases, Contains-append_left, Contains-append_right}
use Rattle.rdf_terms.specs.declared.terms.Term.{Term}
use Rattle.rdf_terms.specs.declared.terms.Triple.{Triple}
use Rattle.schema_tree.specs.declared.schema.Schema.{Schema}
use Rattle.schema_tree.specs.declared.schema.Pair.{Pair}
use Rattle.schema_tree.specs.Shapes.{ShapeOk}
use Rattle.schema_tree.specs.Edges.{level, IsStratified}
use Rattle.lists.proofs.Members.{not_in_none, in_rest, is_first, is_later}
use Rattle.schema_tree.proofs.Monotone.{shape_mono}

module _ (s : Schema) (terms : List Term) (g : List Triple) (f : List ℕ) (strat : IsStratified s f) (k : ℕ) (L : List Pair) (There : Pair → Type 0)
    (low : (p : Pair) → Contains L p → level f p.shape < k)
    (decide : (T : List Pair) (p : Pair) → ShapeOk s terms g T p.node p.shape ⊎ (¬ ShapeOk s terms g T p.node p.shape)) where
  -- each pair of the second list is correct under the first
  abbrev pub AllOk : List Pair → List Pair → Type 0
  AllOk W T = (p : Pair) → Contains T p → ShapeOk s terms g W p.node p.shape

  -- some pair is not correct, or all are
  some_bad : (W T : List Pair) → ((p : Pair) × Contains T p × (¬ ShapeOk s terms g W p.node p.shape)) ⊎ AllOk W T
  some_bad W [] = inr (λ p h. absurd (not_in_none p h))
  some_bad W (p ∷ ps) = join (decide W p) (some_bad W ps)
    where
      join :
          ShapeOk s terms g W p.node p.shape ⊎ (¬ ShapeOk s terms g W p.node p.shape) →
          ((q : Pair) × Contains ps q × (¬ ShapeOk s terms g W q.node q.shape)) ⊎ AllOk W ps →
          ((q : Pair) × Contains (p ∷ ps) q × (¬ ShapeOk s terms g W q.node q.shape)) ⊎ AllOk W (p ∷ ps)
      join (inr bad) rest = inl (p, is_first p ps, bad)
      join (inl ok) (inl (q, h, bad)) = inl (q, is_later p ps q h, bad)
      join (inl ok) (inr all) = inr (λ q h. elim (in_rest p ps q h) [
        | inl e ↦ subst (λ z. ShapeOk s terms g W z.node z.shape) e ok
        | inr r ↦ all q r
      ])

  -- a typing that agrees below, is correct on the stratum and has nothing above it
  pub record IsChoice (W : List Pair) : Type 0 where
    pub upto : (p : Pair) → Contains W p → There p × (level f p.shape ≤ k)
    pub agrees : (p : Pair) → level f p.shape < k → (Contains W p → Contains L p) × (Contains L p → Contains W p)
    pub correct : (p : Pair) → Contains W p → level f p.shape ≡ k → ShapeOk s terms g W p.node p.shape

  -- T holds the pairs on the stratum of each choice
  abbrev pub HoldsChoices : List Pair → Type 0
  HoldsChoices T = (W : List Pair) → IsChoice W → (p : Pair) → Contains W p → level f p.shape ≡ k → Contains T p

  abbrev pub IsOn : List Pair → Type 0
  IsOn T = (p : Pair) → Contains T p → There p × (level f p.shape ≡ k)

  -- a pair that is not correct under L and T is in no choice within them
  not_in_choice :
      (T : List Pair) → IsOn T → HoldsChoices T → (q : Pair) → level f q.shape ≡ k → (¬ ShapeOk s terms g (L ++ T) q.node q.shape) →
      (W : List Pair) → IsChoice W → ¬ Contains W q
  not_in_choice T on holds q at bad W choice c =
      bad (shape_mono s terms g f strat k W (L ++ T) up down q.node q.shape at (choice.correct q c at))
    where
      up : (p : Pair) → level f p.shape ≤ k → Contains W p → Contains (L ++ T) p
      up p le h = elim (cases_lt (level f p.shape) k) [
        | inl lt ↦ Contains-append_left L T p ((choice.agrees p lt).0 h)
        | inr ge ↦ Contains-append_right L T p (holds W choice p h (omega arith))
      ]

      down : (p : Pair) → level f p.shape < k → Contains (L ++ T) p → Contains W p
      down p lt h = elim (Contains-append_cases L T p h) [
        | inl l ↦ (choice.agrees p lt).1 l
        | inr t ↦ let e : level f p.shape ≡ k = (on p t).1 in absurd (omega arith)
      ]

  -- what is left when nothing more has to go
  pub greatest :
      (fuel : ℕ) (T : List Pair) → length T ≤ fuel → IsOn T → HoldsChoices T →
      (T' : List Pair) × IsOn T' × HoldsChoices T' × AllOk (L ++ T') T'
  greatest zero T short on holds = (T, on, holds, λ p h. let i : h.0 < length T = h.1 in absurd (omega arith))
  greatest (suc fuel) T short on holds = go (some_bad (L ++ T) T) (λ U. greatest fuel U)
    where
      go :
          ((p : Pair) × Contains T p × (¬ ShapeOk s terms g (L ++ T) p.node p.shape)) ⊎ AllOk (L ++ T) T →
          ((U : List Pair) → length U ≤ fuel → IsOn U → HoldsChoices U → (T' : List Pair) × IsOn T' × HoldsChoices T' × AllOk (L ++ T') T') →
          (T' : List Pair) × IsOn T' × HoldsChoices T' × AllOk (L ++ T') T'
      go (inr all) deeper = (T, on, holds, all)
      go (inl (p, (i, within, is), bad)) deeper =
          deeper (remove T i) (omega (arith, length-remove T i within))
          (λ q h. on q (Contains-permutation _ _ q (IsPermutation-sym _ _ split) (is_later p (remove T i) q h)))
          (λ W choice q h at. elim (in_rest p (remove T i) q (Contains-permutation _ _ q split (holds W choice q h at))) [
            | inl e ↦ absurd (not_in_choice T on holds q at (subst (λ z. ¬ ShapeOk s terms g (L ++ T) z.node z.shape) e bad) W choice h)
            | inr r ↦ r
          ])
        where
          split : IsPermutation T (p ∷ remove T i)
          split = IsPermutation-remove T i p within (sym is)
