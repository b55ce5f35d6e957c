-- Terms that a table takes up, one list after the other.
use Rattle.std.proofs.Common.{◌≡◌, ℕ, ◌+◌, ◌<◌, List, [], ◌∷◌, ◌++◌, refl, sym, ap, subst, arith, length, ◌∙◌, inl, inr, get_or, take, drop, map}
use Rattle.std.specs.Prelude.{Contains}
use Rattle.std.specs.List.{flat_map}
use Rattle.std.proofs.lemmas.Bool.{cases_lt}
use Rattle.std.proofs.lemmas.List.{append-nil, map-append, take-append-drop, take_more}
use Rattle.std.proofs.lemmas.List.Concat.{flat_map-cons}
use Rattle.std.proofs.lemmas.Grind.{flat_map-append}
use Rattle.indexmap.specs.IndexSet.{insert_key}
use Rattle.lists.specs.Additions.{Adds, AddsAll, more, none}
use Rattle.lists.proofs.Additions.{all_grow, first_fills, no_longer}
use Rattle.lists.proofs.Distinct.{adds_item}
use Rattle.lists.proofs.Members.{items_left}
use Rattle.rdf_terms.specs.declared.terms.Term.{Term}
use Rattle.rdf_terms.specs.declared.terms.Term.TheVariants.{Iri}
use Rattle.rdf_terms.specs.Tables.{max_terms}
use Rattle.rdf_terms.proofs.SameTerms.{same_term, term_decides}
use Rattle.schema_load.specs.declared.error.LoadError.{LoadError}
use Rattle.schema_load.specs.declared.part.ArcPart.{ArcPart}
use Rattle.schema_load.specs.declared.part.Part.{Part}
use Rattle.schema_load.specs.declared.part.Part.TheVariants as Parts
use Rattle.schema_load.specs.declared.part.ShapePart.{ShapePart}
use Rattle.schema_load.specs.declared.part.TripleForm.{TripleForm}
use Rattle.schema_load.specs.declared.part.TripleForm.TheVariants.{Arc, Each, Include, One}
use Rattle.schema_load.specs.declared.part.TriplePart.{TriplePart}
use Rattle.schema_load.specs.Building.{IsOver, IsPutError}
use Rattle.schema_load.specs.Parts.{predicate_of, predicates_in}

-- one list after another
pub all_join : {X : Type 0} (old mid new xs ys : List X) → AddsAll old xs mid → AddsAll mid ys new → AddsAll old (xs ++ ys) new
all_join old mid new xs ys none rest = rest
all_join old mid new xs ys (more {mid = first} {xs = us} {x = x} a others) rest = more a (all_join first mid new us ys others rest)

-- some list has what is added
pub some_list : (old xs : List Term) → (new : List Term) × AddsAll old xs new
some_list old [] = (old, none)
some_list old (x ∷ xs) =
    let (new, all) = some_list (insert_key same_term old x) xs in
    (new, more (adds_item same_term term_decides old x (insert_key same_term old x) refl) all)

-- ---- too many terms

pub over_more : (old xs ys : List Term) → IsOver old xs → IsOver old (xs ++ ys)
over_more old xs ys (full, all, long) =
    let (new, others) = some_list full ys in
    let grown = no_longer full new (all_grow full new ys others) in
    (new, all_join old full new xs ys all others, omega arith)

pub over_behind : (old mid xs ys : List Term) → AddsAll old xs mid → IsOver mid ys → IsOver old (xs ++ ys)
over_behind old mid xs ys before (full, all, long) = (full, all_join old mid full xs ys before all, long)

-- a full table cannot take up a new term
pub over_one : (old : List Term) (x : Term) → (¬ Contains old x) → length old ≡ max_terms → IsOver old (x ∷ [])
over_one old x new full =
    let (grown, all) = some_list old (x ∷ []) in
    let above = first_fills max_terms old grown [] x (new, full) all in (
      grown,
      all,
      elim (cases_lt max_terms (length grown)) [
        | inl lt ↦ lt
        | inr le ↦ absurd (above le)
      ],
    )

-- ---- lists of additions

pub put_on : (old mid new before now after : List Term) → after ≡ before ++ now → AddsAll old before mid → AddsAll mid now new → AddsAll old after new
put_on old mid new before now after e first rest = subst (λ xs. AddsAll old xs new) (sym e) (all_join old mid new before now first rest)

pub put_failed : (old mid before now rest all : List Term) (e : LoadError) → all ≡ before ++ (now ++ rest) → AddsAll old before mid → IsPutError mid now e → IsPutError old all e
put_failed old mid before now rest all e is first (inl memory) = inl memory
put_failed old mid before now rest all e is first (inr (full, over)) = inr (full, subst (λ xs. IsOver old xs) (sym is) (over_behind old mid before (now ++ rest) first (over_more mid now rest over)))

-- ---- the additions of the first items

flat_one : {X : Type 0} (f : X → List Term) (x : X) → flat_map f (x ∷ []) ≡ f x
flat_one f x = flat_map-cons f x [] ∙ append-nil (f x)

module _ {X : Type 0} (f : X → List Term) (xs : List X) (i : ℕ) (x : X) (lt : i < length xs) (read : x ≡ get_or xs i x) where
  pub flat_next : flat_map f (take (i + 1) xs) ≡ flat_map f (take i xs) ++ f x
  flat_next =
      ap (flat_map f) (take_more xs i x lt ∙ ap (λ y. take i xs ++ y ∷ []) (sym read))
      ∙ (flat_map-append f (take i xs) (x ∷ []) ∙ ap (λ us. flat_map f (take i xs) ++ us) (flat_one f x))

  pub flat_whole : flat_map f xs ≡ flat_map f (take i xs) ++ (f x ++ flat_map f (drop (i + 1) xs))
  flat_whole =
      ap (flat_map f) (sym (take-append-drop i xs) ∙ ap (λ us. take i xs ++ us) (items_left xs i x lt read))
      ∙ (flat_map-append f (take i xs) (x ∷ drop (i + 1) xs) ∙ ap (λ us. flat_map f (take i xs) ++ us) (flat_map-cons f x (drop (i + 1) xs)))

module _ (iris : List (List ℕ)) (i : ℕ) (x : List ℕ) (lt : i < length iris) (read : x ≡ get_or iris i x) where
  pub iris_next : map Iri (take (i + 1) iris) ≡ map Iri (take i iris) ++ Iri x ∷ []
  iris_next = ap (map Iri) (take_more iris i x lt ∙ ap (λ y. take i iris ++ y ∷ []) (sym read)) ∙ map-append Iri (take i iris) (x ∷ [])

  pub iris_whole : map Iri iris ≡ map Iri (take i iris) ++ (Iri x ∷ [] ++ map Iri (drop (i + 1) iris))
  iris_whole = ap (map Iri) (sym (take-append-drop i iris) ∙ ap (λ us. take i iris ++ us) (items_left iris i x lt read)) ∙ map-append Iri (take i iris) (x ∷ drop (i + 1) iris)

-- ---- single additions

pub added_one : (old new : List Term) (x y : Term) → x ≡ y → Adds old x new → AddsAll old (y ∷ []) new
added_one old new x y e a = subst (λ z. AddsAll old (z ∷ []) new) e (more a none)

pub over_iri : (old : List Term) (x y : Term) → x ≡ y → (¬ Contains old x) → length old ≡ max_terms → IsOver old (y ∷ [])
over_iri old x y e new full = subst (λ z. IsOver old (z ∷ [])) e (over_one old x new full)

pub no_arc : (old : List Term) (f : TripleForm) → ((a : ArcPart) → f ≡ Arc a → ⊥) → AddsAll old (predicate_of f) old
no_arc old (Arc a) other = absurd (other a refl)
no_arc old (Each ps) other = none
no_arc old (One ps) other = none
no_arc old (Include l) other = none

pub no_predicate : (old : List Term) (x : Part) → ((s : ShapePart) → x ≡ Parts.Shape s → ⊥) → ((t : TriplePart) → x ≡ Parts.Triple t → ⊥) → AddsAll old (predicates_in x) old
no_predicate old (Parts.Shape s) shape triple = absurd (shape s refl)
no_predicate old (Parts.Triple t) shape triple = absurd (triple t refl)
no_predicate old Parts.Start shape triple = none
no_predicate old (Parts.Declares l) shape triple = none
no_predicate old (Parts.And ps) shape triple = none
no_predicate old (Parts.Or ps) shape triple = none
no_predicate old (Parts.Not q) shape triple = none
no_predicate old (Parts.Node c) shape triple = none
no_predicate old (Parts.Ref l) shape triple = none
