-- The numbers of expressions, one after the other.
use Rattle.std.proofs.Common.{◌≡◌, ℕ, ◌+◌, ◌<◌, ◌≤◌, List, [], refl, sym, ap, subst, arith, length, ◌∙◌, get_or, set, Some, true, get_or-set_same, get_or-set_other, length-set, replicate}
use Rattle.std.specs.Prelude.{slice_get}
use Rattle.std.proofs.Common.{inl, inr}
use Rattle.std.proofs.lemmas.Bool.{cases_eq}
use Rattle.std.proofs.lemmas.List.{length-replicate}
use Rattle.std.proofs.lemmas.Option.{slice_get_within}
use Rattle.lists.specs.Distinct.{AreDistinct}
use Rattle.lists.proofs.Members.{is_first}
use Rattle.schema_documents.specs.declared.label.Label.{Label}
use Rattle.schema_load.specs.declared.part.Part.{Part}
use Rattle.schema_load.specs.declared.part.Part.TheVariants as Parts
use Rattle.schema_load.specs.Building.{AreEntryNumbers, AreReferred, IsNumberTarget, KeepsEntries, number_at}
use Rattle.schema_load.specs.Graph.{Resolves, itself, through}
use Rattle.schema_load.specs.Parts.{AreWhole, IsAt, IsExprAt, is_entry, is_expr}
use Rattle.schema_load.specs.Steps.{AreTargets, HasAll, IsSorted}
use Rattle.schema_load.proofs.Loadable.{index_of}
use Rattle.schema_load.proofs.One.{one_at}
use Rattle.schema_load.proofs.OneSchemaLaw.{ends_at_entry}

-- ---- entries

-- the first entries have their numbers
pub record AreNumberedTo (entries : List ℕ) (count : ℕ) (numbers : List ℕ) (i : ℕ) : Type 0 where
  pub size : length numbers ≡ count
  pub numbered : (j p : ℕ) → j < i → slice_get entries j ≡ Some p → get_or numbers p 0 ≡ j

pub numbered_none : (entries : List ℕ) (count : ℕ) (numbers : List ℕ) → numbers ≡ replicate count (let z : ℕ = 0 in z) → AreNumberedTo entries count numbers 0
numbered_none entries count numbers e = record { size = ap length e ∙ length-replicate count (let z : ℕ = 0 in z); numbered = λ j p lt at. absurd (omega arith) }

pub numbered_more : (entries : List ℕ) (count : ℕ) (numbers : List ℕ) (i p v : ℕ) → AreDistinct entries → slice_get entries i ≡ Some p → p < count → v ≡ i → AreNumberedTo entries count numbers i →
    AreNumberedTo entries count (set numbers p v) (i + 1)
numbered_more entries count numbers i p v distinct here lt value before = record { size = length-set numbers p v ∙ before.size; numbered = numbered }
  where
    numbered : (j q : ℕ) → j < i + 1 → slice_get entries j ≡ Some q → get_or (set numbers p v) q 0 ≡ j
    numbered j q low at = elim (cases_eq q p) [
      | inl same ↦ (
          let one : j ≡ i = distinct j i p (subst (λ z. slice_get entries j ≡ Some z) same at) here in
          subst (λ z. get_or (set numbers p v) z 0 ≡ j) (sym same) (get_or-set_same numbers p v 0 (let s = before.size in omega arith) ∙ (value ∙ sym one))
          )
      | inr apart ↦ (
          let less : j < i = elim (cases_eq j i) [
            | inl one ↦ absurd (apart (let both : Some q ≡ Some p = sym at ∙ (ap (slice_get entries) one ∙ here) in cc))
            | inr other ↦ omega (arith, other)
          ] in
          get_or-set_other numbers p q v 0 apart ∙ before.numbered j q less at
          )
    ]

pub numbered_all : (entries : List ℕ) (count : ℕ) (numbers : List ℕ) (i : ℕ) → length entries ≤ i → AreNumberedTo entries count numbers i → AreEntryNumbers entries numbers
numbered_all entries count numbers i le before j p at = before.numbered j p (let w = slice_get_within entries j p at in omega arith) at

-- ---- references

-- the expressions at the first places of an order have the numbers of those to which they lead, and entries have kept theirs
pub record AreReferredTo (parts : List Part) (order old numbers : List ℕ) (i : ℕ) : Type 0 where
  pub size : length numbers ≡ length parts
  pub kept : KeepsEntries parts old numbers
  pub referred : (j p : ℕ) (x : Part) → j < i → slice_get order j ≡ Some p → IsAt parts p x → is_expr x ≡ true → (q : ℕ) × Resolves parts p q × (get_or numbers p 0 ≡ get_or numbers q 0)

module _ (parts : List Part) (targets order old : List ℕ) (are : AreTargets parts targets) (whole : AreWhole parts) (sorted : IsSorted parts targets order) where
  pub referred_none : length old ≡ length parts → AreReferredTo parts order old old 0
  referred_none size = record { size = size; kept = λ p x at entry. refl; referred = λ j p x lt at here expr. absurd (omega arith) }

  -- the target of a reference stands before it
  target_before : (i p : ℕ) (l : Label) → slice_get order i ≡ Some p → IsAt parts p (Parts.Ref l) → (j : ℕ) × (j < i) × (slice_get order j ≡ Some (get_or targets p 0))
  target_before i p l here at = sorted.behind i p (get_or targets p 0) here (Parts.Ref l, at, is_first (get_or targets p 0) [])

  target_expr : (p : ℕ) (l : Label) → IsAt parts p (Parts.Ref l) → IsExprAt parts (get_or targets p 0)
  target_expr p l at =
      let (d, head, is) = are.each p (Parts.Ref l) at in
      subst (λ z. IsExprAt parts z) (sym is) (whole.behind d (Parts.Declares l) head refl)

  pub target_inside : (i p : ℕ) (x : Part) (numbers : List ℕ) → length numbers ≡ length parts → slice_get order i ≡ Some p → IsAt parts p x → IsNumberTarget x (length numbers) (get_or targets p 0)
  target_inside i p (Parts.Ref l) numbers size here at = let (j, lt, there) = target_before i p l here at in let w = sorted.within j (get_or targets p 0) there in omega arith
  target_inside i p Parts.Start numbers size here at = tt
  target_inside i p (Parts.Declares l) numbers size here at = tt
  target_inside i p (Parts.And ps) numbers size here at = tt
  target_inside i p (Parts.Or ps) numbers size here at = tt
  target_inside i p (Parts.Not q) numbers size here at = tt
  target_inside i p (Parts.Node c) numbers size here at = tt
  target_inside i p (Parts.Shape s) numbers size here at = tt
  target_inside i p (Parts.Triple t) numbers size here at = tt

  -- setting the number that an expression leads to changes nothing else
  module _ (numbers : List ℕ) (i p v : ℕ) (here : slice_get order i ≡ Some p) (before : AreReferredTo parts order old numbers i) where
    inside : p < length numbers
    inside = let w = sorted.within i p here in let s = before.size in omega arith

    set_here : get_or (set numbers p v) p 0 ≡ v
    set_here = get_or-set_same numbers p v 0 inside

    -- where the place keeps its number
    module _ (x : Part) (at : IsAt parts p x) (same : v ≡ get_or numbers p 0) where
      unmoved : (q : ℕ) → get_or (set numbers p v) q 0 ≡ get_or numbers q 0
      unmoved q = elim (cases_eq q p) [
        | inl one ↦ subst (λ z. get_or (set numbers p v) z 0 ≡ get_or numbers z 0) (sym one) (set_here ∙ same)
        | inr apart ↦ get_or-set_other numbers p q v 0 apart
      ]

      stays : (is_expr x ≡ true → is_entry x ≡ true) → AreReferredTo parts order old (set numbers p v) (i + 1)
      stays entry = record {
        size = length-set numbers p v ∙ before.size;
        kept = λ q y there is. unmoved q ∙ before.kept q y there is;
        referred = λ j q y lt there held is. elim (cases_eq j i) [
          | inl one ↦ (
              let place : q ≡ p = (let both : Some q ≡ Some p = sym there ∙ (ap (slice_get order) one ∙ here) in cc) in
              let part : y ≡ x = one_at parts p y x (subst (λ z. IsAt parts z y) place held) at in
              (q, itself held (subst (λ z. is_entry z ≡ true) (sym part) (entry (subst (λ z. is_expr z ≡ true) part is))), refl)
              )
          | inr other ↦ (
              let (r, leads, e) = before.referred j q y (omega (arith, other)) there held is in
              (r, leads, unmoved q ∙ (e ∙ sym (unmoved r)))
              )
        ];
      }

    -- where it takes that of its target
    module _ (l : Label) (at : IsAt parts p (Parts.Ref l)) (same : v ≡ get_or numbers (get_or targets p 0) 0) where
      other_entry : (q : ℕ) (y : Part) → IsAt parts q y → is_entry y ≡ true → (q ≡ p → ⊥)
      other_entry q y there entry one =
          let part : y ≡ Parts.Ref l = one_at parts p y (Parts.Ref l) (subst (λ z. IsAt parts z y) one there) at in
          let bad : is_entry (Parts.Ref l) ≡ true = subst (λ z. is_entry z ≡ true) part entry in
          (let no : ⊥ = cc in no)

      end_stays : (q r : ℕ) → Resolves parts q r → get_or (set numbers p v) r 0 ≡ get_or numbers r 0
      end_stays q r leads = let (y, there, entry) = ends_at_entry parts q r leads in get_or-set_other numbers p r v 0 (other_entry r y there entry)

      mine : (q : ℕ) × Resolves parts p q × (v ≡ get_or numbers q 0)
      mine =
          let (j, lt, there) = target_before i p l here at in
          let (y, held, is) = target_expr p l at in
          let (r, leads, e) = before.referred j (get_or targets p 0) y lt there held is in
          (r, through at (are.each p (Parts.Ref l) at) leads, same ∙ e)

      moves : AreReferredTo parts order old (set numbers p v) (i + 1)
      moves = record {
        size = length-set numbers p v ∙ before.size;
        kept = λ q y there is. get_or-set_other numbers p q v 0 (other_entry q y there is) ∙ before.kept q y there is;
        referred = λ j q y lt there held is. elim (cases_eq q p) [
          | inl one ↦ (
              let (r, leads, e) = mine in
              (r, subst (λ z. Resolves parts z r) (sym one) leads, ap (λ z. get_or (set numbers p v) z 0) one ∙ (set_here ∙ (e ∙ sym (end_stays p r leads))))
              )
          | inr apart ↦ (
              let less : j < i = elim (cases_eq j i) [
                | inl same_place ↦ absurd (apart (let both : Some q ≡ Some p = sym there ∙ (ap (slice_get order) same_place ∙ here) in cc))
                | inr other ↦ omega (arith, other)
              ] in
              let (r, leads, e) = before.referred j q y less there held is in
              (r, leads, get_or-set_other numbers p q v 0 apart ∙ (e ∙ sym (end_stays q r leads)))
              )
        ];
      }

    pub referred_more : (x : Part) → IsAt parts p x → v ≡ number_at x numbers p (get_or targets p 0) → AreReferredTo parts order old (set numbers p v) (i + 1)
    referred_more (Parts.Ref l) at e = moves l at e
    referred_more Parts.Start at e = stays Parts.Start at e (λ h. h)
    referred_more (Parts.Declares l) at e = stays (Parts.Declares l) at e (λ h. h)
    referred_more (Parts.And ps) at e = stays (Parts.And ps) at e (λ h. h)
    referred_more (Parts.Or ps) at e = stays (Parts.Or ps) at e (λ h. h)
    referred_more (Parts.Not q) at e = stays (Parts.Not q) at e (λ h. h)
    referred_more (Parts.Node c) at e = stays (Parts.Node c) at e (λ h. h)
    referred_more (Parts.Shape s) at e = stays (Parts.Shape s) at e (λ h. h)
    referred_more (Parts.Triple t) at e = stays (Parts.Triple t) at e (λ h. h)

  pub referred_all : (numbers : List ℕ) (i : ℕ) → HasAll parts order → length order ≤ i → AreReferredTo parts order old numbers i → AreReferred parts numbers
  referred_all numbers i all le before p l at =
      let (j, there) = index_of order p (all p (slice_get_within parts p (Parts.Ref l) at)) in
      before.referred j p (Parts.Ref l) (let w = slice_get_within order j p there in omega arith) there at refl
