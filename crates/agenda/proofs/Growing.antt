-- Lists that are seen as sets, which grow by an item.
use Rattle.std.proofs.Common.{◌≡◌, ◌⊎◌, ◌++◌, inl, inr, List, [], ◌∷◌, sym, subst}
use Rattle.std.proofs.lemmas.List.Elements.{Contains-append_cases, Contains-append_left, Contains-append_right}
use Rattle.std.specs.Prelude.{◌↔◌, Contains}
use Rattle.lists.proofs.Members.{in_one, is_first}

-- what is in the list now is what was, and what is in the others
abbrev pub Has : {X : Type 0} → List X → List X → List X → Type 0
Has before ys now = (q : _) → Contains now q ↔ (Contains before q ⊎ Contains ys q)

pub has_one : {X : Type 0} (before ys now next : List X) (x : X) → Has before ys now → ((q : X) → Contains next q ↔ (Contains now q ⊎ (q ≡ x))) → Has before (ys ++ x ∷ []) next
has_one before ys now next x h put q = (
  (λ c. elim ((put q).0 c) [
    | inl l ↦ elim ((h q).0 l) [ inl b ↦ inl b | inr y ↦ inr (Contains-append_left ys (x ∷ []) q y) ]
    | inr e ↦ inr (Contains-append_right ys (x ∷ []) q (subst (λ z. Contains (x ∷ []) z) (sym e) (is_first x [])))
  ]),
  (λ c. elim c [
    | inl b ↦ (put q).1 (inl ((h q).1 (inl b)))
    | inr y ↦ elim (Contains-append_cases ys (x ∷ []) q y) [
      | inl l ↦ (put q).1 (inl ((h q).1 (inr l)))
      | inr r ↦ (put q).1 (inr (sym (in_one x q r)))
    ]
  ]),
)
