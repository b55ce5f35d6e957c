-- Shapes that a test of equality tells apart.
use Rattle.std.proofs.Common.{◌≡◌, Bool, List, Contains, inl, inr, ap, eq-eqb, sym, subst, ◌⊎◌, ◌∷◌, []}
use borrow.Author.Tests.{eqb-true}
use Rattle.std.proofs.lemmas.List.Elements.{Contains-append_cases, Contains-append_left, Contains-append_right}
use Rattle.std.specs.Bool.{Decides}
use Rattle.std.specs.Prelude.{◌↔◌}
use Rattle.lists.proofs.Members.{in_one, is_first}
use Rattle.lists.specs.Additions.{Adds}
use Rattle.schema_tree.specs.declared.schema.ShapeId.{ShapeId}
use Rattle.schema_tree.specs.contracts.schema.ShapeIdPartialEq.TheImpl.{ghosts}

abbrev pub same_shape : ShapeId → ShapeId → Bool
same_shape = ghosts.eq

pub shape_decides : (a b : ShapeId) → Decides (same_shape a b) (a ≡ b)
shape_decides a b = ((λ h. (let e = eqb-true a.0 b.0 h in λ i. record { 0 = e i })), λ e. eq-eqb a.0 b.0 (ap (λ t. t.0) e))

-- what a list has once an item was added
pub added_has : {X : Type 0} (old new : List X) (x : X) → Adds old x new → (q : X) → Contains new q ↔ (Contains old q ⊎ (q ≡ x))
added_has old new x (inl (held, same)) q = (
  (λ c. inl (subst (λ xs. Contains xs q) same c)),
  (λ h. subst (λ xs. Contains xs q) (sym same) (elim h [ inl c ↦ c | inr e ↦ subst (λ z. Contains old z) (sym e) held ])),
)
added_has old new x (inr (fresh, more)) q = (
  (λ c. elim (Contains-append_cases old (x ∷ []) q (subst (λ xs. Contains xs q) more c)) [ inl l ↦ inl l | inr r ↦ inr (sym (in_one x q r)) ]),
  (λ h. subst (λ xs. Contains xs q) (sym more) (elim h [
    | inl c ↦ Contains-append_left old (x ∷ []) q c
    | inr e ↦ Contains-append_right old (x ∷ []) q (subst (λ z. Contains (x ∷ []) z) (sym e) (is_first x []))
  ])),
)
