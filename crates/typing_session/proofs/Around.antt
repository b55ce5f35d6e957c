-- What an edit leaves as it is at a node that is no end of the triple: its triples, what can match there, and the Width.
use Rattle.std.proofs.Common.{◌≡◌, ℕ, inl, inr, List, ◌∷◌, refl, sym, subst, ◌∙◌, Bool, true, false, true≢false}
use Rattle.std.proofs.lemmas.List.Sorted.{Contains-permutation, IsPermutation-sym}
use Rattle.std.specs.Prelude.{◌↔◌, ◌||◌, Contains, Option}
use Rattle.lists.specs.Distinct.{AreDistinct}
use Rattle.lists.proofs.Members.{in_rest, is_later}
use Rattle.part_laws.proofs.Near.{HaveSameAt, match_same, needs_there, read_near, same_turned, width_same}
use Rattle.rdf_terms.specs.declared.terms.Term.{Term}
use Rattle.rdf_terms.specs.declared.terms.Triple.{Triple}
use Rattle.rdf_terms.specs.Graphs.{same_id}
use Rattle.rdf_terms.proofs.SameTerms.{same_is}
use Rattle.schema_tree.specs.declared.schema.Pair.{Pair}
use Rattle.schema_tree.specs.declared.schema.Schema.{Schema}
use Rattle.schema_tree.specs.declared.schema.Shape.{Shape}
use Rattle.schema_tree.specs.declared.verdicts.Lean.{Lean}
use Rattle.schema_tree.specs.Entries.{shape_at}
use Rattle.schema_tree.specs.Needs.{Needs}
use Rattle.schema_tree.specs.Places.{PairCanMatch}
use Rattle.schema_tree.specs.Sure.{Known}
use Rattle.schema_tree.specs.Width.{IsWithinWidth}
use Rattle.typing_session.specs.Edits.{IsAtEnd}
use Rattle.typing_session.specs.Laws.{IsEdit}

module _ (more fewer : List Triple) (t : Triple) (edit : IsEdit more t fewer) (p : Pair) (far : ¬ IsAtEnd t p) where
  away : (a b : Bool) → same_id t.s p.node ≡ a → same_id t.o p.node ≡ b → ¬ ((a || b) ≡ true)
  away true b x y z = far (inl (sym (same_is t.s p.node x)))
  away false true x y z = far (inr (sym (same_is t.o p.node y)))
  away false false x y z = true≢false (sym z)

  -- the triples of the node are in both
  held_same : (u : Triple) → (same_id u.s p.node || same_id u.o p.node) ≡ true → Contains more u ↔ Contains fewer u
  held_same u near = (
    (λ c. elim (in_rest t fewer u (Contains-permutation more (t ∷ fewer) u edit c)) [
      | inl e ↦ absurd (away (same_id t.s p.node) (same_id t.o p.node) refl refl (subst (λ (v : Triple). (same_id v.s p.node || same_id v.o p.node) ≡ true) (sym e) near))
      | inr later ↦ later
    ]),
    (λ c. Contains-permutation (t ∷ fewer) more u (IsPermutation-sym more (t ∷ fewer) edit) (is_later t fewer u c)),
  )

  same_at : (x : Option Shape) → HaveSameAt more fewer p.node x
  same_at x sh is u read = held_same u (read_near sh p.node u read)

  back_at : (x : Option Shape) → HaveSameAt fewer more p.node x
  back_at x = same_turned more fewer p.node x (same_at x)

  pub can_match_same : (s : Schema) (terms : List Term) → AreDistinct more → AreDistinct fewer → (view : Known) (lean : Lean) →
      PairCanMatch s terms more view lean p ↔ PairCanMatch s terms fewer view lean p
  can_match_same s terms d e view lean = (
    match_same more fewer p.node d e s terms view lean (shape_at s p.shape) (same_at (shape_at s p.shape)),
    match_same fewer more p.node e d s terms view lean (shape_at s p.shape) (back_at (shape_at s p.shape)),
  )

  pub within_same : (s : Schema) (terms : List Term) → AreDistinct more → AreDistinct fewer → (bound : ℕ) → IsWithinWidth s terms more bound p ↔ IsWithinWidth s terms fewer bound p
  within_same s terms d e bound = (
    (λ (w, has, le). (w, record { plain = has.plain; tells = has.tells; is = has.is ∙ width_same more fewer p.node d e has.plain (shape_at s p.shape) (same_at (shape_at s p.shape)) }, le)),
    (λ (w, has, le). (w, record { plain = has.plain; tells = has.tells; is = has.is ∙ width_same fewer more p.node e d has.plain (shape_at s p.shape) (back_at (shape_at s p.shape)) }, le)),
  )

  -- so it needs the same pairs
  pub needs_same : (s : Schema) (q : Pair) → Needs s more p q ↔ Needs s fewer p q
  needs_same s q = (needs_there more fewer s p q (same_at (shape_at s p.shape)), needs_there fewer more s p q (back_at (shape_at s p.shape)))
