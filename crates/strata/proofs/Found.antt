-- The arcs of all Shapes are the edges of the schema.
use Rattle.std.proofs.Common.{◌≡◌, ℕ, ◌+◌, ◌<◌, ◌⊎◌, inl, inr, List, [], refl, arith, sym, subst, ap, length, Bool, true, false, ◌∙◌, get_or}
use Rattle.std.specs.Prelude.{◌||◌, ◌&&◌, not, Some}
use Rattle.std.specs.List.{list_any}
use Rattle.std.proofs.lemmas.Bool.{cases_lt, eq-eqb}
use Rattle.std.proofs.lemmas.Option.{slice_get_within, slice_get-get_or}
use Rattle.std.proofs.lemmas.Map.Views.{Contains-from_any}
use Rattle.rdf_terms.specs.declared.terms.TermId.{TermId}
use Rattle.rdf_terms.specs.Graphs.{same_id}
use Rattle.schema_tree.specs.declared.schema.Schema.{Schema}
use Rattle.schema_tree.specs.declared.schema.Shape.{Shape}
use Rattle.schema_tree.specs.declared.schema.ShapeId.{ShapeId}
use Rattle.schema_tree.specs.declared.schema.Occurrence.{Occurrence}
use Rattle.schema_tree.specs.Entries.{shape_at}
use Rattle.schema_tree.specs.Edges.{Edge, IsNegative, IsExtra}
use Rattle.lists.proofs.Members.{not_in_none, any_true}
use Rattle.rdf_terms.proofs.SameTerms.{same_is}
use Rattle.strata.specs.declared.edges.Arc.{Arc}
use Rattle.strata.specs.Arcs.{IsArc, AreArcs}
use Rattle.strata.specs.Gathers.{Grows, FromShape, FromFirst, is_extra}
use Rattle.strata.proofs.Grown.{grow_join, grow_same}

both_of : (a b : Bool) → a && b ≡ true → (a ≡ true) × (b ≡ true)
both_of true b e = (refl, e)
both_of false b e = absurd (let bad : ⊥ = cc in bad)

not_of : (a : Bool) → not a ≡ true → a ≡ false
not_of true e = absurd (let bad : ⊥ = cc in bad)
not_of false e = refl

either_of : (a b : Bool) → a || b ≡ true → (a ≡ true) ⊎ (b ≡ true)
either_of true b e = inl refl
either_of false b e = inr e

from_extra : (extra : List TermId) (o : Occurrence) → is_extra extra o ≡ true → IsExtra extra o
from_extra extra o e =
    let t = both_of (not o.inverse) (list_any (same_id o.predicate) extra) e in
    (not_of o.inverse t.0, Contains-from_any {eq = same_id} same_is o.predicate extra t.1)

to_extra : (extra : List TermId) (o : Occurrence) → IsExtra extra o → is_extra extra o ≡ true
to_extra extra o (forward, held) =
    let any : list_any (same_id o.predicate) extra ≡ true = any_true (same_id o.predicate) extra o.predicate held (eq-eqb o.predicate.0 o.predicate.0 refl) in
    rw (forward, any) refl

or_first : (a b : Bool) → a ≡ true → a || b ≡ true
or_first true b e = refl
or_first false b e = absurd (let bad : ⊥ = cc in bad)

or_second : (a b : Bool) → b ≡ true → a || b ≡ true
or_second true b e = refl
or_second false b e = e

module _ (s : Schema) where
  -- one more Shape
  pub grow_shape : (k : ℕ) (i : ShapeId) (sh : Shape) → i.0 ≡ k → shape_at s i ≡ Some sh → (xs ys : List Arc) → Grows (FromFirst s k) [] xs →
      Grows (FromShape s i sh.extra sh.occs) xs ys → Grows (FromFirst s (k + 1)) [] ys
  grow_shape k i sh at is xs ys g h = grow_same _ _ to back [] ys (grow_join (FromFirst s k) (FromShape s i sh.extra sh.occs) [] xs ys g h)
    where
      to : (a : Arc) → FromFirst s k a ⊎ FromShape s i sh.extra sh.occs a → FromFirst s (k + 1) a
      to a (inl (j, lt, p)) = (j, omega arith, p)
      to a (inr p) = (i, omega arith, (sh, is, p))

      back : (a : Arc) → FromFirst s (k + 1) a → FromFirst s k a ⊎ FromShape s i sh.extra sh.occs a
      back a (j, lt, (sk, got, p)) = elim (cases_lt j.0 k) [
        | inl less ↦ inl (j, less, (sk, got, p))
        | inr ge ↦ (let n : j.0 ≡ i.0 = omega arith in
            let same : j ≡ i = ap (λ m. let u : ShapeId = record { 0 = m } in u) n in
            let one : Some sk ≡ Some sh = sym got ∙ (subst (λ u. shape_at s u ≡ Some sh) (sym same) is) in
            let shape : sk ≡ sh = cc in
            inr (subst (λ u. FromShape s i u.extra u.occs a) shape (subst (λ u. FromShape s u sk.extra sk.occs a) same p)))
      ]

  pub are_arcs : (arcs : List Arc) → Grows (FromFirst s (length s.shapes)) [] arcs → AreArcs s arcs
  are_arcs arcs g = record {
    sound = λ a c. elim (g.only a c) [
      | inl bad ↦ absurd (not_in_none a bad)
      | inr from ↦ sound a from
    ];
    complete = λ i j e. (
      record { from = i; to = j; negative = is_extra e.shape.extra e.occ || e.sign },
      g.added _ (i, slice_get_within s.shapes i.0 e.shape e.is, (e.shape, e.is, (e.occ, e.of, refl, (e.sign, e.stands, refl)))),
      refl,
      refl,
      λ n. elim n [
        | inl sign ↦ or_second (is_extra e.shape.extra e.occ) e.sign sign
        | inr extra ↦ or_first (is_extra e.shape.extra e.occ) e.sign (to_extra e.shape.extra e.occ extra)
      ],
    );
  }
    where
      sound : (a : Arc) → FromFirst s (length s.shapes) a → IsArc s a
      sound a (i, lt, (sh, is, (o, of, from, (sign, stands, negative)))) = (edge, λ e. negative_of (sym negative ∙ e))
        where
          edge : Edge s a.from a.to
          edge = record { shape = sh; is = subst (λ u. shape_at s u ≡ Some sh) (sym from) is; occ = o; of = of; sign = sign; stands = stands }

          negative_of : is_extra sh.extra o || sign ≡ true → IsNegative edge
          negative_of e = elim (either_of (is_extra sh.extra o) sign e) [
            | inl extra ↦ inr (from_extra sh.extra o extra)
            | inr behind ↦ inl behind
          ]

  -- a Shape that is read by its place
  pub shape_in : (i : ShapeId) (shapes : List Shape) (x : Shape) → shapes ≡ s.shapes → x ≡ get_or shapes i.0 x → i.0 < length s.shapes → shape_at s i ≡ Some x
  shape_in i shapes x same at lt = slice_get-get_or s.shapes i.0 x lt ∙ ap (λ (z : Shape). Some z) (ap (λ (zs : List Shape). get_or zs i.0 x) (sym same) ∙ sym at)
