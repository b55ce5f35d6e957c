-- Numbers are a stratification exactly where no arc is low.
use Rattle.std.proofs.Common.{◌≡◌, ℕ, ◌+◌, ◌<◌, ◌≤◌, inl, inr, List, refl, arith, sym, subst, Bool, true, false, length, get_or, All}
use Rattle.std.proofs.lemmas.Bool.{cases_lt}
use Rattle.std.proofs.lemmas.List.Elements.{All-contains, All-contains_itself}
use Rattle.std.specs.Prelude.{◌↔◌, IsTrue}
use Rattle.schema_tree.specs.declared.schema.Schema.{Schema}
use Rattle.schema_tree.specs.declared.schema.ShapeId.{ShapeId}
use Rattle.schema_tree.specs.Edges.{IsStratified, level}
use Rattle.strata.specs.declared.edges.Arc.{Arc}
use Rattle.strata.specs.Arcs.{cost_of, IsLow, IsArc, AreArcs}

module _ (s : Schema) (f : List ℕ) where
  rises : (i j : ShapeId) (a : Arc) → a.from ≡ i → a.to ≡ j → ¬ IsLow f a → level f j ≤ level f i
  rises i j a from to not_low =
      subst (λ z. level f j ≤ level f z) from (subst (λ z. level f z ≤ level f a.from) to (elim (cases_lt (level f a.from) (level f a.to)) [
        | inl lt ↦ absurd (not_low (omega arith))
        | inr ge ↦ ge
      ]))

  falls : (i j : ShapeId) (a : Arc) → a.from ≡ i → a.to ≡ j → a.negative ≡ true → ¬ IsLow f a → level f j < level f i
  falls i j a from to negative not_low =
      subst (λ z. level f j < level f z) from (subst (λ z. level f z < level f a.from) to (elim (cases_lt (level f a.to) (level f a.from)) [
        | inl lt ↦ lt
        | inr ge ↦ absurd (not_low (subst (λ b. level f a.from < level f a.to + cost_of b) (sym negative) (omega arith)))
      ]))

  pub stratified : (arcs : List Arc) → AreArcs s arcs → length f ≡ length s.shapes → All (λ a. ¬ IsLow f a) arcs → IsStratified s f
  stratified arcs are size none = record {
    one_each = size;
    never_rises = λ i j e. (let (a, held, from, to, negative) = are.complete i j e in let not_low = All-contains (λ a. ¬ IsLow f a) arcs a none held in
        rises i j a from to not_low);
    falls = λ i j e h. (let (a, held, from, to, negative) = are.complete i j e in let not_low = All-contains (λ a. ¬ IsLow f a) arcs a none held in
        falls i j a from to (negative h) not_low);
  }

  not_low : IsStratified s f → (a : Arc) → IsArc s a → ¬ IsLow f a
  not_low strat a (e, negative) low = go a.negative refl
    where
      go : (b : Bool) → a.negative ≡ b → ⊥
      go true sign =
          let less : level f a.from < level f a.to + 1 = subst (λ z. level f a.from < level f a.to + cost_of z) sign low in
          let fall = strat.falls a.from a.to e (negative sign) in
          absurd (omega (arith, less, fall))
      go false sign =
          let less : level f a.from < level f a.to + 0 = subst (λ z. level f a.from < level f a.to + cost_of z) sign low in
          let fall = strat.never_rises a.from a.to e in
          absurd (omega (arith, less, fall))

  none_low : (arcs : List Arc) → AreArcs s arcs → IsStratified s f → All (λ a. ¬ IsLow f a) arcs
  none_low arcs are strat k d lt = not_low strat (get_or arcs k d) (are.sound (get_or arcs k d) (All-contains_itself arcs k d lt))

  -- an answer on the arcs is one on the schema
  pub exactly : (arcs : List Arc) → AreArcs s arcs → length f ≡ length s.shapes → (b : Bool) → IsTrue b ↔ All (λ a. ¬ IsLow f a) arcs → IsTrue b ↔ IsStratified s f
  exactly arcs are size b (to, from) = (λ t. stratified arcs are size (to t), λ strat. from (none_low arcs are strat))
