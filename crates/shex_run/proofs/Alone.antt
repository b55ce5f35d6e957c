-- A node that no triple has at an end needs no other node, and nothing of it is wide.
use Rattle.std.proofs.Common.{◌≡◌, ◌≤◌, ◌∙◌, ap, sym, subst, refl, ℕ, Bool, true, false, true≢false, List, [], arith, filter}
use Rattle.std.specs.Prelude.{Contains, Option, Some, None, ◌||◌, ◌&&◌}
use Rattle.lists.proofs.Filters.{filter_none}
use Rattle.rdf_terms.specs.Graphs.{neigh, same_id}
use Rattle.rdf_terms.specs.declared.terms.Term.{Term}
use Rattle.rdf_terms.specs.declared.terms.TermId.{TermId}
use Rattle.rdf_terms.specs.declared.terms.Triple.{Triple}
use Rattle.schema_tree.specs.declared.schema.ExprId.{ExprId}
use Rattle.schema_tree.specs.declared.schema.Pair.{Pair}
use Rattle.schema_tree.specs.declared.schema.Schema.{Schema}
use Rattle.schema_tree.specs.declared.schema.Shape.{Shape}
use Rattle.schema_tree.specs.Entries.{shape_at}
use Rattle.schema_tree.specs.Laws.{DecidedByFormIsDecided}
use Rattle.schema_tree.specs.Matches.{near_end}
use Rattle.schema_tree.specs.Needs.{IsDecided, Leads, Needs, here, step}
use Rattle.schema_tree.specs.Relevant.{is_relevant}
use Rattle.schema_tree.specs.Width.{coarse, coarse_of, coarse_over}

-- no triple has the node at an end
abbrev pub IsNoEnd : List Triple → TermId → Type 0
IsNoEnd g n = (t : Triple) → Contains g t → (same_id t.s n ≡ false) × (same_id t.o n ≡ false)

either_none : (a b : Bool) → a ≡ false → b ≡ false → (a || b) ≡ false
either_none false b h k = k
either_none true b h k = h

second : (a b : Bool) → (a && b) ≡ true → b ≡ true
second true b h = h
second false b h = absurd (true≢false (sym h))

module _ (s : Schema) (g : List Triple) (n : TermId) (none : IsNoEnd g n) where
  no_neighbours : neigh g n ≡ []
  no_neighbours = filter_none (λ (t : Triple). same_id t.s n || same_id t.o n) g (λ t c. either_none (same_id t.s n) (same_id t.o n) (none t c).0 (none t c).1)

  coarse_one : (sh : Option Shape) → coarse_of sh g n ≡ 1
  coarse_one None = refl
  coarse_one (Some sh) = ap (λ ts. coarse_over sh n (filter (is_relevant sh.occs n) ts)) no_neighbours

  not_near : (inverse : Bool) (t : Triple) → Contains g t → same_id (near_end inverse t) n ≡ true → ⊥
  not_near false t c h = true≢false (sym h ∙ (none t c).0)
  not_near true t c h = true≢false (sym h ∙ (none t c).1)

  needs_none : (p q : Pair) → p.node ≡ n → Needs s g p q → ⊥
  needs_none p q at needs =
      not_near needs.occ.inverse needs.triple needs.held
      (subst (λ (m : TermId). same_id (near_end needs.occ.inverse needs.triple) m ≡
      true) at (second (same_id needs.occ.predicate needs.triple.p) (same_id (near_end needs.occ.inverse needs.triple) p.node) needs.fit))

  leads_itself : (p q : Pair) → p.node ≡ n → Leads s g p q → q.node ≡ n
  leads_itself p q at here = at
  leads_itself p q at (step r needs more) = absurd (needs_none p r at needs)

  pub decided_alone : (terms : List Term) (budget : ℕ) → 1 ≤ budget → DecidedByFormIsDecided → (e : ExprId) → IsDecided s terms g budget n e
  decided_alone terms budget some law e = law s terms g budget n e (λ q (i, sign, stands, leads). (
      let at : q.node ≡ n = leads_itself (record { node = n; shape = i }) q refl leads in
      let one : coarse s g q ≡ 1 = ap (λ m. coarse_of (shape_at s q.shape) g m) at ∙ coarse_one (shape_at s q.shape) in
      omega (arith, one, some)
      ))
