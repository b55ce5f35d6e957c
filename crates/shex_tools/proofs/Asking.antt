-- What a map asks is declared, and of the table.
use Rattle.std.proofs.Common.{◌≡◌, ◌≤◌, ◌<◌, ◌⊎◌, sym, subst, refl, ℕ, List, [], ◌++◌, inl, inr, length, map}
use Rattle.std.specs.Prelude.{All, Contains}
use Rattle.std.proofs.lemmas.List.Elements.{All-contains, All-contains_itself, All-weaker, Contains-append_cases}
use Rattle.std.proofs.lemmas.Option.{slice_get_within}
use Rattle.command_words.specs.Requests.{max_budget}
use Rattle.demand.specs.Demand.{AreAsked}
use Rattle.graph_index.specs.Contents.{IsSealedWith}
use Rattle.graph_index.specs.Laws.{IsOfTable}
use Rattle.lists.proofs.Members.{from_map, in_map, in_one, not_in_none}
use Rattle.rdf_terms.specs.declared.terms.Term.{Term}
use Rattle.rdf_terms.specs.declared.terms.TermId.{TermId}
use Rattle.rdf_terms.specs.declared.terms.Triple.{Triple}
use Rattle.schema_tree.specs.Edges.{IsStratum}
use Rattle.schema_tree.specs.Entries.{pair_of}
use Rattle.schema_tree.specs.Loaded.{IsEntry, IsEntryIfAny, IsLoaded, IsTarget}
use Rattle.schema_tree.specs.Needs.{HoldNeeds, HoldRoots, here}
use Rattle.schema_tree.specs.declared.schema.ExprId.{ExprId}
use Rattle.schema_tree.specs.declared.schema.Pair.{Pair}
use Rattle.schema_tree.specs.declared.schema.Schema.{Schema}
use Rattle.schema_tree.specs.declared.schema.Target.{Target}
use Rattle.schema_tree.specs.declared.schema.Target.TheVariants as Targets
use Rattle.shape_map.specs.Answers.{IsAsked}
use Rattle.shape_map.specs.Selection.{AreNodes, Ends, Outcome, Selects, all, association, at_focus, more, refused, selected, stops}
use Rattle.shape_map.specs.declared.error.MapError.{MapError}
use Rattle.shape_map.specs.declared.items.Focus.{Focus}
use Rattle.shape_map.specs.declared.items.Focus.TheVariants.{Object, Subject}
use Rattle.shape_map.specs.declared.items.Item.{Item}
use Rattle.shape_map.specs.declared.items.Selector.{Selector}
use Rattle.shape_map.specs.declared.items.Selector.TheVariants.{Node, Triples}
use Rattle.shape_map.specs.declared.resolve.Association.{Association}
use Rattle.shex_inputs.specs.Asked.{IsAskedOf, Question, root_of}
use Rattle.shex_inputs.specs.Named.{Inputs}
use Rattle.shex_inputs.specs.declared.holding.Holding.{Holding}
use Rattle.shex_io.specs.Files.{Told}
use Rattle.shex_tools.specs.Reasons.{IsReady}

-- what is so of each member is so of all
all_members : {X : Type 0} (P : X → Type 0) (xs : List X) → ((x : X) → Contains xs x → P x) → All P xs
all_members P xs to = All-weaker (Contains xs) P to xs (All-contains_itself xs)

outcomes_differ : (e : MapError) (xs : List Association) (new : List Term) → refused e ≡ selected xs new → ⊥
outcomes_differ e xs new h = cc

same_associations : (xs ys : List Association) (a b : List Term) → selected xs a ≡ selected ys b → xs ≡ ys
same_associations xs ys a b h = cc

-- ---- the associations that a map selects

module _ (s : Schema) (g : List Triple) (terms : List Term) (table : All (IsOfTable terms) g) where
  of_focus : (f : Focus) (t : Triple) → Contains g t → (at_focus f t).0 < length terms
  of_focus Subject t held = (All-contains (IsOfTable terms) g t table held).subject
  of_focus Object t held = (All-contains (IsOfTable terms) g t table held).object

  node_within : (x : Selector) (nodes : List TermId) → AreNodes terms g x nodes → (n : TermId) → Contains nodes n → n.0 < length terms
  node_within (Node t) nodes (m, is, e) n h = subst (λ (z : TermId). z.0 < length terms) (in_one m n (subst (λ ns. Contains ns n) e h)) (slice_get_within terms m.0 t is)
  node_within (Triples x) nodes (sorted, exactly) n h = let f = (exactly n).0 h in subst (λ (z : TermId). z.0 < length terms) f.focus (of_focus x.focus f.triple f.held)

  own_asked : (i : Item) (xs : List Association) → Selects s g terms i xs → (a : Association) → Contains xs a → IsAsked s terms a
  own_asked i xs h a held =
      let (n, listed, e) = from_map (association i h.expr) h.nodes a (subst (λ z. Contains z a) h.made held) in
      record {
        node = subst (λ (z : Association). z.node.0 < length terms) e (node_within i.selector h.nodes h.found n listed);
        is_target = subst (λ (z : Association). IsTarget s z.target z.expr) e h.declared;
      }

  one_more : (so : List Association) (i : Item) (xs : List Association) → Selects s g terms i xs → ((a : Association) → Contains so a → IsAsked s terms a) →
      (a : Association) → Contains so a ⊎ Contains xs a → IsAsked s terms a
  one_more so i xs selects before a (inl there) = before a there
  one_more so i xs selects before a (inr own) = own_asked i xs selects a own

  asked_by : (so : List Association) (items : List Item) (o : Outcome) (xs : List Association) (new : List Term) → o ≡ selected xs new → Ends s g terms so items o →
      ((a : Association) → Contains so a → IsAsked s terms a) → (a : Association) → Contains xs a → IsAsked s terms a
  asked_by so items o xs new e all before a h = before a (subst (λ z. Contains z a) (sym (same_associations so xs terms new e)) h)
  asked_by so items o xs new e (stops {e = f} r) before a h = absurd (outcomes_differ f xs new e)
  asked_by so items o xs new e (more {i = i} {is = is} ys selects few rest) before a h =
      asked_by (so ++ ys) is o xs new e rest (λ b c. one_more so i ys selects before b (Contains-append_cases so ys b c)) a h

pub all_asked : (told : Told) (i : Inputs) (q : Question) → IsAskedOf told i q → All (IsOfTable q.terms) q.held.graph → All (IsAsked q.held.schema q.terms) q.associations
all_asked told i q is table = all_members (IsAsked q.held.schema q.terms) q.associations
    (asked_by q.held.schema q.held.graph q.terms table [] is.items (selected q.associations q.terms) q.associations q.terms refl is.ends.ends (λ a h. absurd (not_in_none a h)))

-- ---- what is ready

-- a declared target has an entry
entry_of : (s : Schema) (t : Target) (e : ExprId) → IsLoaded s → IsTarget s t e → IsEntry s e
entry_of s Targets.Start e loaded is = subst (IsEntryIfAny s) is loaded.start
entry_of s (Targets.Label l) e loaded is = loaded.labels l e is

module _ (h : Holding) (asked : List Association) (pairs : List Pair) (budget : ℕ) (is : IsReady h asked pairs budget) where
  pub entries : (a : Association) → Contains asked a → IsEntry h.schema a.expr
  entries a c = let of : IsAsked h.schema h.terms a = All-contains (IsAsked h.schema h.terms) asked a is.asked_for c in entry_of h.schema a.target a.expr is.loaded of.is_target

  -- the pairs have those of each association's node with the Shapes of its expression
  pub roots : (a : Association) → Contains asked a → HoldRoots h.schema pairs a.node a.expr
  roots a c i sign stands = (is.reached.exactly (pair_of a.node i)).1 (root_of a, in_map root_of asked a c, (i, sign, stands, here))

-- what a map asks is ready over what is held then
pub ready : (told : Told) (i : Inputs) (q : Question) (h : Holding) (budget : ℕ) → IsAskedOf told i q → q.held.schema ≡ h.schema → q.held.strata ≡ h.strata → q.held.graph ≡ h.graph.triples →
    q.terms ≡ h.terms → budget ≤ max_budget → IsLoaded h.schema → IsStratum h.schema h.strata → IsSealedWith h.terms h.graph → All (IsOfTable h.terms) h.graph.triples →
    HoldNeeds h.schema h.graph.triples q.pairs → IsReady h q.associations q.pairs budget
ready told i q h budget is schema strata graph terms within loaded stratum sealed table needs = record {
  within = within;
  loaded = loaded;
  strata = stratum;
  sealed = sealed;
  of_table = table;
  asked_for =
      let own : All (IsOfTable q.terms) q.held.graph = subst (λ ts. All (IsOfTable ts) q.held.graph) (sym terms) (subst (λ g. All (IsOfTable h.terms) g) (sym graph) table) in
      subst (λ ts. All (IsAsked h.schema ts) q.associations) terms (subst (λ s. All (IsAsked s q.terms) q.associations) schema (all_asked told i q is own));
  reached =
      subst (λ ts. AreAsked h.schema ts h.graph.triples (map root_of q.associations) q.pairs) terms
      (subst (λ g. AreAsked h.schema q.terms g (map root_of q.associations) q.pairs) graph
      (subst (λ s. AreAsked s q.terms q.held.graph (map root_of q.associations) q.pairs) schema is.asked));
  needs = needs;
}
