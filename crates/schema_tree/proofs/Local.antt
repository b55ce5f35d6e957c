-- A Shape's meaning depends only on pairs to which an edge leads and whose node is an end of the graph, and grows with those that no negative edge leads to.
use Rattle.std.proofs.Common.{◌≡◌, ℕ, suc, inl, inr, List, [], ◌∷◌, refl, sym, subst, Bool, true, false}
use Rattle.std.specs.Prelude.{Contains, Option, Some, None, slice_get}
use Rattle.std.proofs.lemmas.List.Sorted.{Contains-permutation, IsPermutation-sym}
use Rattle.rdf_terms.specs.declared.terms.TermId.{TermId}
use Rattle.rdf_terms.specs.declared.terms.Term.{Term}
use Rattle.rdf_terms.specs.declared.terms.Triple.{Triple}
use Rattle.rdf_terms.specs.Graphs.{neigh}
use Rattle.tally.specs.Plan.{Plan, sym as symbol, each, one, many, Plans, no_plans, more_plans}
use Rattle.schema_tree.specs.declared.schema.Schema.{Schema}
use Rattle.schema_tree.specs.declared.schema.Shape.{Shape}
use Rattle.schema_tree.specs.declared.schema.Occurrence.{Occurrence}
use Rattle.schema_tree.specs.declared.schema.ShapeId.{ShapeId}
use Rattle.schema_tree.specs.declared.schema.ExprId.{ExprId}
use Rattle.schema_tree.specs.declared.schema.Pair.{Pair}
use Rattle.schema_tree.specs.Entries.{pair_of, shape_at}
use Rattle.schema_tree.specs.Satisfies.{Sat}
use Rattle.schema_tree.specs.Matches.{Deals, Matches, MatchesEach, MatchesOne, Takes, SatValue, other_end}
use Rattle.schema_tree.specs.Shapes.{ShapeOk, ShapeHolds, MatchesBody}
use Rattle.schema_tree.specs.Edges.{StandsIn, StandsInValue, Edge, IsNegative}
use Rattle.lists.proofs.Members.{is_first, is_later, got_in, in_flat_map}
use Rattle.schema_tree.proofs.Monotone.{sat_mono}
use Rattle.lists.proofs.Quantifiers.{all_weaker}
use Rattle.lists.proofs.Filters.{in_filter}
use Rattle.rdf_terms.proofs.SameTerms.{same_is}
use Rattle.std.proofs.lemmas.Bool.{and_parts}

-- what a part holds is among what was dealt
pub deal_in :
    (ts : List Triple) (parts : List (List Triple)) → Deals ts parts → (part : List Triple) → Contains parts part → (t : Triple) →
    Contains part t → Contains ts t
deal_in ts parts deals part c t h = Contains-permutation _ _ t (IsPermutation-sym _ _ deals) (in_flat_map (λ part. part) parts part t c h)

module _ (sat sat' : TermId → ExprId → Type 0) (occs : List Occurrence) (n : TermId) (base : Triple → Type 0)
    (step : (i : ℕ) (t : Triple) → base t → Takes sat n (slice_get occs i) t → Takes sat' n (slice_get occs i) t) where
  mutual
    unfolding Matches

    pub matches_among :
        (c : Plan) (ts : List Triple) → ((t : Triple) → Contains ts t → base t) → Matches sat occs n c ts → Matches sat' occs n c ts
    matches_among (symbol i) ts inside (t, is, h) = (t, is, step i t (inside t (subst (λ us. Contains us t) (sym is) (is_first t []))) h)
    matches_among (each members) ts inside (parts, deals, h) = (parts, deals, each_among members parts (λ part c t d. inside t (deal_in ts parts deals part c t d)) h)
    matches_among (one members) ts inside h = one_among members ts inside h
    matches_among (many min bound c) ts inside (parts, low, high, deals, h) =
        (parts, low, high, deals, all_weaker (Matches sat occs n c) (Matches sat' occs n c) parts (λ part d m. matches_among c part (λ t u. inside t (deal_in ts parts deals part d t u)) m) h)

    each_among :
        (members : Plans) (parts : List (List Triple)) →
        ((part : List Triple) → Contains parts part → (t : Triple) → Contains part t → base t) →
        MatchesEach sat occs n members parts → MatchesEach sat' occs n members parts
    each_among no_plans [] inside h = h
    each_among no_plans (part ∷ parts) inside h = h
    each_among (more_plans c rest) [] inside h = h
    each_among (more_plans c rest) (part ∷ parts) inside (h, more) =
        (matches_among c part (inside part (is_first part parts)) h, each_among rest parts (λ u d. inside u (is_later part parts u d)) more)

    one_among :
        (members : Plans) (ts : List Triple) → ((t : Triple) → Contains ts t → base t) → MatchesOne sat occs n members ts →
        MatchesOne sat' occs n members ts
    one_among no_plans ts inside h = h
    one_among (more_plans c rest) ts inside (inl h) = inl (matches_among c ts inside h)
    one_among (more_plans c rest) ts inside (inr h) = inr (one_among rest ts inside h)

module _ (s : Schema) (terms : List Term) (g : List Triple) (Near : TermId → Type 0) (ends : (t : Triple) → Contains g t → Near t.s × Near t.o)
    (T W : List Pair) (i : ShapeId)
    (up : (j : ShapeId) → Edge s i j → (m : TermId) → Near m → Contains T (pair_of m j) → Contains W (pair_of m j))
    (down : (j : ShapeId) (e : Edge s i j) → IsNegative e → (m : TermId) → Near m → Contains W (pair_of m j) → Contains T (pair_of m j)) where
  value_up :
      (sh : Shape) → shape_at s i ≡ Some sh → (o : Occurrence) → Contains sh.occs o →
      (m : TermId) → Near m → (v : Option ExprId) → o.value ≡ v → SatValue (Sat s terms T m) v → SatValue (Sat s terms W m) v
  value_up sh is o of m near None e h = h
  value_up sh is o of m near (Some d) e h =
      sat_mono s terms m (suc d.0) T W d (λ j sign st c. up j (edge j sign st) m near c) (λ j st c. down j (edge j true st) (inl refl) m near c) h
    where
      edge : (j : ShapeId) (sign : Bool) → StandsIn s j d sign → Edge s i j
      edge j sign st = record { shape = sh; is = is; occ = o; of = of; sign = sign; stands = subst (λ w. StandsInValue s j w sign) (sym e) st }

  value_down :
      (sh : Shape) → shape_at s i ≡ Some sh → (o : Occurrence) → Contains sh.occs o → o.inverse ≡ false → Contains sh.extra o.predicate →
      (m : TermId) → Near m → (v : Option ExprId) → o.value ≡ v → SatValue (Sat s terms W m) v → SatValue (Sat s terms T m) v
  value_down sh is o of forward extra m near None e h = h
  value_down sh is o of forward extra m near (Some d) e h =
      sat_mono s terms m (suc d.0) W T d (λ j sign st c. down j (edge j sign st) (inr (forward, extra)) m near c) (λ j st c. up j (edge j true st) m near c) h
    where
      edge : (j : ShapeId) (sign : Bool) → StandsIn s j d sign → Edge s i j
      edge j sign st = record { shape = sh; is = is; occ = o; of = of; sign = sign; stands = subst (λ w. StandsInValue s j w sign) (sym e) st }

  near_end : (b : Bool) (t : Triple) → Contains g t → Near (other_end b t)
  near_end true t c = (ends t c).0
  near_end false t c = (ends t c).1

  -- what a node has under T it has under W
  pub shape_moves : (n : TermId) → ShapeOk s terms g T n i → ShapeOk s terms g W n i
  shape_moves n h = go (shape_at s i) refl h
    where
      held :
          (matched rest : List Triple) → Deals (neigh g n) (matched ∷ rest ∷ []) → (part : List Triple) →
          Contains (matched ∷ rest ∷ []) part → (t : Triple) → Contains part t → Contains g t
      held matched rest deals part c t d = (in_filter _ g t (deal_in (neigh g n) (matched ∷ rest ∷ []) deals part c t d)).0

      take_up :
          (sh : Shape) → shape_at s i ≡ Some sh → (x : Option Occurrence) (t : Triple) →
          ((o : Occurrence) → x ≡ Some o → Contains sh.occs o) → Contains g t →
          Takes (Sat s terms T) n x t → Takes (Sat s terms W) n x t
      take_up sh is None t of c h = h
      take_up sh is (Some o) t of c h = (h.0, value_up sh is o (of o refl) (other_end o.inverse t) (near_end o.inverse t c) o.value refl h.1)

      body_up :
          (sh : Shape) → shape_at s i ≡ Some sh → (b : Option Plan) (ts : List Triple) → ((t : Triple) → Contains ts t → Contains g t) →
          MatchesBody (Sat s terms T) sh.occs n b ts → MatchesBody (Sat s terms W) sh.occs n b ts
      body_up sh is None ts inside h = h
      body_up sh is (Some c) ts inside h =
          matches_among (Sat s terms T) (Sat s terms W) sh.occs n (λ t. Contains g t)
          (λ j t c h. take_up sh is (slice_get sh.occs j) t (λ o e. got_in sh.occs j o e) c h) c ts inside h

      go : (x : Option Shape) → shape_at s i ≡ x → ShapeHolds (Sat s terms T) g n x → ShapeHolds (Sat s terms W) g n x
      go None is h = h
      go (Some sh) is (matched, rest, deals, body, ok) = (
        matched,
        rest,
        deals,
        body_up sh is sh.body matched (held matched rest deals matched (is_first matched (rest ∷ []))) body,
        record {
          unmatched = λ t o c can of forward takes.
              let same : o.predicate ≡ t.p = same_is _ _ (and_parts _ _ takes.0).0 in
              let in_extra : Contains sh.extra o.predicate = subst (λ p. Contains sh.extra p) (sym same) (ok.in_extra t c can) in
              let in_graph : Contains g t = held matched rest deals rest (is_later matched (rest ∷ []) rest (is_first rest [])) t c in
              ok.unmatched t o c can of forward (takes.0, value_down sh is o of forward in_extra (other_end o.inverse t) (near_end o.inverse t in_graph) o.value refl takes.1);
          in_extra = ok.in_extra;
          in_closed = ok.in_closed;
        },
      )
