-- Where the edges of a stratum are positive, more pairs on it take no Shape from a node.
use Rattle.std.proofs.Common.{◌≡◌, ℕ, zero, suc, ◌<◌, ◌≤◌, inl, inr, List, [], ◌∷◌, refl, arith, sym, subst, Bool, true, false}
use Rattle.std.specs.Prelude.{Contains, Option, Some, None, slice_get}
use Rattle.rdf_terms.specs.declared.terms.TermId.{TermId}
use Rattle.rdf_terms.specs.declared.terms.Term.{Term}
use Rattle.rdf_terms.specs.declared.terms.Triple.{Triple}
use Rattle.tally.specs.Plan.{Plan, sym as symbol, each, one, many, Plans, no_plans, more_plans}
use Rattle.schema_tree.specs.declared.schema.Schema.{Schema}
use Rattle.schema_tree.specs.declared.schema.Shape.{Shape}
use Rattle.schema_tree.specs.declared.schema.Occurrence.{Occurrence}
use Rattle.schema_tree.specs.declared.schema.ShapeId.{ShapeId}
use Rattle.schema_tree.specs.declared.schema.ExprId.{ExprId}
use Rattle.schema_tree.specs.declared.schema.Expr.{Expr}
use Rattle.schema_tree.specs.declared.schema.Expr.TheVariants as Exprs
use Rattle.schema_tree.specs.declared.schema.Pair.{Pair}
use Rattle.schema_tree.specs.Entries.{entry, shape_at}
use Rattle.schema_tree.specs.Satisfies.{Sat, SatWithin, SatEntry}
use Rattle.schema_tree.specs.Matches.{Matches, MatchesEach, MatchesOne, Takes, SatValue, other_end}
use Rattle.schema_tree.specs.Shapes.{ShapeOk, ShapeHolds, MatchesBody}
use Rattle.schema_tree.specs.Edges.{StandsIn, itself, in_and, in_or, in_not, StandsInValue, Edge, IsStratified, level}
use Rattle.lists.proofs.Quantifiers.{all_weaker, some_weaker}
use Rattle.lists.proofs.Members.{got_in}
use Rattle.rdf_terms.proofs.SameTerms.{same_is}
use Rattle.std.proofs.lemmas.Bool.{and_parts}

module _ (s : Schema) (terms : List Term) (n : TermId) where
  -- W has each pair of T with a Shape that stands in e
  abbrev pub Up : List Pair → List Pair → ExprId → Type 0
  Up T W e = (i : ShapeId) (sign : Bool) → StandsIn s i e sign → Contains T (record { node = n; shape = i }) → Contains W (record { node = n; shape = i })

  -- and none more behind a Not
  abbrev pub Down : List Pair → List Pair → ExprId → Type 0
  Down T W e = (i : ShapeId) → StandsIn s i e true → Contains W (record { node = n; shape = i }) → Contains T (record { node = n; shape = i })

  entry_mono :
      (T W : List Pair) (e : ExprId) (member member' : ExprId → Type 0) →
      ((d : ExprId) → Up T W d → Down T W d → member d → member' d) →
      ((d : ExprId) → Up W T d → Down W T d → member' d → member d) →
      Up T W e → Down T W e → (x : Option Expr) → entry s e ≡ x →
      SatEntry T terms n member x → SatEntry W terms n member' x
  entry_mono T W e member member' go back up down None is h = h
  entry_mono T W e member member' go back up down (Some (Exprs.And es)) is h =
      all_weaker member member' es (λ d c. go d (λ i sign st. up i sign (in_and es d is c st)) (λ i st. down i (in_and es d is c st))) h
  entry_mono T W e member member' go back up down (Some (Exprs.Or es)) is h =
      some_weaker member member' es (λ d c. go d (λ i sign st. up i sign (in_or es d is c st)) (λ i st. down i (in_or es d is c st))) h
  entry_mono T W e member member' go back up down (Some (Exprs.Not d)) is h =
      λ m. h (back d (λ i sign st. down i (in_not d is st)) (λ i st. up i true (in_not d is st)) m)
  entry_mono T W e member member' go back up down (Some (Exprs.Node c)) is h = h
  entry_mono T W e member member' go back up down (Some (Exprs.Shape i)) is h = up i false (itself is) h

  -- satisfaction grows with the pairs that do not stand behind a Not
  pub sat_mono : (k : ℕ) (T W : List Pair) (e : ExprId) → Up T W e → Down T W e → SatWithin k s terms T n e → SatWithin k s terms W n e
  unfolding SatWithin
  sat_mono zero T W e up down h = h
  sat_mono (suc k) T W e up down h =
      entry_mono T W e (SatWithin k s terms T n) (SatWithin k s terms W n)
      (λ d u w. sat_mono k T W d u w) (λ d u w. sat_mono k W T d u w) up down (entry s e) refl h

module _ (sat sat' : TermId → ExprId → Type 0) (occs : List Occurrence) (n : TermId)
    (step : (i : ℕ) (t : Triple) → Takes sat n (slice_get occs i) t → Takes sat' n (slice_get occs i) t) where
  mutual
    unfolding Matches

    pub matches_mono : (c : Plan) (ts : List Triple) → Matches sat occs n c ts → Matches sat' occs n c ts
    matches_mono (symbol i) ts (t, is, h) = (t, is, step i t h)
    matches_mono (each members) ts (parts, deals, h) = (parts, deals, each_mono members parts h)
    matches_mono (one members) ts h = one_mono members ts h
    matches_mono (many min bound c) ts (parts, low, high, deals, h) =
        (parts, low, high, deals, all_weaker (Matches sat occs n c) (Matches sat' occs n c) parts (λ part m. matches_mono c part) h)

    each_mono :
        (members : Plans) (parts : List (List Triple)) → MatchesEach sat occs n members parts → MatchesEach sat' occs n members parts
    each_mono no_plans [] h = h
    each_mono no_plans (part ∷ parts) h = h
    each_mono (more_plans c rest) [] h = h
    each_mono (more_plans c rest) (part ∷ parts) (h, more) = (matches_mono c part h, each_mono rest parts more)

    one_mono : (members : Plans) (ts : List Triple) → MatchesOne sat occs n members ts → MatchesOne sat' occs n members ts
    one_mono no_plans ts h = h
    one_mono (more_plans c rest) ts (inl h) = inl (matches_mono c ts h)
    one_mono (more_plans c rest) ts (inr h) = inr (one_mono rest ts h)

module _ (s : Schema) (terms : List Term) (g : List Triple) (f : List ℕ) (strat : IsStratified s f) (k : ℕ) (T W : List Pair)
    (up : (p : Pair) → level f p.shape ≤ k → Contains T p → Contains W p)
    (down : (p : Pair) → level f p.shape < k → Contains W p → Contains T p) where
  -- the value of an occurrence stays satisfied
  value_up :
      (i : ShapeId) (sh : Shape) → shape_at s i ≡ Some sh → level f i ≡ k → (o : Occurrence) → Contains sh.occs o →
      (m : TermId) (v : Option ExprId) → o.value ≡ v → SatValue (Sat s terms T m) v → SatValue (Sat s terms W m) v
  value_up i sh is at o of m None e h = h
  value_up i sh is at o of m (Some d) e h =
      sat_mono s terms m (suc d.0) T W d
      (λ j sign st c. up _ (let le : level f j ≤ level f i = strat.never_rises i j (edge j sign st) in omega arith) c)
      (λ j st c. down _ (let lt : level f j < level f i = strat.falls i j (edge j true st) (inl refl) in omega arith) c) h
    where
      edge : (j : ShapeId) (sign : Bool) → StandsIn s j d sign → Edge s i j
      edge j sign st = record { shape = sh; is = is; occ = o; of = of; sign = sign; stands = subst (λ w. StandsInValue s j w sign) (sym e) st }

  -- the value of an occurrence whose predicate is in extra is satisfied no sooner
  value_down :
      (i : ShapeId) (sh : Shape) → shape_at s i ≡ Some sh → level f i ≡ k → (o : Occurrence) → Contains sh.occs o →
      o.inverse ≡ false → Contains sh.extra o.predicate →
      (m : TermId) (v : Option ExprId) → o.value ≡ v → SatValue (Sat s terms W m) v → SatValue (Sat s terms T m) v
  value_down i sh is at o of forward extra m None e h = h
  value_down i sh is at o of forward extra m (Some d) e h =
      sat_mono s terms m (suc d.0) W T d
      (λ j sign st c. down _ (lower j sign st) c)
      (λ j st c. up _ (let lt : level f j < k = lower j true st in omega arith) c) h
    where
      edge : (j : ShapeId) (sign : Bool) → StandsIn s j d sign → Edge s i j
      edge j sign st = record { shape = sh; is = is; occ = o; of = of; sign = sign; stands = subst (λ w. StandsInValue s j w sign) (sym e) st }

      lower : (j : ShapeId) (sign : Bool) → StandsIn s j d sign → level f j < k
      lower j sign st = let lt : level f j < level f i = strat.falls i j (edge j sign st) (inr (forward, extra)) in omega arith

  -- on a stratum whose edges inside it are positive, a node keeps its Shape when pairs are added
  pub shape_mono : (n : TermId) (i : ShapeId) → level f i ≡ k → ShapeOk s terms g T n i → ShapeOk s terms g W n i
  shape_mono n i at h = go (shape_at s i) refl h
    where
      take_up :
          (sh : Shape) → shape_at s i ≡ Some sh → (x : Option Occurrence) (t : Triple) →
          ((o : Occurrence) → x ≡ Some o → Contains sh.occs o) →
          Takes (Sat s terms T) n x t → Takes (Sat s terms W) n x t
      take_up sh is None t of h = h
      take_up sh is (Some o) t of h = (h.0, value_up i sh is at o (of o refl) (other_end o.inverse t) o.value refl h.1)

      body_up :
          (sh : Shape) → shape_at s i ≡ Some sh → (b : Option Plan) (ts : List Triple) → MatchesBody (Sat s terms T) sh.occs n b ts →
          MatchesBody (Sat s terms W) sh.occs n b ts
      body_up sh is None ts h = h
      body_up sh is (Some c) ts h =
          matches_mono (Sat s terms T) (Sat s terms W) sh.occs n (λ j t. take_up sh is (slice_get sh.occs j) t (λ o e. got_in sh.occs j o e)) c ts h

      go : (x : Option Shape) → shape_at s i ≡ x → ShapeHolds (Sat s terms T) g n x → ShapeHolds (Sat s terms W) g n x
      go None is h = h
      go (Some sh) is (matched, rest, deals, body, ok) = (
        matched,
        rest,
        deals,
        body_up sh is sh.body matched body,
        record {
          unmatched = λ t o held can of forward takes.
              let same : o.predicate ≡ t.p = same_is _ _ (and_parts _ _ takes.0).0 in
              let in_extra : Contains sh.extra o.predicate = subst (λ p. Contains sh.extra p) (sym same) (ok.in_extra t held can) in
              ok.unmatched t o held can of forward (takes.0, value_down i sh is at o of forward in_extra (other_end o.inverse t) o.value refl takes.1);
          in_extra = ok.in_extra;
          in_closed = ok.in_closed;
        },
      )
