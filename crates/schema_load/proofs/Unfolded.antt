-- How triple expressions unfold.
use Rattle.std.proofs.Common.{◌≡◌, ℕ, ◌+◌, ◌<◌, ◌≤◌, List, [], ◌∷◌, ◌++◌, refl, sym, ap, subst, arith, length, ◌∙◌, Option, Some, None, get_or, take, drop, map, append_assoc, length-append, rules}
use Rattle.std.specs.Prelude.{Contains, option_map, Result, Ok, Err, IfOk}
use Rattle.std.specs.declared.alloc.AllocError.{AllocError}
use Rattle.std.proofs.lemmas.List.{append-nil, map-append, take_more}
use Rattle.std.proofs.lemmas.Option.{get_or_from_slice_get, slice_get_within}
use Rattle.rdf_terms.specs.declared.terms.Term.{Term}
use Rattle.rdf_terms.specs.declared.terms.Term.TheVariants.{Iri}
use Rattle.tally.specs.declared.Count.{Count, the_lemmas}
use Rattle.tally.specs.declared.Count.TheVariants.{Sym}
use Rattle.tally.specs.Plan.{Plan, Plans, more_plans, no_plans, plan_of, plans_of, row, sym as symbol}
use Rattle.schema_documents.specs.declared.label.Label.{Label}
use Rattle.lists.proofs.Members.{got_in, in_flat_map, is_first, items_left}
use Rattle.schema_tree.specs.declared.schema.ExprId.{ExprId}
use Rattle.schema_tree.specs.declared.schema.Occurrence.{Occurrence}
use Rattle.schema_load.specs.declared.part.ArcPart.{ArcPart}
use Rattle.schema_load.specs.declared.part.Part.{Part}
use Rattle.schema_load.specs.declared.part.Part.TheVariants as Parts
use Rattle.schema_load.specs.declared.part.TripleForm.{TripleForm}
use Rattle.schema_load.specs.declared.part.TripleForm.TheVariants.{Arc, Each, Include, One}
use Rattle.schema_load.specs.declared.part.TriplePart.{TriplePart}
use Rattle.schema_load.specs.Building.{HasPredicates}
use Rattle.schema_load.specs.Graph.{FormLeadsTo, LeadsTo, below, weight}
use Rattle.schema_load.specs.Parts.{AreWhole, FormNames, IsAt, IsExprAt, IsNamed, predicates_in, predicate_of}
use Rattle.schema_load.specs.Requirements.{HasOccurrences, HasOne, HaveOccurrences, IsTwice, NoneIs}
use Rattle.schema_load.specs.Stands.{IsOccurrence, IsValue, UnfoldAll, Unfolds, arc, each_of, included, more, none, one_of, times}
use Rattle.schema_load.specs.Steps.{AreDepths, AreTargets, FormHolds, HoldTriples, IsFormTarget, IsTripleAt}
use Rattle.schema_load.specs.Unfolding.{AreBelow, HasRoom, HaveRoom, IsFormAt, IsValueInside, UnfoldsForm}
use Rattle.schema_load.proofs.Countings.{FormHas, have_first, one_count, opened}
use Rattle.schema_load.proofs.Deeper.{item_at}
use Rattle.schema_load.proofs.Fit.{counted}
use Rattle.schema_load.proofs.OneSchemaLaw.{one_named}

-- an item that is read
read_any : (xs : List ℕ) (i p : ℕ) → i < length xs → p ≡ get_or xs i 0 → p ≡ get_or xs i p
read_any xs i p lt e = sym (get_or_from_slice_get xs i p p (item_at xs i p lt e))

-- the plan of one symbol
sym_plan : (n : ℕ) → plan_of (Sym n) ≡ symbol n
sym_plan n = search (rules, the_lemmas)

-- ---- depths

-- what a part leads to is less deep by its weight
pub lower : (parts : List Part) (depths : List ℕ) (p q : ℕ) (x : Part) → AreDepths parts depths → IsAt parts p x → LeadsTo parts x q → q < length parts →
    weight x + get_or depths q 0 ≤ get_or depths p 0
lower parts depths p q x are at leads lt = (are.each p (slice_get_within parts p x at)).no_deeper (weight x + get_or depths q 0) (below at leads (are.each q lt).so_deep)

-- ---- what is needed for the parts of a triple expression

module _ (parts : List Part) (depths : List ℕ) (are : AreDepths parts depths) (triples : HoldTriples parts) where
  triple_inside : (q : ℕ) → IsTripleAt parts q → q < length parts
  triple_inside q (t, at) = slice_get_within parts q (Parts.Triple t) at

  each_below : (p : ℕ) (ps : List ℕ) (t : TriplePart) → IsAt parts p (Parts.Triple t) → t.form ≡ Each ps → AreBelow parts depths ps p
  each_below p ps t at e q c =
      let there = triples p q (Parts.Triple t) at (subst (λ z. FormHolds z q) (sym e) c) in
      let low = lower parts depths p q (Parts.Triple t) are at (subst (λ z. FormLeadsTo parts z q) (sym e) c) (triple_inside q there) in
      (there, omega arith)

  one_below : (p : ℕ) (ps : List ℕ) (t : TriplePart) → IsAt parts p (Parts.Triple t) → t.form ≡ One ps → AreBelow parts depths ps p
  one_below p ps t at e q c =
      let there = triples p q (Parts.Triple t) at (subst (λ z. FormHolds z q) (sym e) c) in
      let low = lower parts depths p q (Parts.Triple t) are at (subst (λ z. FormLeadsTo parts z q) (sym e) c) (triple_inside q there) in
      (there, omega arith)

  has_form : (p k n : ℕ) (t : TriplePart) (f : TripleForm) → IsAt parts p (Parts.Triple t) → t.form ≡ f → HasOccurrences parts p n → FormHas parts f n
  has_form p k n t f at e occurrences = subst (λ z. FormHas parts z n) e (opened parts p n t at occurrences)

  pub each_ready : (p k : ℕ) (ps : List ℕ) → IsFormAt parts p (Each ps) → HasRoom parts p k → AreBelow parts depths ps p × HaveRoom parts ps k
  each_ready p k ps (t, at, e) (n, occurrences, few) = (each_below p ps t at e, (n, has_form p k n t (Each ps) at e occurrences, few))

  pub one_ready : (p k : ℕ) (ps : List ℕ) → IsFormAt parts p (One ps) → HasRoom parts p k → AreBelow parts depths ps p × HaveRoom parts ps k
  one_ready p k ps (t, at, e) (n, occurrences, few) = (one_below p ps t at e, (n, has_form p k n t (One ps) at e occurrences, few))

  -- what is needed for an included triple expression, which stands at q
  pub record IsIncluded (p q k : ℕ) (l : Label) : Type 0 where
    pub named : IsNamed parts l q
    pub there : IsTripleAt parts q
    pub less : get_or depths q 0 < get_or depths p 0
    pub room : HasRoom parts q k

  pub include_ready : NoneIs (HasOne (IsTwice parts)) → (targets : List ℕ) → AreTargets parts targets → (p k : ℕ) (l : Label) → IsFormAt parts p (Include l) →
      HasRoom parts p k → IsIncluded p (get_or targets p 0) k l
  include_ready once targets aims p k l (t, at, e) (n, occurrences, few) = go (has_form p k n t (Include l) at e occurrences)
    where
      named : IsNamed parts l (get_or targets p 0)
      named = subst (λ z. IsFormTarget parts z (get_or targets p 0)) e (aims.each p (Parts.Triple t) at)

      there : IsTripleAt parts (get_or targets p 0)
      there = let (u, here, label) = named in (u, here)

      go : (r : ℕ) × IsNamed parts l r × HasOccurrences parts r n → IsIncluded p (get_or targets p 0) k l
      go (r, other, has) = record {
        named = named;
        there = there;
        less = (let low = lower parts depths p (get_or targets p 0) (Parts.Triple t) are at (subst (λ z. FormLeadsTo parts z (get_or targets p 0)) (sym e) named) (triple_inside (get_or targets p 0) there) in omega arith);
        room = (n, subst (λ z. HasOccurrences parts z n) (one_named parts once l r (get_or targets p 0) other named) has, few);
      }

pub form_inside : (parts : List Part) (targets : List ℕ) (p : ℕ) (f : TripleForm) → AreTargets parts targets → IsFormAt parts p f → p < length targets
form_inside parts targets p f aims (t, at, e) = let lt = slice_get_within parts p (Parts.Triple t) at in let s = aims.size in omega arith

-- ---- what is needed for an occurrence

pub predicate_there : (parts : List Part) (terms : List Term) (p : ℕ) (a : ArcPart) → HasPredicates parts terms → IsFormAt parts p (Arc a) → Contains terms (Iri a.predicate)
predicate_there parts terms p a has (t, at, e) =
    has (Iri a.predicate)
    (in_flat_map predicates_in parts (Parts.Triple t) (Iri a.predicate) (got_in parts p (Parts.Triple t) at) (subst (λ f. Contains (predicate_of f) (Iri a.predicate)) (sym e) (is_first (Iri a.predicate) [])))

pub value_inside : (parts : List Part) (p n : ℕ) (a : ArcPart) → AreWhole parts → n ≡ length parts → IsFormAt parts p (Arc a) → IsValueInside a.value n
value_inside parts p n a whole size (t, at, e) = go a.value refl
  where
    inside : (q : ℕ) → IsExprAt parts q → q < n
    inside q (x, there, is) = let w = slice_get_within parts q x there in omega arith

    go : (v : Option ℕ) → a.value ≡ v → IsValueInside v n
    go None is = tt
    go (Some q) is = inside q (whole.members p q (Parts.Triple t) at (subst (λ f. FormNames f q) (sym e) is))

-- ---- what has been unfolded

module _ (terms : List Term) (parts : List Part) (number : ℕ → ExprId) where
  pub is_value : (v : Option ℕ) (w : Option ExprId) → w ≡ option_map number v → IsValue terms parts number v w
  is_value None w e = e
  is_value (Some q) w e = e

  -- a form with a cardinality
  pub unfolds : (p k : ℕ) (t : TriplePart) (f : TripleForm) (plan : Plan) (occs : List Occurrence) → IsAt parts p (Parts.Triple t) → t.form ≡ f → UnfoldsForm terms parts number f k plan occs →
      Unfolds terms parts number p k (times t.min t.max plan) occs
  unfolds p k t (Arc a) plan occs at e (o, is, plan_is, occs_are) =
      subst (λ us. Unfolds terms parts number p k (times t.min t.max plan) us) (sym occs_are) (subst (λ z. Unfolds terms parts number p k (times t.min t.max z) (o ∷ [])) (sym plan_is) (arc at e is))
  unfolds p k t (Each ps) plan occs at e (plans, all, plan_is) = subst (λ z. Unfolds terms parts number p k (times t.min t.max z) occs) (sym plan_is) (each_of at e all)
  unfolds p k t (One ps) plan occs at e (plans, all, plan_is) = subst (λ z. Unfolds terms parts number p k (times t.min t.max z) occs) (sym plan_is) (one_of at e all)
  unfolds p k t (Include l) plan occs at e (q, named, rest) = included at e named rest

  -- one more member
  abbrev after : Plans → Plan → Plans
  after no_plans u = more_plans u no_plans
  after (more_plans v us) u = more_plans v (after us u)

  row_after : (us : List Plan) (u : Plan) → row (us ++ u ∷ []) ≡ after (row us) u
  row_after [] u = refl
  row_after (v ∷ us) u = ap (λ z. more_plans v z) (row_after us u)

  all_after : (ps : List ℕ) (p k : ℕ) (plans : Plans) (plan : Plan) (occs added : List Occurrence) → UnfoldAll terms parts number ps k plans occs →
      Unfolds terms parts number p (k + length occs) plan added →
      UnfoldAll terms parts number (ps ++ p ∷ []) k (after plans plan) (occs ++ added)
  all_after _ p k _ plan _ added none last =
      subst (λ us. UnfoldAll terms parts number (p ∷ []) k (more_plans plan no_plans) us) (append-nil added)
      (more (subst (λ n. Unfolds terms parts number p n plan added) (let e : k + 0 ≡ k = omega arith in e) last) none)
  all_after _ p k _ plan _ added (more {p = q} {ps = qs} {plan = u} {plans = us} {occs = i} {rest = j} first rest) last =
      subst (λ vs. UnfoldAll terms parts number (q ∷ (qs ++ p ∷ [])) k (more_plans u (after us plan)) vs) (sym (append_assoc i j added))
      (more first (all_after qs p (k + length i) us plan j added rest
      (subst (λ n. Unfolds terms parts number p n plan added) (let h = length-append i j in let e : k + length (i ++ j) ≡ (k + length i) + length j = omega arith in e) last)))

  pub record IsSoFar (ps : List ℕ) (start now : List Occurrence) (counts : List Count) : Type 0 where
    pub added : List Occurrence
    pub occs : now ≡ start ++ added
    pub all : UnfoldAll terms parts number ps (length start) (plans_of counts) added

  pub so_far_none : (start : List Occurrence) (counts : List Count) → counts ≡ [] → IsSoFar [] start start counts
  so_far_none start counts e = record { added = []; occs = sym (append-nil start); all = subst (λ cs. UnfoldAll terms parts number [] (length start) (plans_of cs) []) (sym e) none }

  pub so_far_more : (members : List ℕ) (i p : ℕ) (start now new more_occs : List Occurrence) (counts after_counts : List Count) (count : Count) → i < length members → p ≡ get_or members i 0 →
      IsSoFar (take i members) start now counts → new ≡ now ++ more_occs → Unfolds terms parts number p (length now) (plan_of count) more_occs → after_counts ≡ counts ++ count ∷ [] →
      IsSoFar (take (i + 1) members) start new after_counts
  so_far_more members i p start now new more_occs counts after_counts count lt read before grown last pushed = record {
    added = before.added ++ more_occs;
    occs = grown ∙ (ap (λ us. us ++ more_occs) before.occs ∙ append_assoc start before.added more_occs);
    all =
        subst (λ cs. UnfoldAll terms parts number (take (i + 1) members) (length start) (plans_of cs) (before.added ++ more_occs)) (sym pushed)
        (subst (λ us. UnfoldAll terms parts number (take (i + 1) members) (length start) (row us) (before.added ++ more_occs)) (sym (map-append plan_of counts (count ∷ [])))
        (subst (λ z. UnfoldAll terms parts number (take (i + 1) members) (length start) z (before.added ++ more_occs)) (sym (row_after (map plan_of counts) (plan_of count)))
        (subst (λ ps. UnfoldAll terms parts number ps (length start) (after (plans_of counts) (plan_of count)) (before.added ++ more_occs)) (ap (λ z. take i members ++ z ∷ []) read
        ∙ sym (take_more members i 0 lt))
        (all_after (take i members) p (length start) (plans_of counts) (plan_of count) before.added more_occs before.all
        (subst (λ n. Unfolds terms parts number p n (plan_of count) more_occs) long last)))));
  }
    where
      long : length now ≡ length start + length before.added
      long = ap length before.occs ∙ length-append start before.added

  -- ---- room

  pub first_room : (members : List ℕ) (i p k : ℕ) → i < length members → p ≡ get_or members i 0 → HaveRoom parts (drop i members) k → HasRoom parts p k
  first_room members i p k lt read (n, all, few) =
      let (a, b, sum, first, rest) = have_first parts p n (drop (i + 1) members) (subst (λ us. HaveOccurrences parts us n) (items_left members i p lt (read_any members i p lt read)) all) in
      (a, first, omega arith)

  pub rest_room : NoneIs (HasOne (IsTwice parts)) → (members : List ℕ) (i p : ℕ) (now new added : List Occurrence) (plan : Plan) → i < length members →
      p ≡ get_or members i 0 → HaveRoom parts (drop i members) (length now) →
      new ≡ now ++ added → Unfolds terms parts number p (length now) plan added → HaveRoom parts (drop (i + 1) members) (length new)
  rest_room once members i p now new added plan lt read (n, all, few) grown unfolded =
      let (a, b, sum, first, rest) = have_first parts p n (drop (i + 1) members) (subst (λ us. HaveOccurrences parts us n) (items_left members i p lt (read_any members i p lt read)) all) in
      let same : a ≡ length added = one_count parts once p a (length added) first (counted terms parts number p (length now) plan added unfolded) in
      let long : length new ≡ length now + length added = ap length grown ∙ length-append now added in
      (b, rest, omega arith)

  -- ---- answers

  pub with_times : (p k : ℕ) (t : TriplePart) (old new added : List Occurrence) (plan : Plan) (r : Result Count AllocError) → IsAt parts p (Parts.Triple t) →
      new ≡ old ++ added → UnfoldsForm terms parts number t.form k plan added →
      IfOk r (λ count. plan_of count ≡ times t.min t.max plan) → IfOk r (λ count. (more_occs : List Occurrence) × (new ≡ old ++ more_occs) × Unfolds terms parts number p k (plan_of count) more_occs)
  with_times p k t old new added plan (Ok count) at grown unfolded e =
      (added, grown, subst (λ z. Unfolds terms parts number p k z added) (sym e) (unfolds p k t t.form plan added at refl unfolded))
  with_times p k t old new added plan (Err e) at grown unfolded h = tt

  pub by_inclusion : (q k : ℕ) (l : Label) (f : TripleForm) (old new : List Occurrence) (r : Result Count AllocError) → f ≡ Include l → IsNamed parts l q →
      IfOk r (λ count. (more_occs : List Occurrence) × (new ≡ old ++ more_occs) × Unfolds terms parts number q k (plan_of count) more_occs) →
      IfOk r (λ count. (more_occs : List Occurrence) × (new ≡ old ++ more_occs) × UnfoldsForm terms parts number f k (plan_of count) more_occs)
  by_inclusion q k l f old new (Ok count) e named (added, grown, unfolded) = (added, grown, subst (λ z. UnfoldsForm terms parts number z k (plan_of count) added) (sym e) (q, named, unfolded))
  by_inclusion q k l f old new (Err e) same named h = tt

  pub by_arc : (k : ℕ) (a : ArcPart) (f : TripleForm) (o : Occurrence) (symbol_is : ℕ) (old new : List Occurrence) → f ≡ Arc a →
      IsOccurrence terms parts number a o → symbol_is ≡ k → new ≡ old ++ o ∷ [] →
      (more_occs : List Occurrence) × (new ≡ old ++ more_occs) × UnfoldsForm terms parts number f k (plan_of (Sym symbol_is)) more_occs
  by_arc k a f o n old new e is symbol_is grown = (o ∷ [], grown, subst (λ z. UnfoldsForm terms parts number z k (plan_of (Sym n)) (o ∷ [])) (sym e) (o, is, sym_plan n ∙ ap symbol symbol_is, refl))
