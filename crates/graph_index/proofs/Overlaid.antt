-- Rows of nodes' own in place of sealed ones.
use Rattle.std.proofs.Common.{◌≡◌, ℕ, List, [], ◌∷◌, ◌++◌, refl, ap, sym, ◌∙◌, Bool, true, false, true≢false, cond, not, filter, flat_map, is_some, Option, None, Some, subst, eq-eqb}
use Rattle.std.proofs.lemmas.Bool.{eqb-true}
use Rattle.std.proofs.lemmas.List.{append-nil}
use Rattle.std.proofs.lemmas.List.Elements.{filter-append}
use Rattle.std.specs.Global.{Vec}
use Rattle.std.specs.List.{AllByRecursion, IsDistinct}
use Rattle.std.specs.Map.{keys_of, lookup, set_value}
use Rattle.rdf_terms.specs.declared.terms.TermId.{TermId}
use Rattle.rdf_terms.specs.declared.terms.Triple.{Triple}
use Rattle.rdf_terms.specs.Graphs.{same_id}
use Rattle.graph_index.specs.Edits.{AreEdits, AreInTexts, GivesRows, HasSameRows, Incidence, IsGrouped, PutsRows, incidence_of, rows_of}
use Rattle.graph_index.specs.Rows.{arcs_at, node_at}
use Rattle.graph_index.specs.declared.ends.End.{End}
use Rattle.graph_index.proofs.Grouped.{grouped_rows, own_rows}
use Rattle.graph_index.proofs.Noted.{id_is}

-- where a test says no of all that passes another
none_of_both : {X : Type 0} (p q : X → Bool) → ((x : X) → p x ≡ true → q x ≡ false) → (xs : List X) → filter p (filter q xs) ≡ []
none_of_both p q h [] = refl
none_of_both p q h (x ∷ xs) = by (q x) refl (none_of_both p q h xs)
  where
    inner : (b : Bool) → p x ≡ b → q x ≡ true → filter p (filter q xs) ≡ [] → cond b (x ∷ filter p (filter q xs)) (filter p (filter q xs)) ≡ []
    inner true e f rest = absurd (true≢false (sym f ∙ h x e))
    inner false e f rest = rest

    by : (b : Bool) → q x ≡ b → filter p (filter q xs) ≡ [] → filter p (cond b (x ∷ filter q xs) (filter q xs)) ≡ []
    by true e rest = inner (p x) refl e rest
    by false e rest = rest

-- where a test says yes of all that passes another
all_of_both : {X : Type 0} (p q : X → Bool) → ((x : X) → p x ≡ true → q x ≡ true) → (xs : List X) → filter p (filter q xs) ≡ filter p xs
all_of_both p q h [] = refl
all_of_both {X = X} p q h (x ∷ xs) = by (q x) refl (all_of_both p q h xs)
  where
    inner : (b : Bool) → p x ≡ b → q x ≡ false → filter p (filter q xs) ≡ filter p xs → filter p (filter q xs) ≡ cond b (x ∷ filter p xs) (filter p xs)
    inner true e f rest = absurd (true≢false (sym (h x e) ∙ f))
    inner false e f rest = rest

    by : (b : Bool) → q x ≡ b → filter p (filter q xs) ≡ filter p xs → filter p (cond b (x ∷ filter q xs) (filter q xs)) ≡ filter p (x ∷ xs)
    by true e rest = ap (λ (zs : List X). cond (p x) (x ∷ zs) zs) rest
    by false e rest = inner (p x) refl e rest

itself : (n : TermId) → same_id n n ≡ true
itself n = eq-eqb n.0 n.0 refl

-- a key that none is
no_key : (n : TermId) (es : List (TermId × Vec Triple)) → AllByRecursion (λ k. same_id n k ≡ false) (keys_of es) → lookup (same_id n) es ≡ None
no_key n [] h = refl
no_key n (e ∷ es) h = ap (λ b. cond b (Some e.1) (lookup (same_id n) es)) h.0 ∙ no_key n es h.1

-- a value that is written over another with the same items
flat_set : (test : TermId → Bool) (w v : Vec Triple) → w.items ≡ v.items → (es : List (TermId × Vec Triple)) → lookup test es ≡ Some v
    → flat_map (λ e. e.1.items) (set_value test es w) ≡ flat_map (λ e. e.1.items) es
flat_set test w v same [] is = refl
flat_set test w v same (e ∷ es) is = by (test e.0) is (flat_set test w v same es)
  where
    by : (b : Bool) → cond b (Some e.1) (lookup test es) ≡ Some v → (lookup test es ≡ Some v → flat_map (λ e. e.1.items) (set_value test es w) ≡ flat_map (λ e. e.1.items) es)
        → flat_map (λ e. e.1.items) (cond b ((e.0, w) ∷ es) (e ∷ set_value test es w)) ≡ e.1.items ++ flat_map (λ e. e.1.items) es
    by true f rest =
        let here : e.1 ≡ v = cc in
        ap (λ (zs : List Triple). zs ++ flat_map (λ e. e.1.items) es) (same ∙ ap (λ (x : Vec Triple). x.items) (sym here))
    by false f rest = ap (λ (zs : List Triple). e.1.items ++ zs) (rest f)

has_set : (test : TermId → Bool) (w : Vec Triple) (q : TermId) (es : List (TermId × Vec Triple)) → is_some (lookup (same_id q) (set_value test es w)) ≡ is_some (lookup (same_id q) es)
has_set test w q [] = refl
has_set test w q (e ∷ es) = by (test e.0) (has_set test w q es)
  where
    either : (b : Bool) (x y : Vec Triple) (o p : Option (Vec Triple)) → is_some o ≡ is_some p → is_some (cond b (Some x) o) ≡ is_some (cond b (Some y) p)
    either true x y o p h = refl
    either false x y o p h = h

    by : (b : Bool) → is_some (lookup (same_id q) (set_value test es w)) ≡ is_some (lookup (same_id q) es)
        → is_some (lookup (same_id q) (cond b ((e.0, w) ∷ es) (e ∷ set_value test es w))) ≡ is_some (cond (same_id q e.0) (Some e.1) (lookup (same_id q) es))
    by true rest = either (same_id q e.0) w e.1 (lookup (same_id q) es) (lookup (same_id q) es) refl
    by false rest = either (same_id q e.0) e.1 e.1 (lookup (same_id q) (set_value test es w)) (lookup (same_id q) es) rest

abbrev items_of : Option (Vec Triple) → List Triple
items_of None = []
items_of (Some v) = v.items

module _ (end : End) where
  -- each look-up finds rows of the node alone
  abbrev FindsOwn : List (TermId × Vec Triple) → Type 0
  FindsOwn es = (n : TermId) (v : Vec Triple) → lookup (same_id n) es ≡ Some v → arcs_at end v.items n ≡ v.items

  head_own : (e : TermId × Vec Triple) (es : List (TermId × Vec Triple)) → FindsOwn (e ∷ es) → arcs_at end e.1.items e.0 ≡ e.1.items
  head_own e es h = h e.0 e.1 (ap (λ b. cond b (Some e.1) (lookup (same_id e.0) es)) (itself e.0))

  tail_own : (e : TermId × Vec Triple) (es : List (TermId × Vec Triple)) → AllByRecursion (λ k. same_id e.0 k ≡ false) (keys_of es) → FindsOwn (e ∷ es) → FindsOwn es
  tail_own e es apart h n v is = by (same_id n e.0) refl
    where
      by : (b : Bool) → same_id n e.0 ≡ b → arcs_at end v.items n ≡ v.items
      by true f =
          let none : lookup (same_id n) es ≡ None = ap (λ (z : TermId). lookup (same_id z) es) (id_is n e.0 (eqb-true _ _ f)) ∙ no_key e.0 es apart in
          let both : None ≡ Some v = sym none ∙ is in
          absurd (let bad : ⊥ = cc in bad)
      by false f = h n v (ap (λ b. cond b (Some e.1) (lookup (same_id n) es)) f ∙ is)

  of_other : (n m : TermId) (rows : List Triple) → same_id n m ≡ false → arcs_at end rows m ≡ rows → arcs_at end rows n ≡ []
  of_other n m rows apart own =
      ap (λ (v : List Triple). arcs_at end v n) (sym own)
      ∙ none_of_both (λ t. same_id (node_at end t) n) (λ t. same_id (node_at end t) m) (λ t h. (
      ap (λ (z : TermId). same_id z m) (id_is (node_at end t) n (eqb-true _ _ h)) ∙ apart)) rows

  -- of all rows of nodes' own, those of a node
  of_listed : (es : List (TermId × Vec Triple)) → IsDistinct same_id (keys_of es) → FindsOwn es → (n : TermId) → arcs_at end (flat_map (λ e. e.1.items) es) n ≡ items_of (lookup (same_id n) es)
  unfolding IsDistinct
  of_listed [] once own n = refl
  of_listed (e ∷ es) once own n =
      filter-append (λ t. same_id (node_at end t) n) e.1.items (flat_map (λ e. e.1.items) es)
      ∙ by (same_id n e.0) refl (of_listed es once.1 (tail_own e es once.0 own) n)
    where
      by : (b : Bool) → same_id n e.0 ≡ b → arcs_at end (flat_map (λ e. e.1.items) es) n ≡ items_of (lookup (same_id n) es)
          → arcs_at end e.1.items n ++ arcs_at end (flat_map (λ e. e.1.items) es) n ≡ items_of (cond b (Some e.1) (lookup (same_id n) es))
      by true f rest =
          let is : n ≡ e.0 = id_is n e.0 (eqb-true _ _ f) in
          let none : lookup (same_id n) es ≡ None = ap (λ (z : TermId). lookup (same_id z) es) is ∙ no_key e.0 es once.0 in
          ap (λ (zs : List Triple). arcs_at end e.1.items n ++ zs) (rest ∙ ap items_of none)
          ∙ append-nil (arcs_at end e.1.items n) ∙ ap (λ (z : TermId). arcs_at end e.1.items z) is ∙ head_own e es own
      by false f rest = ap (λ (zs : List Triple). zs ++ arcs_at end (flat_map (λ e. e.1.items) es) n) (of_other n e.0 e.1.items f (head_own e es own)) ∙ rest

  module _ (sealed : List Triple) (es : List (TermId × Vec Triple)) where
    abbrev has_own : Triple → Bool
    has_own t = is_some (lookup (same_id (node_at end t)) es)

    found_own : (n : TermId) (o : Option (Vec Triple)) → lookup (same_id n) es ≡ o → (t : Triple) → same_id (node_at end t) n ≡ true → not (has_own t) ≡ not (is_some o)
    found_own n o is t h = ap (λ (z : TermId). not (is_some (lookup (same_id z) es))) (id_is (node_at end t) n (eqb-true _ _ h)) ∙ ap (λ (z : Option (Vec Triple)). not (is_some z)) is

    finds_own : AreEdits end es → FindsOwn es
    finds_own edits n v is = own_rows end n v.items (edits.in_texts n v is)

    -- a node with rows of its own
    pub edited_at : (n : TermId) (v : Vec Triple) → AreEdits end es → lookup (same_id n) es ≡ Some v → arcs_at end (rows_of end sealed es) n ≡ v.items
    edited_at n v edits is =
        filter-append (λ t. same_id (node_at end t) n) (filter (λ t. not (has_own t)) sealed) (flat_map (λ e. e.1.items) es)
        ∙ ap (λ (zs : List Triple). zs ++ arcs_at end (flat_map (λ e. e.1.items) es) n) (none_of_both (λ t. same_id (node_at end t) n) (λ t. not (has_own t)) (found_own n (Some v) is) sealed)
        ∙ of_listed es edits.once (finds_own edits) n ∙ ap items_of is

    -- a node without
    pub sealed_at : (n : TermId) → AreEdits end es → lookup (same_id n) es ≡ None → arcs_at end (rows_of end sealed es) n ≡ arcs_at end sealed n
    sealed_at n edits is =
        filter-append (λ t. same_id (node_at end t) n) (filter (λ t. not (has_own t)) sealed) (flat_map (λ e. e.1.items) es)
        ∙ ap (λ (zs : List Triple). zs ++ arcs_at end (flat_map (λ e. e.1.items) es) n) (all_of_both (λ t. same_id (node_at end t) n) (λ t. not (has_own t)) (found_own n None is) sealed)
        ∙ ap (λ (zs : List Triple). arcs_at end sealed n ++ zs) (of_listed es edits.once (finds_own edits) n ∙ ap items_of is)
        ∙ append-nil (arcs_at end sealed n)

    abbrev pub lent_at : Option (Vec Triple) → TermId → List Triple
    lent_at None n = arcs_at end sealed n
    lent_at (Some v) n = v.items

    pub rows_at : (n : TermId) → AreEdits end es → arcs_at end (rows_of end sealed es) n ≡ lent_at (lookup (same_id n) es) n
    rows_at n edits = by (lookup (same_id n) es) refl
      where
        by : (o : Option (Vec Triple)) → lookup (same_id n) es ≡ o → arcs_at end (rows_of end sealed es) n ≡ lent_at o n
        by None is = sealed_at n edits is
        by (Some v) is = edited_at n v edits is

  keeps_all : {X : Type 0} (xs : List X) → filter (λ x. true) xs ≡ xs
  keeps_all [] = refl
  keeps_all {X = X} (x ∷ xs) = ap (λ (zs : List X). x ∷ zs) (keeps_all xs)

  -- where no node was edited
  pub none_edited : (sealed : List Triple) (es : List (TermId × Vec Triple)) → es ≡ [] → rows_of end sealed es ≡ sealed
  none_edited sealed es is = ap (rows_of end sealed) is ∙ append-nil (filter (λ t. true) sealed) ∙ keeps_all sealed

  nothing : IsDistinct same_id []
  unfolding IsDistinct
  nothing = tt

  pub no_edits : (es : List (TermId × Vec Triple)) → es ≡ [] → AreEdits end es
  no_edits es is = subst (AreEdits end) (sym is) (record { once = nothing; in_texts = λ n v e. absurd (let bad : ⊥ = cc in bad) })

  -- other room in a node's own rows
  rows_set : (sealed : List Triple) (es : List (TermId × Vec Triple)) (n : TermId) (w v : Vec Triple) → lookup (same_id n) es ≡ Some v → w.items ≡ v.items
      → rows_of end sealed (set_value (same_id n) es w) ≡ rows_of end sealed es
  rows_set sealed es n w v is same =
      ap (λ (zs : List Triple). zs ++ flat_map (λ e. e.1.items) (set_value (same_id n) es w)) (λ i. filter (λ t. not (has_set (same_id n) w (node_at end t) es i)) sealed)
      ∙ ap (λ (zs : List Triple). filter (λ t. not (is_some (lookup (same_id (node_at end t)) es))) sealed ++ zs) (flat_set (same_id n) w v same es is)

  -- rows are put for a node
  module _ (es new : List (TermId × Vec Triple)) (n : TermId) (own : Vec Triple) (updates : (m : TermId) → lookup (same_id m) new ≡ cond (same_id n m) (Some own) (lookup (same_id m) es)) where
    pub put_edits : AreEdits end es → AreInTexts end n own.items → IsDistinct same_id (keys_of new) → AreEdits end new
    put_edits edits in_order once = record { once = once; in_texts = λ m v is. by m v (same_id n m) refl (sym (updates m) ∙ is) }
      where
        by : (m : TermId) (v : Vec Triple) (b : Bool) → same_id n m ≡ b → cond b (Some own) (lookup (same_id m) es) ≡ Some v → AreInTexts end m v.items
        by m v true e is =
            let here : own ≡ v = cc in
            subst (λ (w : Vec Triple). AreInTexts end m w.items) here (subst (λ (z : TermId). AreInTexts end z own.items) (id_is n m (eqb-true _ _ e)) in_order)
        by m v false e is = edits.in_texts m v is

    pub put_rows : (sealed : List Triple) → AreEdits end es → AreEdits end new → GivesRows end n own.items (rows_of end sealed es) (rows_of end sealed new)
    put_rows sealed edits after m =
        rows_at sealed new m after ∙ ap (λ (o : Option (Vec Triple)). lent_at sealed new o m) (updates m) ∙ by (same_id n m)
      where
        by : (b : Bool) → lent_at sealed new (cond b (Some own) (lookup (same_id m) es)) m ≡ cond b own.items (arcs_at end (rows_of end sealed es) m)
        by true = refl
        by false = sym (rows_at sealed es m edits)

-- ---- as contracts see them

module _ (end : End) (sealed : List Triple) (es : List (TermId × Vec Triple)) (room : ℕ) (a : Incidence) (view : incidence_of end sealed es room ≡ a) (edits : AreEdits end es) where
  pub found_lent : (own : List Triple) (n : TermId) (v : Vec Triple) → lookup (same_id n) es ≡ Some v → own ≡ v.items → own ≡ arcs_at a.end a.rows n
  found_lent own n v look here = here ∙ sym (edited_at end sealed es n v edits look) ∙ ap (λ (w : Incidence). arcs_at w.end w.rows n) view

  pub grouped_lent : (own : List Triple) (n : TermId) (v : Vec Triple) → lookup (same_id n) es ≡ Some v → own ≡ v.items → IsGrouped own
  grouped_lent own n v look here = subst IsGrouped (sym here) (grouped_rows end n v.items (edits.in_texts n v look))

  pub absent_lent : (n : TermId) → lookup (same_id n) es ≡ None → arcs_at a.end a.rows n ≡ arcs_at a.end a.sealed n
  absent_lent n look = subst (λ (w : Incidence). arcs_at w.end w.rows n ≡ arcs_at w.end w.sealed n) view (sealed_at end sealed es n edits look)

  pub room_made : (new : List (TermId × Vec Triple)) (more : ℕ) → new ≡ es → HasSameRows a (incidence_of end sealed new more)
  room_made new more same = subst (λ (w : Incidence). HasSameRows w (incidence_of end sealed new more)) view (record {
    end = refl;
    rows = ap (rows_of end sealed) same;
    sealed = refl;
  })

  pub copied : (own : List Triple) (n : TermId) → lookup (same_id n) es ≡ None → own ≡ arcs_at end sealed n → (new : List (TermId × Vec Triple)) → new ≡ es →
      own ≡ arcs_at end (rows_of end sealed new) n
  copied own n none here new same = here ∙ sym (sealed_at end sealed es n edits none) ∙ ap (λ (v : List (TermId × Vec Triple)). arcs_at end (rows_of end sealed v) n) (sym same)

  pub room_in : (new : List (TermId × Vec Triple)) (more : ℕ) (n : TermId) (w v : Vec Triple) → lookup (same_id n) es ≡ Some v → w.items ≡ v.items → new ≡ set_value (same_id n) es w
      → HasSameRows a (incidence_of end sealed new more)
  room_in new more n w v is same set = subst (λ (x : Incidence). HasSameRows x (incidence_of end sealed new more)) view (record {
    end = refl;
    rows = ap (rows_of end sealed) set ∙ rows_set end sealed es n w v is same;
    sealed = refl;
  })

  pub room_edits : (new : List (TermId × Vec Triple)) (n : TermId) (w v : Vec Triple) → lookup (same_id n) es ≡ Some v → w.items ≡ v.items
      → ((m : TermId) → lookup (same_id m) new ≡ cond (same_id n m) (Some w) (lookup (same_id m) es)) → keys_of new ≡ keys_of es → AreEdits end new
  room_edits new n w v is same updates keys =
      put_edits end es new n w updates edits (subst (AreInTexts end n) (sym same) (edits.in_texts n v is)) (subst (IsDistinct same_id) (sym keys) edits.once)

  pub rows_put : (new : List (TermId × Vec Triple)) (more : ℕ) (n : TermId) (own : Vec Triple) → ((m : TermId) → lookup (same_id m) new ≡ cond (same_id n m) (Some own) (lookup (same_id m) es))
      → AreInTexts a.end n own.items → IsDistinct same_id (keys_of new) → PutsRows n own.items a (incidence_of end sealed new more)
  rows_put new more n own updates in_order once = subst (λ (w : Incidence). PutsRows n own.items w (incidence_of end sealed new more)) view (record {
    end = refl;
    sealed = refl;
    rows = put_rows end es new n own updates sealed edits (put_edits end es new n own updates edits (subst (λ (w : Incidence). AreInTexts w.end n own.items) (sym view) in_order) once);
  })
