-- Loading leads to one table and one graph, and takes nothing back.
use Rattle.std.proofs.Common.{◌≡◌, ℕ, zero, suc, ◌≤◌, List, [], ◌∷◌, ◌++◌, length, Some, refl, sym, ap, subst, ◌∙◌, arith, ◌⊎◌, inl, inr, Contains, length-append}
use Rattle.std.specs.Prelude.{slice_get, Result, Err}
use Rattle.std.proofs.lemmas.List.{append-nil}
use Rattle.std.proofs.lemmas.List.Elements.{Contains-append_left, Contains-append_right, Contains-append_cases}
use Rattle.lists.specs.Additions.{Adds, AddsAll, none, more}
use Rattle.lists.specs.Distinct.{AreDistinct}
use Rattle.rdf_terms.specs.Tables.{max_terms}
use Rattle.rdf_terms.specs.declared.terms.Term.{Term}
use Rattle.rdf_terms.specs.declared.terms.TermId.{TermId}
use Rattle.rdf_terms.specs.declared.terms.Triple.{Triple}
use Rattle.graph_index.specs.Contents.{max_triples}
use Rattle.graph_index.specs.declared.loading.TermTriple.{TermTriple}
use Rattle.graph_index.specs.Loading.{terms_of, IsNumbered, Loads, nothing, triple, IsWithin, FindsNoRoom}
use Rattle.lists.proofs.Additions.{adds_one, grown_on, adds_grows, all_grow, all_one, all_distinct, no_longer, all_behind, first_fills, kept_at}

-- one triple of numbers
id_is : (a b : TermId) → a.0 ≡ b.0 → a ≡ b
id_is a b e = λ i. record { 0 = e i }

pub numbered_one : (terms : List Term) (t : TermTriple) (n k : Triple) → AreDistinct terms → IsNumbered terms t n → IsNumbered terms t k → n ≡ k
numbered_one terms t n k d a b =
    let s = id_is n.s k.s (d n.s.0 k.s.0 t.subject a.subject b.subject) in
    let p = id_is n.p k.p (d n.p.0 k.p.0 t.predicate a.predicate b.predicate) in
    let o = id_is n.o k.o (d n.o.0 k.o.0 t.object a.object b.object) in
    λ i. record { s = s i; p = p i; o = o i }

parts : (t u : TermTriple) (ts us : List TermTriple) → t ∷ ts ≡ u ∷ us → (t ≡ u) × (ts ≡ us)
parts t u ts us e = (cc, cc)

-- to one table and one graph
ones : (terms a b : List Term) (graph c d : List Triple) (ts us : List TermTriple) → ts ≡ us → AreDistinct terms → Loads terms graph ts a c → Loads terms graph us b d → (a ≡ b) × (c ≡ d)
ones terms a b graph c d ts us e dis nothing nothing = (refl, refl)
ones terms a b graph c d ts us e dis nothing (triple n h k l rest) = absurd cc
ones terms a b graph c d ts us e dis (triple n h k l rest) nothing = absurd cc
ones terms a b graph c d ts us e dis (triple {mid = m} {grown = g} {t = t} {ts = vs} n h k l rest) (triple {mid = m2} {grown = g2} {t = u} {ts = ws} n2 h2 k2 l2 rest2) =
    let p = parts t u vs ws e in
    let same : m ≡ m2 = all_one terms m m2 (terms_of u) (subst (λ (z : TermTriple). AddsAll terms (terms_of z) m) p.0 h) h2 in
    let dis2 : AreDistinct m2 = all_distinct terms m2 (terms_of u) dis h2 in
    let number : n ≡ n2 = numbered_one m2 u n n2 dis2 (subst (λ (z : TermTriple). IsNumbered m2 z n) p.0 (subst (λ (z : List Term). IsNumbered z t n) same k)) k2 in
    let grown : g ≡ g2 = adds_one graph g g2 n2 (subst (λ (z : Triple). Adds graph z g) number l) l2 in
    ones m2 a b g2 c d vs ws p.1 dis2 (subst (λ (z : List Triple). Loads m2 z vs a c) grown (subst (λ (z : List Term). Loads z g vs a c) same rest)) rest2

pub loads_one : (terms a b : List Term) (graph c d : List Triple) (ts : List TermTriple) → AreDistinct terms → Loads terms graph ts a c → Loads terms graph ts b d → (a ≡ b) × (c ≡ d)
loads_one terms a b graph c d ts dis h k = ones terms a b graph c d ts ts refl dis h k

-- what was there keeps its place
pub loads_grow : (terms a : List Term) (graph b : List Triple) (ts : List TermTriple) → Loads terms graph ts a b →
    ((behind : List Term) × (a ≡ terms ++ behind)) × ((behind : List Triple) × (b ≡ graph ++ behind))
loads_grow terms a graph b ts nothing = (([], sym (append-nil terms)), ([], sym (append-nil graph)))
loads_grow terms a graph b ts (triple {mid = m} {grown = g} {t = t} {ts = us} n h k l rest) =
    let r = loads_grow m a g b us rest in
    (grown_on terms m a (all_grow terms m (terms_of t) h) r.0, grown_on graph g b (adds_grows graph g n l) r.1)

pub loads_distinct : (terms a : List Term) (graph b : List Triple) (ts : List TermTriple) → AreDistinct terms → Loads terms graph ts a b → AreDistinct a
loads_distinct terms a graph b ts d nothing = d
loads_distinct terms a graph b ts d (triple {mid = m} {grown = g} {t = t} {ts = us} n h k l rest) = loads_distinct m a g b us (all_distinct terms m (terms_of t) d h) rest

-- some triples, and behind them others
pub loads_append : (terms a c : List Term) (graph b d : List Triple) (ts us : List TermTriple) → Loads terms graph ts a b → Loads a b us c d → Loads terms graph (ts ++ us) c d
loads_append terms a c graph b d ts us nothing k = k
loads_append terms a c graph b d ts us (triple {mid = m} {grown = g} {ts = vs} n h i l rest) k = triple n h i l (loads_append m a c g b d vs us rest k)

pub record Split (terms : List Term) (graph : List Triple) (ts us : List TermTriple) (c : List Term) (d : List Triple) : Type 0 where
  pub mid_terms : List Term
  pub mid_graph : List Triple
  pub before : Loads terms graph ts mid_terms mid_graph
  pub behind : Loads mid_terms mid_graph us c d

one_before : (terms m : List Term) (graph g : List Triple) (t : TermTriple) (ts us : List TermTriple) (c : List Term) (d : List Triple) (n : Triple) →
    AddsAll terms (terms_of t) m → IsNumbered m t n → Adds graph n g
    → Split m g ts us c d → Split terms graph (t ∷ ts) us c d
one_before terms m graph g t ts us c d n h k l s = record { mid_terms = s.mid_terms; mid_graph = s.mid_graph; before = triple n h k l s.before; behind = s.behind }

split_on : (terms c : List Term) (graph d : List Triple) (t : TermTriple) (ts us vs : List TermTriple) → vs ≡ t ∷ (ts ++ us) → Loads terms graph vs c d
    → ((m : List Term) (g : List Triple) → Loads m g (ts ++ us) c d → Split m g ts us c d) → Split terms graph (t ∷ ts) us c d
split_on terms c graph d t ts us vs e nothing ih = absurd cc
split_on terms c graph d t ts us vs e (triple {mid = m} {grown = g} {t = w} {ts = ws} n h k l rest) ih =
    let p = parts w t ws (ts ++ us) e in
    one_before terms m graph g t ts us c d n (subst (λ (z : TermTriple). AddsAll terms (terms_of z) m) p.0 h) (subst (λ (z : TermTriple). IsNumbered m z n) p.0 k) l
    (ih m g (subst (λ (z : List TermTriple). Loads m g z c d) p.1 rest))

pub loads_split : (terms c : List Term) (graph d : List Triple) (ts us : List TermTriple) → Loads terms graph (ts ++ us) c d → Split terms graph ts us c d
loads_split terms c graph d [] us h = record { mid_terms = terms; mid_graph = graph; before = nothing; behind = h }
loads_split terms c graph d (t ∷ ts) us h = split_on terms c graph d t ts us (t ∷ (ts ++ us)) refl h (λ m g k. loads_split m c g d ts us k)

-- where a triple finds no room behind some, no list that goes on with it is within the limits
pub no_room_behind : (terms a c : List Term) (graph b d : List Triple) (ts us : List TermTriple) (t : TermTriple) → AreDistinct terms → Loads terms graph ts a b → FindsNoRoom a b t
    → Loads terms graph (ts ++ t ∷ us) c d → ¬ IsWithin c d
no_room_behind terms a c graph b d ts us t dis before full all within =
    let s = loads_split terms c graph d ts (t ∷ us) all in
    let same = loads_one terms s.mid_terms a graph s.mid_graph b ts dis s.before before in
    let rest : Loads a b (t ∷ us) c d = subst (λ (z : List Triple). Loads a z (t ∷ us) c d) same.1 (subst (λ (z : List Term). Loads z s.mid_graph (t ∷ us) c d) same.0 s.behind) in
    let one = loads_split a c b d (t ∷ []) us rest in
    let grow = loads_grow one.mid_terms c one.mid_graph d us one.behind in
    let terms_le = no_longer one.mid_terms c grow.0 in
    let graph_le = no_longer one.mid_graph d grow.1 in
    full one.mid_terms one.mid_graph one.before (omega (arith, within.0, terms_le), omega (arith, within.1, graph_le))

pub second_fills : (limit : ℕ) (old mid new : List Term) (x y z : Term) → Adds old x mid → ((¬ Contains mid y) × (length mid ≡ limit)) → AddsAll old (x ∷ y ∷ z ∷ []) new → ¬ (length new ≤ limit)
second_fills limit old mid new x y z a full all = first_fills limit mid new (z ∷ []) y full (all_behind old mid new (y ∷ z ∷ []) x a all)

pub third_fills : (limit : ℕ) (old mid behind new : List Term) (x y z : Term) → Adds old x mid → Adds mid y behind →
    ((¬ Contains behind z) × (length behind ≡ limit)) → AddsAll old (x ∷ y ∷ z ∷ []) new → ¬ (length new ≤ limit)
third_fills limit old mid behind new x y z a b full all =
    first_fills limit behind new [] z full (all_behind mid behind new (z ∷ []) y b (all_behind old mid new (y ∷ z ∷ []) x a all))

pub three_added : (old mid behind new : List Term) (t : TermTriple) → Adds old t.subject mid → Adds mid t.predicate behind → Adds behind t.object new → AddsAll old (terms_of t) new
three_added old mid behind new t a b c = more a (more b (more c none))

pub three_numbered : (mid behind new : List Term) (t : TermTriple) (n : Triple) → Adds mid t.predicate behind → Adds behind t.object new →
    slice_get mid n.s.0 ≡ Some t.subject → slice_get behind n.p.0 ≡ Some t.predicate
    → slice_get new n.o.0 ≡ Some t.object → IsNumbered new t n
three_numbered mid behind new t n a b s p o =
    let g = adds_grows mid behind t.predicate a in
    let h = adds_grows behind new t.object b in
    record { subject = kept_at behind new n.s.0 t.subject h (kept_at mid behind n.s.0 t.subject g s); predicate = kept_at behind new n.p.0 t.predicate h p; object = o }

-- the table grows
pub grows_two : (old mid new : List Term) (x y : Term) → Adds old x mid → Adds mid y new → (behind : List Term) × (new ≡ old ++ behind)
grows_two old mid new x y a b = grown_on old mid new (adds_grows old mid x a) (adds_grows mid new y b)

pub grows_three : (old mid behind new : List Term) (x y z : Term) → Adds old x mid → Adds mid y behind → Adds behind z new → (more : List Term) × (new ≡ old ++ more)
grows_three old mid behind new x y z a b c = grown_on old behind new (grows_two old mid behind x y a b) (adds_grows behind new z c)

pub grows_two_same : (old mid behind new : List Term) (x y : Term) → Adds old x mid → Adds mid y behind → new ≡ behind → (more : List Term) × (new ≡ old ++ more)
grows_two_same old mid behind new x y a b e = let (m, f) = grows_two old mid behind x y a b in (m, e ∙ f)

-- one triple
pub one_loaded : (terms mid : List Term) (graph grown : List Triple) (t : TermTriple) (n : Triple) → AddsAll terms (terms_of t) mid → IsNumbered mid t n →
    Adds graph n grown → Loads terms graph (t ∷ []) mid grown
one_loaded terms mid graph grown t n a k l = triple n a k l nothing

record One (terms : List Term) (graph : List Triple) (t : TermTriple) (new_terms : List Term) (new_graph : List Triple) : Type 0 where
  n : Triple
  added : AddsAll terms (terms_of t) new_terms
  numbered : IsNumbered new_terms t n
  grown : Adds graph n new_graph

one_parts : (terms a : List Term) (graph b : List Triple) (t : TermTriple) → Loads terms graph (t ∷ []) a b → One terms graph t a b
one_parts terms a graph b t (triple n h k l nothing) = record { n = n; added = h; numbered = k; grown = l }

pub table_full : (terms : List Term) (graph : List Triple) (t : TermTriple) → ((new : List Term) → AddsAll terms (terms_of t) new → ¬ (length new ≤ max_terms)) → FindsNoRoom terms graph t
table_full terms graph t full a b h within = full a (one_parts terms a graph b t h).added within.0

pub graph_full : (terms mid : List Term) (graph : List Triple) (t : TermTriple) (n : Triple) → AreDistinct mid → AddsAll terms (terms_of t) mid →
    IsNumbered mid t n → ((¬ Contains graph n) × (length graph ≡ max_triples)) → FindsNoRoom terms graph t
graph_full terms mid graph t n dis added numbered (c, full) a b h within =
    let p = one_parts terms a graph b t h in
    let same : a ≡ mid = all_one terms a mid (terms_of t) p.added added in
    let number : p.n ≡ n = numbered_one mid t p.n n dis (subst (λ (v : List Term). IsNumbered v t p.n) same p.numbered) numbered in
    by (subst (λ (k : Triple). Adds graph k b) number p.grown)
  where
    by : Adds graph n b → ⊥
    by (inl (d, e)) = c d
    by (inr (d, e)) =
        let l = length-append graph (n ∷ []) in
        let k = ap length e in
        let w = within.1 in absurd (omega arith)

-- what the graph holds
numbered_kept : (old new : List Term) (t : TermTriple) (n : Triple) → ((behind : List Term) × (new ≡ old ++ behind)) → IsNumbered old t n → IsNumbered new t n
numbered_kept old new t n g h =
    record { subject = kept_at old new n.s.0 t.subject g h.subject; predicate = kept_at old new n.p.0 t.predicate g h.predicate; object = kept_at old new n.o.0 t.object g h.object }

abbrev Holds : List Term → List Triple → List TermTriple → Triple → Type 0
Holds terms graph ts n = Contains graph n ⊎ ((t : TermTriple) × Contains ts t × IsNumbered terms t n)

only_itself : {X : Type 0} (x y : X) → Contains (x ∷ []) y → y ≡ x
only_itself x y (zero, lt, e) = sym e
only_itself x y (suc i, lt, e) = absurd (omega arith)

itself : {X : Type 0} (x : X) → Contains (x ∷ []) x
itself x = (zero, omega arith, refl)

on_front : (a : List Term) (graph grown : List Triple) (t : TermTriple) (us : List TermTriple) (k n : Triple) → Adds graph k grown → IsNumbered a t k → Holds a grown us n → Holds a graph (t ∷ us) n
on_front a graph grown t us k n (inl (c, e)) num (inl h) = inl (subst (λ (v : List Triple). Contains v n) e h)
on_front a graph grown t us k n (inr (c, e)) num (inl h) = by (Contains-append_cases graph (k ∷ []) n (subst (λ (v : List Triple). Contains v n) e h))
  where
    by : Contains graph n ⊎ Contains (k ∷ []) n → Holds a graph (t ∷ us) n
    by (inl d) = inl d
    by (inr d) = inr (t, Contains-append_left (t ∷ []) us t (itself t), subst (IsNumbered a t) (sym (only_itself k n d)) num)
on_front a graph grown t us k n add num (inr (u, c, h)) = inr (u, Contains-append_right (t ∷ []) us u c, h)

added_held : (graph grown : List Triple) (k : Triple) → Adds graph k grown → Contains grown k
added_held graph grown k (inl (c, e)) = subst (λ (v : List Triple). Contains v k) (sym e) c
added_held graph grown k (inr (c, e)) = subst (λ (v : List Triple). Contains v k) (sym e) (Contains-append_right graph (k ∷ []) k (itself k))

old_held : (graph grown : List Triple) (k n : Triple) → Adds graph k grown → Contains graph n → Contains grown n
old_held graph grown k n (inl (c, e)) h = subst (λ (v : List Triple). Contains v n) (sym e) h
old_held graph grown k n (inr (c, e)) h = subst (λ (v : List Triple). Contains v n) (sym e) (Contains-append_left graph (k ∷ []) n h)

on_back : (a : List Term) (graph grown : List Triple) (t : TermTriple) (us : List TermTriple) (k n : Triple) → AreDistinct a → Adds graph k grown →
    IsNumbered a t k → Holds a graph (t ∷ us) n → Holds a grown us n
on_back a graph grown t us k n dis add num (inl h) = inl (old_held graph grown k n add h)
on_back a graph grown t us k n dis add num (inr (u, c, h)) = by (Contains-append_cases (t ∷ []) us u c)
  where
    by : Contains (t ∷ []) u ⊎ Contains us u → Holds a grown us n
    by (inl d) =
        let same : n ≡ k = numbered_one a t n k dis (subst (λ (v : TermTriple). IsNumbered a v n) (only_itself t u d) h) num in
        inl (subst (Contains grown) (sym same) (added_held graph grown k add))
    by (inr d) = inr (u, d, h)

nothing_held : (a : List Term) (graph : List Triple) (n : Triple) → Holds a graph [] n → Contains graph n
nothing_held a graph n (inl h) = h
nothing_held a graph n (inr (t, (i, lt, e), h)) = absurd (omega arith)

pub loads_hold : (terms a : List Term) (graph b : List Triple) (ts : List TermTriple) → AreDistinct terms → Loads terms graph ts a b → (n : Triple) →
    (Contains b n → Holds a graph ts n) × (Holds a graph ts n → Contains b n)
loads_hold terms a graph b ts dis nothing n = (inl, nothing_held a graph n)
loads_hold terms a graph b ts dis (triple {mid = m} {grown = g} {t = t} {ts = us} k h num l rest) n =
    let dis2 : AreDistinct m = all_distinct terms m (terms_of t) dis h in
    let r = loads_hold m a g b us dis2 rest n in
    let dis3 : AreDistinct a = loads_distinct m a g b us dis2 rest in
    let num2 = numbered_kept m a t k (loads_grow m a g b us rest).0 num in
    (λ c. on_front a graph g t us k n l num2 (r.0 c), λ c. r.1 (on_back a graph g t us k n dis3 l num2 c))

-- an error that is passed on
pub passed : {X Y E : Type 0} (r : Result X E) (e f g : E) → r ≡ Err e → e ≡ f → r ≡ Err g → Path (Result Y E) (Err f) (Err g)
passed {X = X} {E = E} r e f g is same all = ap Err (sym same ∙ error e g (sym is ∙ all))
  where
    error : (e g : E) → Path (Result X E) (Err e) (Err g) → e ≡ g
    error e g h = cc
