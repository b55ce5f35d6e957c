-- Triples of subjects that are loaded, one object list after the other.
use Rattle.std.proofs.Common.{◌≡◌, ℕ, ◌≤◌, length, Contains, Some, inl, List, [], ◌∷◌, ◌++◌, Result, Err, Ok, ap, map, refl, subst, sym, ◌∙◌, append_assoc}
use Rattle.std.specs.Prelude.{slice_get}
use Rattle.std.proofs.lemmas.List.{append-nil, map-append}
use Rattle.lists.specs.Additions.{Adds, AddsAll, none, more}
use Rattle.lists.specs.Distinct.{AreDistinct}
use Rattle.lists.proofs.Additions.{adds_grows, all_parts, first_fills, grown_on, kept_at, one_more as one_put, stays}
use Rattle.lists.proofs.Members.{got_in}
use Rattle.rdf_terms.specs.Tables.{max_terms}
use Rattle.graph_index.specs.Contents.{max_triples}
use Rattle.std.specs.List.{flat_map}
use Rattle.std.proofs.lemmas.Grind.{flat_map-append}
use Rattle.rdf_terms.specs.declared.terms.Term.{Term}
use Rattle.rdf_terms.specs.declared.terms.Term.TheVariants.{Iri}
use Rattle.rdf_terms.specs.declared.terms.Triple.{Triple}
use Rattle.graph_index.specs.declared.loading.LoadError.{LoadError}
use Rattle.graph_index.specs.declared.loading.LoadError.TheVariants as load
use Rattle.graph_index.specs.declared.loading.TermTriple.{TermTriple}
use Rattle.graph_index.specs.Loading.{IsNumbered, Loads, nothing}
use Rattle.graph_index.proofs.Loaded.{graph_full, loads_append, one_loaded, table_full, third_fills}
use Rattle.data_loading.specs.Loads.{Fills, LoadsAll}
use Rattle.data_loading.proofs.Filling.{fills_at, fills_behind}
use Rattle.turtle_reader.specs.declared.objects.ObjectList.{ObjectList}
use Rattle.turtle_reader.specs.declared.objects.SubjectList.{SubjectList}
use Rattle.turtle_reader.specs.Objects.{all_triples_of, triples_about, triples_of, triple_with, Begins, Leads}
use Rattle.turtle_reader.proofs.Adding.{one_more}

-- some triples more behind those among which one finds no room
fills_before : (terms : List Term) (graph : List Triple) (ts us : List TermTriple) → Fills terms graph ts → Fills terms graph (ts ++ us)
fills_before terms graph ts us f = record {
  before = f.before;
  last = f.last;
  behind = f.behind ++ us;
  parts = ap (λ (v : List TermTriple). v ++ us) f.parts ∙ append_assoc f.before (f.last ∷ f.behind) us;
  mid_terms = f.mid_terms;
  mid_graph = f.mid_graph;
  loaded = f.loaded;
  no_room = f.no_room;
}

-- some triples that are not loaded, behind others and before others
stops_at : (terms now_terms new_terms : List Term) (graph now_graph new_graph : List Triple) (all so ts us : List TermTriple) (e : LoadError) → all ≡ so ++ (ts ++ us)
    → Loads terms graph so now_terms now_graph → LoadsAll (Err e) now_terms now_graph ts new_terms new_graph → LoadsAll (Err e) terms graph all new_terms new_graph
stops_at terms now_terms new_terms graph now_graph new_graph all so ts us load.Memory e l f = tt
stops_at terms now_terms new_terms graph now_graph new_graph all so ts us load.Full e l f =
    subst (Fills terms graph) (sym e) (fills_behind terms now_terms graph now_graph so (ts ++ us) l (fills_before now_terms now_graph ts us f))

-- the last triples, behind others
last_loads : (r : Result (Unit {0}) LoadError) (terms now_terms new_terms : List Term) (graph now_graph new_graph : List Triple) (so ts : List TermTriple)
    → Loads terms graph so now_terms now_graph → LoadsAll r now_terms now_graph ts new_terms new_graph → LoadsAll r terms graph (so ++ ts) new_terms new_graph
last_loads (Ok x) terms now_terms new_terms graph now_graph new_graph so ts l k = loads_append terms now_terms new_terms graph now_graph new_graph so ts l k
last_loads (Err load.Memory) terms now_terms new_terms graph now_graph new_graph so ts l k = tt
last_loads (Err load.Full) terms now_terms new_terms graph now_graph new_graph so ts l k = fills_behind terms now_terms graph now_graph so ts l k

-- the triples of one subject more
pub subject_loads : (terms now_terms new_terms : List Term) (graph now_graph new_graph : List Triple) (ls : List SubjectList) (l : SubjectList)
    → Loads terms graph (all_triples_of ls) now_terms now_graph
    → Loads now_terms now_graph (triples_about l) new_terms new_graph → Loads terms graph (all_triples_of (ls ++ l ∷ [])) new_terms new_graph
subject_loads terms now_terms new_terms graph now_graph new_graph ls l h k =
    subst (λ (v : List TermTriple). Loads terms graph v new_terms new_graph) (sym (one_more triples_about ls l))
    (loads_append terms now_terms new_terms graph now_graph new_graph (all_triples_of ls) (triples_about l) h k)

-- a subject that is not loaded, behind others and before others
pub subject_stops : (terms now_terms new_terms : List Term) (graph now_graph new_graph : List Triple) (all ls rest : List SubjectList) (l : SubjectList)
    (e : LoadError) → all ≡ ls ++ l ∷ rest → Loads terms graph (all_triples_of ls) now_terms now_graph
    → LoadsAll (Err e) now_terms now_graph (triples_about l) new_terms new_graph → LoadsAll (Err e) terms graph (all_triples_of all) new_terms new_graph
subject_stops terms now_terms new_terms graph now_graph new_graph all ls rest l e parts h k =
    stops_at terms now_terms new_terms graph now_graph new_graph (all_triples_of all) (all_triples_of ls) (triples_about l) (all_triples_of rest) e
    (ap all_triples_of parts ∙ flat_map-append triples_about ls (l ∷ rest)) h k

-- the numbers of a subject and a predicate, with which triples begin, stay
pub begins_now : (old terms new : List Term) (s p : Term) (i j : ℕ) → Begins old terms s p i j → ((behind : List Term) × (new ≡ terms ++ behind)) → Begins new new s p i j
begins_now old terms new s p i j b grown =
    let at_s = kept_at terms new i s grown b.subject in
    let at_p = kept_at terms new j p grown b.predicate in
    record { added = more (inl (got_in new i s at_s, refl)) (more (inl (got_in new j p at_p, refl)) none); subject = at_s; predicate = at_p }

pub both_begin : (old mid new : List Term) (s p : Term) (i j : ℕ) → Adds old s mid → Adds mid p new → slice_get mid i ≡ Some s → slice_get new j ≡ Some p → Begins old new s p i j
both_begin old mid new s p i j a b at_s at_p = record { added = more a (more b none); subject = kept_at mid new i s (adds_grows mid new p b) at_s; predicate = at_p }

last_put : (old new : List Term) (x : Term) → AddsAll old (x ∷ []) new → Adds old x new
last_put old new x (more a none) = a

-- an object that finds no room in the table
pub no_object : (e : LoadError) (old terms new : List Term) (graph new_graph : List Triple) (s p o : Term) (i j : ℕ) → Begins old terms s p i j →
    (e ≡ load.Full → (¬ Contains terms o) × (length terms ≡ max_terms))
    → LoadsAll (Err e) old graph (triple_with s p o ∷ []) new new_graph
no_object load.Memory old terms new graph new_graph s p o i j b full = tt
no_object load.Full old terms new graph new_graph s p o i j b full =
    let (mid, a, rest) = all_parts old terms (p ∷ []) s b.added in
    fills_at old old graph graph (triple_with s p o ∷ []) [] [] (triple_with s p o) refl nothing
    (table_full old graph (triple_with s p o) (λ more all. third_fills max_terms old mid terms more s p o a (last_put mid terms p rest) (full refl) all))

-- a triple whose object has a number
module _ (old terms new : List Term) (graph : List Triple) (s p o : Term) (n : Triple) (b : Begins old terms s p n.s.0 n.p.0) (add : Adds terms o new) (at : slice_get new n.o.0 ≡ Some o) where
  numbered : IsNumbered new (triple_with s p o) n
  numbered = let g = adds_grows terms new o add in record { subject = kept_at terms new n.s.0 s g b.subject; predicate = kept_at terms new n.p.0 p g b.predicate; object = at }

  pub object_in : (grown : List Triple) → Adds graph n grown → Loads old graph (triple_with s p o ∷ []) new grown
  object_in grown adds = one_loaded old new graph grown (triple_with s p o) n (one_put old terms new (s ∷ p ∷ []) o b.added add) numbered adds

  pub no_triple : AreDistinct new → ((¬ Contains graph n) × (length graph ≡ max_triples)) → Fills old graph (triple_with s p o ∷ [])
  no_triple distinct full =
      fills_at old old graph graph (triple_with s p o ∷ []) [] [] (triple_with s p o) refl nothing
      (graph_full old new graph (triple_with s p o) n distinct (one_put old terms new (s ∷ p ∷ []) o b.added add) numbered full)

-- a subject and a predicate that find no room before objects
pub no_list : (e : LoadError) (old new : List Term) (graph new_graph : List Triple) (s p : Term) (xs : List Term) (last : Term) →
    (e ≡ load.Full → (o : Term) (all : List Term) → AddsAll old (s ∷ p ∷ o ∷ []) all → ¬ (length all ≤ max_terms))
    → LoadsAll (Err e) old graph (map (triple_with s p) (xs ++ last ∷ [])) new new_graph
no_list load.Memory old new graph new_graph s p xs last full = tt
no_list load.Full old new graph new_graph s p [] last full =
    fills_at old old graph graph (triple_with s p last ∷ []) [] [] (triple_with s p last) refl nothing (table_full old graph (triple_with s p last) (λ all h. full refl last all h))
no_list load.Full old new graph new_graph s p (x ∷ xs) last full =
    fills_at old old graph graph (map (triple_with s p) (x ∷ (xs ++ last ∷ []))) [] (map (triple_with s p) (xs ++ last ∷ [])) (triple_with s p x) refl nothing
    (table_full old graph (triple_with s p x) (λ all h. full refl x all h))

-- the triples of some objects of a subject and a predicate of these numbers
pub record Goes (i j : ℕ) (start : List Term) (graph : List Triple) (xs : List Term) (now : List Term) (now_graph : List Triple) : Type 0 where
  pub grown : (behind : List Term) × (now ≡ start ++ behind)
  pub appended : (behind : List Triple) × (now_graph ≡ graph ++ behind)
  pub loaded : (old : List Term) (s p : Term) → Begins old start s p i j → (mid : List Term) × Begins mid now s p i j × Loads old graph (map (triple_with s p) xs) mid now_graph

pub goes : (i j : ℕ) (start : List Term) (graph : List Triple) → Goes i j start graph [] start graph
goes i j start graph = record { grown = stays start; appended = stays graph; loaded = λ old s p b. (old, b, nothing) }

-- what comes of one object more
abbrev pub Comes : Result (Unit {0}) LoadError → ℕ → ℕ → List Term → List Triple → Term → List Term → List Triple → Type 0
Comes r i j now now_graph x new new_graph = (old : List Term) (s p : Term) → Begins old now s p i j → LoadsAll r old now_graph (triple_with s p x ∷ []) new new_graph

module _ (i j : ℕ) (start now new : List Term) (graph now_graph new_graph : List Triple) (xs : List Term) (g : Goes i j start graph xs now now_graph) where
  pub goes_on : (x : Term) → Comes (Ok tt) i j now now_graph x new new_graph → ((behind : List Term) × (new ≡ now ++ behind)) →
      ((behind : List Triple) × (new_graph ≡ now_graph ++ behind)) → Goes i j start graph (xs ++ x ∷ []) new new_graph
  goes_on x one more_terms more_triples = record {
    grown = grown_on start now new g.grown more_terms;
    appended = grown_on graph now_graph new_graph g.appended more_triples;
    loaded = λ old s p b.
        let (mid, m, l) = g.loaded old s p b in (
          new,
          begins_now mid now new s p i j m more_terms,
          subst (λ (v : List TermTriple). Loads old graph v new new_graph) (sym (map-append (triple_with s p) xs (x ∷ [])))
              (loads_append old mid new graph now_graph new_graph (map (triple_with s p) xs) (triple_with s p x ∷ []) l (one mid s p m)),
        );
  }

  pub goes_wrong : (before rest : List Term) (x last : Term) (e : LoadError) → before ≡ xs ++ x ∷ rest → Comes (Err e) i j now now_graph x new new_graph
      → (old : List Term) (s p : Term) → Begins old start s p i j → LoadsAll (Err e) old graph (map (triple_with s p) (before ++ last ∷ [])) new new_graph
  goes_wrong before rest x last e parts one old s p b =
      let (mid, m, l) = g.loaded old s p b in
      stops_at old mid new graph now_graph new_graph (map (triple_with s p) (before ++ last ∷ [])) (map (triple_with s p) xs) (triple_with s p x ∷ []) (map (triple_with s p) (rest ++ last ∷ [])) e
      (ap (λ (v : List Term). map (triple_with s p) (v ++ last ∷ [])) parts ∙ ap (map (triple_with s p)) (append_assoc xs (x ∷ rest) (last ∷ []))
      ∙ map-append (triple_with s p) xs (x ∷ (rest ++ last ∷ []))) l (one mid s p m)

  pub goes_to_last : (r : Result (Unit {0}) LoadError) (before rest : List Term) (x last : Term) → before ≡ xs ++ rest → rest ≡ [] → x ≡ last → Comes r i j now now_graph x new new_graph
      → (old : List Term) (s p : Term) → Begins old start s p i j → LoadsAll r old graph (map (triple_with s p) (before ++ last ∷ [])) new new_graph
  goes_to_last r before rest x last parts none_left same one old s p b =
      let (mid, m, l) = g.loaded old s p b in
      subst (λ (v : List TermTriple). LoadsAll r old graph v new new_graph)
      (ap (λ (t : Term). map (triple_with s p) xs ++ triple_with s p t ∷ []) same
      ∙ sym (ap (λ (v : List Term). map (triple_with s p) (v ++ last ∷ [])) (parts ∙ ap (λ (v : List Term). xs ++ v) none_left ∙ append-nil xs) ∙ map-append (triple_with s p) xs (last ∷ [])))
      (last_loads r old mid new graph now_graph new_graph (map (triple_with s p) xs) (triple_with s p x ∷ []) l (one mid s p m))

-- a subject that finds no room before an object list and others
first_has_no_room : (old : List Term) (graph : List Triple) (s : Term) (l : ObjectList) (ls : List ObjectList)
    → ((¬ Contains old s) × (length old ≡ max_terms)) → Fills old graph (triples_of s l ++ flat_map (triples_of s) ls)
first_has_no_room old graph s l ls full =
    fills_before old graph (triples_of s l) (flat_map (triples_of s) ls)
    (no_list load.Full old old graph graph s (Iri l.predicate) l.before.items l.last
    (λ e o all h. first_fills max_terms old all (Iri l.predicate ∷ o ∷ []) s full h))

-- a subject that finds no room before object lists
pub no_subject : (e : LoadError) (old new : List Term) (graph new_graph : List Triple) (s : Term) (ls : List ObjectList) (last : ObjectList)
    → (e ≡ load.Full → (¬ Contains old s) × (length old ≡ max_terms))
    → LoadsAll (Err e) old graph (flat_map (triples_of s) (ls ++ last ∷ [])) new new_graph
no_subject load.Memory old new graph new_graph s ls last full = tt
no_subject load.Full old new graph new_graph s [] last full = first_has_no_room old graph s last [] (full refl)
no_subject load.Full old new graph new_graph s (l ∷ ls) last full = first_has_no_room old graph s l (ls ++ last ∷ []) (full refl)

-- the number of a subject, with which triples begin, stays
pub leads_now : (old terms new : List Term) (s : Term) (i : ℕ) → Leads old terms s i → ((behind : List Term) × (new ≡ terms ++ behind)) → Leads new new s i
leads_now old terms new s i b grown = let at = kept_at terms new i s grown b.subject in record { added = inl (got_in new i s at, refl); subject = at }

-- the triples of some object lists of a subject of this number
pub record Follows (i : ℕ) (start : List Term) (graph : List Triple) (ls : List ObjectList) (now : List Term) (now_graph : List Triple) : Type 0 where
  pub grown : (behind : List Term) × (now ≡ start ++ behind)
  pub appended : (behind : List Triple) × (now_graph ≡ graph ++ behind)
  pub loaded : (old : List Term) (s : Term) → Leads old start s i → (mid : List Term) × Leads mid now s i
      × Loads old graph (flat_map (triples_of s) ls) mid now_graph

pub follows : (i : ℕ) (start : List Term) (graph : List Triple) → Follows i start graph [] start graph
follows i start graph = record { grown = stays start; appended = stays graph; loaded = λ old s b. (old, b, nothing) }

-- what comes of one object list more
abbrev pub ListComes : Result (Unit {0}) LoadError → ℕ → List Term → List Triple → ObjectList → List Term → List Triple → Type 0
ListComes r i now now_graph l new new_graph = (old : List Term) (s : Term) → Leads old now s i → LoadsAll r old now_graph (triples_of s l) new new_graph

module _ (i : ℕ) (start now new : List Term) (graph now_graph new_graph : List Triple) (ls : List ObjectList) (f : Follows i start graph ls now now_graph) where
  pub follows_on : (l : ObjectList) → ListComes (Ok tt) i now now_graph l new new_graph → ((behind : List Term) × (new ≡ now ++ behind))
      → ((behind : List Triple) × (new_graph ≡ now_graph ++ behind)) → Follows i start graph (ls ++ l ∷ []) new new_graph
  follows_on l one more_terms more_triples = record {
    grown = grown_on start now new f.grown more_terms;
    appended = grown_on graph now_graph new_graph f.appended more_triples;
    loaded = λ old s b.
        let (mid, m, so) = f.loaded old s b in (
          new,
          leads_now mid now new s i m more_terms,
          subst (λ (v : List TermTriple). Loads old graph v new new_graph) (sym (one_more (triples_of s) ls l))
              (loads_append old mid new graph now_graph new_graph (flat_map (triples_of s) ls) (triples_of s l) so (one mid s m)),
        );
  }

  pub follows_wrong : (before rest : List ObjectList) (l last : ObjectList) (e : LoadError) → before ≡ ls ++ l ∷ rest
      → ListComes (Err e) i now now_graph l new new_graph
      → (old : List Term) (s : Term) → Leads old start s i → LoadsAll (Err e) old graph (flat_map (triples_of s) (before ++ last ∷ [])) new new_graph
  follows_wrong before rest l last e parts one old s b =
      let (mid, m, so) = f.loaded old s b in
      stops_at old mid new graph now_graph new_graph (flat_map (triples_of s) (before ++ last ∷ [])) (flat_map (triples_of s) ls) (triples_of s l)
      (flat_map (triples_of s) (rest ++ last ∷ [])) e
      (ap (λ (v : List ObjectList). flat_map (triples_of s) (v ++ last ∷ [])) parts ∙ ap (flat_map (triples_of s)) (append_assoc ls (l ∷ rest) (last ∷ []))
      ∙ flat_map-append (triples_of s) ls (l ∷ (rest ++ last ∷ []))) so (one mid s m)

  pub follows_to_last : (r : Result (Unit {0}) LoadError) (before rest : List ObjectList) (l last : ObjectList) → before ≡ ls ++ rest → rest ≡ [] → l ≡ last
      → ListComes r i now now_graph l new new_graph
      → (old : List Term) (s : Term) → Leads old start s i → LoadsAll r old graph (flat_map (triples_of s) (before ++ last ∷ [])) new new_graph
  follows_to_last r before rest l last parts none_left same one old s b =
      let (mid, m, so) = f.loaded old s b in
      subst (λ (v : List TermTriple). LoadsAll r old graph v new new_graph)
      (ap (λ (k : ObjectList). flat_map (triples_of s) ls ++ triples_of s k) same
      ∙ sym (ap (λ (v : List ObjectList). flat_map (triples_of s) (v ++ last ∷ []))
      (parts ∙ ap (λ (v : List ObjectList). ls ++ v) none_left ∙ append-nil ls) ∙ one_more (triples_of s) ls last))
      (last_loads r old mid new graph now_graph new_graph (flat_map (triples_of s) ls) (triples_of s l) so (one mid s m))
