-- A value stands for one node constraint at most, and for none where something in it is at fault.
use Rattle.std.proofs.Common.{◌≡◌, ◌≢◌, ◌∙◌, ap, refl, sym, subst, ℕ, List, [], ◌∷◌, Bool, true, false, Option, Some, None}
use Rattle.std.specs.Fmt.{signed_decimal}
use Rattle.std.specs.List.{AllByRecursion, list_any}
use Rattle.std.specs.Prelude.{codes, if◌then◌else◌, option_and_then, option_map, ◌||◌, ℤ}
use Rattle.std.specs.Str.{bytes_eq}
use Rattle.serde_json.specs.Data.{Data, Num}
use Rattle.serde_json.specs.Find.{as_integer, as_number, as_u64, get}
use Rattle.node_constraint.specs.Constraint.{Constraint}
use Rattle.node_constraint.specs.Making.{IsSound}
use Rattle.node_constraint.specs.declared.Kind4.{Kind4}
use Rattle.node_constraint.specs.declared.Kind4.TheVariants as Kinds
use Rattle.node_constraint.specs.declared.facet.Facet.{Facet}
use Rattle.shexj_reader.specs.ConstraintFaults.{ConstraintFault, FacetFault, IsNoKind, HasRefusedParts, NumberFault, PartsFault, PatternFault, alone, bad_bound, bad_count, bad_datatype, bad_facet, bad_flags, bad_kind, bad_parts, bad_pattern, bad_values, count_keys, in_pattern, no_number, not_plain, on_floats, other_number, range_keys, refused, small_count, unknown_key}
use Rattle.shexj_reader.specs.Constraints.{IsConstraint, IsKindWord, bound, count, facets_of, kind_word, patterned, small, with_flags}
use Rattle.shexj_reader.specs.Faults.{Fault}
use Rattle.shexj_reader.specs.Keys.{text, text_if_any, word}
use Rattle.shexj_reader.proofs.FacetLists.{values_there}
use Rattle.shexj_reader.proofs.KeyLaws.{known_keys, no_plain_fault, same_bytes}
use Rattle.shexj_reader.proofs.ValueLaws.{no_value_set_fault, value_set_is_one}

-- ---- one constraint

-- the kind of a word
kind_of : List ℕ → Option Kind4
kind_of w =
    if bytes_eq w (codes "iri") then Some Kinds.Iri
    else (if bytes_eq w (codes "bnode") then Some Kinds.Bnode
    else (if bytes_eq w (codes "nonliteral") then Some Kinds.NonLiteral
    else (if bytes_eq w (codes "literal") then Some Kinds.Literal else None)))

kind_back : (kind : Kind4) → kind_of (kind_word kind) ≡ Some kind
unfolding kind_of
kind_back Kinds.Iri = refl
kind_back Kinds.Bnode = refl
kind_back Kinds.NonLiteral = refl
kind_back Kinds.Literal = refl

kind_is_one : (a b : Option Kind4) (o : Option Data) → IsKindWord a o → IsKindWord b o → a ≡ b
kind_is_one None None o p q = refl
kind_is_one None (Some l) o p q = let none : word o ≡ None = ap word p in cc
kind_is_one (Some k) None o p q = let none : word o ≡ None = ap word q in cc
kind_is_one (Some k) (Some l) o p q =
    let same : kind_word k ≡ kind_word l = cc in sym (kind_back k) ∙ (ap kind_of same ∙ kind_back l)

one : {A : Type 0} (o : Option A) (a b : A) → o ≡ Some a → o ≡ Some b → a ≡ b
one o a b p q = cc

pub constraint_is_one : (keys : List (List ℕ)) (a b : Constraint) (d : Data) → IsConstraint keys a d → IsConstraint keys b d → a ≡ b
constraint_is_one keys a b d p q =
    let kind = kind_is_one a.kind b.kind (get (codes "nodeKind") d) p.kind q.kind in
    let datatype = one (text_if_any (get (codes "datatype") d)) a.datatype b.datatype p.datatype q.datatype in
    let facets = one (facets_of d) a.facets b.facets p.facets q.facets in
    let values = value_set_is_one a.values b.values (get (codes "values") d) p.values q.values in
    λ i. record { kind = kind i; datatype = datatype i; facets = facets i; values = values i }

-- ---- no fault

no_kind_fault : (kind : Option Kind4) (f : Fault) (d : Data) → IsNoKind f d → IsKindWord kind (get (codes "nodeKind") d) → ⊥
no_kind_fault None f d fault h = fault.there h
no_kind_fault (Some kind) f d fault h = fault.other kind h

-- what holds of each key holds of one that is listed
by_step : (P : List ℕ → Type 0) (name key : List ℕ) (more : Bool) → P key → (more ≡ true → P name) → (b : Bool) → bytes_eq name key ≡ b → (b || more) ≡ true → P name
by_step P name key more own rest true e h = subst P (sym (same_bytes name key e)) own
by_step P name key more own rest false e h = rest h

by_key : (P : List ℕ → Type 0) (name : List ℕ) (keys : List (List ℕ)) → AllByRecursion P keys → list_any (bytes_eq name) keys ≡ true → P name
by_key P name [] all h = absurd (cc)
by_key P name (key ∷ keys) all h = by_step P name key (list_any (bytes_eq name) keys) all.0 (by_key P name keys all.1) (bytes_eq name key) refl h

-- a value that is there is read under each such key
through : {A B : Type 0} (g : A → B) (o : Option A) → option_map g o ≢ None → o ≢ None
through g o h e = h (ap (option_map g) e)

counts : (d : Data) (facets : List Facet) → facets_of d ≡ Some facets → AllByRecursion (λ key. count (get key d) ≢ None) count_keys
counts d facets e =
    let all = values_there d facets e in
    (through _ _ all.0, (through _ _ all.1.0, (through _ _ all.1.1.0, (through _ _ all.1.1.1.1.1.1.1.1.0, (through _ _ all.1.1.1.1.1.1.1.1.1.0, tt)))))

bounds : (d : Data) (facets : List Facet) → facets_of d ≡ Some facets → AllByRecursion (λ key. bound (get key d) ≢ None) range_keys
bounds d facets e =
    let all = values_there d facets e in
    (through _ _ all.1.1.1.1.0, (through _ _ all.1.1.1.1.1.0, (through _ _ all.1.1.1.1.1.1.0, (through _ _ all.1.1.1.1.1.1.1.0, tt))))

-- ---- a number that is not wanted is not read

no_count : (v : Data) → as_number v ≡ None → count (Some v) ≡ None
no_count v e = ap (λ (n : Option Num). option_map (λ (k : ℕ). Some k) (option_and_then small (option_and_then as_u64 n))) e

other_count : (v : Data) (n : Num) → as_number v ≡ Some n → small_count n ≡ None → count (Some v) ≡ None
other_count v n e none =
    ap (λ (n : Option Num). option_map (λ (k : ℕ). Some k) (option_and_then small (option_and_then as_u64 n))) e
    ∙ ap (λ (o : Option ℕ). option_map (λ (k : ℕ). Some k) o) none

no_bound : (v : Data) → as_number v ≡ None → bound (Some v) ≡ None
no_bound v e = ap (λ (n : Option Num). option_map (λ z. Some (signed_decimal z)) (option_and_then as_integer n)) e

other_bound : (v : Data) (n : Num) → as_number v ≡ Some n → as_integer n ≡ None → bound (Some v) ≡ None
other_bound v n e none =
    ap (λ (n : Option Num). option_map (λ z. Some (signed_decimal z)) (option_and_then as_integer n)) e
    ∙ ap (λ (o : Option ℤ). option_map (λ z. Some (signed_decimal z)) o) none

no_count_fault : (facets : List Facet) (f : Fault) (d : Data) → NumberFault count_keys small_count f d → facets_of d ≡ Some facets → ⊥
no_count_fault facets f d (no_number h) e =
    by_key (λ key. count (get key d) ≢ None) h.name count_keys (counts d facets e) h.listed (ap count h.there ∙ no_count h.value h.wrong)
no_count_fault facets f d (other_number h) e =
    by_key (λ key. count (get key d) ≢ None) h.name count_keys (counts d facets e) h.listed (ap count h.there ∙ other_count h.value h.number h.has h.wrong)

no_bound_fault : (facets : List Facet) (f : Fault) (d : Data) → NumberFault range_keys as_integer f d → facets_of d ≡ Some facets → ⊥
no_bound_fault facets f d (no_number h) e =
    by_key (λ key. bound (get key d) ≢ None) h.name range_keys (bounds d facets e) h.listed (ap bound h.there ∙ no_bound h.value h.wrong)
no_bound_fault facets f d (other_number h) e =
    by_key (λ key. bound (get key d) ≢ None) h.name range_keys (bounds d facets e) h.listed (ap bound h.there ∙ other_bound h.value h.number h.has h.wrong)

-- ---- a pattern that is read, and its flags

there_of : {A B : Type 0} (g : A → Option B) (o : Option A) → o ≡ None → option_and_then g o ≡ None
there_of g o e = ap (option_and_then g) e

flags_there : (p q : Option (Option (List ℕ))) → q ≡ None → option_and_then (λ pattern. option_and_then (with_flags pattern) q) p ≡ None
flags_there None q e = refl
flags_there (Some p) q e = ap (option_and_then (with_flags p)) e

no_alone : (o : Option Data) → o ≢ None → option_and_then (with_flags None) (text_if_any o) ≡ None
no_alone None some = absurd (some refl)
no_alone (Some d) some = in_text (text (Some d))
  where
    in_text : (t : Option (List ℕ)) → option_and_then (with_flags None) (option_map (λ (x : List ℕ). Some x) t) ≡ None
    in_text None = refl
    in_text (Some t) = refl

alone_is_none : (d : Data) → get (codes "pattern") d ≡ None → get (codes "flags") d ≢ None → patterned d ≡ None
alone_is_none d none some =
    ap (λ (o : Option Data). option_and_then (λ pattern. option_and_then (with_flags pattern) (text_if_any (get (codes "flags") d))) (text_if_any o)) none
    ∙ no_alone (get (codes "flags") d) some

pattern_there : (d : Data) (facets : List Facet) → facets_of d ≡ Some facets → patterned d ≢ None
pattern_there d facets e = let all = values_there d facets e in all.1.1.1.0

no_pattern_fault : (facets : List Facet) (f : Fault) (d : Data) → PatternFault f d → facets_of d ≡ Some facets → ⊥
no_pattern_fault facets f d (bad_pattern h) e = pattern_there d facets e (there_of _ (text_if_any (get (codes "pattern") d)) h.wrong)
no_pattern_fault facets f d (bad_flags h) e = pattern_there d facets e (flags_there (text_if_any (get (codes "pattern") d)) _ h.wrong)
no_pattern_fault facets f d (alone h) e = pattern_there d facets e (alone_is_none d h.no_pattern h.there)

no_facet_fault : (facets : List Facet) (f : Fault) (d : Data) → FacetFault f d → facets_of d ≡ Some facets → ⊥
no_facet_fault facets f d (bad_count h) e = no_count_fault facets f d h e
no_facet_fault facets f d (bad_bound h) e = no_bound_fault facets f d h e
no_facet_fault facets f d (in_pattern h) e = no_pattern_fault facets f d h e

no_parts_fault : (datatype : Option (List ℕ)) (facets : List Facet) (f : Fault) → PartsFault datatype facets f → IsSound datatype facets → ⊥
no_parts_fault datatype facets f (on_floats is h) sound = sound.no_float h
no_parts_fault datatype facets f (refused e is first h) sound = h sound

no_refusal : (datatype : Option (List ℕ)) (facets : List Facet) (f : Fault) (d : Data) → HasRefusedParts f d →
    text_if_any (get (codes "datatype") d) ≡ Some datatype → facets_of d ≡ Some facets → IsSound datatype facets → ⊥
no_refusal datatype facets f d h has_datatype has_facets sound =
    let same = one (text_if_any (get (codes "datatype") d)) datatype h.datatype has_datatype h.has_datatype in
    let alike = one (facets_of d) facets h.facets has_facets h.has_facets in
    no_parts_fault h.datatype h.facets f h.fault (subst (λ (t : Option (List ℕ)). IsSound t h.facets) same (subst (λ (fs : List Facet). IsSound datatype fs) alike sound))

pub no_constraint_fault : (keys : List (List ℕ)) (c : Constraint) (f : Fault) (d : Data) → ConstraintFault keys f d → IsConstraint keys c d → ⊥
no_constraint_fault keys c f d (unknown_key h) is = known_keys keys f d h is.object.only
no_constraint_fault keys c f d (bad_kind h) is = no_kind_fault c.kind f d h is.kind
no_constraint_fault keys c f d (bad_datatype h) is = let wrong = h.wrong in let right = is.datatype in cc
no_constraint_fault keys c f d (bad_facet h) is = no_facet_fault c.facets f d h is.facets
no_constraint_fault keys c f d (bad_values h) is = no_value_set_fault c.values f (get (codes "values") d) h is.values
no_constraint_fault keys c f d (not_plain h) is = no_plain_fault f d h is.plain
no_constraint_fault keys c f d (bad_parts h) is = no_refusal c.datatype c.facets f d h is.datatype is.facets is.sound
