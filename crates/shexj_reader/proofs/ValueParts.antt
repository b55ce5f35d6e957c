-- What is read of a value set, and the faults of its parts.
use Rattle.std.proofs.Common.{◌≡◌, ◌∙◌, ◌<◌, ◌+◌, ℕ, zero, suc, true, false, List, [], ◌∷◌, ◌++◌, arith, length, get_or, take, eqb, eqb-true, refl, sym, ap, subst}
use Rattle.std.specs.Prelude.{Option, Some, None, codes}
use Rattle.std.proofs.lemmas.List.{take_more}
use Rattle.serde_json.specs.Data.{Data, array, null, boolean, number, string, object, no_items, item}
use Rattle.serde_json.specs.Find.{as_array, as_str, get, get_item}
use Rattle.serde_json.specs.View.{items_view, view}
use Rattle.serde_json.specs.declared.value.Value.{Value}
use Rattle.value_sets.specs.declared.value.Except.{Except}
use Rattle.value_sets.specs.declared.value.Value.{Value as SetValue}
use Rattle.shexj_reader.specs.Faults.{Fault, form}
use Rattle.shexj_reader.specs.Keys.{is_empty_list, is_object, type_of, word}
use Rattle.shexj_reader.specs.ValueFaults.{RangeFault, RangeStemFault}
use Rattle.shexj_reader.specs.Values.{AreExclusions, HasExclusions, IsExclusion, IsRangeStem, SpellsValue, SpellsValues}
use Rattle.shexj_reader.proofs.Acts.{array_is}
use Rattle.shexj_reader.specs.declared.stems.StemKind.{StemKind}

-- a list that stands in a place
pub listed : (vs : List Value) (o : Option Data) (d : Data) → o ≡ Some d → Some (items_view vs) ≡ as_array d → o ≡ Some (array (items_view vs))
listed vs o d at list = at ∙ ap (λ (x : Data). Some x) (array_is d (items_view vs) list)

pub item_at : (vs : List Value) (i : ℕ) (v : Value) → i < length vs → v ≡ get_or vs i v → get_item i (items_view vs) ≡ Some (view v)
item_at [] i v lt is = absurd (omega arith)
item_at (w ∷ vs) zero v lt is = ap (λ (u : Value). Some (view u)) (sym is)
item_at (w ∷ vs) (suc i) v lt is = item_at vs i v (omega arith) is

-- the stem of a range that is no text and no object
pub stem_missed : (f : Fault) (o : Option Data) (d : Data) → o ≡ Some d → None ≡ as_str d → is_object d ≡ false → f ≡ form (codes "stem") → RangeStemFault f o
stem_missed f o d at none no_object is = RangeStemFault.no_stem d is at (ap word at ∙ sym none) no_object

exclusions_push : (kind : StemKind) (es : List Except) (vs : List Value) (e : Except) (v : Value) → AreExclusions kind es (items_view vs) →
    IsExclusion kind e (view v) → AreExclusions kind (es ++ e ∷ []) (items_view (vs ++ v ∷ []))
exclusions_push kind [] [] e v h s = (s, tt)
exclusions_push kind [] (w ∷ ws) e v h s = absurd h
exclusions_push kind (x ∷ es) [] e v h s = absurd h
exclusions_push kind (x ∷ es) (w ∷ ws) e v h s = (h.0, exclusions_push kind es ws e v h.1 s)

pub exclusions_more : (kind : StemKind) (es : List Except) (vs : List Value) (i : ℕ) (e : Except) (v : Value) → i < length vs → v ≡ get_or vs i v →
    AreExclusions kind es (items_view (take i vs)) → IsExclusion kind e (view v) → AreExclusions kind (es ++ e ∷ []) (items_view (take (i + 1) vs))
exclusions_more kind es vs i e v lt is h s =
    subst (λ (ws : List Value). AreExclusions kind (es ++ e ∷ []) (items_view ws)) (ap (λ (u : Value). take i vs ++ u ∷ []) is ∙ sym (take_more vs i v lt))
    (exclusions_push kind es (take i vs) e v h s)

values_push : (es : List SetValue) (vs : List Value) (e : SetValue) (v : Value) → SpellsValues es (items_view vs) → SpellsValue e (view v) → SpellsValues (es ++ e ∷ []) (items_view (vs ++ v ∷ []))
values_push [] [] e v h s = (s, tt)
values_push [] (w ∷ ws) e v h s = absurd h
values_push (x ∷ es) [] e v h s = absurd h
values_push (x ∷ es) (w ∷ ws) e v h s = (h.0, values_push es ws e v h.1 s)

pub values_more : (es : List SetValue) (vs : List Value) (i : ℕ) (e : SetValue) (v : Value) → i < length vs → v ≡ get_or vs i v →
    SpellsValues es (items_view (take i vs)) → SpellsValue e (view v) → SpellsValues (es ++ e ∷ []) (items_view (take (i + 1) vs))
values_more es vs i e v lt is h s =
    subst (λ (ws : List Value). SpellsValues (es ++ e ∷ []) (items_view ws)) (ap (λ (u : Value). take i vs ++ u ∷ []) is ∙ sym (take_more vs i v lt)) (values_push es (take i vs) e v h s)

record WildcardAt (o : Option Data) : Type 0 where
  wildcard : Data
  there : o ≡ Some wildcard
  type : type_of wildcard ≡ Some (codes "Wildcard")

-- a wildcard without exclusions
wildcard_there : (kind : StemKind) (o : Option Data) → IsRangeStem kind None o → WildcardAt o
wildcard_there kind None h = absurd h
wildcard_there kind (Some d) h = record { wildcard = d; there = refl; type = h.type }

list_empty : (kind : StemKind) (o : Option Data) → HasExclusions kind [] o → is_empty_list o ≡ true
list_empty kind None h = refl
list_empty kind (Some null) h = absurd h
list_empty kind (Some (boolean b)) h = absurd h
list_empty kind (Some (number n)) h = absurd h
list_empty kind (Some (string s)) h = absurd h
list_empty kind (Some (array no_items)) h = refl
list_empty kind (Some (array (item d ds))) h = absurd h
list_empty kind (Some (object ms)) h = absurd h

no_length : {A : Type 0} (xs : List A) → eqb (length xs) 0 ≡ true → xs ≡ []
no_length [] e = refl
no_length (x ∷ xs) e = let none : length (x ∷ xs) ≡ 0 = eqb-true (length (x ∷ xs)) 0 e in absurd (omega arith)

pub unlimited_range : (kind : StemKind) (f : Fault) (d : Data) (es : List Except) → IsRangeStem kind None (get (codes "stem") d) →
    HasExclusions kind es (get (codes "exclusions") d) → eqb (length es) 0 ≡ true → f ≡ form (codes "exclusions") → RangeFault kind f d
unlimited_range kind f d es stem listed none is =
    let w = wildcard_there kind _ stem in
    let none_listed : HasExclusions kind [] (get (codes "exclusions") d) = subst (λ (xs : List Except). HasExclusions kind xs (get (codes "exclusions") d)) (no_length es none) listed in
    RangeFault.unlimited w.wildcard is w.there w.type (list_empty kind _ none_listed)
