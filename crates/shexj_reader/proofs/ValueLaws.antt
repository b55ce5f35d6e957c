-- A JSON value stands for one value set at most, and where it stands for one, nothing in it is at fault.
use Rattle.std.proofs.Common.{◌≡◌, ◌≢◌, ◌∙◌, ℕ, zero, suc, Bool, true, false, List, [], ◌∷◌, refl, sym, ap, subst, map}
use Rattle.std.specs.Prelude.{Option, Some, None, codes, option_map, unwrap_or, if◌then◌else◌}
use Rattle.std.specs.Char.{to_ascii_lowercase}
use Rattle.std.specs.Str.{bytes_eq, chars}
use Rattle.std.proofs.lemmas.Slice.Eq.{bytes_eq-Decides}
use Rattle.rdf_terms.specs.Literals.{LiteralParts}
use Rattle.rdf_terms.specs.Vocabulary.{rdf_lang_string, xsd_string}
use Rattle.rdf_terms.specs.declared.terms.Term.TheVariants as Terms
use Rattle.serde_json.specs.Data.{Data, null, boolean, number, string, array, object, Items, no_items, item}
use Rattle.serde_json.specs.Find.{as_array, get, get_item}
use Rattle.value_sets.specs.Values.{ValueList}
use Rattle.value_sets.specs.declared.value.Except.{Except}
use Rattle.value_sets.specs.declared.value.Except.TheVariants.{Exact, Stem}
use Rattle.value_sets.specs.declared.value.Value.{Value}
use Rattle.value_sets.specs.declared.value.Value.TheVariants as Values
use Rattle.shexj_reader.specs.Faults.{Fault, IsUnknownKey}
use Rattle.shexj_reader.specs.Keys.{has_only, is_empty_list, is_object, text, text_if_any, type_of, word}
use Rattle.shexj_reader.specs.ValueFaults.{AreApart, ExclusionFault, ExclusionsFault, LanguageFault, LiteralFault, RangeFault, RangeStemFault, StemFault, ValueFault, ValueSetFault}
use Rattle.shexj_reader.specs.Values.{AreExclusions, HasExclusions, IsExclusion, IsLanguage, IsLiteral, IsOfLiteral, IsRange, IsRangeStem, IsStem, IsTyped, SpellsValue, SpellsValueSet, SpellsValues, range_type, stem_type, taken}
use Rattle.shexj_reader.specs.declared.stems.StemKind.{StemKind}
use Rattle.shexj_reader.specs.declared.stems.StemKind.TheVariants as Kinds
use Rattle.shexj_reader.proofs.KeyLaws.{differ, known_keys}

-- ---- texts and objects

-- what has a type is no text, and is an object
typed_no_text : (d : Data) (name : List ℕ) → type_of d ≡ Some name → word (Some d) ≡ None
typed_no_text null name e = refl
typed_no_text (boolean b) name e = refl
typed_no_text (number n) name e = refl
typed_no_text (string s) name e = cc
typed_no_text (array ds) name e = refl
typed_no_text (object ms) name e = refl

typed_object : (d : Data) (name : List ℕ) → type_of d ≡ Some name → is_object d ≡ true
typed_object null name e = cc
typed_object (boolean b) name e = cc
typed_object (number n) name e = cc
typed_object (string s) name e = cc
typed_object (array ds) name e = cc
typed_object (object ms) name e = refl

-- a text that is there, as it is taken
taken_text : (f : List ℕ → List ℕ) (o : Option (List ℕ)) (t : List ℕ) → option_map f o ≡ Some t → o ≡ None → ⊥
taken_text f o t e none = let none_taken : option_map f o ≡ None = ap (option_map f) none in cc

taken_word : (f : List ℕ → List ℕ) (o : Option (List ℕ)) (t : List ℕ) → option_map f (option_map chars o) ≡ Some t → o ≡ None → ⊥
taken_word f o t e none = taken_text f (option_map chars o) t e (ap (option_map chars) none)

-- a text has no type, and is no object
text_no_type : (f : List ℕ → List ℕ) (d : Data) (t name : List ℕ) → option_map f (text (Some d)) ≡ Some t → type_of d ≡ Some name → ⊥
text_no_type f d t name e typed = taken_word f (word (Some d)) t e (typed_no_text d name typed)

text_no_object : (f : List ℕ → List ℕ) (d : Data) (t : List ℕ) → option_map f (text (Some d)) ≡ Some t → is_object d ≡ true → ⊥
text_no_object f null t e h = cc
text_no_object f (boolean b) t e h = cc
text_no_object f (number n) t e h = cc
text_no_object f (string s) t e h = cc
text_no_object f (array ds) t e h = cc
text_no_object f (object ms) t e h = cc

-- an object with listed keys
only_object : (keys : List (List ℕ)) (d : Data) → has_only keys d ≡ true → is_object d ≡ true
only_object keys null e = cc
only_object keys (boolean b) e = cc
only_object keys (number n) e = cc
only_object keys (string s) e = cc
only_object keys (array ds) e = cc
only_object keys (object ms) e = refl

literal_object : (l : LiteralParts) (d : Data) → IsLiteral l d → is_object d ≡ true
literal_object l d h = only_object (codes "language" ∷ codes "type" ∷ codes "value" ∷ []) d h.only

object_no_text : (d : Data) → is_object d ≡ true → word (Some d) ≡ None
object_no_text null e = refl
object_no_text (boolean b) e = refl
object_no_text (number n) e = refl
object_no_text (string s) e = cc
object_no_text (array ds) e = refl
object_no_text (object ms) e = refl

-- ---- what a value stands for, as a function

abbrev stem_at : StemKind → Data → List ℕ
stem_at kind d = unwrap_or (option_map (taken kind) (text (get (codes "stem") d))) []

stem_is : (kind : StemKind) (s : List ℕ) (d : Data) → IsStem kind s d → s ≡ stem_at kind d
stem_is kind s d h = sym (ap (λ (o : Option (List ℕ)). unwrap_or o []) h.has_stem)

abbrev language_at : Data → List ℕ
language_at d = unwrap_or (option_map (map to_ascii_lowercase) (text (get (codes "languageTag") d))) []

language_is : (t : List ℕ) (d : Data) → IsLanguage t d → t ≡ language_at d
language_is t d h = sym (ap (λ (o : Option (List ℕ)). unwrap_or o []) h.has_tag)

-- what has a type is not taken as a text
none_taken : (kind : StemKind) (d : Data) (name : List ℕ) → type_of d ≡ Some name → option_map (taken kind) (text (Some d)) ≡ None
none_taken kind d name e = ap (λ (o : Option (List ℕ)). option_map (taken kind) (option_map chars o)) (typed_no_text d name e)

abbrev text_or : Option (List ℕ) → List ℕ → Except
text_or (Some t) stem = Exact t
text_or None stem = Stem stem

abbrev exclusion_at : StemKind → Data → Except
exclusion_at kind d = text_or (option_map (taken kind) (text (Some d))) (stem_at kind d)

exclusion_is : (kind : StemKind) (e : Except) (d : Data) → IsExclusion kind e d → e ≡ exclusion_at kind d
exclusion_is kind (Exact s) d h = sym (ap (λ (o : Option (List ℕ)). text_or o (stem_at kind d)) h)
exclusion_is kind (Stem s) d h =
    ap (λ (x : List ℕ). Stem x) (stem_is kind s d h)
    ∙ sym (ap (λ (o : Option (List ℕ)). text_or o (stem_at kind d)) (none_taken kind d (stem_type kind) h.object.type))

abbrev exclusions_at : StemKind → Items → List Except
exclusions_at kind no_items = []
exclusions_at kind (item d ds) = exclusion_at kind d ∷ exclusions_at kind ds

more_same : {A : Type 0} {x y : A} {xs ys : List A} → x ≡ y → xs ≡ ys → x ∷ xs ≡ y ∷ ys
more_same p q = cc

exclusions_is : (kind : StemKind) (es : List Except) (ds : Items) → AreExclusions kind es ds → es ≡ exclusions_at kind ds
exclusions_is kind [] no_items h = refl
exclusions_is kind (e ∷ es) no_items h = absurd h
exclusions_is kind [] (item d ds) h = absurd h
exclusions_is kind (e ∷ es) (item d ds) h = more_same (exclusion_is kind e d h.0) (exclusions_is kind es ds h.1)

abbrev listed_at : StemKind → Option Data → List Except
listed_at kind None = []
listed_at kind (Some (array ds)) = exclusions_at kind ds
listed_at kind (Some _) = []

listed_is : (kind : StemKind) (es : List Except) (o : Option Data) → HasExclusions kind es o → es ≡ listed_at kind o
listed_is kind es None h = h
listed_is kind es (Some null) h = absurd h
listed_is kind es (Some (boolean b)) h = absurd h
listed_is kind es (Some (number n)) h = absurd h
listed_is kind es (Some (string s)) h = absurd h
listed_is kind es (Some (array ds)) h = exclusions_is kind es ds h
listed_is kind es (Some (object ms)) h = absurd h

range_stem_is : (kind : StemKind) (s : Option (List ℕ)) (o : Option Data) → IsRangeStem kind s o → s ≡ option_map (taken kind) (text o)
range_stem_is kind s None h = absurd h
range_stem_is kind None (Some d) h = sym (none_taken kind d (codes "Wildcard") h.type)
range_stem_is kind (Some t) (Some d) h = sym h

abbrev range_stem_at : StemKind → Data → Option (List ℕ)
range_stem_at kind d = option_map (taken kind) (text (get (codes "stem") d))

abbrev range_list_at : StemKind → Data → List Except
range_list_at kind d = listed_at kind (get (codes "exclusions") d)

abbrev datatype_by : Option (List ℕ) → Option (List ℕ) → List ℕ
datatype_by None None = xsd_string
datatype_by (Some type) None = type
datatype_by type (Some tag) = rdf_lang_string

abbrev literal_by : List ℕ → Option (List ℕ) → Option (List ℕ) → LiteralParts
literal_by lex type tag = record { lex = lex; datatype = datatype_by type tag; lang = option_map (map to_ascii_lowercase) tag }

typed_is : (l : LiteralParts) (type tag : Option (List ℕ)) → IsTyped type tag l → l ≡ literal_by l.lex type tag
typed_is l None None h = λ i. record { lex = l.lex; datatype = h.0 i; lang = h.1 i }
typed_is l (Some type) None h = λ i. record { lex = l.lex; datatype = h.1.0 i; lang = h.1.1 i }
typed_is l None (Some tag) h = λ i. record { lex = l.lex; datatype = h.0 i; lang = h.1 i }
typed_is l (Some type) (Some tag) h = λ i. record { lex = l.lex; datatype = h.1.0 i; lang = h.1.1 i }

abbrev literal_at : Data → LiteralParts
literal_at d =
    literal_by (unwrap_or (text (get (codes "value") d)) []) (unwrap_or (text_if_any (get (codes "type") d)) None) (unwrap_or (text_if_any (get (codes "language") d)) None)

literal_is : (l : LiteralParts) (d : Data) → IsLiteral l d → l ≡ literal_at d
literal_is l d h =
    typed_is l h.type h.language h.typed
    ∙ sym (λ i. literal_by (unwrap_or (h.value i) []) (unwrap_or (h.has_type i) None) (unwrap_or (h.has_language i) None))

abbrev other_at : Option (List ℕ) → Data → Value
other_at (Some t) d = Values.Term (Terms.Iri t)
other_at None d = Values.Term (Terms.Lit (literal_at d))

abbrev value_by : Option (List ℕ) → Data → Value
value_by None d = other_at (text (Some d)) d
value_by (Some name) d =
    if bytes_eq name (codes "IriStem") then Values.IriStem (stem_at Kinds.Iri d) else
    if bytes_eq name (codes "LiteralStem") then Values.LitStem (stem_at Kinds.Literal d) else
    if bytes_eq name (codes "LanguageStem") then Values.LangStem (stem_at Kinds.Language d) else
    if bytes_eq name (codes "IriStemRange") then Values.IriRange (range_stem_at Kinds.Iri d) (range_list_at Kinds.Iri d) else
    if bytes_eq name (codes "LiteralStemRange") then Values.LitRange (range_stem_at Kinds.Literal d) (range_list_at Kinds.Literal d) else
    if bytes_eq name (codes "LanguageStemRange") then Values.LangRange (range_stem_at Kinds.Language d) (range_list_at Kinds.Language d) else
    if bytes_eq name (codes "Language") then Values.Lang (language_at d) else Values.Term (Terms.Lit (literal_at d))

-- a test that fails is passed
skip : {A : Type 0} (b : Bool) (x y z : A) → b ≡ false → y ≡ z → (if b then x else y) ≡ z
skip true x y z e h = cc
skip false x y z e h = h

apart : (a b : List ℕ) (o : Option (List ℕ)) → o ≡ Some a → o ≢ Some b → bytes_eq a b ≡ false
apart a b o is other = by (bytes_eq a b) refl
  where
    by : (t : Bool) → bytes_eq a b ≡ t → t ≡ false
    by true e = absurd (other (is ∙ ap (λ (x : List ℕ). Some x) ((bytes_eq-Decides a b).0 e)))
    by false e = refl

literal_by_type : (type : Option (List ℕ)) (d : Data) → IsOfLiteral type → word (Some d) ≡ None → value_by type d ≡ Values.Term (Terms.Lit (literal_at d))
literal_by_type None d other none = ap (λ (o : Option (List ℕ)). other_at (option_map chars o) d) none
literal_by_type (Some name) d other none =
    skip _ _ _ _ (apart name _ _ refl (other.no_stem Kinds.Iri))
    (skip _ _ _ _ (apart name _ _ refl (other.no_stem Kinds.Literal))
    (skip _ _ _ _ (apart name _ _ refl (other.no_stem Kinds.Language))
    (skip _ _ _ _ (apart name _ _ refl (other.no_range Kinds.Iri))
    (skip _ _ _ _ (apart name _ _ refl (other.no_range Kinds.Literal))
    (skip _ _ _ _ (apart name _ _ refl (other.no_range Kinds.Language))
    (skip _ _ _ _ (apart name _ _ refl other.no_language) refl))))))

text_type : (d : Data) (t : List ℕ) → text (Some d) ≡ Some t → type_of d ≡ None
text_type null t e = refl
text_type (boolean b) t e = refl
text_type (number n) t e = refl
text_type (string s) t e = refl
text_type (array ds) t e = refl
text_type (object ms) t e = cc

abbrev value_at : Data → Value
value_at d = value_by (type_of d) d

by_type : (d : Data) (type : Option (List ℕ)) (v : Value) → type_of d ≡ type → v ≡ value_by type d → v ≡ value_at d
by_type d type v e h = h ∙ sym (ap (λ (o : Option (List ℕ)). value_by o d) e)

value_is : (v : Value) (d : Data) → SpellsValue v d → v ≡ value_at d
value_is (Values.Term (Terms.Iri t)) d h = by_type d None _ (text_type d t h) (sym (ap (λ (o : Option (List ℕ)). other_at o d) h))
value_is (Values.Term (Terms.Blank name)) d h = absurd h
value_is (Values.Term (Terms.Lit l)) d h =
    ap (λ (x : LiteralParts). Values.Term (Terms.Lit x)) (literal_is l d h) ∙ sym (literal_by_type (type_of d) d h.other (object_no_text d (literal_object l d h)))
value_is (Values.IriStem s) d h = by_type d _ _ h.object.type (ap (λ (x : List ℕ). Values.IriStem x) (stem_is Kinds.Iri s d h))
value_is (Values.LitStem s) d h = by_type d _ _ h.object.type (ap (λ (x : List ℕ). Values.LitStem x) (stem_is Kinds.Literal s d h))
value_is (Values.LangStem s) d h = by_type d _ _ h.object.type (ap (λ (x : List ℕ). Values.LangStem x) (stem_is Kinds.Language s d h))
value_is (Values.Lang t) d h = by_type d _ _ h.object.type (ap (λ (x : List ℕ). Values.Lang x) (language_is t d h))
value_is (Values.IriRange s es) d h =
    by_type d _ _ h.object.type (λ i. Values.IriRange (range_stem_is Kinds.Iri s _ h.has_stem i) (listed_is Kinds.Iri es _ h.exclusions i))
value_is (Values.LitRange s es) d h =
    by_type d _ _ h.object.type (λ i. Values.LitRange (range_stem_is Kinds.Literal s _ h.has_stem i) (listed_is Kinds.Literal es _ h.exclusions i))
value_is (Values.LangRange s es) d h =
    by_type d _ _ h.object.type (λ i. Values.LangRange (range_stem_is Kinds.Language s _ h.has_stem i) (listed_is Kinds.Language es _ h.exclusions i))

values_one : (vs ws : List Value) (ds : Items) → SpellsValues vs ds → SpellsValues ws ds → vs ≡ ws
values_one [] [] no_items h k = refl
values_one [] (w ∷ ws) no_items h k = absurd k
values_one (v ∷ vs) ws no_items h k = absurd h
values_one [] ws (item d ds) h k = absurd h
values_one (v ∷ vs) [] (item d ds) h k = absurd k
values_one (v ∷ vs) (w ∷ ws) (item d ds) h k = more_same (value_is v d h.0 ∙ sym (value_is w d k.0)) (values_one vs ws ds h.1 k.1)

pub value_set_is_one : (s t : Option ValueList) (o : Option Data) → SpellsValueSet s o → SpellsValueSet t o → s ≡ t
value_set_is_one None None None h k = refl
value_set_is_one None (Some ws) None h k = absurd k
value_set_is_one (Some vs) t None h k = absurd h
value_set_is_one None t (Some d) h k = absurd h
value_set_is_one (Some vs) None (Some d) h k = absurd k
value_set_is_one (Some vs) (Some ws) (Some null) h k = absurd h
value_set_is_one (Some vs) (Some ws) (Some (boolean b)) h k = absurd h
value_set_is_one (Some vs) (Some ws) (Some (number n)) h k = absurd h
value_set_is_one (Some vs) (Some ws) (Some (string s)) h k = absurd h
value_set_is_one (Some vs) (Some ws) (Some (array ds)) h k = ap (λ (x : ValueList). Some x) (values_one vs ws ds h k)
value_set_is_one (Some vs) (Some ws) (Some (object ms)) h k = absurd h

-- ---- where something is spelled, no fault stands

no_stem_fault : (kind : StemKind) (s : List ℕ) (f : Fault) (d : Data) → StemFault f d → IsStem kind s d → ⊥
no_stem_fault kind s f d (StemFault.unknown_key u) h = known_keys _ f d u h.object.only
no_stem_fault kind s f d (StemFault.bad_stem bad) h = taken_text (taken kind) _ s h.has_stem bad.wrong

no_language_fault : (t : List ℕ) (f : Fault) (d : Data) → LanguageFault f d → IsLanguage t d → ⊥
no_language_fault t f d (LanguageFault.unknown_key u) h = known_keys _ f d u h.object.only
no_language_fault t f d (LanguageFault.bad_tag bad) h = taken_text (map to_ascii_lowercase) _ t h.has_tag bad.wrong

apart_typed : (type tag : Option (List ℕ)) (l : LiteralParts) → AreApart type tag → IsTyped type tag l → ⊥
apart_typed None tag l a h = absurd a
apart_typed (Some type) None l a h = h.0 a
apart_typed (Some type) (Some tag) l a h = a h.0

no_literal_fault : (l : LiteralParts) (f : Fault) (d : Data) → LiteralFault f d → IsLiteral l d → ⊥
no_literal_fault l f d (LiteralFault.bad_type bad) h = let own = h.has_type in let wrong = bad.wrong in cc
no_literal_fault l f d (LiteralFault.unknown_key u) h = known_keys _ f d u h.only
no_literal_fault l f d (LiteralFault.bad_value bad) h = let own = h.value in let wrong = bad.wrong in cc
no_literal_fault l f d (LiteralFault.bad_language bad) h = let own = h.has_language in let wrong = bad.wrong in cc
no_literal_fault l f d (LiteralFault.mistyped type tag is has_type has_tag a) h =
    let own_type = h.has_type in let own_tag = h.has_language in
    let types : h.type ≡ type = cc in let tags : h.language ≡ tag = cc in
    apart_typed type tag l a (subst (λ (x : Option (List ℕ)). IsTyped type x l) tags (subst (λ (x : Option (List ℕ)). IsTyped x h.language l) types h.typed))

no_range_stem : (kind : StemKind) (s : Option (List ℕ)) (d : Data) → IsRangeStem kind s (Some d) → word (Some d) ≡ None → is_object d ≡ false → ⊥
no_range_stem kind None d h no_word no_object = let is = typed_object d _ h.type in cc
no_range_stem kind (Some t) d h no_word no_object = taken_word (taken kind) _ t h no_word

no_wildcard : (kind : StemKind) (s : Option (List ℕ)) (d : Data) → IsRangeStem kind s (Some d) → is_object d ≡ true → type_of d ≢ Some (codes "Wildcard") → ⊥
no_wildcard kind None d h is other = other h.type
no_wildcard kind (Some t) d h is other = text_no_object (taken kind) d t h is

known_stem : (kind : StemKind) (s : Option (List ℕ)) (f : Fault) (d : Data) → IsRangeStem kind s (Some d) → type_of d ≡ Some (codes "Wildcard") → IsUnknownKey (codes "type" ∷ []) f d → ⊥
known_stem kind None f d h type u = known_keys _ f d u h.only
known_stem kind (Some t) f d h type u = text_no_type (taken kind) d t _ h type

no_range_stem_fault : (kind : StemKind) (s : Option (List ℕ)) (f : Fault) (o : Option Data) → RangeStemFault f o → IsRangeStem kind s o → ⊥
no_range_stem_fault kind s f o (RangeStemFault.missing is none) h = subst (IsRangeStem kind s) none h
no_range_stem_fault kind s f o (RangeStemFault.no_stem d is at no_word no_object) h =
    no_range_stem kind s d (subst (IsRangeStem kind s) at h) (sym (ap word at) ∙ no_word) no_object
no_range_stem_fault kind s f o (RangeStemFault.no_wildcard d is at obj other) h = no_wildcard kind s d (subst (IsRangeStem kind s) at h) obj other
no_range_stem_fault kind s f o (RangeStemFault.unknown_key d at type u) h = known_stem kind s f d (subst (IsRangeStem kind s) at h) type u

no_exclusion_fault : (kind : StemKind) (e : Except) (f : Fault) (d : Data) → ExclusionFault kind f d → IsExclusion kind e d → ⊥
no_exclusion_fault kind (Exact t) f d (ExclusionFault.no_exclusion is no_word no_object) h = taken_word (taken kind) _ t h no_word
no_exclusion_fault kind (Stem t) f d (ExclusionFault.no_exclusion is no_word no_object) h = let obj = typed_object d _ h.object.type in cc
no_exclusion_fault kind (Exact t) f d (ExclusionFault.other_type is obj other) h = text_no_object (taken kind) d t h obj
no_exclusion_fault kind (Stem t) f d (ExclusionFault.other_type is obj other) h = other h.object.type
no_exclusion_fault kind (Exact t) f d (ExclusionFault.bad_stem type fault) h = text_no_type (taken kind) d t _ h type
no_exclusion_fault kind (Stem t) f d (ExclusionFault.bad_stem type fault) h = no_stem_fault kind t f d fault h

record IsExclusionAt (kind : StemKind) (d : Data) : Type 0 where
  exclusion : Except
  spelled : IsExclusion kind exclusion d

exclusion_there : (kind : StemKind) (es : List Except) (ds : Items) (k : ℕ) (v : Data) → AreExclusions kind es ds → get_item k ds ≡ Some v → IsExclusionAt kind v
exclusion_there kind [] no_items k v h e = cc
exclusion_there kind [] (item d ds) k v h e = absurd h
exclusion_there kind (x ∷ es) no_items k v h e = absurd h
exclusion_there kind (x ∷ es) (item d ds) zero v h e = let same : d ≡ v = cc in record { exclusion = x; spelled = subst (IsExclusion kind x) same h.0 }
exclusion_there kind (x ∷ es) (item d ds) (suc k) v h e = exclusion_there kind es ds k v h.1 e

no_list_of_exclusions : (kind : StemKind) (es : List Except) (d : Data) → as_array d ≡ None → HasExclusions kind es (Some d) → ⊥
no_list_of_exclusions kind es null e h = absurd h
no_list_of_exclusions kind es (boolean b) e h = absurd h
no_list_of_exclusions kind es (number n) e h = absurd h
no_list_of_exclusions kind es (string s) e h = absurd h
no_list_of_exclusions kind es (array ds) e h = cc
no_list_of_exclusions kind es (object ms) e h = absurd h

no_exclusions_fault : (kind : StemKind) (es : List Except) (f : Fault) (o : Option Data) → ExclusionsFault kind f o → HasExclusions kind es o → ⊥
no_exclusions_fault kind es f o (ExclusionsFault.no_list d is at none) h = no_list_of_exclusions kind es d none (subst (HasExclusions kind es) at h)
no_exclusions_fault kind es f o (ExclusionsFault.bad_item ds k v at there fault) h =
    let own = exclusion_there kind es ds k v (subst (HasExclusions kind es) at h) there in
    no_exclusion_fault kind own.exclusion f v fault own.spelled

wildcard_is : (kind : StemKind) (s : Option (List ℕ)) (d : Data) → IsRangeStem kind s (Some d) → type_of d ≡ Some (codes "Wildcard") → s ≡ None
wildcard_is kind None d h type = refl
wildcard_is kind (Some t) d h type = absurd (text_no_type (taken kind) d t _ h type)

none_excluded : (kind : StemKind) (es : List Except) (o : Option Data) → HasExclusions kind es o → is_empty_list o ≡ true → es ≡ []
none_excluded kind es None h e = h
none_excluded kind es (Some null) h e = absurd h
none_excluded kind es (Some (boolean b)) h e = absurd h
none_excluded kind es (Some (number n)) h e = absurd h
none_excluded kind es (Some (string s)) h e = absurd h
none_excluded kind [] (Some (array no_items)) h e = refl
none_excluded kind (x ∷ es) (Some (array no_items)) h e = absurd h
none_excluded kind es (Some (array (item d ds))) h e = cc
none_excluded kind es (Some (object ms)) h e = absurd h

no_range_fault : (kind : StemKind) (s : Option (List ℕ)) (es : List Except) (f : Fault) (d : Data) → RangeFault kind f d → IsRange kind s es d → ⊥
no_range_fault kind s es f d (RangeFault.unknown_key u) h = known_keys _ f d u h.object.only
no_range_fault kind s es f d (RangeFault.bad_stem fault) h = no_range_stem_fault kind s f _ fault h.has_stem
no_range_fault kind s es f d (RangeFault.bad_exclusions fault) h = no_exclusions_fault kind es f _ fault h.exclusions
no_range_fault kind s es f d (RangeFault.unlimited w is at wild empty) h =
    h.limited (wildcard_is kind s w (subst (IsRangeStem kind s) at h.has_stem) wild) (none_excluded kind es _ h.exclusions empty)

-- an object of no other form than these
data Spelled (d : Data) : Type 0 where
  iri : (t : List ℕ) → text (Some d) ≡ Some t → Spelled d
  literal : (l : LiteralParts) → IsLiteral l d → Spelled d
  stem : (kind : StemKind) (s : List ℕ) → IsStem kind s d → Spelled d
  language : (t : List ℕ) → IsLanguage t d → Spelled d
  range : (kind : StemKind) (s : Option (List ℕ)) (es : List Except) → IsRange kind s es d → Spelled d

spelled : (v : Value) (d : Data) → SpellsValue v d → Spelled d
spelled (Values.Term (Terms.Iri t)) d h = iri t h
spelled (Values.Term (Terms.Blank name)) d h = absurd h
spelled (Values.Term (Terms.Lit l)) d h = literal l h
spelled (Values.IriStem s) d h = stem Kinds.Iri s h
spelled (Values.LitStem s) d h = stem Kinds.Literal s h
spelled (Values.LangStem s) d h = stem Kinds.Language s h
spelled (Values.Lang t) d h = language t h
spelled (Values.IriRange s es) d h = range Kinds.Iri s es h
spelled (Values.LitRange s es) d h = range Kinds.Literal s es h
spelled (Values.LangRange s es) d h = range Kinds.Language s es h

-- types are told apart
stems_no_ranges : (a b : StemKind) → bytes_eq (stem_type a) (range_type b) ≡ false
stems_no_ranges Kinds.Iri Kinds.Iri = refl
stems_no_ranges Kinds.Iri Kinds.Literal = refl
stems_no_ranges Kinds.Iri Kinds.Language = refl
stems_no_ranges Kinds.Literal Kinds.Iri = refl
stems_no_ranges Kinds.Literal Kinds.Literal = refl
stems_no_ranges Kinds.Literal Kinds.Language = refl
stems_no_ranges Kinds.Language Kinds.Iri = refl
stems_no_ranges Kinds.Language Kinds.Literal = refl
stems_no_ranges Kinds.Language Kinds.Language = refl

stems_no_language : (a : StemKind) → bytes_eq (stem_type a) (codes "Language") ≡ false
stems_no_language Kinds.Iri = refl
stems_no_language Kinds.Literal = refl
stems_no_language Kinds.Language = refl

ranges_no_language : (a : StemKind) → bytes_eq (range_type a) (codes "Language") ≡ false
ranges_no_language Kinds.Iri = refl
ranges_no_language Kinds.Literal = refl
ranges_no_language Kinds.Language = refl

stems_no_wildcard : (a : StemKind) → bytes_eq (stem_type a) (codes "Wildcard") ≡ false
stems_no_wildcard Kinds.Iri = refl
stems_no_wildcard Kinds.Literal = refl
stems_no_wildcard Kinds.Language = refl

ranges_no_wildcard : (a : StemKind) → bytes_eq (range_type a) (codes "Wildcard") ≡ false
ranges_no_wildcard Kinds.Iri = refl
ranges_no_wildcard Kinds.Literal = refl
ranges_no_wildcard Kinds.Language = refl

two_types : (a b : List ℕ) (o : Option (List ℕ)) → bytes_eq a b ≡ false → o ≡ Some a → o ≡ Some b → ⊥
two_types a b o e p q = differ a b e (sym p ∙ q)

one_kind : (a b : StemKind) → Some (range_type a) ≡ Some (range_type b) → a ≡ b
one_kind Kinds.Iri Kinds.Iri e = refl
one_kind Kinds.Iri Kinds.Literal e = absurd (differ _ _ refl e)
one_kind Kinds.Iri Kinds.Language e = absurd (differ _ _ refl e)
one_kind Kinds.Literal Kinds.Iri e = absurd (differ _ _ refl e)
one_kind Kinds.Literal Kinds.Literal e = refl
one_kind Kinds.Literal Kinds.Language e = absurd (differ _ _ refl e)
one_kind Kinds.Language Kinds.Iri e = absurd (differ _ _ refl e)
one_kind Kinds.Language Kinds.Literal e = absurd (differ _ _ refl e)
one_kind Kinds.Language Kinds.Language e = refl

iri_no_type : (d : Data) (t name : List ℕ) → text (Some d) ≡ Some t → type_of d ≡ Some name → ⊥
iri_no_type d t name e typed = let none = text_type d t e in cc

iri_no_object : (d : Data) (t : List ℕ) → text (Some d) ≡ Some t → is_object d ≡ true → ⊥
iri_no_object d t e is = let none : text (Some d) ≡ None = ap (option_map chars) (object_no_text d is) in cc

no_form : (d : Data) → Spelled d → word (Some d) ≡ None → is_object d ≡ false → ⊥
no_form d (iri t h) none no_object = let no_text : text (Some d) ≡ None = ap (option_map chars) none in cc
no_form d (literal l h) none no_object = let is = literal_object l d h in cc
no_form d (stem kind s h) none no_object = let is = typed_object d _ h.object.type in cc
no_form d (language t h) none no_object = let is = typed_object d _ h.object.type in cc
no_form d (range kind s es h) none no_object = let is = typed_object d _ h.object.type in cc

no_fault : (f : Fault) (d : Data) → ValueFault f d → Spelled d → ⊥
no_fault f d (ValueFault.no_value is none no_object) h = no_form d h none no_object
no_fault f d (ValueFault.wildcard is type) (iri t h) = iri_no_type d t _ h type
no_fault f d (ValueFault.wildcard is type) (literal l h) = h.other.no_wildcard type
no_fault f d (ValueFault.wildcard is type) (stem kind s h) = two_types _ _ _ (stems_no_wildcard kind) h.object.type type
no_fault f d (ValueFault.wildcard is type) (language t h) = two_types (codes "Language") (codes "Wildcard") _ refl h.object.type type
no_fault f d (ValueFault.wildcard is type) (range kind s es h) = two_types _ _ _ (ranges_no_wildcard kind) h.object.type type
no_fault f d (ValueFault.in_literal is other fault) (iri t h) = iri_no_object d t h is
no_fault f d (ValueFault.in_literal is other fault) (literal l h) = no_literal_fault l f d fault h
no_fault f d (ValueFault.in_literal is other fault) (stem kind s h) = other.no_stem kind h.object.type
no_fault f d (ValueFault.in_literal is other fault) (language t h) = other.no_language h.object.type
no_fault f d (ValueFault.in_literal is other fault) (range kind s es h) = other.no_range kind h.object.type
no_fault f d (ValueFault.in_stem kind type fault) (iri t h) = iri_no_type d t _ h type
no_fault f d (ValueFault.in_stem kind type fault) (literal l h) = h.other.no_stem kind type
no_fault f d (ValueFault.in_stem kind type fault) (stem own s h) = no_stem_fault own s f d fault h
no_fault f d (ValueFault.in_stem kind type fault) (language t h) = two_types _ _ _ (stems_no_language kind) type h.object.type
no_fault f d (ValueFault.in_stem kind type fault) (range own s es h) = two_types _ _ _ (stems_no_ranges kind own) type h.object.type
no_fault f d (ValueFault.in_language type fault) (iri t h) = iri_no_type d t _ h type
no_fault f d (ValueFault.in_language type fault) (literal l h) = h.other.no_language type
no_fault f d (ValueFault.in_language type fault) (stem own s h) = two_types _ _ _ (stems_no_language own) h.object.type type
no_fault f d (ValueFault.in_language type fault) (language t h) = no_language_fault t f d fault h
no_fault f d (ValueFault.in_language type fault) (range own s es h) = two_types _ _ _ (ranges_no_language own) h.object.type type
no_fault f d (ValueFault.in_range kind type fault) (iri t h) = iri_no_type d t _ h type
no_fault f d (ValueFault.in_range kind type fault) (literal l h) = h.other.no_range kind type
no_fault f d (ValueFault.in_range kind type fault) (stem own s h) = two_types _ _ _ (stems_no_ranges own kind) h.object.type type
no_fault f d (ValueFault.in_range kind type fault) (language t h) = two_types _ _ _ (ranges_no_language kind) type h.object.type
no_fault f d (ValueFault.in_range kind type fault) (range own s es h) =
    no_range_fault own s es f d (subst (λ (k : StemKind). RangeFault k f d) (one_kind kind own (sym type ∙ h.object.type)) fault) h

record IsValueAt (d : Data) : Type 0 where
  value : Value
  spelled : SpellsValue value d

value_there : (vs : List Value) (ds : Items) (k : ℕ) (d : Data) → SpellsValues vs ds → get_item k ds ≡ Some d → IsValueAt d
value_there [] no_items k v h e = cc
value_there [] (item d ds) k v h e = absurd h
value_there (x ∷ vs) no_items k v h e = absurd h
value_there (x ∷ vs) (item d ds) zero v h e = let same : d ≡ v = cc in record { value = x; spelled = subst (SpellsValue x) same h.0 }
value_there (x ∷ vs) (item d ds) (suc k) v h e = value_there vs ds k v h.1 e

no_list_of_values : (s : Option ValueList) (d : Data) → as_array d ≡ None → SpellsValueSet s (Some d) → ⊥
no_list_of_values None d e h = absurd h
no_list_of_values (Some vs) null e h = absurd h
no_list_of_values (Some vs) (boolean b) e h = absurd h
no_list_of_values (Some vs) (number n) e h = absurd h
no_list_of_values (Some vs) (string s) e h = absurd h
no_list_of_values (Some vs) (array ds) e h = cc
no_list_of_values (Some vs) (object ms) e h = absurd h

no_item_fault : (s : Option ValueList) (f : Fault) (ds : Items) (k : ℕ) (v : Data) → get_item k ds ≡ Some v → ValueFault f v → SpellsValueSet s (Some (array ds)) → ⊥
no_item_fault None f ds k v there fault h = absurd h
no_item_fault (Some vs) f ds k v there fault h = let own = value_there vs ds k v h there in no_fault f v fault (spelled own.value v own.spelled)

pub no_value_set_fault : (s : Option ValueList) (f : Fault) (o : Option Data) → ValueSetFault f o → SpellsValueSet s o → ⊥
no_value_set_fault s f o (ValueSetFault.no_list d is at none) h = no_list_of_values s d none (subst (SpellsValueSet s) at h)
no_value_set_fault s f o (ValueSetFault.bad_item ds k v at there fault) h = no_item_fault s f ds k v there fault (subst (SpellsValueSet s) at h)
