-- The parts of a document that a JSON value with texts of UTF-8 spells are those that the types of a program allow.
use Rattle.std.proofs.Common.{◌≡◌, ◌≢◌, ◌∙◌, ap, refl, sym, subst, ℕ, zero, suc, ◌<◌, ◌^◌, arith, Bool, true, false, true≢false, List, [], ◌∷◌, ◌++◌, length, map, cond, drop, nat_eq, inl, inr}
use Rattle.std.proofs.lemmas.Bool.Decides.{nat_tests}
use Rattle.std.proofs.lemmas.Str.{scalars-chars}
use Rattle.std.specs.Char.{to_ascii_lowercase}
use Rattle.std.specs.List.{AllByRecursion, starts_with}
use Rattle.std.specs.Prelude.{◌&&◌, IfSome, IsSome, Option, Some, None, codes, if◌then◌else◌, is_some, nat_lt, negsuc, option_map, option_and_then, pos, unwrap_or}
use Rattle.std.specs.Str.{all_scalars, bytes_eq, chars}
use lib.Utf8.{scalar}
use Rattle.serde_json.specs.Data.{Data, null, boolean, number, string, array, object, Items, no_items, item, Num, unsigned, negative, float}
use Rattle.serde_json.specs.Find.{as_number, as_u64, get}
use Rattle.rdf_terms.specs.Literals.{IsLowered, LiteralParts}
use Rattle.rdf_terms.specs.Literals as Literals
use Rattle.rdf_terms.specs.Vocabulary.{rdf_lang_string, xsd_string}
use Rattle.rdf_terms.specs.declared.terms.Term.TheVariants as Terms
use Rattle.rdf_terms.proofs.Characters.{lowered}
use Rattle.tally.specs.declared.Bound.{Bound}
use Rattle.tally.specs.declared.Bound.TheVariants.{Upto, Free}
use Rattle.value_sets.specs.declared.value.Except.{Except}
use Rattle.value_sets.specs.declared.value.Except.TheVariants.{Exact, Stem}
use Rattle.value_sets.specs.declared.value.Value.{Value}
use Rattle.value_sets.specs.declared.value.Value.TheVariants as Values
use Rattle.node_constraint.specs.Constraint.{Constraint}
use Rattle.node_constraint.specs.declared.facet.Facet.{Facet}
use Rattle.node_constraint.specs.declared.facet.Facet.TheVariants as Facets
use Rattle.schema_documents.specs.Labels.{IsTextLabel}
use Rattle.schema_documents.specs.declared.label.Label.{Label}
use Rattle.schema_documents.specs.declared.label.Label.TheVariants as Labels
use Rattle.schema_documents.specs.Tree.{Declaration, Document, MaybeShapeExpr, MaybeTripleExpr, ShapeExpr, ShapeExprs, TripleBody, TripleExpr, TripleExprs, arc, conj, disj, each, include, more_exprs, more_triples, neg, no_expr, no_exprs, no_triple, no_triples, node, one, one_expr, one_triple, refer, shape, triple}
use Rattle.shexj_reader.specs.Cardinalities.{least, most, upper}
use Rattle.shexj_reader.specs.Constraints.{IsConstraint, all_of, bound, count, facet_values, facets_of, listed, small, with_flags}
use Rattle.shexj_reader.specs.Documents.{SpellsDeclaration, SpellsDeclarations, SpellsDocument, SpellsShapes}
use Rattle.shexj_reader.specs.Expressions.{SpellsBody, SpellsExpr, SpellsExpression, SpellsExprs, SpellsTripleExpr, SpellsTripleExprs, SpellsValueExpr}
use Rattle.shexj_reader.specs.Keys.{members, text, text_if_any, texts, texts_in}
use Rattle.shexj_reader.specs.Labels.{label, label_from, label_if_any, reference}
use Rattle.shexj_reader.specs.Values.{AreExclusions, HasExclusions, IsExclusion, IsLiteral, IsRange, IsRangeStem, IsTyped, SpellsValue, SpellsValueSet, SpellsValues, taken}
use Rattle.shexj_writer.specs.Constraints.{facet_key, facet_under}
use Rattle.shexj_writer.specs.Held.{AreHeldDecls, AreHeldExprs, AreHeldTriples, AreHeldValues, AreHeldValuesIfAny, AreTexts, HasTextFlags, IsBound, IsHeldBody, IsHeldConstraint, IsHeldDocument, IsHeldExcept, IsHeldExpr, IsHeldExpression, IsHeldFacet, IsHeldLiteral, IsHeldRange, IsHeldTriple, IsHeldUnder, IsHeldValue, IsHeldValueExpr, IsLabelIfAny, IsText, IsTextIfAny}
use Rattle.shexj_writer.specs.Laws.{ReadAreHeld}
use Rattle.shexj_writer.specs.Plain.{facet_keys}
use Rattle.shexj_writer.proofs.Fields.{both}
use Rattle.shexj_writer.proofs.JsonValues.{read_texts}
use Rattle.shexj_writer.proofs.Strings.{HasTexts, HasTextsIfAny, HaveTexts, texts_at, texts_there}

-- ---- texts

text_held : (o : Option Data) (t : List ℕ) → HasTextsIfAny o → text o ≡ Some t → IsText t
text_held None t h e = absurd (cc)
text_held (Some null) t h e = absurd (cc)
text_held (Some (boolean b)) t h e = absurd (cc)
text_held (Some (number n)) t h e = absurd (cc)
text_held (Some (string s)) t h e = let same : chars s ≡ t = cc in subst IsText same (scalars-chars s h)
text_held (Some (array ds)) t h e = absurd (cc)
text_held (Some (object ms)) t h e = absurd (cc)

in_option : (r : Option (List ℕ)) (o : Option (List ℕ)) → ((t : List ℕ) → r ≡ Some t → IsText t) → option_map (λ (x : List ℕ). Some x) r ≡ Some o → IsTextIfAny o
in_option None o h e = absurd (cc)
in_option (Some t) None h e = tt
in_option (Some t) (Some u) h e = let same : t ≡ u = cc in subst IsText same (h t refl)

text_if_held : (o : Option Data) (t : Option (List ℕ)) → HasTextsIfAny o → text_if_any o ≡ Some t → IsTextIfAny t
text_if_held None t h e = let same : None ≡ t = cc in subst IsTextIfAny same tt
text_if_held (Some d) t h e = in_option (text (Some d)) t (λ u f. text_held (Some d) u h f) e

texts_step : (a : Option (List ℕ)) (r : Option (List (List ℕ))) (ts : List (List ℕ)) → ((t : List ℕ) → a ≡ Some t → IsText t) → ((us : List (List ℕ)) → r ≡ Some us → AreTexts us)
    → option_and_then (λ t. option_map (λ us. t ∷ us) r) a ≡ Some ts → AreTexts ts
texts_step None r ts h k e = absurd (cc)
texts_step (Some t) None ts h k e = absurd (cc)
texts_step (Some t) (Some us) ts h k e = let same : t ∷ us ≡ ts = cc in subst AreTexts same (h t refl, k us refl)

texts_in_held : (ds : Items) (ts : List (List ℕ)) → HaveTexts ds → texts_in ds ≡ Some ts → AreTexts ts
texts_in_held no_items ts h e = let same : [] ≡ ts = cc in subst AreTexts same tt
texts_in_held (item d ds) ts h e = texts_step (text (Some d)) (texts_in ds) ts (λ t f. text_held (Some d) t h.0 f) (λ us f. texts_in_held ds us h.1 f) e

texts_held : (o : Option Data) (ts : List (List ℕ)) → HasTextsIfAny o → texts o ≡ Some ts → AreTexts ts
texts_held None ts h e = let same : [] ≡ ts = cc in subst AreTexts same tt
texts_held (Some null) ts h e = absurd (cc)
texts_held (Some (boolean b)) ts h e = absurd (cc)
texts_held (Some (number n)) ts h e = absurd (cc)
texts_held (Some (string s)) ts h e = absurd (cc)
texts_held (Some (array ds)) ts h e = texts_in_held ds ts h e
texts_held (Some (object ms)) ts h e = absurd (cc)

-- ---- labels

drop_held : (n : ℕ) (t : List ℕ) → IsText t → IsText (drop n t)
drop_held zero t h = h
drop_held (suc n) [] h = refl
drop_held (suc n) (c ∷ cs) h = drop_held n cs (both (scalar c) (all_scalars cs) h).1

from_at : (b : Bool) (t : List ℕ) → IsText t → IsTextLabel (if b then Labels.Blank (drop 2 t) else Labels.Iri t)
from_at true t h = drop_held 2 t h
from_at false t h = h

from_text : (o : Option (List ℕ)) (l : Label) → ((t : List ℕ) → o ≡ Some t → IsText t) → option_map label_from o ≡ Some l → IsTextLabel l
from_text None l h e = absurd (cc)
from_text (Some t) l h e = let same : label_from t ≡ l = cc in subst IsTextLabel same (from_at (starts_with nat_eq t (codes "_:")) t (h t refl))

label_held : (o : Option Data) (l : Label) → HasTextsIfAny o → label o ≡ Some l → IsTextLabel l
label_held o l h e = from_text (text o) l (λ t f. text_held o t h f) e

in_label : (r : Option Label) (o : Option Label) → ((l : Label) → r ≡ Some l → IsTextLabel l) → option_map (λ (x : Label). Some x) r ≡ Some o → IsLabelIfAny o
in_label None o h e = absurd (cc)
in_label (Some l) None h e = tt
in_label (Some l) (Some m) h e = let same : l ≡ m = cc in subst IsTextLabel same (h l refl)

label_if_held : (r : Option Data) (o : Option Label) → HasTextsIfAny r → label_if_any r ≡ Some o → IsLabelIfAny o
label_if_held None o h e = let same : None ≡ o = cc in subst IsLabelIfAny same tt
label_if_held (Some d) o h e = in_label (label (Some d)) o (λ l f. label_held (Some d) l h f) e

-- ---- numbers

small_at : (b : Bool) (n m : ℕ) → nat_lt n (2 ^ 32) ≡ b → (if b then Some n else None) ≡ Some m → m < 2 ^ 32
small_at true n m h e = let few : n < 2 ^ 32 = grind (arith, nat_tests) in let same : n ≡ m = cc in subst (λ (k : ℕ). k < 2 ^ 32) same few
small_at false n m h e = absurd (cc)

small_held : (n m : ℕ) → small n ≡ Some m → m < 2 ^ 32
small_held n m e = small_at (nat_lt n (2 ^ 32)) n m refl e

small_then : (o : Option ℕ) (m : ℕ) → option_and_then small o ≡ Some m → m < 2 ^ 32
small_then None m e = absurd (cc)
small_then (Some n) m e = small_held n m e

one_is_small : 1 < 2 ^ 32
one_is_small = omega arith

least_held : (o : Option Data) (low : ℕ) → least o ≡ Some low → low < 2 ^ 32
least_held None low e = let same : 1 ≡ low = cc in subst (λ (k : ℕ). k < 2 ^ 32) same one_is_small
least_held (Some d) low e = small_then (option_and_then as_u64 (as_number d)) low e

upto_held : (o : Option ℕ) (high : Bound) → ((m : ℕ) → o ≡ Some m → m < 2 ^ 32) → option_map Upto o ≡ Some high → IsBound high
upto_held None high h e = absurd (cc)
upto_held (Some m) high h e = let same : Upto m ≡ high = cc in subst IsBound same (h m refl)

upper_held : (n : Num) (high : Bound) → upper n ≡ Some high → IsBound high
upper_held (unsigned n) high e = upto_held (small n) high (λ m f. small_held n m f) e
upper_held (negative (negsuc zero)) high e = let same : Free ≡ high = cc in subst IsBound same tt
upper_held (negative (negsuc (suc n))) high e = absurd (cc)
upper_held (negative (pos n)) high e = absurd (cc)
upper_held (float x) high e = absurd (cc)

upper_then : (o : Option Num) (high : Bound) → option_and_then upper o ≡ Some high → IsBound high
upper_then None high e = absurd (cc)
upper_then (Some n) high e = upper_held n high e

most_held : (o : Option Data) (high : Bound) → most o ≡ Some high → IsBound high
most_held None high e = let same : Upto 1 ≡ high = cc in subst IsBound same one_is_small
most_held (Some d) high e = upper_then (as_number d) high e

-- ---- value sets

lowered_scalar : (c : ℕ) → scalar c ≡ true → scalar (to_ascii_lowercase c) ≡ true
lowered_scalar c h = grind (arith, nat_tests)

pub lowered_held : (t : List ℕ) → IsText t → IsText (map to_ascii_lowercase t)
lowered_held [] h = refl
lowered_held (c ∷ cs) h =
    let parts = both (scalar c) (all_scalars cs) h in
    ap (λ (b : Bool). b && all_scalars (map to_ascii_lowercase cs)) (lowered_scalar c parts.0) ∙ lowered_held cs parts.1

no_tag : (o : Option (List ℕ)) → o ≡ None → IsSome o → ⊥
no_tag None e some = true≢false (sym some)
no_tag (Some t) e some = cc

untagged : (l : LiteralParts) → l.lang ≡ None → l.datatype ≢ rdf_lang_string → Literals.IsLiteral l
untagged l none other = record {
  tagged = ((λ some. absurd (no_tag l.lang none some)), (λ is. absurd (other is)));
  lowered = subst IsLowered (sym none) tt;
}

tagged : (l : LiteralParts) (t : List ℕ) → l.lang ≡ Some (map to_ascii_lowercase t) → l.datatype ≡ rdf_lang_string → Literals.IsLiteral l
tagged l t some is = record {
  tagged = ((λ e. is), (λ e. ap is_some some));
  lowered = subst IsLowered (sym some) (lowered t);
}

not_lang : xsd_string ≢ rdf_lang_string
not_lang e = true≢false (sym (ap (λ (x : List ℕ). nat_eq (length x) 53) e))

literal_parts : (l : LiteralParts) → IsText l.lex → IsText l.datatype → IsTextIfAny l.lang → Literals.IsLiteral l → IsHeldLiteral l
literal_parts l lex datatype lang parts = record { lex = lex; datatype = datatype; lang = lang; parts = parts }

typed_held : (type language : Option (List ℕ)) (l : LiteralParts) → IsText l.lex → IsTextIfAny type → IsTextIfAny language → IsTyped type language l → IsHeldLiteral l
typed_held None None l lex h k is =
    literal_parts l lex (subst IsText (sym is.0) refl) (subst IsTextIfAny (sym is.1) tt) (untagged l is.1 (λ e. not_lang (sym is.0 ∙ e)))
typed_held (Some type) None l lex h k is =
    literal_parts l lex (subst IsText (sym is.1.0) h) (subst IsTextIfAny (sym is.1.1) tt) (untagged l is.1.1 (λ e. is.0 (sym is.1.0 ∙ e)))
typed_held None (Some tag) l lex h k is =
    literal_parts l lex (subst IsText (sym is.0) refl) (subst IsTextIfAny (sym is.1) (lowered_held tag k)) (tagged l tag is.1 is.0)
typed_held (Some type) (Some tag) l lex h k is =
    literal_parts l lex (subst IsText (sym is.1.0) refl) (subst IsTextIfAny (sym is.1.1) (lowered_held tag k)) (tagged l tag is.1.1 is.1.0)

literal_held : (l : LiteralParts) (d : Data) → HasTexts d → IsLiteral l d → IsHeldLiteral l
literal_held l d h is =
    typed_held is.type is.language l (text_held (get (codes "value") d) l.lex (texts_at (codes "value") d h) is.value)
    (text_if_held (get (codes "type") d) is.type (texts_at (codes "type") d h) is.has_type)
    (text_if_held (get (codes "language") d) is.language (texts_at (codes "language") d h) is.has_language) is.typed

-- a way to take texts that gives texts
abbrev Keeps : (List ℕ → List ℕ) → Type 0
Keeps f = (t : List ℕ) → IsText t → IsText (f t)

taken_held : (f : List ℕ → List ℕ) (o : Option (List ℕ)) (t : List ℕ) → Keeps f → ((u : List ℕ) → o ≡ Some u → IsText u) → option_map f o ≡ Some t → IsText t
taken_held f None t keeps h e = absurd (cc)
taken_held f (Some u) t keeps h e = let same : f u ≡ t = cc in subst IsText same (keeps u (h u refl))

at_key : (f : List ℕ → List ℕ) (key : List ℕ) (d : Data) (t : List ℕ) → Keeps f → HasTexts d → option_map f (text (get key d)) ≡ Some t → IsText t
at_key f key d t keeps h e = taken_held f (text (get key d)) t keeps (λ u g. text_held (get key d) u (texts_at key d h) g) e

range_stem_held : (k : _) (stem : Option (List ℕ)) (o : Option Data) → Keeps (taken k) → HasTextsIfAny o → IsRangeStem k stem o → IsTextIfAny stem
range_stem_held k None o keeps h is = tt
range_stem_held k (Some t) None keeps h is = absurd is
range_stem_held k (Some t) (Some d) keeps h is = taken_held (taken k) (text (Some d)) t keeps (λ u g. text_held (Some d) u h g) is

exclusion_held : (k : _) (e : Except) (d : Data) → Keeps (taken k) → HasTexts d → IsExclusion k e d → IsHeldExcept e
exclusion_held k (Exact t) d keeps h is = taken_held (taken k) (text (Some d)) t keeps (λ u g. text_held (Some d) u h g) is
exclusion_held k (Stem t) d keeps h is = at_key (taken k) (codes "stem") d t keeps h is.has_stem

exclusions_held : (k : _) (es : List Except) (ds : Items) → Keeps (taken k) → HaveTexts ds → AreExclusions k es ds → AllByRecursion IsHeldExcept es
exclusions_held k [] ds keeps h is = tt
exclusions_held k (e ∷ es) no_items keeps h is = absurd is
exclusions_held k (e ∷ es) (item d ds) keeps h is = (exclusion_held k e d keeps h.0 is.0, exclusions_held k es ds keeps h.1 is.1)

has_exclusions : (k : _) (es : List Except) (o : Option Data) → Keeps (taken k) → HasTextsIfAny o → HasExclusions k es o → AllByRecursion IsHeldExcept es
has_exclusions k es None keeps h is = subst (AllByRecursion IsHeldExcept) (sym is) tt
has_exclusions k es (Some null) keeps h is = absurd is
has_exclusions k es (Some (boolean b)) keeps h is = absurd is
has_exclusions k es (Some (number n)) keeps h is = absurd is
has_exclusions k es (Some (string s)) keeps h is = absurd is
has_exclusions k es (Some (array ds)) keeps h is = exclusions_held k es ds keeps h is
has_exclusions k es (Some (object ms)) keeps h is = absurd is

range_held : (k : _) (stem : Option (List ℕ)) (es : List Except) (d : Data) → Keeps (taken k) → HasTexts d → IsRange k stem es d → IsHeldRange stem es
range_held k stem es d keeps h is =
    (range_stem_held k stem (get (codes "stem") d) keeps (texts_at (codes "stem") d h) is.has_stem, has_exclusions k es (get (codes "exclusions") d) keeps (texts_at (codes "exclusions") d h) is.exclusions)

as_it_is : Keeps (λ t. t)
as_it_is t h = h

value_held : (v : Value) (d : Data) → HasTexts d → SpellsValue v d → IsHeldValue v
value_held (Values.Term (Terms.Iri iri)) d h is = text_held (Some d) iri h is
value_held (Values.Term (Terms.Blank name)) d h is = absurd is
value_held (Values.Term (Terms.Lit l)) d h is = literal_held l d h is
value_held (Values.IriStem stem) d h is = at_key (λ t. t) (codes "stem") d stem as_it_is h is.has_stem
value_held (Values.LitStem stem) d h is = at_key (λ t. t) (codes "stem") d stem as_it_is h is.has_stem
value_held (Values.Lang tag) d h is = at_key (map to_ascii_lowercase) (codes "languageTag") d tag lowered_held h is.has_tag
value_held (Values.LangStem stem) d h is = at_key (map to_ascii_lowercase) (codes "stem") d stem lowered_held h is.has_stem
value_held (Values.IriRange stem es) d h is = range_held _ stem es d as_it_is h is
value_held (Values.LitRange stem es) d h is = range_held _ stem es d as_it_is h is
value_held (Values.LangRange stem es) d h is = range_held _ stem es d lowered_held h is

values_held : (vs : List Value) (ds : Items) → HaveTexts ds → SpellsValues vs ds → AreHeldValues vs
values_held [] ds h is = tt
values_held (v ∷ vs) no_items h is = absurd is
values_held (v ∷ vs) (item d ds) h is = (value_held v d h.0 is.0, values_held vs ds h.1 is.1)

value_set_held : (o : Option (List Value)) (r : Option Data) → HasTextsIfAny r → SpellsValueSet o r → AreHeldValuesIfAny o
value_set_held None r h is = tt
value_set_held (Some vs) None h is = absurd is
value_set_held (Some vs) (Some null) h is = absurd is
value_set_held (Some vs) (Some (boolean b)) h is = absurd is
value_set_held (Some vs) (Some (number n)) h is = absurd is
value_set_held (Some vs) (Some (string s)) h is = absurd is
value_set_held (Some vs) (Some (array ds)) h is = values_held vs ds h is
value_set_held (Some vs) (Some (object ms)) h is = absurd is

-- ---- facets

-- the number or the texts of a facet, and its flags
abbrev pub IsWhole : Facet → Type 0
IsWhole f = IsHeldFacet f × HasTextFlags f

-- what stands under a key, if it is a facet, is such a one
abbrev IsGood : Option (Option Facet) → Type 0
IsGood o = (f : Facet) → o ≡ Some (Some f) → IsWhole f

abbrev AreGood : List (Option (Option Facet)) → Type 0
AreGood os = AllByRecursion IsGood os

listed_good : (o : Option Facet) (fs : List Facet) → IsGood (Some o) → AllByRecursion IsWhole fs → AllByRecursion IsWhole (listed o ++ fs)
listed_good None fs h rest = rest
listed_good (Some f) fs h rest = (h f refl, rest)

good_step : (o : Option (Option Facet)) (r : Option (List Facet)) (fs : List Facet) → IsGood o → ((gs : List Facet) → r ≡ Some gs → AllByRecursion IsWhole gs)
    → option_and_then (λ facet. option_map (λ facets. listed facet ++ facets) r) o ≡ Some fs → AllByRecursion IsWhole fs
good_step None r fs h rest e = absurd (cc)
good_step (Some o) None fs h rest e = absurd (cc)
good_step (Some o) (Some gs) fs h rest e = let same : listed o ++ gs ≡ fs = cc in subst (AllByRecursion IsWhole) same (listed_good o gs h (rest gs refl))

all_good : (os : List (Option (Option Facet))) (fs : List Facet) → AreGood os → all_of os ≡ Some fs → AllByRecursion IsWhole fs
all_good [] fs h e = let same : [] ≡ fs = cc in subst (AllByRecursion IsWhole) same tt
all_good (o ∷ os) fs h e = good_step o (all_of os) fs h.0 (λ gs f. all_good os gs h.1 f) e

in_count : (r : Option ℕ) (o : Option ℕ) (m : ℕ) → ((n : ℕ) → r ≡ Some n → n < 2 ^ 32) → option_map (λ (x : ℕ). Some x) r ≡ Some o → o ≡ Some m → m < 2 ^ 32
in_count None o m h e is = absurd (cc)
in_count (Some n) o m h e is = let same : n ≡ m = cc in subst (λ (k : ℕ). k < 2 ^ 32) same (h n refl)

count_held : (o : Option Data) (r : Option ℕ) (m : ℕ) → count o ≡ Some r → r ≡ Some m → m < 2 ^ 32
count_held None r m e is = absurd (cc)
count_held (Some d) r m e is = in_count (option_and_then small (option_and_then as_u64 (as_number d))) r m (λ n f. small_then (option_and_then as_u64 (as_number d)) n f) e is

counted_good : (facet : ℕ → Facet) → ((n : ℕ) → n < 2 ^ 32 → IsWhole (facet n)) → (o : Option (Option ℕ)) →
    ((r : Option ℕ) (m : ℕ) → o ≡ Some r → r ≡ Some m → m < 2 ^ 32) → IsGood (option_map (option_map facet) o)
counted_good facet h None few f e = absurd (cc)
counted_good facet h (Some None) few f e = absurd (cc)
counted_good facet h (Some (Some n)) few f e = let same : facet n ≡ f = cc in subst IsWhole same (h n (few (Some n) n refl refl))

bounded_good : (facet : List ℕ → Facet) → ((t : List ℕ) → IsWhole (facet t)) → (o : Option (Option (List ℕ))) → IsGood (option_map (option_map facet) o)
bounded_good facet h None f e = absurd (cc)
bounded_good facet h (Some None) f e = absurd (cc)
bounded_good facet h (Some (Some t)) f e = let same : facet t ≡ f = cc in subst IsWhole same (h t)

flags_text : (flags : Option (List ℕ)) → IsTextIfAny flags → IsText (unwrap_or flags [])
flags_text None h = refl
flags_text (Some t) h = h

pattern_good : (p q : Option (Option (List ℕ))) → ((t : Option (List ℕ)) → p ≡ Some t → IsTextIfAny t) → ((t : Option (List ℕ)) → q ≡ Some t → IsTextIfAny t)
    → IsGood (option_and_then (λ pattern. option_and_then (with_flags pattern) q) p)
pattern_good None q h k f e = absurd (cc)
pattern_good (Some p) None h k f e = absurd (cc)
pattern_good (Some None) (Some None) h k f e = absurd (cc)
pattern_good (Some None) (Some (Some flags)) h k f e = absurd (cc)
pattern_good (Some (Some pattern)) (Some flags) h k f e =
    let same : Facets.Pattern pattern (unwrap_or flags []) ≡ f = cc in
    subst IsWhole same (h (Some pattern) refl, flags_text flags (k flags refl))

facets_good : (d : Data) → HasTexts d → AreGood (facet_values d)
facets_good d h =
    let number_at : (facet : ℕ → Facet) (key : List ℕ) → ((n : ℕ) → n < 2 ^ 32 → IsWhole (facet n)) →
    IsGood (option_map (option_map facet) (count (get key d))) = λ facet key own. counted_good facet own (count (get key d)) (λ r m. count_held (get key d) r m) in
    let bound_at : (facet : List ℕ → Facet) (key : List ℕ) → ((t : List ℕ) → IsWhole (facet t)) → IsGood (option_map (option_map facet) (bound (get key d))) =
    λ facet key own. bounded_good facet own (bound (get key d)) in
    let text_at : (key : List ℕ) (t : Option (List ℕ)) → text_if_any (get key d) ≡ Some t → IsTextIfAny t = λ key t. text_if_held (get key d) t (texts_at key d h) in (
      number_at Facets.Length (codes "length") (λ n k. (k, tt)),
      (
        number_at Facets.MinLength (codes "minlength") (λ n k. (k, tt)),
        (
          number_at Facets.MaxLength (codes "maxlength") (λ n k. (k, tt)),
          (
            pattern_good (text_if_any (get (codes "pattern") d)) (text_if_any (get (codes "flags") d)) (text_at (codes "pattern")) (text_at (codes "flags")),
            (
              bound_at Facets.MinInclusive (codes "mininclusive") (λ t. (tt, tt)),
              (
                bound_at Facets.MinExclusive (codes "minexclusive") (λ t. (tt, tt)),
                (
                  bound_at Facets.MaxInclusive (codes "maxinclusive") (λ t. (tt, tt)),
                  (
                    bound_at Facets.MaxExclusive (codes "maxexclusive") (λ t. (tt, tt)),
                    (
                      number_at Facets.TotalDigits (codes "totaldigits") (λ n k. (k, tt)),
                      (number_at Facets.FractionDigits (codes "fractiondigits") (λ n k. (k, tt)), tt),
                    ),
                  ),
                ),
              ),
            ),
          ),
        ),
      ),
    )

-- the first facet of a key is one of them
found_at : (b : Bool) (f : Facet) (o : Option Facet) → IsWhole f → IfSome o IsWhole → IfSome (cond b (Some f) o) IsWhole
found_at true f o h rest = h
found_at false f o h rest = rest

pub found_whole : (key : List ℕ) (fs : List Facet) → AllByRecursion IsWhole fs → IfSome (facet_under key fs) IsWhole
found_whole key [] h = tt
found_whole key (f ∷ fs) h = found_at (bytes_eq (facet_key f) key) f (facet_under key fs) h.0 (found_whole key fs h.1)

held_of : (o : Option Facet) → IfSome o IsWhole → IfSome o IsHeldFacet
held_of None h = tt
held_of (Some f) h = h.0

pub flags_of : (o : Option Facet) → IfSome o IsWhole → IfSome o HasTextFlags
flags_of None h = tt
flags_of (Some f) h = h.1

-- the facets of any keys
pub held_under : (fs : List Facet) → AllByRecursion IsWhole fs → (keys : List (List ℕ)) → AllByRecursion (IsHeldUnder fs) keys
held_under fs h [] = tt
held_under fs h (key ∷ keys) = (held_of (facet_under key fs) (found_whole key fs h), held_under fs h keys)

facets_of_held : (d : Data) (fs : List Facet) → HasTexts d → facets_of d ≡ Some fs → AllByRecursion IsWhole fs
unfolding facets_of
facets_of_held d fs h e = all_good (facet_values d) fs (facets_good d h) e

constraint_held : (keys : List (List ℕ)) (c : Constraint) (d : Data) → HasTexts d → IsConstraint keys c d → IsHeldConstraint c
constraint_held keys c d h is =
    let all = facets_of_held d c.facets h is.facets in
    record {
      datatype = text_if_held (get (codes "datatype") d) c.datatype (texts_at (codes "datatype") d h) is.datatype;
      facets = held_under c.facets all facet_keys;
      flags = flags_of (facet_under (codes "pattern") c.facets) (found_whole (codes "pattern") c.facets all);
      values = value_set_held c.values (get (codes "values") d) (texts_at (codes "values") d h) is.values;
    }

-- ---- expressions

items_are : (o : Option Data) (ds : Items) → HasTextsIfAny o → members o ≡ Some ds → HaveTexts ds
items_are None ds h e = absurd (cc)
items_are (Some null) ds h e = absurd (cc)
items_are (Some (boolean b)) ds h e = absurd (cc)
items_are (Some (number n)) ds h e = absurd (cc)
items_are (Some (string s)) ds h e = absurd (cc)
items_are (Some (array no_items)) ds h e = absurd (cc)
items_are (Some (array (item d es))) ds h e = let same : item d es ≡ ds = cc in subst HaveTexts same h
items_are (Some (object ms)) ds h e = absurd (cc)

refer_held : (labelled : Bool) (d : Data) (l : Label) → HasTexts d → reference labelled d ≡ Some l → IsTextLabel l
refer_held true d l h e = absurd (cc)
refer_held false d l h e = label_held (Some d) l h e

mutual
  expr_held : (labelled : Bool) (e : ShapeExpr) (d : Data) → HasTexts d → SpellsExpr labelled e d → IsHeldExpr e
  expr_held labelled (disj es) d h is =
      exprs_held es is.has_members.items (items_are (get (codes "shapeExprs") d) is.has_members.items (texts_at (codes "shapeExprs") d h) is.has_members.found) is.has_members.all
  expr_held labelled (conj es) d h is =
      exprs_held es is.has_members.items (items_are (get (codes "shapeExprs") d) is.has_members.items (texts_at (codes "shapeExprs") d h) is.has_members.found) is.has_members.all
  expr_held labelled (neg e) d h is = expr_held false e is.has_child.child (texts_there (codes "shapeExpr") d is.has_child.child h is.has_child.found) is.has_child.one
  expr_held labelled (node c) d h is = constraint_held _ c d h is
  expr_held labelled (shape closed extra t) d h is =
      (texts_held (get (codes "extra") d) extra (texts_at (codes "extra") d h) is.has_extra, expression_held t (get (codes "expression") d) (texts_at (codes "expression") d h) is.has_expression)
  expr_held labelled (refer l) d h is = refer_held labelled d l h is

  exprs_held : (es : ShapeExprs) (ds : Items) → HaveTexts ds → SpellsExprs es ds → AreHeldExprs es
  exprs_held no_exprs ds h is = tt
  exprs_held (more_exprs e es) no_items h is = absurd is
  exprs_held (more_exprs e es) (item d ds) h is = (expr_held false e d h.0 is.0, exprs_held es ds h.1 is.1)

  value_expr_held : (e : MaybeShapeExpr) (o : Option Data) → HasTextsIfAny o → SpellsValueExpr e o → IsHeldValueExpr e
  value_expr_held no_expr o h is = tt
  value_expr_held (one_expr e) None h is = absurd is
  value_expr_held (one_expr e) (Some d) h is = expr_held false e d h is

  triple_held : (t : TripleExpr) (d : Data) → HasTexts d → SpellsTripleExpr t d → IsHeldTriple t
  triple_held (triple name low high b) d h is = body_held b name low high d h is

  body_held : (b : TripleBody) (name : Option Label) (low : ℕ) (high : Bound) (d : Data) → HasTexts d → SpellsBody b name low high d → IsHeldBody b name low high
  body_held (each ts) name low high d h is = (
    label_if_held (get (codes "id") d) name (texts_at (codes "id") d h) is.has_label,
    (
      least_held (get (codes "min") d) low is.counted.min,
      (
        most_held (get (codes "max") d) high is.counted.max,
        triples_held ts is.has_members.items (items_are (get (codes "expressions") d) is.has_members.items (texts_at (codes "expressions") d h) is.has_members.found) is.has_members.all,
      ),
    ),
  )
  body_held (one ts) name low high d h is = (
    label_if_held (get (codes "id") d) name (texts_at (codes "id") d h) is.has_label,
    (
      least_held (get (codes "min") d) low is.counted.min,
      (
        most_held (get (codes "max") d) high is.counted.max,
        triples_held ts is.has_members.items (items_are (get (codes "expressions") d) is.has_members.items (texts_at (codes "expressions") d h) is.has_members.found) is.has_members.all,
      ),
    ),
  )
  body_held (arc inverse predicate e) name low high d h is = (
    label_if_held (get (codes "id") d) name (texts_at (codes "id") d h) is.has_label,
    (
      least_held (get (codes "min") d) low is.counted.min,
      (
        most_held (get (codes "max") d) high is.counted.max,
        (text_held (get (codes "predicate") d) predicate (texts_at (codes "predicate") d h) is.has_predicate, value_expr_held e (get (codes "valueExpr") d) (texts_at (codes "valueExpr") d h) is.has_value),
      ),
    ),
  )
  body_held (include target) name low high d h is = label_held (Some d) target h is.has_target

  triples_held : (ts : TripleExprs) (ds : Items) → HaveTexts ds → SpellsTripleExprs ts ds → AreHeldTriples ts
  triples_held no_triples ds h is = tt
  triples_held (more_triples t ts) no_items h is = absurd is
  triples_held (more_triples t ts) (item d ds) h is = (triple_held t d h.0 is.0, triples_held ts ds h.1 is.1)

  expression_held : (t : MaybeTripleExpr) (o : Option Data) → HasTextsIfAny o → SpellsExpression t o → IsHeldExpression t
  expression_held no_triple o h is = tt
  expression_held (one_triple t) None h is = absurd is
  expression_held (one_triple t) (Some d) h is = triple_held t d h is

-- ---- documents

decl_held : (decl : Declaration) (d : Data) → HasTexts d → SpellsDeclaration decl d → IsTextLabel decl.label × IsHeldExpr decl.expr
decl_held decl d h (inl is) = (
  label_held (get (codes "id") d) decl.label (texts_at (codes "id") d h) is.has_label,
  expr_held false decl.expr is.has_expr.child (texts_there (codes "shapeExpr") d is.has_expr.child h is.has_expr.found) is.has_expr.one,
)
decl_held decl d h (inr is) = (label_held (get (codes "id") d) decl.label (texts_at (codes "id") d h) is.has_label, expr_held true decl.expr d h is.has_expr)

decls_held : (decls : List Declaration) (ds : Items) → HaveTexts ds → SpellsDeclarations decls ds → AreHeldDecls decls
decls_held [] ds h is = tt
decls_held (decl ∷ decls) no_items h is = absurd is
decls_held (decl ∷ decls) (item d ds) h is = (decl_held decl d h.0 is.0, decls_held decls ds h.1 is.1)

shapes_held : (decls : List Declaration) (o : Option Data) → HasTextsIfAny o → SpellsShapes decls o → AreHeldDecls decls
shapes_held decls None h is = subst AreHeldDecls (sym is) tt
shapes_held decls (Some null) h is = absurd is
shapes_held decls (Some (boolean b)) h is = absurd is
shapes_held decls (Some (number n)) h is = absurd is
shapes_held decls (Some (string s)) h is = absurd is
shapes_held decls (Some (array ds)) h is = decls_held decls ds h is
shapes_held decls (Some (object ms)) h is = absurd is

document_held : (doc : Document) (d : Data) → HasTexts d → SpellsDocument doc d → IsHeldDocument doc
document_held doc d h is = record {
  imports = texts_held (get (codes "imports") d) doc.imports (texts_at (codes "imports") d h) is.has_imports;
  start = value_expr_held doc.start (get (codes "start") d) (texts_at (codes "start") d h) is.has_start;
  decls = shapes_held doc.decls (get (codes "shapes") d) (texts_at (codes "shapes") d h) is.has_shapes;
}

pub read_parts : ReadAreHeld
read_parts bytes doc is = document_held doc is.value (read_texts bytes is.value is.utf8 is.json) is.spelled
