-- A document that a JSON value spells has a form in ShExJ.
use Rattle.std.proofs.Common.{◌≡◌, ◌≢◌, ◌∙◌, ap, refl, sym, subst, inl, inr, ℕ, ◌≤◌, arith, Bool, true, false, true≢false, List, [], ◌∷◌, ◌++◌, length, map, cond, drop, nat_eq, encode_utf8_all}
use Rattle.std.proofs.lemmas.Str.{encodes-chars}
use Rattle.std.proofs.Math.Utf8.{encode}
use Rattle.std.specs.Char.{to_ascii_lowercase}
use Rattle.std.specs.List.{AllByRecursion, filter, starts_with}
use Rattle.std.specs.Prelude.{Option, Some, None, codes, if◌then◌else◌, option_map, option_and_then, unwrap_or, ⊤}
use Rattle.std.specs.Str.{IsUtf8, bytes_eq, chars}
use Rattle.serde_json.specs.Data.{Data, null, boolean, number, string, array, object, Items, no_items, item}
use Rattle.serde_json.specs.Find.{get}
use Rattle.rdf_terms.specs.Literals.{LiteralParts, is_lowered}
use Rattle.rdf_terms.specs.Vocabulary.{xsd_string}
use Rattle.rdf_terms.specs.declared.terms.Term.TheVariants as Terms
use Rattle.rdf_terms.proofs.Characters.{lowered}
use Rattle.tally.specs.Span.{IsOrdered}
use Rattle.tally.specs.declared.Bound.{Bound}
use Rattle.value_sets.specs.declared.value.Except.{Except}
use Rattle.value_sets.specs.declared.value.Except.TheVariants.{Exact, Stem}
use Rattle.value_sets.specs.declared.value.Value.{Value}
use Rattle.value_sets.specs.declared.value.Value.TheVariants as Values
use Rattle.node_constraint.specs.Constraint.{Constraint}
use Rattle.node_constraint.specs.declared.facet.Facet.{Facet}
use Rattle.node_constraint.specs.declared.facet.Facet.TheVariants as Facets
use Rattle.schema_documents.specs.declared.label.Label.{Label}
use Rattle.schema_documents.specs.declared.label.Label.TheVariants as Labels
use Rattle.schema_documents.specs.Tree.{Declaration, Document, MaybeShapeExpr, MaybeTripleExpr, ShapeExpr, ShapeExprs, TripleBody, TripleExpr, TripleExprs, arc, conj, disj, each, include, more_exprs, more_triples, neg, no_expr, no_exprs, no_triple, no_triples, node, one, one_expr, one_triple, refer, shape, triple}
use Rattle.shexj_reader.specs.Constraints.{IsConstraint, all_of, bound, count, facet_values, facets_of, listed, with_flags}
use Rattle.shexj_reader.specs.Documents.{SpellsDeclaration, SpellsDeclarations, SpellsDocument, SpellsShapes}
use Rattle.shexj_reader.specs.Expressions.{SpellsBody, SpellsExpr, SpellsExpression, SpellsExprs, SpellsTripleExpr, SpellsTripleExprs, SpellsValueExpr}
use Rattle.shexj_reader.specs.Keys.{members, some_items, text, text_if_any, word}
use Rattle.shexj_reader.specs.Labels.{label, label_from, label_if_any, reference}
use Rattle.shexj_reader.specs.Values.{AreExclusions, HasExclusions, IsExclusion, IsLiteral, IsOfLiteral, IsRange, IsRangeStem, IsTyped, SpellsValue, SpellsValueSet, SpellsValues, taken}
use Rattle.shexj_writer.specs.Constraints.{facet_key}
use Rattle.shexj_writer.specs.Expressible.{AreExpressible, AreExpressibleDecls, AreExpressibleTriples, AreExpressibleValues, AreOnce, IsExceptTag, IsExpressible, IsExpressibleBody, IsExpressibleConstraint, IsExpressibleDocument, IsExpressibleExpression, IsExpressibleTriple, IsExpressibleValue, IsExpressibleValueExpr, IsLabel, IsLabelIfAny, IsLimited, IsTag, IsTagIfAny}
use Rattle.shexj_writer.specs.Plain.{all_under, facet_keys}
use Rattle.shexj_writer.specs.Texts.{text_data}
use Rattle.shexj_writer.specs.Values.{datatype_data}
use Rattle.shexj_writer.proofs.Strings.{HasTexts, HasTextsIfAny, HaveTexts, texts_at, texts_there}

-- ---- labels

from_at : (b : Bool) (t : List ℕ) → starts_with nat_eq t (codes "_:") ≡ b → IsLabel (if b then Labels.Blank (drop 2 t) else Labels.Iri t)
from_at true t e = tt
from_at false t e = e

from_text : (t : List ℕ) → IsLabel (label_from t)
from_text t = from_at (starts_with nat_eq t (codes "_:")) t refl

in_text : (o : Option (List ℕ)) (l : Label) → option_map label_from o ≡ Some l → IsLabel l
in_text None l e = cc
in_text (Some t) l e = let same : label_from t ≡ l = cc in subst IsLabel same (from_text t)

label_form : (o : Option Data) (l : Label) → label o ≡ Some l → IsLabel l
label_form o l e = in_text (text o) l e

in_label : (r : Option Label) (o : Option Label) → ((l : Label) → r ≡ Some l → IsLabel l) → option_map (λ (x : Label). Some x) r ≡ Some o → IsLabelIfAny o
in_label None o h e = cc
in_label (Some l) None h e = cc
in_label (Some l) (Some m) h e = let same : l ≡ m = cc in subst IsLabel same (h l refl)

label_if_form : (r : Option Data) (o : Option Label) → label_if_any r ≡ Some o → IsLabelIfAny o
label_if_form None o e = let same : None ≡ o = cc in subst IsLabelIfAny same tt
label_if_form (Some d) o e = in_label (label (Some d)) o (label_form (Some d)) e

-- ---- lists that are not empty

some_list : (ds es : Items) → some_items ds ≡ Some es → (ds ≡ es) × (es ≡ no_items → ⊥)
some_list no_items es e = absurd (cc)
some_list (item d ds) es e = let same : item d ds ≡ es = cc in (same, (λ none. cc))

members_are : (o : Option Data) (ds : Items) → members o ≡ Some ds → (o ≡ Some (array ds)) × (ds ≡ no_items → ⊥)
members_are None ds e = absurd (cc)
members_are (Some null) ds e = absurd (cc)
members_are (Some (boolean b)) ds e = absurd (cc)
members_are (Some (number n)) ds e = absurd (cc)
members_are (Some (string s)) ds e = absurd (cc)
members_are (Some (object ms)) ds e = absurd (cc)
members_are (Some (array es)) ds e = let found = some_list es ds e in (ap (λ (x : Items). Some (array x)) found.0, found.1)

-- ---- literals

none_of : IsOfLiteral None
none_of = record {
  no_stem = λ kind e. cc;
  no_range = λ kind e. cc;
  no_language = λ e. cc;
  no_wildcard = λ e. cc;
}

written_at : (b : Bool) (bs : List ℕ) → IsUtf8 bs → IsOfLiteral (Some bs) → IsOfLiteral (word (if b then None else Some (text_data (chars bs))))
written_at true bs utf8 other = none_of
written_at false bs utf8 other = subst (λ (x : List ℕ). IsOfLiteral (Some x)) (sym (encodes-chars bs utf8)) other

untyped : (datatype : List ℕ) → datatype ≡ xsd_string → IsOfLiteral (word (datatype_data None datatype))
unfolding encode
untyped datatype e = subst (λ (x : List ℕ). IsOfLiteral (word (datatype_data None x))) (sym e) none_of

-- the type that is written, where it is a text
typed_at : (o : Option Data) (type : List ℕ) → HasTextsIfAny o → IsOfLiteral (word o) → text_if_any o ≡ Some (Some type) → IsOfLiteral (word (datatype_data None type))
typed_at None type h other e = absurd (cc)
typed_at (Some null) type h other e = absurd (cc)
typed_at (Some (boolean b)) type h other e = absurd (cc)
typed_at (Some (number n)) type h other e = absurd (cc)
typed_at (Some (string s)) type h other e =
    let same : chars s ≡ type = cc in
    subst (λ (x : List ℕ). IsOfLiteral (word (datatype_data None x))) same (written_at (bytes_eq (encode_utf8_all (chars s)) xsd_string) s h other)
typed_at (Some (array ds)) type h other e = absurd (cc)
typed_at (Some (object ms)) type h other e = absurd (cc)

abbrev IsWritten : Option (List ℕ) → List ℕ → Type 0
IsWritten lang datatype = IsOfLiteral (word (datatype_data lang datatype))

literal_at : (type language : Option (List ℕ)) (l : LiteralParts) (o : Option Data) → HasTextsIfAny o → IsOfLiteral (word o) → text_if_any o ≡ Some type →
    IsTyped type language l → IsWritten l.lang l.datatype
literal_at None None l o h other e typed = subst (λ (x : Option (List ℕ)). IsWritten x l.datatype) (sym typed.1) (untyped l.datatype typed.0)
literal_at (Some type) None l o h other e typed =
    subst (λ (x : Option (List ℕ)). IsWritten x l.datatype) (sym typed.1.1) (subst (IsWritten None) (sym typed.1.0) (typed_at o type h other e))
literal_at None (Some tag) l o h other e typed = subst (λ (x : Option (List ℕ)). IsWritten x l.datatype) (sym typed.1) none_of
literal_at (Some type) (Some tag) l o h other e typed = subst (λ (x : Option (List ℕ)). IsWritten x l.datatype) (sym typed.1.1) none_of

literal_form : (l : LiteralParts) (d : Data) → HasTexts d → IsLiteral l d → IsWritten l.lang l.datatype
literal_form l d h is = literal_at is.type is.language l (get (codes "type") d) (texts_at (codes "type") d h) is.other is.has_type is.typed

-- ---- language tags

-- a way to take texts that gives lower case
abbrev IsLow : (List ℕ → List ℕ) → Type 0
IsLow f = (t : List ℕ) → is_lowered (f t) ≡ true

tag_at : (f : List ℕ → List ℕ) (o : Option (List ℕ)) (tag : List ℕ) → IsLow f → option_map f o ≡ Some tag → IsTag tag
tag_at f None tag low e = absurd (cc)
tag_at f (Some t) tag low e = let same : f t ≡ tag = cc in subst (λ (x : List ℕ). is_lowered x ≡ true) same (low t)

stem_tag : (k : _) (stem : Option (List ℕ)) (o : Option Data) → IsLow (taken k) → IsRangeStem k stem o → IsTagIfAny stem
stem_tag k None o low h = tt
stem_tag k (Some t) None low h = absurd h
stem_tag k (Some t) (Some d) low h = tag_at (taken k) (text (Some d)) t low h

exclusion_tag : (k : _) (e : Except) (d : Data) → IsLow (taken k) → IsExclusion k e d → IsExceptTag e
exclusion_tag k (Exact t) d low h = tag_at (taken k) (text (Some d)) t low h
exclusion_tag k (Stem t) d low h = tag_at (taken k) (text (get (codes "stem") d)) t low h.has_stem

exclusions_tags : (k : _) (es : List Except) (ds : Items) → IsLow (taken k) → AreExclusions k es ds → AllByRecursion IsExceptTag es
exclusions_tags k [] ds low h = tt
exclusions_tags k (e ∷ es) no_items low h = absurd h
exclusions_tags k (e ∷ es) (item d ds) low h = (exclusion_tag k e d low h.0, exclusions_tags k es ds low h.1)

has_tags : (k : _) (es : List Except) (o : Option Data) → IsLow (taken k) → HasExclusions k es o → AllByRecursion IsExceptTag es
has_tags k es None low h = subst (AllByRecursion IsExceptTag) (sym h) tt
has_tags k es (Some null) low h = absurd h
has_tags k es (Some (boolean b)) low h = absurd h
has_tags k es (Some (number n)) low h = absurd h
has_tags k es (Some (string s)) low h = absurd h
has_tags k es (Some (array ds)) low h = exclusions_tags k es ds low h
has_tags k es (Some (object ms)) low h = absurd h

range_tags : (k : _) (stem : Option (List ℕ)) (es : List Except) (d : Data) → IsLow (taken k) → IsRange k stem es d → IsTagIfAny stem × (AllByRecursion IsExceptTag es × IsLimited stem es)
range_tags k stem es d low is = (stem_tag k stem (get (codes "stem") d) low is.has_stem, (has_tags k es (get (codes "exclusions") d) low is.exclusions, is.limited))

-- ---- value sets

value_form : (v : Value) (d : Data) → HasTexts d → SpellsValue v d → IsExpressibleValue v
value_form (Values.Term (Terms.Iri iri)) d h is = tt
value_form (Values.Term (Terms.Blank name)) d h is = absurd is
value_form (Values.Term (Terms.Lit l)) d h is = literal_form l d h is
value_form (Values.IriStem stem) d h is = tt
value_form (Values.LitStem stem) d h is = tt
value_form (Values.Lang tag) d h is = tag_at (map to_ascii_lowercase) (text (get (codes "languageTag") d)) tag lowered is.has_tag
value_form (Values.LangStem stem) d h is = tag_at (map to_ascii_lowercase) (text (get (codes "stem") d)) stem lowered is.has_stem
value_form (Values.IriRange stem es) d h is = is.limited
value_form (Values.LitRange stem es) d h is = is.limited
value_form (Values.LangRange stem es) d h is = range_tags _ stem es d lowered is

values_form : (vs : List Value) (ds : Items) → HaveTexts ds → SpellsValues vs ds → AllByRecursion IsExpressibleValue vs
values_form [] ds h is = tt
values_form (v ∷ vs) no_items h is = absurd is
values_form (v ∷ vs) (item d ds) h is = (value_form v d h.0 is.0, values_form vs ds h.1 is.1)

value_set_form : (o : Option (List Value)) (r : Option Data) → HasTextsIfAny r → SpellsValueSet o r → AreExpressibleValues o
value_set_form None r h is = tt
value_set_form (Some vs) None h is = absurd is
value_set_form (Some vs) (Some null) h is = absurd is
value_set_form (Some vs) (Some (boolean b)) h is = absurd is
value_set_form (Some vs) (Some (number n)) h is = absurd is
value_set_form (Some vs) (Some (string s)) h is = absurd is
value_set_form (Some vs) (Some (array ds)) h is = values_form vs ds h is
value_set_form (Some vs) (Some (object ms)) h is = absurd is

-- ---- no key has two facets

-- what stands under a key is a facet with this key
abbrev IsKeyed : List ℕ → Option (Option Facet) → Type 0
IsKeyed key o = (facet : Facet) → o ≡ Some (Some facet) → facet_key facet ≡ key

abbrev AreKeyed : List (List ℕ) → List (Option (Option Facet)) → Type 0
AreKeyed [] [] = ⊤
AreKeyed [] (o ∷ os) = ⊥
AreKeyed (key ∷ keys) [] = ⊥
AreKeyed (key ∷ keys) (o ∷ os) = IsKeyed key o × AreKeyed keys os

-- how many of the keys are this one
abbrev times : List ℕ → List (List ℕ) → ℕ
times k keys = length (filter (λ key. bytes_eq key k) keys)

same_at : (b c : Bool) (f : Facet) (fs : List Facet) (key : List ℕ) (keys : List (List ℕ)) → b ≡ c → length fs ≤ length keys → length (cond b (f ∷ fs) fs) ≤ length (cond c (key ∷ keys) keys)
same_at true true f fs key keys e h = omega arith
same_at true false f fs key keys e h = absurd (true≢false e)
same_at false true f fs key keys e h = absurd (true≢false (sym e))
same_at false false f fs key keys e h = h

fewer_at : (c : Bool) (n : ℕ) (key : List ℕ) (keys : List (List ℕ)) → n ≤ length keys → n ≤ length (cond c (key ∷ keys) keys)
fewer_at true n key keys h = omega arith
fewer_at false n key keys h = h

once_listed : (k key : List ℕ) (keys : List (List ℕ)) (o : Option Facet) (gs : List Facet) → IsKeyed key (Some o) → length (all_under k gs) ≤ times k keys →
    length (all_under k (listed o ++ gs)) ≤ times k (key ∷ keys)
once_listed k key keys None gs own rest = fewer_at (bytes_eq key k) (length (all_under k gs)) key (filter (λ x. bytes_eq x k) keys) rest
once_listed k key keys (Some f) gs own rest =
    same_at (bytes_eq (facet_key f) k) (bytes_eq key k) f (all_under k gs) key (filter (λ x. bytes_eq x k) keys) (ap (λ (x : List ℕ). bytes_eq x k) (own f refl)) rest

once_step : (k key : List ℕ) (keys : List (List ℕ)) (o : Option (Option Facet)) (r : Option (List Facet)) (fs : List Facet) → IsKeyed key o →
    ((gs : List Facet) → r ≡ Some gs → length (all_under k gs) ≤ times k keys)
    → option_and_then (λ facet. option_map (λ facets. listed facet ++ facets) r) o ≡ Some fs → length (all_under k fs) ≤ times k (key ∷ keys)
once_step k key keys None r fs own rest e = absurd (cc)
once_step k key keys (Some o) None fs own rest e = absurd (cc)
once_step k key keys (Some o) (Some gs) fs own rest e =
    let same : listed o ++ gs ≡ fs = cc in
    subst (λ (xs : List Facet). length (all_under k xs) ≤ times k (key ∷ keys)) same (once_listed k key keys o gs own (rest gs refl))

once_all : (k : List ℕ) (keys : List (List ℕ)) (os : List (Option (Option Facet))) (fs : List Facet) → AreKeyed keys os → all_of os ≡ Some fs → length (all_under k fs) ≤ times k keys
once_all k [] [] fs h e = let same : [] ≡ fs = cc in subst (λ (xs : List Facet). length (all_under k xs) ≤ 0) same (omega arith)
once_all k [] (o ∷ os) fs h e = absurd h
once_all k (key ∷ keys) [] fs h e = absurd h
once_all k (key ∷ keys) (o ∷ os) fs h e = once_step k key keys o (all_of os) fs h.0 (λ gs rest. once_all k keys os gs h.1 rest) e

keyed_count : (facet : ℕ → Facet) (key : List ℕ) → ((n : ℕ) → facet_key (facet n) ≡ key) → (o : Option (Option ℕ)) → IsKeyed key (option_map (option_map facet) o)
keyed_count facet key h None own e = absurd (cc)
keyed_count facet key h (Some None) own e = absurd (cc)
keyed_count facet key h (Some (Some n)) own e = let same : facet n ≡ own = cc in ap facet_key (sym same) ∙ h n

keyed_bound : (facet : List ℕ → Facet) (key : List ℕ) → ((t : List ℕ) → facet_key (facet t) ≡ key) → (o : Option (Option (List ℕ))) → IsKeyed key (option_map (option_map facet) o)
keyed_bound facet key h None own e = absurd (cc)
keyed_bound facet key h (Some None) own e = absurd (cc)
keyed_bound facet key h (Some (Some t)) own e = let same : facet t ≡ own = cc in ap facet_key (sym same) ∙ h t

keyed_pattern : (p q : Option (Option (List ℕ))) → IsKeyed (codes "pattern") (option_and_then (λ pattern. option_and_then (with_flags pattern) q) p)
keyed_pattern None q own e = absurd (cc)
keyed_pattern (Some p) None own e = absurd (cc)
keyed_pattern (Some None) (Some None) own e = absurd (cc)
keyed_pattern (Some None) (Some (Some flags)) own e = absurd (cc)
keyed_pattern (Some (Some pattern)) (Some flags) own e = let same : Facets.Pattern pattern (unwrap_or flags []) ≡ own = cc in ap facet_key (sym same)

keyed : (d : Data) → AreKeyed facet_keys (facet_values d)
keyed d = (
  keyed_count Facets.Length (codes "length") (λ n. refl) (count (get (codes "length") d)),
  (
    keyed_count Facets.MinLength (codes "minlength") (λ n. refl) (count (get (codes "minlength") d)),
    (
      keyed_count Facets.MaxLength (codes "maxlength") (λ n. refl) (count (get (codes "maxlength") d)),
      (
        keyed_pattern (text_if_any (get (codes "pattern") d)) (text_if_any (get (codes "flags") d)),
        (
          keyed_bound Facets.MinInclusive (codes "mininclusive") (λ t. refl) (bound (get (codes "mininclusive") d)),
          (
            keyed_bound Facets.MinExclusive (codes "minexclusive") (λ t. refl) (bound (get (codes "minexclusive") d)),
            (
              keyed_bound Facets.MaxInclusive (codes "maxinclusive") (λ t. refl) (bound (get (codes "maxinclusive") d)),
              (
                keyed_bound Facets.MaxExclusive (codes "maxexclusive") (λ t. refl) (bound (get (codes "maxexclusive") d)),
                (
                  keyed_count Facets.TotalDigits (codes "totaldigits") (λ n. refl) (count (get (codes "totaldigits") d)),
                  (
                    keyed_count Facets.FractionDigits (codes "fractiondigits") (λ n. refl) (count (get (codes "fractiondigits") d)),
                    tt,
                  ),
                ),
              ),
            ),
          ),
        ),
      ),
    ),
  ),
)

once_form : (d : Data) (fs : List Facet) → facets_of d ≡ Some fs → AreOnce fs
unfolding facets_of
once_form d fs e =
    let at : (k : List ℕ) → times k facet_keys ≡ 1 → length (all_under k fs) ≤ 1 =
    λ k one. subst (λ (n : ℕ). length (all_under k fs) ≤ n) one (once_all k facet_keys (facet_values d) fs (keyed d) e) in (
      at (codes "length") refl,
      (
        at (codes "minlength") refl,
        (
          at (codes "maxlength") refl,
          (
            at (codes "pattern") refl,
            (
              at (codes "mininclusive") refl,
              (
                at (codes "minexclusive") refl,
                (at (codes "maxinclusive") refl, (at (codes "maxexclusive") refl, (at (codes "totaldigits") refl, (at (codes "fractiondigits") refl, tt)))),
              ),
            ),
          ),
        ),
      ),
    )

constraint_form : (keys : List (List ℕ)) (c : Constraint) (d : Data) → HasTexts d → IsConstraint keys c d → IsExpressibleConstraint c
constraint_form keys c d h is = record {
  sound = is.sound;
  once = once_form d c.facets is.facets;
  values = value_set_form c.values (get (codes "values") d) (texts_at (codes "values") d h) is.values;
}

-- ---- expressions

some_exprs : (es : ShapeExprs) (ds : Items) → (ds ≡ no_items → ⊥) → SpellsExprs es ds → es ≢ no_exprs
some_exprs no_exprs no_items some h e = some refl
some_exprs no_exprs (item d ds) some h e = h
some_exprs (more_exprs e es) ds some h none = cc

some_triples : (ts : TripleExprs) (ds : Items) → (ds ≡ no_items → ⊥) → SpellsTripleExprs ts ds → ts ≢ no_triples
some_triples no_triples no_items some h e = some refl
some_triples no_triples (item d ds) some h e = h
some_triples (more_triples t ts) ds some h none = cc

refer_form : (labelled : Bool) (d : Data) (l : Label) → reference labelled d ≡ Some l → IsLabel l
refer_form true d l e = absurd (cc)
refer_form false d l e = label_form (Some d) l e

mutual
  expr_form : (labelled : Bool) (e : ShapeExpr) (d : Data) → HasTexts d → SpellsExpr labelled e d → IsExpressible e
  expr_form labelled (disj es) d h is =
      let found = members_are (get (codes "shapeExprs") d) is.has_members.items is.has_members.found in
      (some_exprs es is.has_members.items found.1 is.has_members.all, exprs_form es is.has_members.items (texts_there (codes "shapeExprs") d (array is.has_members.items) h found.0) is.has_members.all)
  expr_form labelled (conj es) d h is =
      let found = members_are (get (codes "shapeExprs") d) is.has_members.items is.has_members.found in
      (some_exprs es is.has_members.items found.1 is.has_members.all, exprs_form es is.has_members.items (texts_there (codes "shapeExprs") d (array is.has_members.items) h found.0) is.has_members.all)
  expr_form labelled (neg e) d h is = expr_form false e is.has_child.child (texts_there (codes "shapeExpr") d is.has_child.child h is.has_child.found) is.has_child.one
  expr_form labelled (node c) d h is = constraint_form _ c d h is
  expr_form labelled (shape closed extra t) d h is = expression_form t (get (codes "expression") d) (texts_at (codes "expression") d h) is.has_expression
  expr_form labelled (refer l) d h is = refer_form labelled d l is

  exprs_form : (es : ShapeExprs) (ds : Items) → HaveTexts ds → SpellsExprs es ds → AreExpressible es
  exprs_form no_exprs ds h is = tt
  exprs_form (more_exprs e es) no_items h is = absurd is
  exprs_form (more_exprs e es) (item d ds) h is = (expr_form false e d h.0 is.0, exprs_form es ds h.1 is.1)

  value_expr_form : (e : MaybeShapeExpr) (o : Option Data) → HasTextsIfAny o → SpellsValueExpr e o → IsExpressibleValueExpr e
  value_expr_form no_expr o h is = tt
  value_expr_form (one_expr e) None h is = absurd is
  value_expr_form (one_expr e) (Some d) h is = expr_form false e d h is

  triple_form : (t : TripleExpr) (d : Data) → HasTexts d → SpellsTripleExpr t d → IsExpressibleTriple t
  triple_form (triple name low high b) d h is = body_form b name low high d h is

  body_form : (b : TripleBody) (name : Option Label) (low : ℕ) (high : Bound) (d : Data) → HasTexts d → SpellsBody b name low high d → IsLabelIfAny name ×
      (IsOrdered low high × IsExpressibleBody b name low high)
  body_form (each ts) name low high d h is =
      let found = members_are (get (codes "expressions") d) is.has_members.items is.has_members.found in
      (label_if_form (get (codes "id") d) name is.has_label, (is.counted.ordered, (some_triples ts is.has_members.items found.1 is.has_members.all, triples_form ts is.has_members.items (texts_there (codes "expressions") d (array is.has_members.items) h found.0) is.has_members.all)))
  body_form (one ts) name low high d h is =
      let found = members_are (get (codes "expressions") d) is.has_members.items is.has_members.found in
      (label_if_form (get (codes "id") d) name is.has_label, (is.counted.ordered, (some_triples ts is.has_members.items found.1 is.has_members.all, triples_form ts is.has_members.items (texts_there (codes "expressions") d (array is.has_members.items) h found.0) is.has_members.all)))
  body_form (arc inverse predicate e) name low high d h is =
      (label_if_form (get (codes "id") d) name is.has_label, (is.counted.ordered, value_expr_form e (get (codes "valueExpr") d) (texts_at (codes "valueExpr") d h) is.has_value))
  body_form (include target) name low high d h is = (
    subst IsLabelIfAny (sym is.no_label) tt,
    (
      subst (λ (n : ℕ). IsOrdered n high) (sym is.once) (subst (λ (z : Bound). IsOrdered 1 z) (sym is.only_once) (omega arith)),
      (label_form (Some d) target is.has_target, (is.no_label, (is.once, is.only_once))),
    ),
  )

  triples_form : (ts : TripleExprs) (ds : Items) → HaveTexts ds → SpellsTripleExprs ts ds → AreExpressibleTriples ts
  triples_form no_triples ds h is = tt
  triples_form (more_triples t ts) no_items h is = absurd is
  triples_form (more_triples t ts) (item d ds) h is = (triple_form t d h.0 is.0, triples_form ts ds h.1 is.1)

  expression_form : (t : MaybeTripleExpr) (o : Option Data) → HasTextsIfAny o → SpellsExpression t o → IsExpressibleExpression t
  expression_form no_triple o h is = tt
  expression_form (one_triple t) None h is = absurd is
  expression_form (one_triple t) (Some d) h is = triple_form t d h is

-- ---- documents

decl_form : (decl : Declaration) (d : Data) → HasTexts d → SpellsDeclaration decl d → IsLabel decl.label × IsExpressible decl.expr
decl_form decl d h (inl is) =
    (label_form (get (codes "id") d) decl.label is.has_label, expr_form false decl.expr is.has_expr.child (texts_there (codes "shapeExpr") d is.has_expr.child h is.has_expr.found) is.has_expr.one)
decl_form decl d h (inr is) = (label_form (get (codes "id") d) decl.label is.has_label, expr_form true decl.expr d h is.has_expr)

decls_form : (decls : List Declaration) (ds : Items) → HaveTexts ds → SpellsDeclarations decls ds → AreExpressibleDecls decls
decls_form [] ds h is = tt
decls_form (decl ∷ decls) no_items h is = absurd is
decls_form (decl ∷ decls) (item d ds) h is = (decl_form decl d h.0 is.0, decls_form decls ds h.1 is.1)

shapes_form : (decls : List Declaration) (o : Option Data) → HasTextsIfAny o → SpellsShapes decls o → AreExpressibleDecls decls
shapes_form decls None h is = subst AreExpressibleDecls (sym is) tt
shapes_form decls (Some null) h is = absurd is
shapes_form decls (Some (boolean b)) h is = absurd is
shapes_form decls (Some (number n)) h is = absurd is
shapes_form decls (Some (string s)) h is = absurd is
shapes_form decls (Some (array ds)) h is = decls_form decls ds h is
shapes_form decls (Some (object ms)) h is = absurd is

pub document_form : (doc : Document) (d : Data) → HasTexts d → SpellsDocument doc d → IsExpressibleDocument doc
document_form doc d h is = record {
  start = value_expr_form doc.start (get (codes "start") d) (texts_at (codes "start") d h) is.has_start;
  decls = shapes_form doc.decls (get (codes "shapes") d) (texts_at (codes "shapes") d h) is.has_shapes;
}
