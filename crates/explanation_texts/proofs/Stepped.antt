-- Loops that append, with what is left told behind what is there.
use Rattle.std.proofs.Common.{◌≡◌, ◌∙◌, ◌<◌, ◌++◌, ◌∷◌, ◌+◌, ℕ, suc, Bor, List, [], ap, drop, get_or, length, map, refl, sym}
use Rattle.std.proofs.Math.Numerals.{add-one}
use Rattle.std.proofs.lemmas.List.{append_assoc, drop_more, map-append}
use Rattle.std.proofs.lemmas.Bool.{ltb-false, ltb-true}
use Rattle.std.proofs.lemmas.Option.{slice_get_past, slice_get_read}
use Rattle.std.specs.Option.{option_copied}
use Rattle.std.specs.Prelude.{Option, Some, None, slice_get}
use Rattle.std.specs.Slice.{IsItemAt}
use Rattle.rdf_terms.specs.declared.terms.Term.{Term}
use Rattle.rdf_terms.specs.declared.terms.TermId.{TermId}
use Rattle.schema_tree.specs.declared.schema.ExprId.{ExprId}
use Rattle.schema_tree.specs.declared.schema.Occurrence.{Occurrence}
use Rattle.serde_json.specs.Data.{Data, no_members, object}
use Rattle.serde_json.specs.View.{view}
use Rattle.serde_json.specs.declared.value.Value.{Value}
use Rattle.shape_map.specs.declared.resolve.Association.{Association}
use Rattle.explanations.specs.declared.explanation.Told.{Told}
use Rattle.explanations.specs.declared.explanation.Why.{Why}
use Rattle.explanation_texts.specs.declared.setting.Setting.{Setting}
use Rattle.explanation_texts.specs.Answers.{answers_text, told_text}
use Rattle.explanation_texts.specs.Data.{answers_data, told_data}
use Rattle.explanation_texts.specs.Reasons.{count_text, counts_text, member_line, member_lines}
use Rattle.explanation_texts.specs.Trees.{count_data, counts_data, members_data, put_member}

-- a piece goes from what is left to what is there
moved : {A : Type 0} (out new piece rest before whole : List A) →
    out ++ before ≡ whole → new ≡ out ++ piece → before ≡ piece ++ rest → new ++ rest ≡ whole
moved out new piece rest before whole h n b = ap (λ z. z ++ rest) n ∙ append_assoc out piece rest ∙ ap (λ z. out ++ z) (sym b) ∙ h

-- what `get` gives is the item of the number, if there is one
pub got : {X : Type 0} (xs : List X) (i : ℕ) (r : Option (Bor X)) → IsItemAt xs i r → option_copied r ≡ slice_get xs i
got xs i None h = sym (slice_get_past xs i (ltb-false i (length xs) (sym h.0)))
got xs i (Some x) h = sym (slice_get_read xs (length xs) i x.now refl (ltb-true i (length xs) (sym h.0)) h.1)

-- four pieces that are appended one after the other
pub four : (old a b c d one two three all : List ℕ) →
    one ≡ old ++ a → two ≡ one ++ b → three ≡ two ++ c → all ≡ three ++ d → all ≡ old ++ (a ++ (b ++ (c ++ d)))
four old a b c d one two three all h i j k =
    k ∙ ap (λ z. z ++ d) (j ∙ ap (λ z. z ++ c) (i ∙ ap (λ z. z ++ b) h)) ∙ append_assoc (old ++ a ++ b) c d ∙ append_assoc (old ++ a) b (c ++ d)
    ∙ append_assoc old a (b ++ (c ++ d))

pub member_step : (s : Setting) (n : TermId) (whys : List Why) (members : List ExprId) (i : ℕ) (d : ExprId) (why : Option Why)
    (out new whole : List ℕ) →
    i < length members → why ≡ slice_get whys i → out ++ member_lines s n whys i (drop i members) ≡ whole →
    new ≡ out ++ member_line s n (get_or members i d) why → new ++ member_lines s n whys (i + 1) (drop (i + 1) members) ≡ whole
member_step s n whys members i d why out new whole l same h e =
    moved out new (member_line s n (get_or members i d) why) (member_lines s n whys (i + 1) (drop (i + 1) members)) (member_lines s n whys i (drop i members))
    whole h e
    (ap (member_lines s n whys i) (drop_more members i d l)
    ∙ ap (λ w. member_line s n (get_or members i d) w ++ member_lines s n whys (suc i) (drop (i + 1) members)) (sym same)
    ∙ ap (λ j. member_line s n (get_or members i d) why ++ member_lines s n whys j (drop (i + 1) members)) (sym (add-one i)))

pub count_step : (terms : List Term) (occs : List Occurrence) (high low : List ℕ) (i d : ℕ) (most : Option ℕ) (out new whole : List ℕ) →
    i < length low → most ≡ slice_get high i → out ++ counts_text terms occs high i (drop i low) ≡ whole →
    new ≡ out ++ count_text terms occs i (get_or low i d) most → new ++ counts_text terms occs high (i + 1) (drop (i + 1) low) ≡ whole
count_step terms occs high low i d most out new whole l same h e =
    moved out new (count_text terms occs i (get_or low i d) most) (counts_text terms occs high (i + 1) (drop (i + 1) low))
    (counts_text terms occs high i (drop i low))
    whole h e
    (ap (counts_text terms occs high i) (drop_more low i d l)
    ∙ ap (λ m. count_text terms occs i (get_or low i d) m ++ counts_text terms occs high (suc i) (drop (i + 1) low)) (sym same)
    ∙ ap (λ j. count_text terms occs i (get_or low i d) most ++ counts_text terms occs high j (drop (i + 1) low)) (sym (add-one i)))

pub answer_step : (s : Setting) (asked : List Association) (answers : List Told) (i n m : ℕ) (t : Told) (a : Option Association)
    (out new whole : List ℕ) →
    i < length answers → t ≡ get_or answers i t → a ≡ slice_get asked i → m ≡ n + length t.blocks →
    out ++ answers_text s asked i n (drop i answers) ≡ whole →
    new ≡ out ++ told_text s n a t → new ++ answers_text s asked (i + 1) m (drop (i + 1) answers) ≡ whole
answer_step s asked answers i n m t a out new whole l is same more h e =
    moved out new (told_text s n a t) (answers_text s asked (i + 1) m (drop (i + 1) answers)) (answers_text s asked i n (drop i answers)) whole h e
    (ap (answers_text s asked i n) (drop_more answers i t l ∙ ap (λ u. u ∷ drop (i + 1) answers) (sym is))
    ∙ ap (λ b. told_text s n b t ++ answers_text s asked (suc i) (n + length t.blocks) (drop (i + 1) answers)) (sym same)
    ∙ ap (λ j. told_text s n a t ++ answers_text s asked j (n + length t.blocks) (drop (i + 1) answers)) (sym (add-one i))
    ∙ ap (λ j. told_text s n a t ++ answers_text s asked (i + 1) j (drop (i + 1) answers)) (sym more))

pub value_step : (s : Setting) (asked : List Association) (answers : List Told) (i n m : ℕ) (t : Told) (a : Option Association)
    (out new whole : List Data) →
    i < length answers → t ≡ get_or answers i t → a ≡ slice_get asked i → m ≡ n + length t.blocks →
    out ++ answers_data s asked i n (drop i answers) ≡ whole →
    new ≡ out ++ told_data s n a t → new ++ answers_data s asked (i + 1) m (drop (i + 1) answers) ≡ whole
value_step s asked answers i n m t a out new whole l is same more h e =
    moved out new (told_data s n a t) (answers_data s asked (i + 1) m (drop (i + 1) answers)) (answers_data s asked i n (drop i answers)) whole h e
    (ap (answers_data s asked i n) (drop_more answers i t l ∙ ap (λ u. u ∷ drop (i + 1) answers) (sym is))
    ∙ ap (λ b. told_data s n b t ++ answers_data s asked (suc i) (n + length t.blocks) (drop (i + 1) answers)) (sym same)
    ∙ ap (λ j. told_data s n a t ++ answers_data s asked j (n + length t.blocks) (drop (i + 1) answers)) (sym (add-one i))
    ∙ ap (λ j. told_data s n a t ++ answers_data s asked (i + 1) j (drop (i + 1) answers)) (sym more))

pub counted_step : (terms : List Term) (occs : List Occurrence) (high low : List ℕ) (i d : ℕ) (most : Option ℕ) (out new whole : List Data) →
    i < length low → most ≡ slice_get high i → out ++ counts_data terms occs high i (drop i low) ≡ whole →
    new ≡ out ++ count_data terms occs i (get_or low i d) most ∷ [] → new ++ counts_data terms occs high (i + 1) (drop (i + 1) low) ≡ whole
counted_step terms occs high low i d most out new whole l same h e =
    moved out new (count_data terms occs i (get_or low i d) most ∷ []) (counts_data terms occs high (i + 1) (drop (i + 1) low))
    (counts_data terms occs high i (drop i low))
    whole h e
    (ap (counts_data terms occs high i) (drop_more low i d l)
    ∙ ap (λ m. count_data terms occs i (get_or low i d) m ∷ counts_data terms occs high (suc i) (drop (i + 1) low)) (sym same)
    ∙ ap (λ j. count_data terms occs i (get_or low i d) most ∷ counts_data terms occs high j (drop (i + 1) low)) (sym (add-one i)))

pub told_member_step : (s : Setting) (n : TermId) (whys : List Why) (members : List ExprId) (i : ℕ) (d : ExprId) (why : Option Why)
    (out new whole : List Data) →
    i < length members → why ≡ slice_get whys i → out ++ members_data s n whys i (drop i members) ≡ whole →
    new ≡ out ++ object (put_member s n (get_or members i d) why no_members) ∷ [] → new ++ members_data s n whys (i + 1) (drop (i + 1) members) ≡ whole
told_member_step s n whys members i d why out new whole l same h e =
    moved out new (object (put_member s n (get_or members i d) why no_members) ∷ []) (members_data s n whys (i + 1) (drop (i + 1) members))
    (members_data s n whys i (drop i members))
    whole h e
    (ap (members_data s n whys i) (drop_more members i d l)
    ∙ ap (λ w. object (put_member s n (get_or members i d) w no_members) ∷ members_data s n whys (suc i) (drop (i + 1) members)) (sym same)
    ∙ ap (λ j. object (put_member s n (get_or members i d) why no_members) ∷ members_data s n whys j (drop (i + 1) members)) (sym (add-one i)))

-- a value that is put behind others, as it is seen
pub seen_behind : (values new : List Value) (v : Value) (d : Data) → new ≡ values ++ v ∷ [] → view v ≡ d → map view new ≡ map view values ++ d ∷ []
seen_behind values new v d pushed is = ap (map view) pushed ∙ map-append view values (v ∷ []) ∙ ap (λ x. map view values ++ x ∷ []) is
