-- Lists of JSON values that are read: lists that are not empty, and lists of texts.
use Rattle.std.proofs.Common.{◌≡◌, ◌∙◌, ◌<◌, ◌+◌, ℕ, zero, suc, List, [], ◌∷◌, ◌++◌, arith, false, length, get_or, take, eqb, refl, sym, ap}
use Rattle.std.specs.Prelude.{Option, Some, None, option_and_then, option_map}
use Rattle.std.specs.Str.{chars}
use Rattle.std.proofs.lemmas.List.{take_more}
use Rattle.serde_json.specs.Data.{Data, Items}
use Rattle.serde_json.specs.Find.{as_array, as_str}
use Rattle.serde_json.specs.View.{items_view, view}
use Rattle.serde_json.specs.declared.value.Value.{Value}
use Rattle.shexj_reader.specs.Keys.{members, some_items, text, texts, texts_in}

some_view : (vs : List Value) → eqb (length vs) 0 ≡ false → some_items (items_view vs) ≡ Some (items_view vs)
some_view [] e = cc
some_view (v ∷ vs) e = refl

pub members_found : (o : Option Data) (vs : List Value) → Some (items_view vs) ≡ option_and_then as_array o → eqb (length vs) 0 ≡ false → members o ≡ Some (items_view vs)
members_found o vs e n = ap (option_and_then some_items) (sym e) ∙ some_view vs n

abbrev joined : Option (List ℕ) → Option (List (List ℕ)) → Option (List (List ℕ))
joined o r = option_and_then (λ s. option_map (λ ss. s ∷ ss) r) o

joined_none : (o : Option (List ℕ)) → joined o None ≡ None
joined_none None = refl
joined_none (Some s) = refl

joined_push : (o : Option (List ℕ)) (r next : Option (List (List ℕ))) (ss : List (List ℕ)) (s : List ℕ) → joined o r ≡ Some ss →
    ((ts : List (List ℕ)) → r ≡ Some ts → next ≡ Some (ts ++ s ∷ [])) → joined o next ≡ Some (ss ++ s ∷ [])
joined_push None r next ss s h k = cc
joined_push (Some t) None next ss s h k = cc
joined_push (Some t) (Some ts) next ss s h k =
    let is : t ∷ ts ≡ ss = cc in
    ap (option_map (λ (us : List (List ℕ)). t ∷ us)) (k ts refl) ∙ ap (λ (us : List (List ℕ)). Some (us ++ s ∷ [])) is

texts_push : (vs : List Value) (v : Value) (ss : List (List ℕ)) (s : List ℕ) → texts_in (items_view vs) ≡ Some ss → text (Some (view v)) ≡ Some s →
    texts_in (items_view (vs ++ v ∷ [])) ≡ Some (ss ++ s ∷ [])
texts_push [] v ss s h e =
    let is : [] ≡ ss = cc in
    ap (λ (o : Option (List ℕ)). joined o (Some [])) e ∙ ap (λ (us : List (List ℕ)). Some (us ++ s ∷ [])) is
texts_push (w ∷ vs) v ss s h e = joined_push (text (Some (view w))) _ _ ss s h (λ ts r. texts_push vs v ts s r e)

pub texts_more : (vs : List Value) (i : ℕ) (v : Value) (ss : List (List ℕ)) (s : List ℕ) → i < length vs → v ≡ get_or vs i v →
    texts_in (items_view (take i vs)) ≡ Some ss → text (Some (view v)) ≡ Some s → texts_in (items_view (take (i + 1) vs)) ≡ Some (ss ++ s ∷ [])
texts_more vs i v ss s lt is h e =
    ap (λ (us : List Value). texts_in (items_view us)) (take_more vs i v lt ∙ ap (λ (u : Value). take i vs ++ u ∷ []) (sym is)) ∙ texts_push (take i vs) v ss s h e

pub texts_bad : (vs : List Value) (i : ℕ) (v : Value) → i < length vs → v ≡ get_or vs i v → text (Some (view v)) ≡ None → texts_in (items_view vs) ≡ None
texts_bad [] i v lt is e = absurd (omega arith)
texts_bad (w ∷ vs) zero v lt is e = ap (λ (x : Value). joined (text (Some (view x))) (texts_in (items_view vs))) (sym is) ∙ ap (λ (o : Option (List ℕ)). joined o (texts_in (items_view vs))) e
texts_bad (w ∷ vs) (suc i) v lt is e = ap (joined (text (Some (view w)))) (texts_bad vs i v (omega arith) is e) ∙ joined_none (text (Some (view w)))

-- what stands under a key, by its list
pub at_list : (o : Option Data) (d : Data) (ds : Items) → o ≡ Some d → Some ds ≡ as_array d → texts o ≡ texts_in ds
at_list o d ds there list = ap texts there ∙ ap (option_and_then texts_in) (sym list)

-- the text of a value
pub text_of : (d : Data) (s : List ℕ) → Some s ≡ as_str d → text (Some d) ≡ Some (chars s)
text_of d s e = ap (option_map chars) (sym e)

pub no_text_of : (d : Data) → None ≡ as_str d → text (Some d) ≡ None
no_text_of d e = ap (option_map chars) (sym e)
