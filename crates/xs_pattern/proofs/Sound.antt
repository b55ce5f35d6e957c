-- What is read is spelled.
use Rattle.std.proofs.Common.{◌≡◌, ◌<◌, ◌+◌, ◌⊎◌, inl, inr, ℕ, zero, suc, arith, length, List, [], ◌∷◌, ◌++◌, refl, sym, subst, ap, ◌∙◌, Bool, true, false, cond, not, ◌&&◌, ◌||◌, take, drop}
use Rattle.std.specs.Prelude.{⊤, Option, Some, None, option_map, nat_eq, nat_le, codes}
use Rattle.std.specs.Char.{is_ascii_digit}
use Rattle.std.specs.List.{list_all}
use Rattle.std.specs.Str.Parse.{digits_value}
use Rattle.std.proofs.lemmas.Bool.{eqb-true, leb-true, le-leb}
use Rattle.std.proofs.lemmas.List.{take-append-drop}
use Rattle.std.proofs.lemmas.List.Folds.{length-prefix_len}
use Rattle.std.proofs.lemmas.Option.{same_Some}
use Rattle.xs_pattern.specs.declared.expression.Item.{Item}
use Rattle.xs_pattern.specs.declared.expression.Item.TheVariants as Items
use Rattle.xs_pattern.specs.declared.expression.Kind.{Kind}
use Rattle.xs_pattern.specs.declared.expression.Kind.TheVariants as Kinds
use Rattle.xs_pattern.specs.Lexing.{with_rest, or_else, begins, tail, two_letters, one_letter, read_category, kind_item, letter_item, read_kind, read_single, char_item, read_escape, is_own, read_char, is_range, is_end, up_to, ranged, read_kind_item, read_item, item_before, item_then, items_within, read_more, read_items, read_opening, members, members_then, read_members, group_before, groups_then, groups_within, read_groups, behind_closing, with_members, closed, read_class, digit_count, read_digits, read_upper, behind_comma, read_braces, read_quantifier, times_token, item_token, class_token, behind_open, mark_token, plain_token, read_token, token_before, tokens_then, tokens_within, read_tokens}
use Rattle.xs_pattern.specs.Spelling.{categories, escaped, is_one_of, is_same, named, Begins, SpellsKind, SpellsEscape, SpellsChar, SpellsItem, SpellsMore, SpellsItems, SpellsOpening, SpellsMembers, SpellsClass, SpellsNumber, SpellsQuantifier, SpellsToken, SpellsTokens, is_normal}
use Rattle.xs_pattern.specs.Tokens.{Token, open_bracket, close_bracket, bar, start_anchor, end_anchor, one_of, times}
use Rattle.xs_pattern.specs.Regex.{Members, dot, item, class}
use Rattle.xs_pattern.proofs.Choices.{chosen, not_true}
use Rattle.xs_pattern.proofs.Reading.{and_parts, or_cases}

either_way : {A : Type 0} (a b : Option A) (v : A) (P : Type 0) → or_else a b ≡ Some v → (a ≡ Some v → P) → (b ≡ Some v → P) → P
either_way None b v P h f g = g h
either_way (Some x) b v P h f g = f h

with_rest_is : {A : Type 0} (o : Option A) (s : List ℕ) (a : A) (r : List ℕ) → with_rest o s ≡ Some (a, r) → (o ≡ Some a) × (s ≡ r)
with_rest_is None s a r h = absurd (cc)
with_rest_is {A} (Some x) s a r h =
    let e = same_Some (x, s) (a, r) h in (ap (λ (w : A × List ℕ). Some w.0) e, ap (λ (w : A × List ℕ). w.1) e)

pub begins_with : (c : ℕ) (ts : List ℕ) → begins c ts ≡ true → ts ≡ c ∷ tail ts
begins_with c [] h = absurd (cc)
begins_with c (d ∷ ds) h = λ i. eqb-true d c h i ∷ ds

-- categories
two_letters_sound : (a b : ℕ) (ts r : List ℕ) (k : Kind) → two_letters a b ts ≡ Some (k, r) → (named categories (a ∷ b ∷ []) ≡ Some k) × (ts ≡ 125 ∷ r)
two_letters_sound a b [] r k h = absurd (cc)
two_letters_sound a b (c ∷ cs) r k h =
    chosen (nat_eq c 125) (with_rest (named categories (a ∷ b ∷ [])) cs) None (k, r) _ h
    (λ t e. let p = with_rest_is (named categories (a ∷ b ∷ [])) cs k r e in (p.0, λ i. eqb-true c 125 t i ∷ p.1 i))
    (λ t e. absurd (cc))

-- a name in braces
abbrev InBraces : Kind → List ℕ → List ℕ → Type 0
InBraces k ts r = (name : List ℕ) × (named categories name ≡ Some k) × (ts ≡ name ++ 125 ∷ r)

one_letter_sound : (a : ℕ) (ts r : List ℕ) (k : Kind) → one_letter a ts ≡ Some (k, r) → InBraces k (a ∷ ts) r
one_letter_sound a [] r k h = absurd (cc)
one_letter_sound a (b ∷ cs) r k h =
    chosen (nat_eq b 125) (with_rest (named categories (a ∷ [])) cs) (two_letters a b cs) (k, r) (InBraces k (a ∷ b ∷ cs) r) h
    (λ t e. let p = with_rest_is (named categories (a ∷ [])) cs k r e in (a ∷ [], p.0, λ i. a ∷ eqb-true b 125 t i ∷ p.1 i))
    (λ t e. let p = two_letters_sound a b cs r k e in (a ∷ b ∷ [], p.0, ap (λ v. a ∷ b ∷ v) p.1))

category_sound : (ts r : List ℕ) (k : Kind) → read_category ts ≡ Some (k, r) → (name : List ℕ) × (named categories name ≡ Some k) × (ts ≡ 123 ∷ (name ++ 125 ∷ r))
category_sound [] r k h = absurd (cc)
category_sound (c ∷ []) r k h = chosen (nat_eq c 123) None None (k, r) _ h (λ t e. absurd (cc)) (λ t e. absurd (cc))
category_sound (c ∷ (a ∷ cs)) r k h =
    chosen (nat_eq c 123) (one_letter a cs) None (k, r) _ h
    (λ t e. let p = one_letter_sound a cs r k e in (p.0, p.1, λ i. eqb-true c 123 t i ∷ p.2 i))
    (λ t e. absurd (cc))

-- a category is none of the kinds with letters of their own
abbrev is_category : Kind → Bool
is_category (Kinds.Category g) = true
is_category (Kinds.Group g) = true
is_category _ = false

named_category : (entries : List (List ℕ × Kind)) (name : List ℕ) (k : Kind) → list_all (λ entry. is_category entry.1) entries ≡ true → named entries name ≡ Some k → is_category k ≡ true
named_category [] name k all h = absurd (cc)
named_category (entry ∷ entries) name k all h =
    let p = and_parts (is_category entry.1) (list_all (λ e. is_category e.1) entries) all in
    chosen (is_same entry.0 name) (Some entry.1) (named entries name) k (is_category k ≡ true) h
    (λ t e. ap is_category (sym (same_Some entry.1 k e)) ∙ p.0)
    (λ t e. named_category entries name k p.1 e)

all_categories : list_all (λ entry. is_category entry.1) categories ≡ true
unfolding categories
all_categories = refl

kind_sound : (d s w p : ℕ) (k : Kind) (ts r : List ℕ) → (name : List ℕ) × (named categories name ≡ Some k) × (ts ≡ 92 ∷ p ∷ 123 ∷ (name ++ 125 ∷ r)) → SpellsKind d s w p k ts r
kind_sound d s w p Kinds.Digit ts r (name, is, at) = let no_letter = named_category categories name Kinds.Digit all_categories is in absurd (cc)
kind_sound d s w p Kinds.Space ts r (name, is, at) = let no_letter = named_category categories name Kinds.Space all_categories is in absurd (cc)
kind_sound d s w p Kinds.Word ts r (name, is, at) = let no_letter = named_category categories name Kinds.Word all_categories is in absurd (cc)
kind_sound d s w p (Kinds.Category g) ts r h = h
kind_sound d s w p (Kinds.Group g) ts r h = h

-- escapes
kind_item_sound : (negated : Bool) (o : Option (Kind × List ℕ)) (x : Item) (r cs : List ℕ) (p : ℕ) → kind_item negated o ≡ Some (x, r) →
    ((k : Kind) (m : List ℕ) → o ≡ Some (k, m) → (name : List ℕ) × (named categories name ≡ Some k) × (cs ≡ 123 ∷ (name ++ 125 ∷ m))) → p ≡ cond negated 80 112 → SpellsEscape x (92 ∷ p ∷ cs) r
kind_item_sound true None x r cs p h sound letter = absurd (cc)
kind_item_sound false None x r cs p h sound letter = absurd (cc)
kind_item_sound true (Some (k, m)) x r cs p h sound letter =
    let e = same_Some (Items.Not k, m) (x, r) h in
    let q = sound k m refl in
    subst (λ (v : Item × List ℕ). SpellsEscape v.0 (92 ∷ p ∷ cs) v.1) e
    (kind_sound 68 83 87 80 k (92 ∷ p ∷ cs) m (q.0, q.1, λ i. 92 ∷ letter i ∷ q.2 i))
kind_item_sound false (Some (k, m)) x r cs p h sound letter =
    let e = same_Some (Items.Kind k, m) (x, r) h in
    let q = sound k m refl in
    subst (λ (v : Item × List ℕ). SpellsEscape v.0 (92 ∷ p ∷ cs) v.1) e
    (kind_sound 100 115 119 112 k (92 ∷ p ∷ cs) m (q.0, q.1, λ i. 92 ∷ letter i ∷ q.2 i))

is_letter : (c k : ℕ) (x y : Item) (r : List ℕ) → nat_eq c k ≡ true → Some y ≡ Some x → SpellsEscape y (92 ∷ k ∷ r) r → SpellsEscape x (92 ∷ c ∷ r) r
is_letter c k x y r t e s =
    subst (λ v. SpellsEscape v (92 ∷ c ∷ r) r) (same_Some y x e) (subst (λ v. SpellsEscape y (92 ∷ v ∷ r) r) (sym (eqb-true c k t)) s)

letter_sound : (c : ℕ) (x : Item) (r : List ℕ) → letter_item c ≡ Some x → SpellsEscape x (92 ∷ c ∷ r) r
letter_sound c x r h =
    chosen (nat_eq c 100) _ _ x _ h (λ t e. is_letter c 100 x (Items.Kind Kinds.Digit) r t e refl)
    (λ t h. chosen (nat_eq c 68) _ _ x _ h (λ t e. is_letter c 68 x (Items.Not Kinds.Digit) r t e refl)
    (λ t h. chosen (nat_eq c 115) _ _ x _ h (λ t e. is_letter c 115 x (Items.Kind Kinds.Space) r t e refl)
    (λ t h. chosen (nat_eq c 83) _ _ x _ h (λ t e. is_letter c 83 x (Items.Not Kinds.Space) r t e refl)
    (λ t h. chosen (nat_eq c 119) _ _ x _ h (λ t e. is_letter c 119 x (Items.Kind Kinds.Word) r t e refl)
    (λ t h. chosen (nat_eq c 87) _ _ x _ h (λ t e. is_letter c 87 x (Items.Not Kinds.Word) r t e refl)
    (λ t e. absurd (cc)))))))

kind_read_sound : (cs r : List ℕ) (x : Item) → read_kind cs ≡ Some (x, r) → SpellsEscape x (92 ∷ cs) r
kind_read_sound [] r x h = absurd (cc)
kind_read_sound (c ∷ cs) r x h =
    chosen (nat_eq c 112) (kind_item false (read_category cs)) _ (x, r) (SpellsEscape x (92 ∷ c ∷ cs) r) h
    (λ t e. kind_item_sound false (read_category cs) x r cs c e (λ k m. category_sound cs m k) (eqb-true c 112 t))
    (λ t h. chosen (nat_eq c 80) (kind_item true (read_category cs)) (with_rest (letter_item c) cs) (x, r) (SpellsEscape x (92 ∷ c ∷ cs) r) h
    (λ t e. kind_item_sound true (read_category cs) x r cs c e (λ k m. category_sound cs m k) (eqb-true c 80 t))
    (λ t e. let p = with_rest_is (letter_item c) cs x r e in subst (λ v. SpellsEscape x (92 ∷ c ∷ v) r) (sym p.1) (letter_sound c x r p.0)))

single_sound : (cs r : List ℕ) (d : ℕ) → read_single cs ≡ Some (d, r) → SpellsEscape (Items.Char d) (92 ∷ cs) r
single_sound [] r d h = absurd (cc)
single_sound (c ∷ cs) r d h = let p = with_rest_is (escaped c) cs d r h in (c, p.0, ap (λ v. 92 ∷ c ∷ v) p.1)

char_item_sound : (o : Option (ℕ × List ℕ)) (x : Item) (cs r : List ℕ) → char_item o ≡ Some (x, r) →
    ((d : ℕ) (m : List ℕ) → o ≡ Some (d, m) → SpellsEscape (Items.Char d) (92 ∷ cs) m) → SpellsEscape x (92 ∷ cs) r
char_item_sound None x cs r h sound = absurd (cc)
char_item_sound (Some (d, m)) x cs r h sound =
    subst (λ (v : Item × List ℕ). SpellsEscape v.0 (92 ∷ cs) v.1) (same_Some (Items.Char d, m) (x, r) h) (sound d m refl)

pub escape_sound : (cs r : List ℕ) (x : Item) → read_escape cs ≡ Some (x, r) → SpellsEscape x (92 ∷ cs) r
escape_sound cs r x h =
    either_way (read_kind cs) (char_item (read_single cs)) (x, r) (SpellsEscape x (92 ∷ cs) r) h
    (λ e. kind_read_sound cs r x e)
    (λ e. char_item_sound (read_single cs) x cs r e (λ d m. single_sound cs m d))

-- characters and items of classes
own_sound : (is_first : Bool) (c : ℕ) (cs : List ℕ) → is_own is_first c cs ≡ true → SpellsChar is_first c (c ∷ cs) cs
own_sound is_first c cs h =
    let p = and_parts (not (is_one_of (codes "\\[]") c)) (not (nat_eq c 45) || is_first || begins 93 cs) h in
    inr (refl, not_true (is_one_of (codes "\\[]") c) p.0, λ is. placed is (or_cases (not (nat_eq c 45) || is_first) (begins 93 cs) p.1))
  where
    placed : c ≡ 45 → ((not (nat_eq c 45) || is_first) ≡ true) ⊎ (begins 93 cs ≡ true) → (is_first ≡ true) ⊎ Begins 93 cs
    placed is (inl h) = inl (subst (λ v. (not (nat_eq v 45) || is_first) ≡ true) is h)
    placed is (inr h) = inr (tail cs, begins_with 93 cs h)

pub char_sound : (is_first : Bool) (d : ℕ) (ts r : List ℕ) → read_char is_first ts ≡ Some (d, r) → SpellsChar is_first d ts r
char_sound is_first d [] r h = absurd (cc)
char_sound is_first d (c ∷ cs) r h =
    chosen (nat_eq c 92) (read_single cs) (cond (is_own is_first c cs) (Some (c, cs)) None) (d, r) (SpellsChar is_first d (c ∷ cs) r) h
    (λ t e. inl (subst (λ v. SpellsEscape (Items.Char d) (v ∷ cs) r) (sym (eqb-true c 92 t)) (single_sound cs r d e)))
    (λ t h. chosen (is_own is_first c cs) (Some (c, cs)) None (d, r) (SpellsChar is_first d (c ∷ cs) r) h
    (λ t e. subst (λ (v : ℕ × List ℕ). SpellsChar is_first v.0 (c ∷ cs) v.1) (same_Some (c, cs) (d, r) e) (own_sound is_first c cs t))
    (λ t e. absurd (cc)))

escape_is_item : (is_first : Bool) (x : Item) (ts r : List ℕ) → SpellsEscape x ts r → SpellsItem is_first x ts r
escape_is_item is_first (Items.Char d) ts r h = inl h
escape_is_item is_first (Items.Range a b) ts r h = absurd h
escape_is_item is_first (Items.Kind k) ts r h = h
escape_is_item is_first (Items.Not k) ts r h = h

kind_item_read_sound : (is_first : Bool) (x : Item) (ts r : List ℕ) → read_kind_item ts ≡ Some (x, r) → SpellsItem is_first x ts r
kind_item_read_sound is_first x [] r h = absurd (cc)
kind_item_read_sound is_first x (c ∷ cs) r h =
    chosen (nat_eq c 92) (read_kind cs) None (x, r) (SpellsItem is_first x (c ∷ cs) r) h
    (λ t e. escape_is_item is_first x (c ∷ cs) r (subst (λ v. SpellsEscape x (v ∷ cs) r) (sym (eqb-true c 92 t)) (kind_read_sound cs r x e)))
    (λ t e. absurd (cc))

range_begins : (m : List ℕ) → is_range m ≡ true → m ≡ 45 ∷ tail m
range_begins m h = begins_with 45 m (and_parts (begins 45 m) (not (begins 93 (tail m) || begins 91 (tail m))) h).0

up_to_sound : (is_first : Bool) (a : ℕ) (o : Option (ℕ × List ℕ)) (x : Item) (ts m r : List ℕ) → up_to a o ≡ Some (x, r) → SpellsChar is_first a ts (45 ∷ m) →
    ((b : ℕ) (v : List ℕ) → o ≡ Some (b, v) → SpellsChar false b m v) → SpellsItem is_first x ts r
up_to_sound is_first a None x ts m r h from sound = absurd (cc)
up_to_sound is_first a (Some (b, v)) x ts m r h from sound =
    chosen (nat_le a b) (Some (Items.Range a b, v)) None (x, r) (SpellsItem is_first x ts r) h
    (λ t e. subst (λ (w : Item × List ℕ). SpellsItem is_first w.0 ts w.1) (same_Some (Items.Range a b, v) (x, r) e) (m, from, sound b v refl, leb-true a b t))
    (λ t e. absurd (cc))

ranged_sound : (is_first : Bool) (o : Option (ℕ × List ℕ)) (x : Item) (ts r : List ℕ) → ranged o ≡ Some (x, r) →
    ((d : ℕ) (m : List ℕ) → o ≡ Some (d, m) → SpellsChar is_first d ts m) → SpellsItem is_first x ts r
ranged_sound is_first None x ts r h sound = absurd (cc)
ranged_sound is_first (Some (d, m)) x ts r h sound =
    chosen (is_range m) (up_to d (read_char false (tail m))) (Some (Items.Char d, m)) (x, r) (SpellsItem is_first x ts r) h
    (λ t e. up_to_sound is_first d (read_char false (tail m)) x ts (tail m) r e (subst (λ v. SpellsChar is_first d ts v) (range_begins m t) (sound d m refl)) (λ b v. char_sound false b (tail m) v))
    (λ t e. subst (λ (w : Item × List ℕ). SpellsItem is_first w.0 ts w.1) (same_Some (Items.Char d, m) (x, r) e) (sound d m refl))

pub item_sound : (is_first : Bool) (x : Item) (ts r : List ℕ) → read_item is_first ts ≡ Some (x, r) → SpellsItem is_first x ts r
item_sound is_first x ts r h =
    either_way (read_kind_item ts) (ranged (read_char is_first ts)) (x, r) (SpellsItem is_first x ts r) h
    (λ e. kind_item_read_sound is_first x ts r e)
    (λ e. ranged_sound is_first (read_char is_first ts) x ts r e (λ d m. char_sound is_first d ts m))

-- lists of items
item_before_is : (x : Item) (o : Option (List Item × List ℕ)) (xs : List Item) (r : List ℕ) → item_before x o ≡ Some (xs, r) → (ys : List Item) × (o ≡ Some (ys, r)) × (xs ≡ x ∷ ys)
item_before_is x None xs r h = absurd (cc)
item_before_is x (Some (ys, s)) xs r h =
    let e = same_Some (x ∷ ys, s) (xs, r) h in (ys, ap (λ (w : List Item × List ℕ). Some (ys, w.1)) e, ap (λ (w : List Item × List ℕ). w.0) (sym e))

item_then_is : (go : List ℕ → Option (List Item × List ℕ)) (o : Option (Item × List ℕ)) (xs : List Item) (r : List ℕ) → item_then go o ≡ Some (xs, r) →
    (x : Item) × (m : List ℕ) × (ys : List Item) × (o ≡ Some (x, m)) × (go m ≡ Some (ys, r)) × (xs ≡ x ∷ ys)
item_then_is go None xs r h = absurd (cc)
item_then_is go (Some (x, m)) xs r h = let p = item_before_is x (go m) xs r h in (x, m, p.0, refl, p.1, p.2)

within_sound : (n : ℕ) (ts r : List ℕ) (xs : List Item) → items_within n ts ≡ Some (xs, r) → SpellsMore xs ts r × (is_end r ≡ true)
within_sound zero ts r xs h = absurd (cc)
within_sound (suc n) ts r xs h =
    chosen (is_end ts) (Some ([], ts)) (item_then (λ v. items_within n v) (read_item false ts)) (xs, r) (SpellsMore xs ts r × (is_end r ≡ true)) h
    (λ t e. subst (λ (w : List Item × List ℕ). SpellsMore w.0 ts w.1 × (is_end w.1 ≡ true)) (same_Some ([], ts) (xs, r) e) (refl, t))
    (λ t e. let p = item_then_is (λ v. items_within n v) (read_item false ts) xs r e in
    let rest = within_sound n p.1 r p.2 p.4 in
    subst (λ v. SpellsMore v ts r × (is_end r ≡ true)) (sym p.5) ((p.1, item_sound false p.0 ts p.1 p.3, rest.0), rest.1))

items_sound : (ts r : List ℕ) (xs : List Item) → read_items ts ≡ Some (xs, r) → SpellsItems xs ts r × (is_end r ≡ true)
items_sound ts r xs h =
    let p = item_then_is (λ v. read_more v) (read_item true ts) xs r h in
    let rest = within_sound (suc (length p.1)) p.1 r p.2 p.4 in
    subst (λ v. SpellsItems v ts r × (is_end r ≡ true)) (sym p.5) ((p.1, item_sound true p.0 ts p.1 p.3, rest.0), rest.1)

not_begun : (c : ℕ) (ts : List ℕ) → begins c ts ≡ false → ¬ Begins c ts
not_begun c ts h (r, is) = let e = ap (begins c) is in let same : begins c (c ∷ r) ≡ true = same_char c in absurd (cc)
  where
    same_char : (c : ℕ) → nat_eq c c ≡ true
    same_char c = grind arith

opening_sound : (b : Bool) (ts a : List ℕ) → read_opening ts ≡ Some (b, a) → SpellsOpening b ts a
opening_sound b [] a h = absurd (cc)
opening_sound b (c ∷ cs) a h =
    chosen (nat_eq c 91) (cond (begins 94 cs) (Some (true, tail cs)) (Some (false, cs))) None (b, a) (SpellsOpening b (c ∷ cs) a) h
    (λ bracket h. chosen (begins 94 cs) (Some (true, tail cs)) (Some (false, cs)) (b, a) (SpellsOpening b (c ∷ cs) a) h
    (λ t e. subst (λ (w : Bool × List ℕ). SpellsOpening w.0 (c ∷ cs) w.1) (same_Some (true, tail cs) (b, a) e) (λ i. eqb-true c 91 bracket i ∷ begins_with 94 cs t i))
    (λ t e. subst (λ (w : Bool × List ℕ). SpellsOpening w.0 (c ∷ cs) w.1) (same_Some (false, cs) (b, a) e) (λ i. eqb-true c 91 bracket i ∷ cs, not_begun 94 cs t)))
    (λ t e. absurd (cc))

members_are : (b : Bool) (o : Option (List Item × List ℕ)) (m : Members) (r : List ℕ) → members b o ≡ Some (m, r) → (m.negated ≡ b) × (o ≡ Some (m.items, r))
members_are b None m r h = absurd (cc)
members_are b (Some (xs, s)) m r h =
    let e = same_Some (record { negated = b; items = xs }, s) (m, r) h in
    (ap (λ (w : Members × List ℕ). (w.0).negated) (sym e), ap (λ (w : Members × List ℕ). Some ((w.0).items, w.1)) e)

members_then_sound : (o : Option (Bool × List ℕ)) (m : Members) (ts r : List ℕ) → members_then o ≡ Some (m, r) →
    ((b : Bool) (a : List ℕ) → o ≡ Some (b, a) → SpellsOpening b ts a) → SpellsMembers m ts r × (is_end r ≡ true)
members_then_sound None m ts r h sound = absurd (cc)
members_then_sound (Some (b, a)) m ts r h sound =
    let p = members_are b (read_items a) m r h in
    let q = items_sound a r m.items p.1 in
    ((a, subst (λ v. SpellsOpening v ts a) (sym p.0) (sound b a refl), q.0), q.1)

pub members_sound : (m : Members) (ts r : List ℕ) → read_members ts ≡ Some (m, r) → SpellsMembers m ts r × (is_end r ≡ true)
members_sound m ts r h = members_then_sound (read_opening ts) m ts r h (λ b a. opening_sound b ts a)

-- classes
abbrev pub Groups : List Members → List ℕ → List ℕ → Type 0
Groups [] ts r = ⊥
Groups (m ∷ []) ts r = SpellsMembers m ts r
Groups (m ∷ (n ∷ ms)) ts r = (a : List ℕ) × SpellsMembers m ts (45 ∷ a) × Groups (n ∷ ms) a r

group_before_is : (m : Members) (o : Option (List Members × List ℕ)) (ms : List Members) (r : List ℕ) → group_before m o ≡ Some (ms, r) → (ns : List Members) × (o ≡ Some (ns, r)) × (ms ≡ m ∷ ns)
group_before_is m None ms r h = absurd (cc)
group_before_is m (Some (ns, s)) ms r h =
    let e = same_Some (m ∷ ns, s) (ms, r) h in (ns, ap (λ (w : List Members × List ℕ). Some (ns, w.1)) e, ap (λ (w : List Members × List ℕ). w.0) (sym e))

group_more : (m : Members) (ns : List Members) (ts a r : List ℕ) → SpellsMembers m ts (45 ∷ a) → Groups ns a r → Groups (m ∷ ns) ts r
group_more m [] ts a r h rest = absurd rest
group_more m (n ∷ ns) ts a r h rest = (a, h, rest)

groups_then_sound : (go : List ℕ → Option (List Members × List ℕ)) (o : Option (Members × List ℕ)) (ms : List Members) (ts r : List ℕ) →
    groups_then go o ≡ Some (ms, r) → ((m : Members) (b : List ℕ) → o ≡ Some (m, b) → SpellsMembers m ts b) →
    ((ns : List Members) (a s : List ℕ) → go a ≡ Some (ns, s) → Groups ns a s) → Groups ms ts r
groups_then_sound go None ms ts r h sound rest = absurd (cc)
groups_then_sound go (Some (m, b)) ms ts r h sound rest =
    chosen (begins 45 b) (group_before m (go (tail b))) (Some (m ∷ [], b)) (ms, r) (Groups ms ts r) h
    (λ t e. let p = group_before_is m (go (tail b)) ms r e in
    subst (λ v. Groups v ts r) (sym p.2) (group_more m p.0 ts (tail b) r (subst (λ v. SpellsMembers m ts v) (begins_with 45 b t) (sound m b refl)) (rest p.0 (tail b) r p.1)))
    (λ t e. subst (λ (w : List Members × List ℕ). Groups w.0 ts w.1) (same_Some (m ∷ [], b) (ms, r) e) (sound m b refl))

groups_sound : (k : ℕ) (ms : List Members) (ts r : List ℕ) → groups_within k ts ≡ Some (ms, r) → Groups ms ts r
groups_sound zero ms ts r h = absurd (cc)
groups_sound (suc k) ms ts r h =
    groups_then_sound (λ a. groups_within k a) (read_members ts) ms ts r h (λ m b e. (members_sound m ts b e).0) (λ ns a s e. groups_sound k ns a s e)

-- closing brackets before a text
abbrev pub closing : ℕ → List ℕ → List ℕ
closing zero r = r
closing (suc n) r = 93 ∷ closing n r

closing_more : (n : ℕ) (r : List ℕ) → closing n (93 ∷ r) ≡ 93 ∷ closing n r
closing_more zero r = refl
closing_more (suc n) r = ap (λ v. 93 ∷ v) (closing_more n r)

class_of_groups : (ms : List Members) (m : Members) (ts r : List ℕ) → Groups (m ∷ ms) ts (closing (suc (length ms)) r) → SpellsClass m ms ts r
class_of_groups [] m ts r h = h
class_of_groups (n ∷ ms) m ts r (a, h, rest) =
    (a, h, class_of_groups ms n a (93 ∷ r) (subst (λ v. Groups (n ∷ ms) a v) (ap (λ v. 93 ∷ v) (sym (closing_more (length ms) r))) rest))

pub groups_of_class : (ms : List Members) (m : Members) (ts r : List ℕ) → SpellsClass m ms ts r → Groups (m ∷ ms) ts (closing (suc (length ms)) r)
groups_of_class [] m ts r h = h
groups_of_class (n ∷ ms) m ts r (a, h, rest) =
    (a, h, subst (λ v. Groups (n ∷ ms) a v) (ap (λ v. 93 ∷ v) (closing_more (length ms) r)) (groups_of_class ms n a (93 ∷ r) rest))

brackets : (n : ℕ) (ts : List ℕ) → nat_le n (length ts) ≡ true → list_all (λ c. nat_eq c 93) (take n ts) ≡ true → ts ≡ closing n (drop n ts)
brackets zero ts h all = refl
brackets (suc n) [] h all = let le = leb-true (suc n) 0 h in absurd (omega arith)
brackets (suc n) (c ∷ cs) h all =
    let p = and_parts (nat_eq c 93) (list_all (λ d. nat_eq d 93) (take n cs)) all in
    let le = leb-true (suc n) (suc (length cs)) h in
    let rest = brackets n cs (le-leb n (length cs) (omega arith)) p.1 in
    λ i. eqb-true c 93 p.0 i ∷ rest i

closing_sound : (n : ℕ) (b r : List ℕ) → behind_closing n b ≡ Some r → b ≡ closing n r
closing_sound n b r h =
    chosen (nat_le n (length b) && list_all (λ c. nat_eq c 93) (take n b)) (Some (drop n b)) None r (b ≡ closing n r) h
    (λ t e. let p = and_parts (nat_le n (length b)) (list_all (λ c. nat_eq c 93) (take n b)) t in
    brackets n b p.0 p.1 ∙ ap (closing n) (same_Some (drop n b) r e))
    (λ t e. absurd (cc))

paired : (ms : List Members) (o : Option (List ℕ)) (ns : List Members) (r : List ℕ) → option_map (with_members ms) o ≡ Some (ns, r) → (ms ≡ ns) × (o ≡ Some r)
paired ms None ns r h = absurd (cc)
paired ms (Some v) ns r h =
    let e = same_Some (ms, v) (ns, r) h in (ap (λ (w : List Members × List ℕ). w.0) e, ap (λ (w : List Members × List ℕ). Some w.1) e)

closed_is : (o : Option (List Members × List ℕ)) (ms : List Members) (r : List ℕ) → closed o ≡ Some (ms, r) → (b : List ℕ) × (o ≡ Some (ms, b)) × (b ≡ closing (length ms) r)
closed_is None ms r h = absurd (cc)
closed_is (Some (ns, b)) ms r h =
    let p = paired ns (behind_closing (length ns) b) ms r h in
    (b, ap (λ v. Some (v, b)) p.0, closing_sound (length ns) b r p.1 ∙ ap (λ v. closing (length v) r) p.0)

-- a class is spelled by its members
abbrev pub Class : List Members → List ℕ → List ℕ → Type 0
Class [] ts r = ⊥
Class (m ∷ ms) ts r = SpellsClass m ms ts r

class_of_all : (ms : List Members) (ts r : List ℕ) → Groups ms ts (closing (length ms) r) → Class ms ts r
class_of_all [] ts r h = absurd h
class_of_all (m ∷ ms) ts r h = class_of_groups ms m ts r h

class_sound : (ms : List Members) (ts r : List ℕ) → read_class ts ≡ Some (ms, r) → Class ms ts r
class_sound ms ts r h =
    let p = closed_is (read_groups ts) ms r h in
    class_of_all ms ts r (subst (λ v. Groups ms ts v) p.2 (groups_sound (suc (length ts)) ms ts p.0 p.1))

-- numbers
one_more : (n : ℕ) → 1 + n ≡ suc n
one_more n = omega arith

pub all_digits : (ts : List ℕ) → list_all is_ascii_digit (take (digit_count ts) ts) ≡ true
all_digits [] = refl
all_digits (c ∷ cs) = go (is_ascii_digit c) refl (all_digits cs)
  where
    go : (b : Bool) → is_ascii_digit c ≡ b → list_all is_ascii_digit (take (digit_count cs) cs) ≡ true → list_all is_ascii_digit (take (cond b (1 + digit_count cs) 0) (c ∷ cs)) ≡ true
    go true e rest = ap (λ n. list_all is_ascii_digit (take n (c ∷ cs))) (one_more (digit_count cs)) ∙ (ap (λ v. v && list_all is_ascii_digit (take (digit_count cs) cs)) e ∙ rest)
    go false e rest = refl

-- digits and what is behind them
abbrev pub Digits : List ℕ → List ℕ → List ℕ → Type 0
Digits ds ts r = (0 < length ds) × (list_all is_ascii_digit ds ≡ true) × (ts ≡ ds ++ r)

pub digits_sound : (ts ds r : List ℕ) → read_digits ts ≡ Some (ds, r) → Digits ds ts r
digits_sound ts ds r h =
    chosen (nat_eq (digit_count ts) 0) None (Some (take (digit_count ts) ts, drop (digit_count ts) ts)) (ds, r) (Digits ds ts r) h
    (λ t e. absurd (cc))
    (λ t e. subst (λ (w : List ℕ × List ℕ). Digits w.0 ts w.1) (same_Some (take (digit_count ts) ts, drop (digit_count ts) ts) (ds, r) e) (
      (let some = not_none (digit_count ts) t in let e = length-prefix_len is_ascii_digit ts in omega arith),
      all_digits ts,
      sym (take-append-drop (digit_count ts) ts),
    ))
  where
    not_none : (n : ℕ) → nat_eq n 0 ≡ false → 0 < n
    not_none zero h = absurd (cc)
    not_none (suc n) h = omega arith

number_of_digits : (ds ts r : List ℕ) → Digits ds ts r → SpellsNumber (digits_value 10 ds) ts r
number_of_digits ds ts r (some, all, at) = (ds, some, all, refl, at)

-- quantifiers
abbrev Counts : List ℕ → Option (ℕ × Option ℕ × List ℕ) → Type 0
Counts ts None = ⊤
Counts ts (Some (n, m, r)) = SpellsQuantifier n m ts r

upper_counts : (n : ℕ) (o : Option (List ℕ × List ℕ)) (ts a b : List ℕ) → ts ≡ 123 ∷ a → SpellsNumber n a (44 ∷ b) →
    ((ds s : List ℕ) → o ≡ Some (ds, s) → SpellsNumber (digits_value 10 ds) b s) → Counts ts (read_upper n o)
upper_counts n None ts a b at from sound = tt
upper_counts n (Some (ds, s)) ts a b at from sound = go (begins 125 s && nat_le n (digits_value 10 ds)) refl
  where
    go : (v : Bool) → (begins 125 s && nat_le n (digits_value 10 ds)) ≡ v → Counts ts (cond v (Some (n, Some (digits_value 10 ds), tail s)) None)
    go true e =
        let p = and_parts (begins 125 s) (nat_le n (digits_value 10 ds)) e in
        inr (inr (a, b, at, from, subst (λ v. SpellsNumber (digits_value 10 ds) b v) (begins_with 125 s p.0) (sound ds s refl), leb-true n (digits_value 10 ds) p.1))
    go false e = tt

comma_counts : (n : ℕ) (ts a b : List ℕ) → ts ≡ 123 ∷ a → SpellsNumber n a (44 ∷ b) → Counts ts (behind_comma n b)
comma_counts n ts a b at from = go (begins 125 b) refl
  where
    go : (v : Bool) → begins 125 b ≡ v → Counts ts (cond v (Some (n, None, tail b)) (read_upper n (read_digits b)))
    go true e = inr (inr (a, at, subst (λ v. SpellsNumber n a (44 ∷ v)) (begins_with 125 b e) from))
    go false e = upper_counts n (read_digits b) ts a b at from (λ ds s e. number_of_digits ds b s (digits_sound b ds s e))

braces_count : (o : Option (List ℕ × List ℕ)) (ts a : List ℕ) → ts ≡ 123 ∷ a → ((ds s : List ℕ) → o ≡ Some (ds, s) → SpellsNumber (digits_value 10 ds) a s) → Counts ts (read_braces o)
braces_count None ts a at sound = tt
braces_count (Some (ds, s)) ts a at sound = go (begins 125 s) refl
  where
    n : ℕ
    n = digits_value 10 ds

    comma : (v : Bool) → begins 44 s ≡ v → Counts ts (cond v (behind_comma (digits_value 10 ds) (tail s)) None)
    comma true e = comma_counts (digits_value 10 ds) ts a (tail s) at (subst (λ v. SpellsNumber (digits_value 10 ds) a v) (begins_with 44 s e) (sound ds s refl))
    comma false e = tt

    go : (v : Bool) → begins 125 s ≡ v → Counts ts (cond v (Some (digits_value 10 ds, Some (digits_value 10 ds), tail s)) (cond (begins 44 s) (behind_comma (digits_value 10 ds) (tail s)) None))
    go true e = inr (inl (a, at, refl, subst (λ v. SpellsNumber (digits_value 10 ds) a v) (begins_with 125 s e) (sound ds s refl)))
    go false e = comma (begins 44 s) refl

counts_sound : (ts : List ℕ) → Counts ts (read_quantifier ts)
counts_sound [] = tt
counts_sound (c ∷ cs) = star (nat_eq c 42) refl
  where
    brace : (v : Bool) → nat_eq c 123 ≡ v → Counts (c ∷ cs) (cond v (read_braces (read_digits cs)) None)
    brace true e = braces_count (read_digits cs) (c ∷ cs) cs (λ i. eqb-true c 123 e i ∷ cs) (λ ds s h. number_of_digits ds cs s (digits_sound cs ds s h))
    brace false e = tt

    maybe : (v : Bool) → nat_eq c 63 ≡ v → Counts (c ∷ cs) (cond v (Some (0, Some 1, cs)) (cond (nat_eq c 123) (read_braces (read_digits cs)) None))
    maybe true e = inl (refl, refl, λ i. eqb-true c 63 e i ∷ cs)
    maybe false e = brace (nat_eq c 123) refl

    plus : (v : Bool) → nat_eq c 43 ≡ v → Counts (c ∷ cs) (cond v (Some (1, None, cs)) (cond (nat_eq c 63) (Some (0, Some 1, cs)) (cond (nat_eq c 123) (read_braces (read_digits cs)) None)))
    plus true e = inr (inl (refl, λ i. eqb-true c 43 e i ∷ cs))
    plus false e = maybe (nat_eq c 63) refl

    star : (v : Bool) → nat_eq c 42 ≡ v →
        Counts (c ∷ cs) (cond v (Some (0, None, cs)) (cond (nat_eq c 43) (Some (1, None, cs)) (cond (nat_eq c 63) (Some (0, Some 1, cs)) (cond (nat_eq c 123) (read_braces (read_digits cs)) None))))
    star true e = inl (refl, λ i. eqb-true c 42 e i ∷ cs)
    star false e = plus (nat_eq c 43) refl

-- tokens
abbrev Reads : List ℕ → Option (Token × List ℕ) → Type 0
Reads ts None = ⊤
Reads ts (Some (u, r)) = SpellsToken u ts r

times_sound : (o : Option (ℕ × Option ℕ × List ℕ)) (ts : List ℕ) → Counts ts o → Reads ts (times_token o)
times_sound None ts h = tt
times_sound (Some (n, m, r)) ts h = go (begins 63 r) refl
  where
    go : (b : Bool) → begins 63 r ≡ b → SpellsToken (times n m) ts (cond b (tail r) r)
    go true e = inr (subst (λ v. SpellsQuantifier n m ts v) (begins_with 63 r e) h)
    go false e = inl h

escape_is_token : (x : Item) (ts r : List ℕ) → SpellsEscape x ts r → SpellsToken (one_of (item x)) ts r
escape_is_token (Items.Char d) ts r h = inr h
escape_is_token (Items.Range a b) ts r h = h
escape_is_token (Items.Kind k) ts r h = h
escape_is_token (Items.Not k) ts r h = h

item_token_sound : (o : Option (Item × List ℕ)) (ts : List ℕ) → ((x : Item) (r : List ℕ) → o ≡ Some (x, r) → SpellsEscape x ts r) → Reads ts (item_token o)
item_token_sound None ts sound = tt
item_token_sound (Some (x, r)) ts sound = escape_is_token x ts r (sound x r refl)

class_is_token : (ms : List Members) (ts r : List ℕ) → Class ms ts r → SpellsToken (one_of (class ms)) ts r
class_is_token [] ts r h = h
class_is_token (m ∷ ms) ts r h = h

class_token_sound : (o : Option (List Members × List ℕ)) (ts : List ℕ) → ((ms : List Members) (r : List ℕ) → o ≡ Some (ms, r) → Class ms ts r) → Reads ts (class_token o)
class_token_sound None ts sound = tt
class_token_sound (Some (ms, r)) ts sound = class_is_token ms ts r (sound ms r refl)

open_sound : (c : ℕ) (cs : List ℕ) → c ≡ 40 → SpellsToken open_bracket (c ∷ cs) (behind_open cs)
open_sound c cs is = go (begins 63 cs && begins 58 (tail cs)) refl
  where
    go : (b : Bool) → (begins 63 cs && begins 58 (tail cs)) ≡ b → SpellsToken open_bracket (c ∷ cs) (cond b (tail (tail cs)) cs)
    go true e =
        let p = and_parts (begins 63 cs) (begins 58 (tail cs)) e in
        inr (λ i. is i ∷ (begins_with 63 cs p.0 ∙ ap (λ v. 63 ∷ v) (begins_with 58 (tail cs) p.1)) i)
    go false e = inl (λ i. is i ∷ cs)

mark_sound : (c : ℕ) (cs : List ℕ) → Reads (c ∷ cs) (with_rest (mark_token c) cs)
mark_sound c cs = dot_mark (nat_eq c 46) refl
  where
    end_mark : (b : Bool) → nat_eq c 36 ≡ b → Reads (c ∷ cs) (with_rest (cond b (Some end_anchor) None) cs)
    end_mark true e = λ i. eqb-true c 36 e i ∷ cs
    end_mark false e = tt

    start_mark : (b : Bool) → nat_eq c 94 ≡ b → Reads (c ∷ cs) (with_rest (cond b (Some start_anchor) (cond (nat_eq c 36) (Some end_anchor) None)) cs)
    start_mark true e = λ i. eqb-true c 94 e i ∷ cs
    start_mark false e = end_mark (nat_eq c 36) refl

    bar_mark : (b : Bool) → nat_eq c 124 ≡ b → Reads (c ∷ cs) (with_rest (cond b (Some bar) (cond (nat_eq c 94) (Some start_anchor) (cond (nat_eq c 36) (Some end_anchor) None))) cs)
    bar_mark true e = λ i. eqb-true c 124 e i ∷ cs
    bar_mark false e = start_mark (nat_eq c 94) refl

    close_mark : (b : Bool) → nat_eq c 41 ≡ b →
        Reads (c ∷ cs) (with_rest (cond b (Some close_bracket) (cond (nat_eq c 124) (Some bar) (cond (nat_eq c 94) (Some start_anchor) (cond (nat_eq c 36) (Some end_anchor) None)))) cs)
    close_mark true e = λ i. eqb-true c 41 e i ∷ cs
    close_mark false e = bar_mark (nat_eq c 124) refl

    dot_mark : (b : Bool) → nat_eq c 46 ≡ b →
        Reads (c ∷ cs) (with_rest (cond b (Some (one_of dot)) (cond (nat_eq c 41) (Some close_bracket) (cond (nat_eq c 124) (Some bar) (cond (nat_eq c 94) (Some start_anchor) (cond (nat_eq c 36) (Some end_anchor) None))))) cs)
    dot_mark true e = λ i. eqb-true c 46 e i ∷ cs
    dot_mark false e = close_mark (nat_eq c 41) refl

or_else_reads : (ts : List ℕ) (o p : Option (Token × List ℕ)) → Reads ts o → Reads ts p → Reads ts (or_else o p)
or_else_reads ts None p a b = b
or_else_reads ts (Some x) p a b = a

plain_sound : (c : ℕ) (cs : List ℕ) → Reads (c ∷ cs) (plain_token c cs)
plain_sound c cs = escape_case (nat_eq c 92) refl
  where
    other_case : Reads (c ∷ cs) (or_else (with_rest (mark_token c) cs) (times_token (read_quantifier (c ∷ cs))))
    other_case = or_else_reads (c ∷ cs) (with_rest (mark_token c) cs) (times_token (read_quantifier (c ∷ cs))) (mark_sound c cs)
        (times_sound (read_quantifier (c ∷ cs)) (c ∷ cs) (counts_sound (c ∷ cs)))

    normal_case : (b : Bool) → is_normal c ≡ b → Reads (c ∷ cs) (cond b (Some (one_of (item (Items.Char c)), cs)) (or_else (with_rest (mark_token c) cs) (times_token (read_quantifier (c ∷ cs)))))
    normal_case true e = inl (e, refl)
    normal_case false e = other_case

    open_case : (b : Bool) → nat_eq c 40 ≡ b →
        Reads (c ∷ cs) (cond b (Some (open_bracket, behind_open cs)) (cond (is_normal c) (Some (one_of (item (Items.Char c)), cs)) (or_else (with_rest (mark_token c) cs) (times_token (read_quantifier (c ∷ cs))))))
    open_case true e = open_sound c cs (eqb-true c 40 e)
    open_case false e = normal_case (is_normal c) refl

    escape_case : (b : Bool) → nat_eq c 92 ≡ b →
        Reads (c ∷ cs) (cond b (item_token (read_escape cs)) (cond (nat_eq c 40) (Some (open_bracket, behind_open cs)) (cond (is_normal c) (Some (one_of (item (Items.Char c)), cs)) (or_else (with_rest (mark_token c) cs) (times_token (read_quantifier (c ∷ cs)))))))
    escape_case true e =
        item_token_sound (read_escape cs) (c ∷ cs) (λ x r h. subst (λ v. SpellsEscape x (v ∷ cs) r) (sym (eqb-true c 92 e)) (escape_sound cs r x h))
    escape_case false e = open_case (nat_eq c 40) refl

token_reads : (ts : List ℕ) → Reads ts (read_token ts)
token_reads [] = tt
token_reads (c ∷ cs) = go (nat_eq c 91) refl
  where
    go : (b : Bool) → nat_eq c 91 ≡ b → Reads (c ∷ cs) (cond b (class_token (read_class (c ∷ cs))) (plain_token c cs))
    go true e = class_token_sound (read_class (c ∷ cs)) (c ∷ cs) (λ ms r h. class_sound ms (c ∷ cs) r h)
    go false e = plain_sound c cs

pub token_sound : (u : Token) (ts r : List ℕ) → read_token ts ≡ Some (u, r) → SpellsToken u ts r
token_sound u ts r h = subst (λ v. Reads ts v) h (token_reads ts)

token_before_is : (u : Token) (o : Option (List Token)) (us : List Token) → token_before u o ≡ Some us → (vs : List Token) × (o ≡ Some vs) × (us ≡ u ∷ vs)
token_before_is u None us h = absurd (cc)
token_before_is u (Some vs) us h = (vs, refl, sym (same_Some (u ∷ vs) us h))

tokens_then_is : (go : List ℕ → Option (List Token)) (o : Option (Token × List ℕ)) (us : List Token) → tokens_then go o ≡ Some us → (u : Token) × (r : List ℕ) ×
    (vs : List Token) × (o ≡ Some (u, r)) × (go r ≡ Some vs) × (us ≡ u ∷ vs)
tokens_then_is go None us h = absurd (cc)
tokens_then_is go (Some (u, r)) us h = let p = token_before_is u (go r) us h in (u, r, p.0, refl, p.1, p.2)

tokens_within_sound : (k : ℕ) (ts : List ℕ) (us : List Token) → tokens_within k ts ≡ Some us → SpellsTokens us ts
tokens_within_sound zero ts us h = absurd (cc)
tokens_within_sound (suc k) [] us h = subst (λ v. SpellsTokens v []) (same_Some [] us h) refl
tokens_within_sound (suc k) (c ∷ cs) us h =
    let p = tokens_then_is (λ r. tokens_within k r) (read_token (c ∷ cs)) us h in
    subst (λ v. SpellsTokens v (c ∷ cs)) (sym p.5) (p.1, token_sound p.0 (c ∷ cs) p.1 p.3, tokens_within_sound k p.1 p.2 p.4)

-- what is read is spelled
pub tokens_sound : (ts : List ℕ) (us : List Token) → read_tokens ts ≡ Some us → SpellsTokens us ts
tokens_sound ts us h = tokens_within_sound (suc (length ts)) ts us h
