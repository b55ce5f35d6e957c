-- What is spelled is read.
use Rattle.std.proofs.Common.{◌≡◌, ◌<◌, ◌≤◌, ◌+◌, ◌-◌, ◌⊎◌, inl, inr, ℕ, zero, suc, arith, length, List, [], ◌∷◌, ◌++◌, refl, sym, subst, ap, ◌∙◌, Bool, true, false, cond, not, ◌&&◌, ◌||◌, take, drop, length-append}
use Rattle.std.specs.Prelude.{Option, Some, None, option_map, is_some, nat_eq, nat_lt, nat_le, codes}
use Rattle.std.specs.Char.{is_ascii_digit}
use Rattle.std.specs.List.{list_all}
use Rattle.std.specs.Str.Parse.{digits_value}
use Rattle.std.proofs.Math.Seq.{take-append_seam, drop-append_seam}
use Rattle.std.proofs.lemmas.Bool.{eqb-true, eq-eqb, le-leb, ne_eqb}
use Rattle.std.proofs.lemmas.Option.{same_Some}
use Rattle.xs_pattern.specs.declared.expression.Item.{Item}
use Rattle.xs_pattern.specs.declared.expression.Item.TheVariants as Items
use Rattle.xs_pattern.specs.declared.expression.Kind.{Kind}
use Rattle.xs_pattern.specs.declared.expression.Kind.TheVariants as Kinds
use Rattle.xs_pattern.specs.Lexing.{with_rest, or_else, begins, tail, two_letters, in_braces, read_category, kind_item, letter_item, read_kind, read_single, char_item, read_escape, is_own, read_char, is_range, is_end, up_to, ranged, read_kind_item, read_item, item_before, item_then, items_within, read_more, read_items, read_opening, members, members_then, read_members, group_before, groups_then, groups_within, behind_closing, with_members, closed, read_class, digit_count, read_digits, read_upper, behind_comma, read_braces, read_quantifier, times_token, item_token, class_token, mark_token, read_token, token_before, tokens_then, tokens_within, read_tokens}
use Rattle.xs_pattern.specs.Spelling.{categories, escaped, is_one_of, is_same, named, Begins, SpellsKind, SpellsEscape, SpellsChar, SpellsItem, SpellsMore, SpellsItems, SpellsOpening, SpellsMembers, SpellsClass, SpellsNumber, SpellsQuantifier, SpellsToken, SpellsTokens, Spells, is_normal}
use Rattle.xs_pattern.specs.Tokens.{Token, open_bracket, close_bracket, bar, start_anchor, end_anchor, one_of, times, tokens, IsPattern}
use Rattle.xs_pattern.specs.Regex.{Members, dot, item, class, Regex}
use Rattle.xs_pattern.specs.Parsing.{blank, is_spelled, parse}
use Rattle.xs_pattern.proofs.Parsed.{is_spelled_told, parse_complete}
use Rattle.xs_pattern.proofs.Choices.{and_no, not_true, or_true, or_yes, skip}
use Rattle.xs_pattern.proofs.Reading.{and_both, and_parts, or_cases}
use Rattle.xs_pattern.proofs.Sound.{begins_with, Groups, closing, groups_of_class}

-- a character that an escape needs not is another one
apart : (c k d : ℕ) → escaped k ≡ None → escaped c ≡ Some d → nat_eq c k ≡ false
apart c k d none some = go (nat_eq c k) refl
  where
    go : (b : Bool) → nat_eq c k ≡ b → b ≡ false
    go true e = let same = ap escaped (eqb-true c k e) in absurd (cc)
    go false e = refl

-- texts that are the same
same_is : (a b : List ℕ) → is_same a b ≡ true → a ≡ b
same_is [] [] h = refl
same_is [] (d ∷ ds) h = absurd (cc)
same_is (c ∷ cs) [] h = absurd (cc)
same_is (c ∷ cs) (d ∷ ds) h =
    let p = and_parts (nat_eq c d) (is_same cs ds) h in
    let e = eqb-true c d p.0 in
    let es = same_is cs ds p.1 in
    λ i. e i ∷ es i

-- the names of categories have one letter or two, and none is a brace
abbrev is_name : List ℕ → Bool
is_name [] = false
is_name (a ∷ []) = true
is_name (a ∷ (b ∷ [])) = not (nat_eq b 125)
is_name _ = false

named_name : (entries : List (List ℕ × Kind)) (name : List ℕ) (k : Kind) → list_all (λ entry. is_name entry.0) entries ≡ true → named entries name ≡ Some k → is_name name ≡ true
named_name [] name k all h = absurd (cc)
named_name (entry ∷ entries) name k all h = go (is_same entry.0 name) refl h (and_parts (is_name entry.0) (list_all (λ e. is_name e.0) entries) all) (named_name entries name k)
  where
    go : (b : Bool) → is_same entry.0 name ≡ b → cond b (Some entry.1) (named entries name) ≡ Some k → (is_name entry.0 ≡ true) ×
        (list_all (λ e. is_name e.0) entries ≡ true) → (list_all (λ e. is_name e.0) entries ≡ true → named entries name ≡ Some k → is_name name ≡ true) → is_name name ≡ true
    go true e f p ih = ap is_name (sym (same_is entry.0 name e)) ∙ p.0
    go false e f p ih = ih p.1 f

all_names : list_all (λ entry. is_name entry.0) categories ≡ true
unfolding categories
all_names = refl

-- a name in braces is read
braces_read : (name r : List ℕ) (k : Kind) → is_name name ≡ true → named categories name ≡ Some k → in_braces (name ++ 125 ∷ r) ≡ Some (k, r)
braces_read [] r k ok is = absurd (cc)
braces_read (a ∷ []) r k ok is = ap (λ o. with_rest o r) is
braces_read (a ∷ (b ∷ [])) r k ok is =
    skip (nat_eq b 125) (with_rest (named categories (a ∷ [])) (125 ∷ r)) (two_letters a b (125 ∷ r)) (not_true (nat_eq b 125) ok) ∙ ap (λ o. with_rest o r) is
braces_read (a ∷ (b ∷ (c ∷ cs))) r k ok is = absurd (cc)

category_read : (name r : List ℕ) (k : Kind) → named categories name ≡ Some k → read_category (123 ∷ (name ++ 125 ∷ r)) ≡ Some (k, r)
category_read name r k is = braces_read name r k (named_name categories name k all_names is) is

-- an escape of a character is none of a kind
no_letter : (c d : ℕ) → escaped c ≡ Some d → letter_item c ≡ None
no_letter c d is =
    skip (nat_eq c 100) _ _ (apart c 100 d refl is)
    ∙ (skip (nat_eq c 68) _ _ (apart c 68 d refl is)
    ∙ (skip (nat_eq c 115) _ _ (apart c 115 d refl is)
    ∙ (skip (nat_eq c 83) _ _ (apart c 83 d refl is)
    ∙ (skip (nat_eq c 119) _ _ (apart c 119 d refl is)
    ∙ skip (nat_eq c 87) _ _ (apart c 87 d refl is)))))

no_kind_read : (c d : ℕ) (r : List ℕ) → escaped c ≡ Some d → read_kind (c ∷ r) ≡ None
no_kind_read c d r is =
    skip (nat_eq c 112) _ _ (apart c 112 d refl is)
    ∙ (skip (nat_eq c 80) _ _ (apart c 80 d refl is) ∙ ap (λ o. with_rest o r) (no_letter c d is))

single_read : (c d : ℕ) (r : List ℕ) → escaped c ≡ Some d → read_single (c ∷ r) ≡ Some (d, r)
single_read c d r is = ap (λ o. with_rest o r) is

-- an escape of a kind is read behind its backslash
abbrev pub KindRead : Item → List ℕ → List ℕ → Type 0
KindRead x ts r = (a : List ℕ) × (ts ≡ 92 ∷ a) × (read_kind a ≡ Some (x, r))

category_escape : (negated : Bool) (p : ℕ) (k : Kind) (x : Item) (ts r : List ℕ) → ((a : List ℕ) → read_kind (p ∷ a) ≡ kind_item negated (read_category a)) →
    kind_item negated (Some (k, r)) ≡ Some (x, r) → (name : List ℕ) × (named categories name ≡ Some k) × (ts ≡ 92 ∷ p ∷ 123 ∷ (name ++ 125 ∷ r)) → KindRead x ts r
category_escape negated p k x ts r by made (name, is, at) = (p ∷ 123 ∷ (name ++ 125 ∷ r), at, by (123 ∷ (name ++ 125 ∷ r)) ∙ (ap (kind_item negated) (category_read name r k is) ∙ made))

kind_read : (k : Kind) (ts r : List ℕ) → SpellsEscape (Items.Kind k) ts r → KindRead (Items.Kind k) ts r
kind_read Kinds.Digit ts r h = (100 ∷ r, h, refl)
kind_read Kinds.Space ts r h = (115 ∷ r, h, refl)
kind_read Kinds.Word ts r h = (119 ∷ r, h, refl)
kind_read (Kinds.Category g) ts r h = category_escape false 112 (Kinds.Category g) (Items.Kind (Kinds.Category g)) ts r (λ a. refl) refl h
kind_read (Kinds.Group g) ts r h = category_escape false 112 (Kinds.Group g) (Items.Kind (Kinds.Group g)) ts r (λ a. refl) refl h

other_kind_read : (k : Kind) (ts r : List ℕ) → SpellsEscape (Items.Not k) ts r → KindRead (Items.Not k) ts r
other_kind_read Kinds.Digit ts r h = (68 ∷ r, h, refl)
other_kind_read Kinds.Space ts r h = (83 ∷ r, h, refl)
other_kind_read Kinds.Word ts r h = (87 ∷ r, h, refl)
other_kind_read (Kinds.Category g) ts r h = category_escape true 80 (Kinds.Category g) (Items.Not (Kinds.Category g)) ts r (λ a. refl) refl h
other_kind_read (Kinds.Group g) ts r h = category_escape true 80 (Kinds.Group g) (Items.Not (Kinds.Group g)) ts r (λ a. refl) refl h

-- an escape of an item is read behind its backslash
abbrev pub Read : Item → List ℕ → List ℕ → Type 0
Read x ts r = (a : List ℕ) × (ts ≡ 92 ∷ a) × (read_escape a ≡ Some (x, r))

of_kind : (x : Item) (ts r : List ℕ) → KindRead x ts r → Read x ts r
of_kind x ts r (a, at, e) = (a, at, ap (λ o. or_else o (char_item (read_single a))) e)

pub escape_read : (x : Item) (ts r : List ℕ) → SpellsEscape x ts r → Read x ts r
escape_read (Items.Char d) ts r (c, is, at) =
    (c ∷ r, at, ap (λ o. or_else o (char_item (read_single (c ∷ r)))) (no_kind_read c d r is) ∙ ap char_item (single_read c d r is))
escape_read (Items.Range a b) ts r h = absurd h
escape_read (Items.Kind k) ts r h = of_kind (Items.Kind k) ts r (kind_read k ts r h)
escape_read (Items.Not k) ts r h = of_kind (Items.Not k) ts r (other_kind_read k ts r h)

-- a character that passes a test is none that fails it
other : (test : ℕ → Bool) (k d : ℕ) → test k ≡ true → test d ≡ false → nat_eq d k ≡ false
other test k d yes_k no_d = go (nat_eq d k) refl
  where
    go : (b : Bool) → nat_eq d k ≡ b → b ≡ false
    go true e = let same = ap test (eqb-true d k e) in absurd (cc)
    go false e = refl

begins_is : (c : ℕ) (ts : List ℕ) → Begins c ts → begins c ts ≡ true
begins_is c ts (r, is) = ap (begins c) is ∙ eq-eqb c c refl

-- a character that stands for itself is told
own_told : (is_first : Bool) (d : ℕ) (r : List ℕ) → is_one_of (codes "\\[]") d ≡ false → (d ≡ 45 → (is_first ≡ true) ⊎ Begins 93 r) → is_own is_first d r ≡ true
own_told is_first d r clean may =
    and_both (not (is_one_of (codes "\\[]") d)) (not (nat_eq d 45) || is_first || begins 93 r) (ap not clean) (go (nat_eq d 45) refl)
  where
    allowed : (is_first ≡ true) ⊎ Begins 93 r → (false || is_first || begins 93 r) ≡ true
    allowed (inl h) = or_true is_first (begins 93 r) (inl h)
    allowed (inr h) = or_true is_first (begins 93 r) (inr (begins_is 93 r h))

    go : (b : Bool) → nat_eq d 45 ≡ b → (not b || is_first || begins 93 r) ≡ true
    go true e = allowed (may (eqb-true d 45 e))
    go false e = refl

pub char_in_class : (is_first : Bool) (d : ℕ) (ts r : List ℕ) → SpellsChar is_first d ts r → read_char is_first ts ≡ Some (d, r)
char_in_class is_first d ts r (inl (c, is, at)) = ap (read_char is_first) at ∙ single_read c d r is
char_in_class is_first d ts r (inr (at, clean, may)) =
    ap (read_char is_first) at
    ∙ (skip (nat_eq d 92) _ _ (other (is_one_of (codes "\\[]")) 92 d refl clean)
    ∙ ap (λ b. cond b (Some (d, r)) None) (own_told is_first d r clean may))

-- a character is no escape of a kind
no_kind : (is_first : Bool) (d : ℕ) (ts r : List ℕ) → SpellsChar is_first d ts r → read_kind_item ts ≡ None
no_kind is_first d ts r (inl (c, is, at)) = ap read_kind_item at ∙ no_kind_read c d r is
no_kind is_first d ts r (inr (at, clean, may)) =
    ap read_kind_item at ∙ skip (nat_eq d 92) _ _ (other (is_one_of (codes "\\[]")) 92 d refl clean)

-- the end of a range is no bracket
ends_range : (b : ℕ) (m r : List ℕ) → SpellsChar false b m r → (begins 93 m || begins 91 m) ≡ false
ends_range b m r (inl h) = let e = escape_read (Items.Char b) m r h in ap (λ v. begins 93 v || begins 91 v) e.1
ends_range b m r (inr (at, clean, may)) =
    ap (λ v. begins 93 v || begins 91 v) at
    ∙ (ap (λ v. v || nat_eq b 91) (other (is_one_of (codes "\\[]")) 93 b refl clean)
    ∙ other (is_one_of (codes "\\[]")) 91 b refl clean)

pub item_in_class : (is_first : Bool) (x : Item) (ts r : List ℕ) → SpellsItem is_first x ts r → is_range r ≡ false → read_item is_first ts ≡ Some (x, r)
item_in_class is_first (Items.Char d) ts r h follows =
    ap (λ v. or_else v (ranged (read_char is_first ts))) (no_kind is_first d ts r h)
    ∙ (ap ranged (char_in_class is_first d ts r h) ∙ skip (is_range r) _ _ follows)
item_in_class is_first (Items.Range a b) ts r (m, x, y, le) follows =
    ap (λ v. or_else v (ranged (read_char is_first ts))) (no_kind is_first a ts (45 ∷ m) x)
    ∙ (ap ranged (char_in_class is_first a ts (45 ∷ m) x)
    ∙ (ap (λ v. cond (not v) (up_to a (read_char false m)) (Some (Items.Char a, 45 ∷ m))) (ends_range b m r y)
    ∙ (ap (up_to a) (char_in_class false b m r y)
    ∙ ap (λ v. cond v (Some (Items.Range a b, r)) None) (le-leb a b le))))
item_in_class is_first (Items.Kind k) ts r h follows =
    let e = kind_read k ts r h in
    ap (λ v. or_else (read_kind_item v) (ranged (read_char is_first v))) e.1 ∙ ap (λ v. or_else v (ranged (read_char is_first (92 ∷ e.0)))) e.2
item_in_class is_first (Items.Not k) ts r h follows =
    let e = other_kind_read k ts r h in
    ap (λ v. or_else (read_kind_item v) (ranged (read_char is_first v))) e.1 ∙ ap (λ v. or_else v (ranged (read_char is_first (92 ∷ e.0)))) e.2

-- where an item begins, no range goes on and no class ends
abbrev Fresh : List ℕ → Type 0
Fresh ts = (is_range ts ≡ false) × (is_end ts ≡ false)

char_starts : (d : ℕ) (ts r : List ℕ) → SpellsChar false d ts r → Fresh ts
char_starts d ts r (inl h) = let e = escape_read (Items.Char d) ts r h in subst Fresh (sym e.1) (refl, refl)
char_starts d ts r (inr (at, clean, may)) = subst Fresh (sym at) (here (nat_eq d 45) refl)
  where
    closing : (false ≡ true) ⊎ Begins 93 r → (begins 93 r ≡ true) × (begins 91 r ≡ false)
    closing (inl h) = absurd (cc)
    closing (inr (x, is)) = (ap (begins 93) is, ap (begins 91) is)

    no_close : nat_eq d 93 ≡ false
    no_close = other (is_one_of (codes "\\[]")) 93 d refl clean

    here : (b : Bool) → nat_eq d 45 ≡ b → Fresh (d ∷ r)
    here true e =
        let c = closing (may (eqb-true d 45 e)) in (
          ap (λ v. nat_eq d 45 && not (v || begins 91 r)) c.0 ∙ ap (λ v. v && false) e,
          ap (λ v. v || (nat_eq d 45 && begins 91 r)) no_close ∙ (ap (λ v. v && begins 91 r) e ∙ c.1),
        )
    here false e = (
      ap (λ v. v && not (begins 93 r || begins 91 r)) e,
      ap (λ v. v || (nat_eq d 45 && begins 91 r)) no_close ∙ ap (λ v. v && begins 91 r) e,
    )

item_starts : (x : Item) (ts r : List ℕ) → SpellsItem false x ts r → Fresh ts
item_starts (Items.Char d) ts r h = char_starts d ts r h
item_starts (Items.Range a b) ts r (m, x, y, le) = char_starts a ts (45 ∷ m) x
item_starts (Items.Kind k) ts r h = let e = escape_read (Items.Kind k) ts r h in subst Fresh (sym e.1) (refl, refl)
item_starts (Items.Not k) ts r h = let e = escape_read (Items.Not k) ts r h in subst Fresh (sym e.1) (refl, refl)

end_no_range : (r : List ℕ) → is_end r ≡ true → is_range r ≡ false
end_no_range [] h = absurd (cc)
end_no_range (c ∷ cs) h = elim (or_cases (nat_eq c 93) (nat_eq c 45 && begins 91 cs) h) [
  | inl x ↦ subst (λ v. is_range (v ∷ cs) ≡ false) (sym (eqb-true c 93 x)) refl
  | inr y ↦ opens ((and_parts (nat_eq c 45) (begins 91 cs) y).1)
]
  where
    opens : begins 91 cs ≡ true → is_range (c ∷ cs) ≡ false
    opens h = ap (λ v. nat_eq c 45 && not (begins 93 cs || v)) h ∙ (ap (λ v. nat_eq c 45 && not v) (or_yes (begins 93 cs)) ∙ and_no (nat_eq c 45))

-- behind an item no range goes on
more_follows : (xs : List Item) (ts r : List ℕ) → SpellsMore xs ts r → is_end r ≡ true → is_range ts ≡ false
more_follows [] ts r at h = end_no_range ts (ap is_end (sym at) ∙ h)
more_follows (x ∷ xs) ts r (m, it, more) h = (item_starts x ts m it).0

-- what is spelled has a character or more
cons_longer : (c : ℕ) (ts r : List ℕ) → ts ≡ c ∷ r → length r < length ts
cons_longer c ts r at = let e = ap length at in omega arith

kind_longer : (d s w p : ℕ) (k : Kind) (ts r : List ℕ) → SpellsKind d s w p k ts r → length r < length ts
kind_longer d s w p Kinds.Digit ts r at = let e = ap length at in omega arith
kind_longer d s w p Kinds.Space ts r at = let e = ap length at in omega arith
kind_longer d s w p Kinds.Word ts r at = let e = ap length at in omega arith
kind_longer d s w p (Kinds.Category g) ts r (name, is, at) = let e = ap length at in omega (arith, length-append name (125 ∷ r))
kind_longer d s w p (Kinds.Group g) ts r (name, is, at) = let e = ap length at in omega (arith, length-append name (125 ∷ r))

escape_longer : (x : Item) (ts r : List ℕ) → SpellsEscape x ts r → length r < length ts
escape_longer (Items.Char d) ts r (c, is, at) = let e = ap length at in omega arith
escape_longer (Items.Range a b) ts r h = absurd h
escape_longer (Items.Kind k) ts r h = kind_longer 100 115 119 112 k ts r h
escape_longer (Items.Not k) ts r h = kind_longer 68 83 87 80 k ts r h

char_longer : (is_first : Bool) (d : ℕ) (ts r : List ℕ) → SpellsChar is_first d ts r → length r < length ts
char_longer is_first d ts r (inl h) = escape_longer (Items.Char d) ts r h
char_longer is_first d ts r (inr (at, clean, may)) = cons_longer d ts r at

pub item_longer : (is_first : Bool) (x : Item) (ts r : List ℕ) → SpellsItem is_first x ts r → length r < length ts
item_longer is_first (Items.Char d) ts r h = char_longer is_first d ts r h
item_longer is_first (Items.Range a b) ts r (m, x, y, le) =
    let e = char_longer is_first a ts (45 ∷ m) x in let f = char_longer false b m r y in omega arith
item_longer is_first (Items.Kind k) ts r h = escape_longer (Items.Kind k) ts r h
item_longer is_first (Items.Not k) ts r h = escape_longer (Items.Not k) ts r h

more_longer : (xs : List Item) (ts r : List ℕ) → SpellsMore xs ts r → length r ≤ length ts
more_longer [] ts r at = let e = ap length at in omega arith
more_longer (x ∷ xs) ts r (m, it, more) =
    let e = item_longer false x ts m it in let f = more_longer xs m r more in omega arith

more_within : (xs : List Item) (n : ℕ) (ts r : List ℕ) → length ts < n → SpellsMore xs ts r → is_end r ≡ true → items_within n ts ≡ Some (xs, r)
more_within xs zero ts r lt h ends = absurd (omega arith)
more_within [] (suc n) ts r lt at ends =
    ap (λ b. cond b (Some ([], ts)) (item_then (λ v. items_within n v) (read_item false ts))) (ap is_end (sym at) ∙ ends)
    ∙ ap (λ v. Some ([], v)) (sym at)
more_within (x ∷ xs) (suc n) ts r lt (m, it, more) ends =
    let shorter = item_longer false x ts m it in
    skip (is_end ts) _ _ (item_starts x ts m it).1
    ∙ (ap (item_then (λ v. items_within n v)) (item_in_class false x ts m it (more_follows xs m r more ends))
    ∙ ap (item_before x) (more_within xs n m r (omega arith) more ends))

items_read : (xs : List Item) (ts r : List ℕ) → SpellsItems xs ts r → is_end r ≡ true → read_items ts ≡ Some (xs, r)
items_read [] ts r h ends = absurd h
items_read (x ∷ xs) ts r (m, it, more) ends =
    ap (item_then (λ v. read_more v)) (item_in_class true x ts m it (more_follows xs m r more ends))
    ∙ ap (item_before x) (more_within xs (suc (length m)) m r (omega arith) more ends)

not_begins : (c : ℕ) (ts : List ℕ) → (¬ Begins c ts) → begins c ts ≡ false
not_begins c [] h = refl
not_begins c (d ∷ ds) h = go (nat_eq d c) refl
  where
    go : (b : Bool) → nat_eq d c ≡ b → b ≡ false
    go true e = absurd (h (ds, λ i. eqb-true d c e i ∷ ds))
    go false e = refl

opening_read : (b : Bool) (ts a : List ℕ) → SpellsOpening b ts a → read_opening ts ≡ Some (b, a)
opening_read true ts a at = ap read_opening at
opening_read false ts a (at, apart_from) =
    ap read_opening at ∙ ap (λ v. cond v (Some (true, tail a)) (Some (false, a))) (not_begins 94 a apart_from)

members_read : (m : Members) (ts r : List ℕ) → SpellsMembers m ts r → is_end r ≡ true → read_members ts ≡ Some (m, r)
members_read m ts r (a, opening, items) ends =
    ap members_then (opening_read m.negated ts a opening) ∙ ap (members m.negated) (items_read m.items a r items ends)

members_open : (m : Members) (ts r : List ℕ) → SpellsMembers m ts r → begins 91 ts ≡ true
members_open m ts r (a, opening, items) = opens m.negated opening
  where
    opens : (b : Bool) → SpellsOpening b ts a → begins 91 ts ≡ true
    opens true at = ap (begins 91) at
    opens false (at, q) = ap (begins 91) at

class_opens : (m : Members) (ms : List Members) (ts r : List ℕ) → SpellsClass m ms ts r → begins 91 ts ≡ true
class_opens m [] ts r h = members_open m ts (93 ∷ r) h
class_opens m (n ∷ ms) ts r (a, h, rest) = members_open m ts (45 ∷ a) h

items_longer : (xs : List Item) (ts r : List ℕ) → SpellsItems xs ts r → length r < length ts
items_longer [] ts r h = absurd h
items_longer (x ∷ xs) ts r (m, it, more) =
    let e = item_longer true x ts m it in let f = more_longer xs m r more in omega arith

pub members_longer : (m : Members) (ts r : List ℕ) → SpellsMembers m ts r → length r < length ts
members_longer m ts r (a, opening, items) = let e = items_longer m.items a r items in let f = opens m.negated opening in omega arith
  where
    opens : (b : Bool) → SpellsOpening b ts a → length a < length ts
    opens true at = let e = ap length at in omega arith
    opens false (at, q) = let e = ap length at in omega arith

groups_open : (m : Members) (ms : List Members) (ts r : List ℕ) → Groups (m ∷ ms) ts r → begins 91 ts ≡ true
groups_open m [] ts r h = members_open m ts r h
groups_open m (n ∷ ms) ts r (a, h, rest) = members_open m ts (45 ∷ a) h

-- members of classes are read up to a closing bracket
within_groups : (ms : List Members) (m : Members) (k : ℕ) (ts r : List ℕ) → length ts < k → Groups (m ∷ ms) ts (93 ∷ r) → groups_within k ts ≡ Some (m ∷ ms, 93 ∷ r)
within_groups ms m zero ts r lt h = absurd (omega arith)
within_groups [] m (suc k) ts r lt h = ap (groups_then (λ a. groups_within k a)) (members_read m ts (93 ∷ r) h refl)
within_groups (n ∷ ms) m (suc k) ts r lt (a, h, rest) =
    let shorter = members_longer m ts (45 ∷ a) h in
    ap (groups_then (λ v. groups_within k v)) (members_read m ts (45 ∷ a) h (groups_open n ms a (93 ∷ r) rest))
    ∙ ap (group_before m) (within_groups ms n k a r (omega arith) rest)

closing_long : (n : ℕ) (r : List ℕ) → nat_le n (length (closing n r)) ≡ true
closing_long n r = le-leb n (length (closing n r)) (long n r)
  where
    long : (n : ℕ) (r : List ℕ) → n ≤ length (closing n r)
    long zero r = omega arith
    long (suc n) r = let e = long n r in omega arith

closing_front : (n : ℕ) (r : List ℕ) → list_all (λ c. nat_eq c 93) (take n (closing n r)) ≡ true
closing_front zero r = refl
closing_front (suc n) r = closing_front n r

closing_rest : (n : ℕ) (r : List ℕ) → drop n (closing n r) ≡ r
closing_rest zero r = refl
closing_rest (suc n) r = closing_rest n r

closing_read : (n : ℕ) (r : List ℕ) → behind_closing n (closing n r) ≡ Some r
closing_read n r =
    ap (λ b. cond b (Some (drop n (closing n r))) None) (and_both (nat_le n (length (closing n r))) (list_all (λ c. nat_eq c 93) (take n (closing n r))) (closing_long n r) (closing_front n r))
    ∙ ap Some (closing_rest n r)

pub class_read : (ms : List Members) (m : Members) (ts r : List ℕ) → SpellsClass m ms ts r → read_class ts ≡ Some (m ∷ ms, r)
class_read ms m ts r h =
    ap closed (within_groups ms m (suc (length ts)) ts (closing (length ms) r) (omega arith) (groups_of_class ms m ts r h))
    ∙ ap (option_map (with_members (m ∷ ms))) (closing_read (suc (length ms)) r)

groups_longer : (ms : List Members) (ts r : List ℕ) → Groups ms ts r → length r < length ts
groups_longer [] ts r h = absurd h
groups_longer (m ∷ []) ts r h = members_longer m ts r h
groups_longer (m ∷ (n ∷ ms)) ts r (a, h, rest) =
    let e = members_longer m ts (45 ∷ a) h in let f = groups_longer (n ∷ ms) a r rest in omega arith

closing_length : (n : ℕ) (r : List ℕ) → length (closing n r) ≡ n + length r
closing_length zero r = omega arith
closing_length (suc n) r = let e = closing_length n r in omega arith

class_longer : (m : Members) (ms : List Members) (ts r : List ℕ) → SpellsClass m ms ts r → length r < length ts
class_longer m ms ts r h =
    let e = groups_longer (m ∷ ms) ts (closing (suc (length ms)) r) (groups_of_class ms m ts r h) in let f = closing_length (suc (length ms)) r in omega arith

-- digits are read up to where they end
abbrev begins_digit : List ℕ → Bool
begins_digit [] = false
begins_digit (c ∷ cs) = is_ascii_digit c

digits_counted : (ds r : List ℕ) → list_all is_ascii_digit ds ≡ true → begins_digit r ≡ false → digit_count (ds ++ r) ≡ length ds
digits_counted [] [] all ends = refl
digits_counted [] (c ∷ cs) all ends = skip (is_ascii_digit c) _ _ ends
digits_counted (c ∷ cs) r all ends =
    let p = and_parts (is_ascii_digit c) (list_all is_ascii_digit cs) all in
    let rest = digits_counted cs r p.1 ends in
    ap (λ b. cond b (1 + digit_count (cs ++ r)) 0) p.0 ∙ (let e : 1 + digit_count (cs ++ r) ≡ suc (length cs) = omega arith in e)

digits_read : (ds r : List ℕ) → 0 < length ds → list_all is_ascii_digit ds ≡ true → begins_digit r ≡ false → read_digits (ds ++ r) ≡ Some (ds, r)
digits_read ds r some all ends =
    ap (λ n. cond (nat_eq n 0) None (Some (take n (ds ++ r), drop n (ds ++ r)))) (digits_counted ds r all ends)
    ∙ (skip (nat_eq (length ds) 0) _ _ (not_none (length ds) some)
    ∙ (ap (λ v. Some (v, drop (length ds) (ds ++ r))) (take-append_seam ds r) ∙ ap (λ v. Some (ds, v)) (drop-append_seam ds r)))
  where
    not_none : (n : ℕ) → 0 < n → nat_eq n 0 ≡ false
    not_none n h = ne_eqb n 0 (λ e. omega arith)

-- a number is read with its digits
abbrev NumberRead : ℕ → List ℕ → List ℕ → Type 0
NumberRead n ts r = (ds : List ℕ) × (read_digits ts ≡ Some (ds, r)) × (digits_value 10 ds ≡ n)

number_read : (n : ℕ) (ts r : List ℕ) → SpellsNumber n ts r → begins_digit r ≡ false → NumberRead n ts r
number_read n ts r (ds, some, all, value, at) ends = (ds, ap read_digits at ∙ digits_read ds r some all ends, sym value)

digit_is_no : (c k : ℕ) → is_ascii_digit c ≡ true → is_ascii_digit k ≡ false → nat_eq c k ≡ false
digit_is_no c k yes_c no_k = go (nat_eq c k) refl
  where
    go : (b : Bool) → nat_eq c k ≡ b → b ≡ false
    go true e = let same = ap is_ascii_digit (eqb-true c k e) in absurd (cc)
    go false e = refl

-- a number begins with no brace
number_begins : (n : ℕ) (ts r : List ℕ) → SpellsNumber n ts r → begins 125 ts ≡ false
number_begins n ts r ([], some, all, value, at) = absurd (omega arith)
number_begins n ts r (c ∷ cs, some, all, value, at) =
    ap (begins 125) at ∙ digit_is_no c 125 (and_parts (is_ascii_digit c) (list_all is_ascii_digit cs) all).0 refl

quantifier_read : (least : ℕ) (most : Option ℕ) (ts r : List ℕ) → SpellsQuantifier least most ts r → read_quantifier ts ≡ Some (least, most, r)
quantifier_read least None ts r (inl (is, at)) = ap read_quantifier at ∙ ap (λ v. Some (v, None, r)) (sym is)
quantifier_read least None ts r (inr (inl (is, at))) = ap read_quantifier at ∙ ap (λ v. Some (v, None, r)) (sym is)
quantifier_read least None ts r (inr (inr (a, at, number))) =
    let n = number_read least a (44 ∷ 125 ∷ r) number refl in
    ap read_quantifier at ∙ (ap read_braces n.1 ∙ ap (λ v. Some (v, None, r)) n.2)
quantifier_read least (Some most) ts r (inl (is, top, at)) =
    ap read_quantifier at ∙ (ap (λ v. Some (v, Some 1, r)) (sym is) ∙ ap (λ v. Some (least, Some v, r)) (sym top))
quantifier_read least (Some most) ts r (inr (inl (a, at, same, number))) =
    let n = number_read least a (125 ∷ r) number refl in
    ap read_quantifier at ∙ (ap read_braces n.1 ∙ (ap (λ v. Some (v, Some v, r)) n.2 ∙ ap (λ v. Some (least, Some v, r)) (sym same)))
quantifier_read least (Some most) ts r (inr (inr (a, b, at, first_one, second_one, le))) =
    let n = number_read least a (44 ∷ b) first_one refl in
    let m = number_read most b (125 ∷ r) second_one refl in
    ap read_quantifier at
    ∙ (ap read_braces n.1
    ∙ (ap (λ v. behind_comma v b) n.2
    ∙ (ap (λ v. cond v (Some (least, None, tail b)) (read_upper least (read_digits b))) (number_begins most b (125 ∷ r) second_one)
    ∙ (ap (read_upper least) m.1
    ∙ (ap (λ v. cond (nat_le least v) (Some (least, Some v, r)) None) m.2
    ∙ ap (λ v. cond v (Some (least, Some most, r)) None) (le-leb least most le))))))

number_longer : (n : ℕ) (ts r : List ℕ) → SpellsNumber n ts r → length r < length ts
number_longer n ts r (ds, some, all, value, at) = let e = ap length at in omega (arith, length-append ds r)

quantifier_longer : (least : ℕ) (most : Option ℕ) (ts r : List ℕ) → SpellsQuantifier least most ts r → length r < length ts
quantifier_longer least None ts r (inl (is, at)) = cons_longer 42 ts r at
quantifier_longer least None ts r (inr (inl (is, at))) = cons_longer 43 ts r at
quantifier_longer least None ts r (inr (inr (a, at, number))) =
    let e = cons_longer 123 ts a at in let f = number_longer least a (44 ∷ 125 ∷ r) number in omega arith
quantifier_longer least (Some most) ts r (inl (is, top, at)) = cons_longer 63 ts r at
quantifier_longer least (Some most) ts r (inr (inl (a, at, same, number))) =
    let e = cons_longer 123 ts a at in let f = number_longer least a (125 ∷ r) number in omega arith
quantifier_longer least (Some most) ts r (inr (inr (a, b, at, first_one, second_one, le))) =
    let e = cons_longer 123 ts a at in
    let f = number_longer least a (44 ∷ b) first_one in
    let g = number_longer most b (125 ∷ r) second_one in
    omega arith

pub token_longer : (u : Token) (ts r : List ℕ) → SpellsToken u ts r → length r < length ts
token_longer open_bracket ts r (inl at) = cons_longer 40 ts r at
token_longer open_bracket ts r (inr at) = let e = ap length at in omega arith
token_longer close_bracket ts r at = cons_longer 41 ts r at
token_longer bar ts r at = cons_longer 124 ts r at
token_longer start_anchor ts r at = cons_longer 94 ts r at
token_longer end_anchor ts r at = cons_longer 36 ts r at
token_longer (one_of dot) ts r at = cons_longer 46 ts r at
token_longer (one_of (item (Items.Char d))) ts r (inl (normal, at)) = cons_longer d ts r at
token_longer (one_of (item (Items.Char d))) ts r (inr h) = escape_longer (Items.Char d) ts r h
token_longer (one_of (item (Items.Range a b))) ts r h = absurd h
token_longer (one_of (item (Items.Kind k))) ts r h = escape_longer (Items.Kind k) ts r h
token_longer (one_of (item (Items.Not k))) ts r h = escape_longer (Items.Not k) ts r h
token_longer (one_of (class [])) ts r h = absurd h
token_longer (one_of (class (m ∷ ms))) ts r h = class_longer m ms ts r h
token_longer (times least most) ts r (inl h) = quantifier_longer least most ts r h
token_longer (times least most) ts r (inr h) = let e = quantifier_longer least most ts (63 ∷ r) h in omega arith

times_read : (least : ℕ) (most : Option ℕ) (ts r : List ℕ) → SpellsQuantifier least most ts r ⊎ SpellsQuantifier least most ts (63 ∷ r) → begins 63 r ≡ false →
    times_token (read_quantifier ts) ≡ Some (times least most, r)
times_read least most ts r (inl h) follows =
    ap times_token (quantifier_read least most ts r h) ∙ ap (λ v. Some (times least most, cond v (tail r) r)) follows
times_read least most ts r (inr h) follows = ap times_token (quantifier_read least most ts (63 ∷ r) h)

differ : (test : ℕ → Bool) (c k : ℕ) → test c ≡ true → test k ≡ false → nat_eq c k ≡ false
differ test c k yes_c no_k = go (nat_eq c k) refl
  where
    go : (b : Bool) → nat_eq c k ≡ b → b ≡ false
    go true e = let same = ap test (eqb-true c k e) in absurd (cc)
    go false e = refl

abbrev is_times : Token → Bool
is_times (times least most) = true
is_times _ = false

escape_begins : (x : Item) (ts r : List ℕ) → SpellsEscape x ts r → begins 63 ts ≡ false
escape_begins x ts r h = let e = escape_read x ts r h in ap (begins 63) e.1

-- only a quantifier begins with a question mark
token_begins : (u : Token) (ts r : List ℕ) → SpellsToken u ts r → is_times u ≡ false → begins 63 ts ≡ false
token_begins open_bracket ts r (inl at) no_times = ap (begins 63) at
token_begins open_bracket ts r (inr at) no_times = ap (begins 63) at
token_begins close_bracket ts r at no_times = ap (begins 63) at
token_begins bar ts r at no_times = ap (begins 63) at
token_begins start_anchor ts r at no_times = ap (begins 63) at
token_begins end_anchor ts r at no_times = ap (begins 63) at
token_begins (one_of dot) ts r at no_times = ap (begins 63) at
token_begins (one_of (item (Items.Char d))) ts r (inl (normal, at)) no_times = ap (begins 63) at ∙ differ is_normal d 63 normal refl
token_begins (one_of (item (Items.Char d))) ts r (inr h) no_times = escape_begins (Items.Char d) ts r h
token_begins (one_of (item (Items.Range a b))) ts r h no_times = absurd h
token_begins (one_of (item (Items.Kind k))) ts r h no_times = escape_begins (Items.Kind k) ts r h
token_begins (one_of (item (Items.Not k))) ts r h no_times = escape_begins (Items.Not k) ts r h
token_begins (one_of (class [])) ts r h no_times = absurd h
token_begins (one_of (class (m ∷ ms))) ts r h no_times = ap (begins 63) (begins_with 91 ts (class_opens m ms ts r h))
token_begins (times least most) ts r h no_times = absurd (cc)

times_special : (least : ℕ) (most : Option ℕ) (ts r : List ℕ) → SpellsQuantifier least most ts r → read_token ts ≡ times_token (read_quantifier ts)
times_special least None ts r (inl (is, at)) = ap read_token at ∙ ap (λ v. times_token (read_quantifier v)) (sym at)
times_special least None ts r (inr (inl (is, at))) = ap read_token at ∙ ap (λ v. times_token (read_quantifier v)) (sym at)
times_special least None ts r (inr (inr (a, at, number))) = ap read_token at ∙ ap (λ v. times_token (read_quantifier v)) (sym at)
times_special least (Some most) ts r (inl (is, top, at)) = ap read_token at ∙ ap (λ v. times_token (read_quantifier v)) (sym at)
times_special least (Some most) ts r (inr (inl (a, at, same, number))) = ap read_token at ∙ ap (λ v. times_token (read_quantifier v)) (sym at)
times_special least (Some most) ts r (inr (inr (a, b, at, first_one, second_one, le))) = ap read_token at ∙ ap (λ v. times_token (read_quantifier v)) (sym at)

escape_token : (x : Item) (ts r : List ℕ) → SpellsEscape x ts r → read_token ts ≡ Some (one_of (item x), r)
escape_token x ts r h = let e = escape_read x ts r h in ap read_token e.1 ∙ ap item_token e.2

-- a normal character is read as itself
normal_token : (d : ℕ) (r : List ℕ) → is_normal d ≡ true → read_token (d ∷ r) ≡ Some (one_of (item (Items.Char d)), r)
normal_token d r normal =
    skip (nat_eq d 91) _ _ (differ is_normal d 91 normal refl)
    ∙ (skip (nat_eq d 92) _ _ (differ is_normal d 92 normal refl)
    ∙ (skip (nat_eq d 40) _ _ (differ is_normal d 40 normal refl)
    ∙ ap (λ b. cond b (Some (one_of (item (Items.Char d)), r)) (or_else (with_rest (mark_token d) r) (times_token (read_quantifier (d ∷ r))))) normal))

-- a token behind which no quantifier may stand
abbrev is_quiet : Token → Bool
is_quiet open_bracket = true
is_quiet (times least most) = true
is_quiet _ = false

-- a token is read, where no question mark follows a bracket or a quantifier
token_read : (u : Token) (ts r : List ℕ) → SpellsToken u ts r → (is_quiet u ≡ true → begins 63 r ≡ false) → read_token ts ≡ Some (u, r)
token_read open_bracket ts r (inl at) follows =
    ap read_token at ∙ ap (λ v. Some (open_bracket, cond (v && begins 58 (tail r)) (tail (tail r)) r)) (follows refl)
token_read open_bracket ts r (inr at) follows = ap read_token at
token_read close_bracket ts r at follows = ap read_token at
token_read bar ts r at follows = ap read_token at
token_read start_anchor ts r at follows = ap read_token at
token_read end_anchor ts r at follows = ap read_token at
token_read (one_of dot) ts r at follows = ap read_token at
token_read (one_of (item (Items.Char d))) ts r (inl (normal, at)) follows = ap read_token at ∙ normal_token d r normal
token_read (one_of (item (Items.Char d))) ts r (inr h) follows = escape_token (Items.Char d) ts r h
token_read (one_of (item (Items.Range a b))) ts r h follows = absurd h
token_read (one_of (item (Items.Kind k))) ts r h follows = escape_token (Items.Kind k) ts r h
token_read (one_of (item (Items.Not k))) ts r h follows = escape_token (Items.Not k) ts r h
token_read (one_of (class [])) ts r h follows = absurd h
token_read (one_of (class (m ∷ ms))) ts r h follows =
    let at = begins_with 91 ts (class_opens m ms ts r h) in
    ap read_token at ∙ (ap (λ v. class_token (read_class v)) (sym at) ∙ ap class_token (class_read ms m ts r h))
token_read (times least most) ts r (inl h) follows = times_special least most ts r h ∙ times_read least most ts r (inl h) (follows refl)
token_read (times least most) ts r (inr h) follows = times_special least most ts (63 ∷ r) h ∙ times_read least most ts r (inr h) (follows refl)

-- where no atom is there the text goes on with no question mark
rest_quiet : (us : List Token) (g : ℕ) (r : List ℕ) → is_spelled g false us ≡ true → SpellsTokens us r → begins 63 r ≡ false
rest_quiet [] g r ok at = ap (begins 63) at
rest_quiet (times least most ∷ us) g r ok (m, h, rest) = absurd (cc)
rest_quiet (open_bracket ∷ us) g r ok (m, h, rest) = token_begins open_bracket r m h refl
rest_quiet (close_bracket ∷ us) g r ok (m, h, rest) = token_begins close_bracket r m h refl
rest_quiet (bar ∷ us) g r ok (m, h, rest) = token_begins bar r m h refl
rest_quiet (start_anchor ∷ us) g r ok (m, h, rest) = token_begins start_anchor r m h refl
rest_quiet (end_anchor ∷ us) g r ok (m, h, rest) = token_begins end_anchor r m h refl
rest_quiet (one_of s ∷ us) g r ok (m, h, rest) = token_begins (one_of s) r m h refl

-- what is left of the tokens is well placed, too
abbrev Placed : Token → List Token → Type 0
Placed u us = (g : ℕ) × (ready : Bool) × (is_spelled g ready us ≡ true) × (is_quiet u ≡ true → ready ≡ false)

placed : (u : Token) (us : List Token) (g : ℕ) (ready : Bool) → is_spelled g ready (u ∷ us) ≡ true → Placed u us
placed open_bracket us g ready ok = (g + 1, false, ok, λ q. refl)
placed close_bracket us g ready ok = (g - 1, true, (and_parts (nat_lt 0 g) (is_spelled (g - 1) true us) ok).1, λ q. absurd (cc))
placed bar us g ready ok = (g, false, ok, λ q. refl)
placed start_anchor us g ready ok = (g, false, ok, λ q. refl)
placed end_anchor us g ready ok = (g, false, ok, λ q. refl)
placed (one_of s) us g ready ok = (g, true, ok, λ q. absurd (cc))
placed (times least most) us g ready ok = (g, false, (and_parts ready (is_spelled g false us) ok).1, λ q. refl)

follows_quietly : (u : Token) (us : List Token) (r : List ℕ) → Placed u us → SpellsTokens us r → is_quiet u ≡ true → begins 63 r ≡ false
follows_quietly u us r (g, ready, ok, quiet) rest q = rest_quiet us g r (subst (λ v. is_spelled g v us ≡ true) (quiet q) ok) rest

-- a token that is read begins the tokens that are read
tokens_step : (k : ℕ) (ts r : List ℕ) (u : Token) → read_token ts ≡ Some (u, r) → tokens_within (suc k) ts ≡ token_before u (tokens_within k r)
tokens_step k [] r u h = absurd (cc)
tokens_step k (c ∷ cs) r u h = ap (tokens_then (λ v. tokens_within k v)) h

-- the tokens of a pattern are read from each text that they spell
within_tokens : (us : List Token) (k g : ℕ) (ready : Bool) (ts : List ℕ) → length ts < k → is_spelled g ready us ≡ true → SpellsTokens us ts → tokens_within k ts ≡ Some us
within_tokens us zero g ready ts lt ok h = absurd (omega arith)
within_tokens [] (suc k) g ready ts lt ok at = ap (tokens_within (suc k)) at
within_tokens (u ∷ us) (suc k) g ready ts lt ok (m, h, rest) =
    let p = placed u us g ready ok in
    let shorter = token_longer u ts m h in
    tokens_step k ts m u (token_read u ts m h (follows_quietly u us m p rest))
    ∙ ap (token_before u) (within_tokens us k p.0 p.1 m (omega arith) p.2 rest)

pub well_placed : (e : Regex) → IsPattern e → is_spelled 0 false (tokens e) ≡ true
well_placed e h = sym (is_spelled_told (tokens e) [] blank) ∙ ap is_some (parse_complete e h)

-- the tokens of a text that spells a pattern are those of the pattern
pub tokens_complete : (e : Regex) (text : List ℕ) → Spells e text → read_tokens text ≡ Some (tokens e)
tokens_complete e text (made, spelled) =
    within_tokens (tokens e) (suc (length text)) 0 false text (omega arith) (well_placed e made) spelled

-- a text spells at most one pattern
pub one_pattern : (text : List ℕ) (e d : Regex) → Spells e text → Spells d text → e ≡ d
one_pattern text e d first_one second_one =
    let same = same_Some (tokens e) (tokens d) (sym (tokens_complete e text first_one) ∙ tokens_complete d text second_one) in
    same_Some e d (sym (parse_complete e first_one.0) ∙ (ap (parse [] blank) same ∙ parse_complete d second_one.0))
