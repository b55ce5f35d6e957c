-- Reading the tokens of a text, one after the other.
use Rattle.std.specs.Prelude.{ℕ, zero, suc, Bool, true, false, ◌==◌, ◌||◌, ◌&&◌, not, nat_le, min, if◌then◌else◌, Option, Some, None, option_map, List, [], ◌∷◌, codes, length, take, drop}
use Rattle.std.specs.Char.{is_ascii_digit}
use Rattle.std.specs.List.{list_all, prefix_len}
use Rattle.std.specs.Str.Parse.{digits_value}
use Rattle.xs_pattern.specs.declared.expression.Item.{Item}
use Rattle.xs_pattern.specs.declared.expression.Item.TheVariants as Items
use Rattle.xs_pattern.specs.declared.expression.Kind.{Kind}
use Rattle.xs_pattern.specs.declared.expression.Kind.TheVariants as Kinds
use Rattle.xs_pattern.specs.Regex.{Members, dot, item, class}
use Rattle.xs_pattern.specs.Tokens.{Token, open_bracket, close_bracket, bar, start_anchor, end_anchor, one_of, times}
use Rattle.xs_pattern.specs.Spelling.{categories, escaped, is_normal, is_one_of, named}

-- a thing that was read, and what is left behind it
abbrev pub with_rest : {A : Type 0} → Option A → List ℕ → Option (A × List ℕ)
with_rest None r = None
with_rest (Some a) r = Some (a, r)

-- the first of two that there is
abbrev pub or_else : {A : Type 0} → Option A → Option A → Option A
or_else None y = y
or_else (Some x) y = Some x

-- the text begins with the character
abbrev pub begins : ℕ → List ℕ → Bool
begins c [] = false
begins c (d ∷ ds) = d == c

-- what is behind the first character
abbrev pub tail : List ℕ → List ℕ
tail [] = []
tail (c ∷ cs) = cs

-- a name of a category with its braces
abbrev pub two_letters : ℕ → ℕ → List ℕ → Option (Kind × List ℕ)
two_letters a b [] = None
two_letters a b (c ∷ cs) = if c == 125 then with_rest (named categories (a ∷ b ∷ [])) cs else None

abbrev pub one_letter : ℕ → List ℕ → Option (Kind × List ℕ)
one_letter a [] = None
one_letter a (b ∷ cs) = if b == 125 then with_rest (named categories (a ∷ [])) cs else two_letters a b cs

abbrev pub in_braces : List ℕ → Option (Kind × List ℕ)
in_braces [] = None
in_braces (a ∷ cs) = one_letter a cs

abbrev pub read_category : List ℕ → Option (Kind × List ℕ)
read_category [] = None
read_category (c ∷ cs) = if c == 123 then in_braces cs else None

abbrev pub kind_item : Bool → Option (Kind × List ℕ) → Option (Item × List ℕ)
kind_item negated None = None
kind_item true (Some (k, r)) = Some (Items.Not k, r)
kind_item false (Some (k, r)) = Some (Items.Kind k, r)

-- the kind of a letter behind a backslash, but for the letters of categories
abbrev pub letter_item : ℕ → Option Item
letter_item c =
    if c == 100 then Some (Items.Kind Kinds.Digit) else (if c == 68 then Some (Items.Not Kinds.Digit) else
    (if c == 115 then Some (Items.Kind Kinds.Space) else (if c == 83 then Some (Items.Not Kinds.Space) else
    (if c == 119 then Some (Items.Kind Kinds.Word) else (if c == 87 then Some (Items.Not Kinds.Word) else None)))))

-- an escape of a kind, behind the backslash
abbrev pub read_kind : List ℕ → Option (Item × List ℕ)
read_kind [] = None
read_kind (c ∷ cs) =
    if c == 112 then kind_item false (read_category cs) else
    (if c == 80 then kind_item true (read_category cs) else with_rest (letter_item c) cs)

-- an escape of a character, behind the backslash
abbrev pub read_single : List ℕ → Option (ℕ × List ℕ)
read_single [] = None
read_single (c ∷ cs) = with_rest (escaped c) cs

abbrev pub char_item : Option (ℕ × List ℕ) → Option (Item × List ℕ)
char_item None = None
char_item (Some (d, r)) = Some (Items.Char d, r)

-- an escape, behind the backslash
abbrev pub read_escape : List ℕ → Option (Item × List ℕ)
read_escape ts = or_else (read_kind ts) (char_item (read_single ts))

-- a character in a class that stands for itself before this text
abbrev pub is_own : Bool → ℕ → List ℕ → Bool
is_own is_first c cs = not (is_one_of (codes "\\[]") c) && (not (c == 45) || is_first || begins 93 cs)

-- a character in a class
abbrev pub read_char : Bool → List ℕ → Option (ℕ × List ℕ)
read_char is_first [] = None
read_char is_first (c ∷ cs) =
    if c == 92 then read_single cs else (if is_own is_first c cs then Some (c, cs) else None)

-- a hyphen stands there that makes a range: no bracket is behind it
abbrev pub is_range : List ℕ → Bool
is_range ts = begins 45 ts && not (begins 93 (tail ts) || begins 91 (tail ts))

-- the items of a class end: the bracket closes, or a class is taken away
abbrev pub is_end : List ℕ → Bool
is_end ts = begins 93 ts || (begins 45 ts && begins 91 (tail ts))

abbrev pub up_to : ℕ → Option (ℕ × List ℕ) → Option (Item × List ℕ)
up_to a None = None
up_to a (Some (b, r)) = if nat_le a b then Some (Items.Range a b, r) else None

abbrev pub ranged : Option (ℕ × List ℕ) → Option (Item × List ℕ)
ranged None = None
ranged (Some (d, r)) = if is_range r then up_to d (read_char false (tail r)) else Some (Items.Char d, r)

-- an escape of a kind with its backslash
abbrev pub read_kind_item : List ℕ → Option (Item × List ℕ)
read_kind_item [] = None
read_kind_item (c ∷ cs) = if c == 92 then read_kind cs else None

-- an item of a class
abbrev pub read_item : Bool → List ℕ → Option (Item × List ℕ)
read_item is_first ts = or_else (read_kind_item ts) (ranged (read_char is_first ts))

-- an item and what is read behind it
abbrev pub item_before : Item → Option (List Item × List ℕ) → Option (List Item × List ℕ)
item_before x None = None
item_before x (Some (xs, r)) = Some (x ∷ xs, r)

abbrev pub item_then : (List ℕ → Option (List Item × List ℕ)) → Option (Item × List ℕ) → Option (List Item × List ℕ)
item_then go None = None
item_then go (Some (x, r)) = item_before x (go r)

-- fewer than n further items
abbrev pub items_within : ℕ → List ℕ → Option (List Item × List ℕ)
items_within zero ts = None
items_within (suc n) ts = if is_end ts then Some ([], ts) else item_then (λ r. items_within n r) (read_item false ts)

-- further items, each of which is a character or more
abbrev pub read_more : List ℕ → Option (List Item × List ℕ)
read_more ts = items_within (suc (length ts)) ts

abbrev pub read_items : List ℕ → Option (List Item × List ℕ)
read_items ts = item_then (λ r. read_more r) (read_item true ts)

abbrev pub read_opening : List ℕ → Option (Bool × List ℕ)
read_opening [] = None
read_opening (c ∷ cs) =
    if c == 91 then (if begins 94 cs then Some (true, tail cs) else Some (false, cs)) else None

abbrev pub members : Bool → Option (List Item × List ℕ) → Option (Members × List ℕ)
members b None = None
members b (Some (xs, r)) = Some (record { negated = b; items = xs }, r)

abbrev pub members_then : Option (Bool × List ℕ) → Option (Members × List ℕ)
members_then None = None
members_then (Some (b, a)) = members b (read_items a)

-- the opening bracket of a class and its items
abbrev pub read_members : List ℕ → Option (Members × List ℕ)
read_members ts = members_then (read_opening ts)

-- members, and those that are taken away from them
abbrev pub group_before : Members → Option (List Members × List ℕ) → Option (List Members × List ℕ)
group_before m None = None
group_before m (Some (ms, r)) = Some (m ∷ ms, r)

abbrev pub groups_then : (List ℕ → Option (List Members × List ℕ)) → Option (Members × List ℕ) → Option (List Members × List ℕ)
groups_then go None = None
groups_then go (Some (m, b)) = if begins 45 b then group_before m (go (tail b)) else Some (m ∷ [], b)

-- fewer than k classes in one another, up to their closing brackets
abbrev pub groups_within : ℕ → List ℕ → Option (List Members × List ℕ)
groups_within zero ts = None
groups_within (suc k) ts = groups_then (λ a. groups_within k a) (read_members ts)

abbrev pub read_groups : List ℕ → Option (List Members × List ℕ)
read_groups ts = groups_within (suc (length ts)) ts

-- what is behind n closing brackets
abbrev pub behind_closing : ℕ → List ℕ → Option (List ℕ)
behind_closing n ts =
    if nat_le n (length ts) && list_all (λ c. c == 93) (take n ts) then Some (drop n ts) else None

abbrev pub with_members : List Members → List ℕ → List Members × List ℕ
with_members ms r = (ms, r)

abbrev pub closed : Option (List Members × List ℕ) → Option (List Members × List ℕ)
closed None = None
closed (Some (ms, b)) = option_map (with_members ms) (behind_closing (length ms) b)

-- a class
abbrev pub read_class : List ℕ → Option (List Members × List ℕ)
read_class ts = closed (read_groups ts)

-- how many digits stand at the front
abbrev pub digit_count : List ℕ → ℕ
digit_count ts = prefix_len is_ascii_digit ts

-- digits, one or more, and what is behind them
abbrev pub read_digits : List ℕ → Option (List ℕ × List ℕ)
read_digits ts =
    let n = digit_count ts in if n == 0 then None else Some (take n ts, drop n ts)

-- the numbers of a quantifier, and what is behind it
abbrev pub Counted : Type 0
Counted = Option (ℕ × Option ℕ × List ℕ)

abbrev pub read_upper : ℕ → Option (List ℕ × List ℕ) → Counted
read_upper n None = None
read_upper n (Some (ds, r)) =
    if begins 125 r && nat_le n (digits_value 10 ds) then Some (n, Some (digits_value 10 ds), tail r) else None

abbrev pub behind_comma : ℕ → List ℕ → Counted
behind_comma n ts = if begins 125 ts then Some (n, None, tail ts) else read_upper n (read_digits ts)

abbrev pub read_braces : Option (List ℕ × List ℕ) → Counted
read_braces None = None
read_braces (Some (ds, r)) =
    let n = digits_value 10 ds in
    if begins 125 r then Some (n, Some n, tail r) else (if begins 44 r then behind_comma n (tail r) else None)

abbrev pub read_quantifier : List ℕ → Counted
read_quantifier [] = None
read_quantifier (c ∷ cs) =
    if c == 42 then Some (0, None, cs) else (if c == 43 then Some (1, None, cs) else
    (if c == 63 then Some (0, Some 1, cs) else (if c == 123 then read_braces (read_digits cs) else None)))

-- what is left behind a question mark, if there is one
abbrev pub behind_lazy : List ℕ → List ℕ
behind_lazy ts = if begins 63 ts then tail ts else ts

-- a token and what is behind it; a question mark behind a quantifier is passed over
abbrev pub times_token : Counted → Option (Token × List ℕ)
times_token None = None
times_token (Some (n, m, r)) = Some (times n m, behind_lazy r)

abbrev pub item_token : Option (Item × List ℕ) → Option (Token × List ℕ)
item_token None = None
item_token (Some (x, r)) = Some (one_of (item x), r)

abbrev pub class_token : Option (List Members × List ℕ) → Option (Token × List ℕ)
class_token None = None
class_token (Some (ms, r)) = Some (one_of (class ms), r)

-- what is left behind an opening bracket, with the mark that nothing is captured
abbrev pub behind_open : List ℕ → List ℕ
behind_open ts = if begins 63 ts && begins 58 (tail ts) then tail (tail ts) else ts

-- the tokens of one character that does not stand for itself
abbrev pub mark_token : ℕ → Option Token
mark_token c =
    if c == 46 then Some (one_of dot) else (if c == 41 then Some close_bracket else (if c == 124 then Some bar else
    (if c == 94 then Some start_anchor else (if c == 36 then Some end_anchor else None))))

-- a token that is no class
abbrev pub plain_token : ℕ → List ℕ → Option (Token × List ℕ)
plain_token c cs =
    if c == 92 then item_token (read_escape cs) else (if c == 40 then Some (open_bracket, behind_open cs) else
    (if is_normal c then Some (one_of (item (Items.Char c)), cs) else
    or_else (with_rest (mark_token c) cs) (times_token (read_quantifier (c ∷ cs)))))

abbrev pub read_token : List ℕ → Option (Token × List ℕ)
read_token [] = None
read_token (c ∷ cs) = if c == 91 then class_token (read_class (c ∷ cs)) else plain_token c cs

abbrev pub token_before : Token → Option (List Token) → Option (List Token)
token_before u None = None
token_before u (Some us) = Some (u ∷ us)

abbrev pub tokens_then : (List ℕ → Option (List Token)) → Option (Token × List ℕ) → Option (List Token)
tokens_then go None = None
tokens_then go (Some (u, r)) = token_before u (go r)

-- fewer than k tokens
abbrev pub tokens_within : ℕ → List ℕ → Option (List Token)
tokens_within zero ts = None
tokens_within (suc k) [] = Some []
tokens_within (suc k) (c ∷ cs) = tokens_then (λ r. tokens_within k r) (read_token (c ∷ cs))

-- the tokens of the text, each of which is a character or more
abbrev pub read_tokens : List ℕ → Option (List Token)
read_tokens ts = tokens_within (suc (length ts)) ts

-- a number as the code holds it: those above 4,096 are one
abbrev pub capped : ℕ → ℕ
capped n = min n 4097

abbrev pub capped_token : Token → Token
capped_token (times n m) = times (capped n) (option_map capped m)
capped_token u = u

abbrev pub capped_pair : Option (Token × List ℕ) → Option (Token × List ℕ)
capped_pair None = None
capped_pair (Some (u, r)) = Some (capped_token u, r)

abbrev pub capped_counts : Counted → Counted
capped_counts None = None
capped_counts (Some (n, m, r)) = Some (capped n, option_map capped m, r)
