-- A JSON value is read back from its compact text, which is UTF-8.
use Rattle.std.proofs.Common.{◌≡◌, ◌∙◌, ap, refl, sym, subst, ℕ, suc, ◌<◌, ◌≤◌, ◌^◌, max, Bool, true, false, true≢false, List, [], ◌∷◌, ◌++◌, append-nil, Ordering, Less, Equal, Greater}
use Rattle.std.proofs.lemmas.Fmt.{IsAscii-decimal, IsAscii-signed}
use Rattle.std.proofs.lemmas.Str.{IsUtf8-append, IsUtf8-from_ascii, IsUtf8-nil}
use Rattle.std.specs.Cmp.Lexicographic.{slice_cmp}
use Rattle.std.specs.Ordering.{match_ordering, nat_cmp}
use Rattle.std.specs.Prelude.{◌&&◌, codes, pos, negsuc, Option, Some, None, option_map, option_and_then, ⊤}
use Rattle.std.specs.Str.{IsUtf8}
use Rattle.json.specs.Json as json
use Rattle.json.specs.Lex.{tokens}
use Rattle.json.specs.Print.{IsNumber, quoted}
use Rattle.json.specs.Token.{Token}
use Rattle.json.specs.Tree as tree
use Rattle.json.proofs.Printed.Decimals.{IsNumber-decimal, IsNumber-signed_decimal}
use Rattle.json.proofs.Printed.Tokens.{tokens-print}
use Rattle.json.proofs.Printed.Trees.{ArePrintable-json_tokens, value-json_tokens}
use Rattle.json.proofs.Printed.Utf8.{IsUtf8-are_ascii, IsUtf8-boolean, IsUtf8-quoted, are_ascii}
use Rattle.serde_json.specs.Data.{Data, Num, unsigned, negative, float, null, boolean, number, string, array, object, Items, no_items, item, Members, no_members, member, put, depth, items_depth, members_depth}
use Rattle.serde_json.specs.Read.{max_depth, number_of, of_items, of_json, of_members, read}
use Rattle.serde_json.specs.Written.{comma_if, compact_text, items_outline, items_text, members_outline, members_text, number_text, outline}
use Rattle.serde_json.proofs.Numbers.{number_of-decimal, number_of-negative}
use Rattle.serde_json.proofs.Texts.{print-outline}
use Rattle.shexj_writer.specs.Objects.{Field, members, object_of, put_if}
use Rattle.shexj_writer.proofs.Fields.{both}

-- ---- values that are read back

-- a whole number within 64 bits
abbrev pub IsSmall : Num → Type 0
IsSmall (unsigned n) = n < 2 ^ 64
IsSmall (negative (pos n)) = ⊥
IsSmall (negative (negsuc n)) = n < 2 ^ 63
IsSmall (float x) = ⊥

-- these members, and then those, each put at its place
abbrev rebuilt : Members → Members → Members
rebuilt found no_members = found
rebuilt found (member k d ms) = rebuilt (put k d found) ms

-- whole numbers, strings of UTF-8, and members in the order in which they are put
abbrev mutual
  pub IsWritable : Data → Type 0
  IsWritable null = ⊤
  IsWritable (boolean b) = ⊤
  IsWritable (number n) = IsSmall n
  IsWritable (string s) = IsUtf8 s
  IsWritable (array ds) = AreWritable ds
  IsWritable (object ms) = MembersAreWritable ms × (rebuilt no_members ms ≡ ms)

  pub AreWritable : Items → Type 0
  AreWritable no_items = ⊤
  AreWritable (item d ds) = IsWritable d × AreWritable ds

  MembersAreWritable : Members → Type 0
  MembersAreWritable no_members = ⊤
  MembersAreWritable (member k d ms) = IsUtf8 k × (IsWritable d × MembersAreWritable ms)

number_back : (n : Num) → IsSmall n → number_of (number_text n) ≡ Some n
number_back (unsigned n) h = number_of-decimal n h
number_back (negative (pos n)) h = absurd h
number_back (negative (negsuc n)) h = number_of-negative n h
number_back (float x) h = absurd h

mutual
  value_back : (d : Data) → IsWritable d → of_json (outline d) ≡ Some d
  value_back null h = refl
  value_back (boolean b) h = refl
  value_back (number n) h = ap (option_map number) (number_back n h)
  value_back (string s) h = refl
  value_back (array ds) h = ap (option_map array) (items_back ds h)
  value_back (object ms) h = ap (option_map object) (members_back ms no_members h.0) ∙ ap (λ (x : Members). Some (object x)) h.1

  items_back : (ds : Items) → AreWritable ds → of_items (items_outline ds) ≡ Some ds
  items_back no_items h = refl
  items_back (item d ds) h =
      ap (option_and_then (λ x. option_map (item x) (of_items (items_outline ds)))) (value_back d h.0) ∙ ap (option_map (item d)) (items_back ds h.1)

  members_back : (ms found : Members) → MembersAreWritable ms → of_members (members_outline ms) found ≡ Some (rebuilt found ms)
  members_back no_members found h = refl
  members_back (member k d ms) found h =
      ap (option_and_then (λ x. of_members (members_outline ms) (put k x found))) (value_back d h.1.0) ∙ members_back ms (put k d found) h.1.1

number_is : (n : Num) → IsSmall n → IsNumber (number_text n)
number_is (unsigned n) h = IsNumber-decimal n h
number_is (negative (pos n)) h = absurd h
number_is (negative (negsuc n)) h = IsNumber-signed_decimal (negsuc n) h
number_is (float x) h = absurd h

mutual
  has_numbers : (d : Data) → IsWritable d → tree.HasNumbers (outline d)
  has_numbers null h = tt
  has_numbers (boolean b) h = tt
  has_numbers (number n) h = number_is n h
  has_numbers (string s) h = tt
  has_numbers (array ds) h = items_numbers ds h
  has_numbers (object ms) h = members_numbers ms h.0

  items_numbers : (ds : Items) → AreWritable ds → tree.ItemsHaveNumbers (items_outline ds)
  items_numbers no_items h = tt
  items_numbers (item d ds) h = (has_numbers d h.0, items_numbers ds h.1)

  members_numbers : (ms : Members) → MembersAreWritable ms → tree.MembersHaveNumbers (members_outline ms)
  members_numbers no_members h = tt
  members_numbers (member k d ms) h = (has_numbers d h.1.0, members_numbers ms h.1.1)

mutual
  same_depth : (d : Data) → tree.depth (outline d) ≡ depth d
  same_depth null = refl
  same_depth (boolean b) = refl
  same_depth (number n) = refl
  same_depth (string s) = refl
  same_depth (array ds) = ap suc (same_items ds)
  same_depth (object ms) = ap suc (same_members ms)

  same_items : (ds : Items) → tree.items_depth (items_outline ds) ≡ items_depth ds
  same_items no_items = refl
  same_items (item d ds) = let a = same_depth d in let b = same_items ds in λ i. max (a i) (b i)

  same_members : (ms : Members) → tree.members_depth (members_outline ms) ≡ members_depth ms
  same_members no_members = refl
  same_members (member k d ms) = let a = same_depth d in let b = same_members ms in λ i. max (a i) (b i)

pub compact_back : (d : Data) → IsWritable d → depth d ≤ max_depth → read (compact_text d) ≡ Some d
compact_back d h shallow =
    let ts = tree.json_tokens (outline d) in
    let same : tokens (compact_text d) ≡ ts ++ [] = ap tokens (sym (print-outline d)) ∙ tokens-print ts (ArePrintable-json_tokens (outline d) (has_numbers d h)) ∙ sym (append-nil ts) in
    let parsed : json.value max_depth (tokens (compact_text d)) ≡ Some (outline d, []) = ap (json.value max_depth) same
    ∙ value-json_tokens (outline d) max_depth [] (subst (λ (n : ℕ). n ≤ max_depth) (sym (same_depth d)) shallow) in
    ap (λ (r : Option (json.Json × List Token)). option_and_then of_json (option_and_then (λ p. json.if_last p.0 p.1) r)) parsed ∙ value_back d h

-- ---- the text is UTF-8

number_utf8 : (n : Num) → IsSmall n → IsUtf8 (number_text n)
number_utf8 (unsigned n) h = IsUtf8-from_ascii _ (IsAscii-decimal n h)
number_utf8 (negative (pos n)) h = absurd h
number_utf8 (negative (negsuc n)) h = IsUtf8-from_ascii _ (IsAscii-signed (negsuc n) h)
number_utf8 (float x) h = absurd h

comma_utf8 : (later : Bool) → IsUtf8 (comma_if later)
comma_utf8 true = IsUtf8-are_ascii (44 ∷ []) refl
comma_utf8 false = IsUtf8-nil

behind : (x : ℕ) (xs : List ℕ) → are_ascii (x ∷ []) ≡ true → IsUtf8 xs → IsUtf8 (x ∷ xs)
behind x xs low h = IsUtf8-append (x ∷ []) xs (IsUtf8-are_ascii (x ∷ []) low) h

mutual
  pub compact_utf8 : (d : Data) → IsWritable d → IsUtf8 (compact_text d)
  compact_utf8 null h = IsUtf8-are_ascii (codes "null") refl
  compact_utf8 (boolean b) h = IsUtf8-boolean b
  compact_utf8 (number n) h = number_utf8 n h
  compact_utf8 (string s) h = IsUtf8-quoted s h
  compact_utf8 (array ds) h = behind 91 _ refl (items_utf8 false ds h)
  compact_utf8 (object ms) h = behind 123 _ refl (members_utf8 false ms h.0)

  items_utf8 : (later : Bool) (ds : Items) → AreWritable ds → IsUtf8 (items_text later ds)
  items_utf8 later no_items h = IsUtf8-are_ascii (93 ∷ []) refl
  items_utf8 later (item d ds) h = IsUtf8-append (comma_if later) _ (comma_utf8 later) (IsUtf8-append (compact_text d) _ (compact_utf8 d h.0) (items_utf8 true ds h.1))

  members_utf8 : (later : Bool) (ms : Members) → MembersAreWritable ms → IsUtf8 (members_text later ms)
  members_utf8 later no_members h = IsUtf8-are_ascii (125 ∷ []) refl
  members_utf8 later (member k d ms) h =
      let rest = IsUtf8-append (compact_text d) _ (compact_utf8 d h.1.0) (members_utf8 true ms h.1.1) in
      IsUtf8-append (comma_if later) _ (comma_utf8 later) (IsUtf8-append (quoted k) _ (IsUtf8-quoted k h.0) (behind 58 _ refl rest))

-- ---- objects of fields whose keys rise

both_are : (a b : Bool) → a ≡ true → b ≡ true → (a && b) ≡ true
both_are true b p q = q
both_are false b p q = p

abbrev is_less : Ordering → Bool
is_less Less = true
is_less Equal = false
is_less Greater = false

abbrev is_greater : Ordering → Bool
is_greater Less = false
is_greater Equal = false
is_greater Greater = true

less_is : {X : Type 0} (o : Ordering) (a b c : X) → is_less o ≡ true → match_ordering o a b c ≡ a
less_is Less a b c e = refl
less_is Equal a b c e = absurd (true≢false (sym e))
less_is Greater a b c e = absurd (true≢false (sym e))

greater_is : {X : Type 0} (o : Ordering) (a b c : X) → is_greater o ≡ true → match_ordering o a b c ≡ c
greater_is Less a b c e = absurd (true≢false (sym e))
greater_is Equal a b c e = absurd (true≢false (sym e))
greater_is Greater a b c e = refl

-- the first key is below the second
abbrev is_below : List ℕ → List ℕ → Bool
is_below k l = is_less (slice_cmp nat_cmp k l) && is_greater (slice_cmp nat_cmp l k)

-- the key is below those of all fields
abbrev is_below_all : List ℕ → List Field → Bool
is_below_all k [] = true
is_below_all k (f ∷ fs) = is_below k f.0 && is_below_all k fs

-- the keys are ASCII and rise
abbrev pub are_rising : List Field → Bool
are_rising [] = true
are_rising (f ∷ fs) = are_ascii f.0 && (is_below_all f.0 fs && are_rising fs)

-- the fields that have values, as they stand
abbrev add_if : List ℕ → Option Data → Members → Members
add_if k None ms = ms
add_if k (Some d) ms = member k d ms

abbrev listed : List Field → Members
listed [] = no_members
listed (f ∷ fs) = add_if f.0 f.1 (listed fs)

put_before : (k : List ℕ) (d : Data) (l : List ℕ) (o : Option Data) (ms : Members) → is_below k l ≡ true → put k d ms ≡ member k d ms → put k d (add_if l o ms) ≡ member k d (add_if l o ms)
put_before k d l None ms below rest = rest
put_before k d l (Some e) ms below rest =
    less_is (slice_cmp nat_cmp k l) (member k d (member l e ms)) (member l d ms) (member l e (put k d ms)) (both (is_less (slice_cmp nat_cmp k l)) (is_greater (slice_cmp nat_cmp l k)) below).0

put_first : (k : List ℕ) (d : Data) (fs : List Field) → is_below_all k fs ≡ true → put k d (listed fs) ≡ member k d (listed fs)
put_first k d [] below = refl
put_first k d (f ∷ fs) below =
    let parts = both (is_below k f.0) (is_below_all k fs) below in
    put_before k d f.0 f.1 (listed fs) parts.0 (put_first k d fs parts.1)

first_if : (k : List ℕ) (o : Option Data) (fs : List Field) → is_below_all k fs ≡ true → put_if k o (listed fs) ≡ add_if k o (listed fs)
first_if k None fs below = refl
first_if k (Some d) fs below = put_first k d fs below

record RisesBy (k : List ℕ) (fs : List Field) : Type 0 where
  low : are_ascii k ≡ true
  below : is_below_all k fs ≡ true
  rest : are_rising fs ≡ true

rises : (f : Field) (fs : List Field) → are_rising (f ∷ fs) ≡ true → RisesBy f.0 fs
rises f fs h =
    let a = both (are_ascii f.0) (is_below_all f.0 fs && are_rising fs) h in
    let b = both (is_below_all f.0 fs) (are_rising fs) a.1 in
    record { low = a.0; below = b.0; rest = b.1 }

members_are : (fs : List Field) → are_rising fs ≡ true → members fs ≡ listed fs
members_are [] h = refl
members_are (f ∷ fs) h = let r = rises f fs h in ap (put_if f.0 f.1) (members_are fs r.rest) ∙ first_if f.0 f.1 fs r.below

-- members behind others
abbrev joined : Members → Members → Members
joined no_members ms = ms
joined (member l e more) ms = member l e (joined more ms)

joined_none : (ms : Members) → joined ms no_members ≡ ms
joined_none no_members = refl
joined_none (member l e ms) = ap (member l e) (joined_none ms)

joined_twice : (a b c : Members) → joined (joined a b) c ≡ joined a (joined b c)
joined_twice no_members b c = refl
joined_twice (member l e a) b c = ap (member l e) (joined_twice a b c)

-- all keys so far are below those of the fields
abbrev are_below : Members → List Field → Bool
are_below no_members fs = true
are_below (member l e ms) fs = is_below_all l fs && are_below ms fs

put_last : (k : List ℕ) (d : Data) (found : Members) (o : Option Data) (fs : List Field) → are_below found ((k, o) ∷ fs) ≡ true → put k d found ≡ joined found (member k d no_members)
put_last k d no_members o fs h = refl
put_last k d (member l e ms) o fs h =
    let a = both (is_below_all l ((k, o) ∷ fs)) (are_below ms ((k, o) ∷ fs)) h in
    let b = both (is_below l k) (is_below_all l fs) a.0 in
    let c = both (is_less (slice_cmp nat_cmp l k)) (is_greater (slice_cmp nat_cmp k l)) b.0 in
    greater_is (slice_cmp nat_cmp k l) (member k d (member l e ms)) (member l d ms) (member l e (put k d ms)) c.1 ∙ ap (member l e) (put_last k d ms o fs a.1)

below_rest : (found : Members) (f : Field) (fs : List Field) → are_below found (f ∷ fs) ≡ true → are_below found fs ≡ true
below_rest no_members f fs h = refl
below_rest (member l e ms) f fs h =
    let a = both (is_below_all l (f ∷ fs)) (are_below ms (f ∷ fs)) h in
    both_are (is_below_all l fs) (are_below ms fs) (both (is_below l f.0) (is_below_all l fs) a.0).1 (below_rest ms f fs a.1)

below_more : (found : Members) (k : List ℕ) (d : Data) (fs : List Field) → are_below found fs ≡ true → is_below_all k fs ≡ true → are_below (joined found (member k d no_members)) fs ≡ true
below_more no_members k d fs h below = both_are (is_below_all k fs) true below refl
below_more (member l e ms) k d fs h below =
    let a = both (is_below_all l fs) (are_below ms fs) h in
    both_are (is_below_all l fs) (are_below (joined ms (member k d no_members)) fs) a.0 (below_more ms k d fs a.1 below)

rebuilt_at : (found : Members) (k : List ℕ) (o : Option Data) (fs : List Field) → are_below found ((k, o) ∷ fs) ≡ true → RisesBy k fs
    → ((more : Members) → are_below more fs ≡ true → rebuilt more (listed fs) ≡ joined more (listed fs)) → rebuilt found (add_if k o (listed fs)) ≡ joined found (add_if k o (listed fs))
rebuilt_at found k None fs below r rest = rest found (below_rest found (k, None) fs below)
rebuilt_at found k (Some d) fs below r rest =
    let last = joined found (member k d no_members) in
    ap (λ (x : Members). rebuilt x (listed fs)) (put_last k d found (Some d) fs below)
    ∙ rest last (below_more found k d fs (below_rest found (k, Some d) fs below) r.below)
    ∙ joined_twice found (member k d no_members) (listed fs)

rebuilt_is : (found : Members) (fs : List Field) → are_below found fs ≡ true → are_rising fs ≡ true → rebuilt found (listed fs) ≡ joined found (listed fs)
rebuilt_is found [] below h = sym (joined_none found)
rebuilt_is found (f ∷ fs) below h = let r = rises f fs h in rebuilt_at found f.0 f.1 fs below r (λ more low. rebuilt_is more fs low r.rest)

-- the value, if there is one, is read back
abbrev pub IsWritableIfAny : Option Data → Type 0
IsWritableIfAny None = ⊤
IsWritableIfAny (Some d) = IsWritable d

abbrev pub HaveWritable : List Field → Type 0
HaveWritable [] = ⊤
HaveWritable (f ∷ fs) = IsWritableIfAny f.1 × HaveWritable fs

added_writable : (k : List ℕ) (o : Option Data) (ms : Members) → are_ascii k ≡ true → IsWritableIfAny o → MembersAreWritable ms → MembersAreWritable (add_if k o ms)
added_writable k None ms low h rest = rest
added_writable k (Some d) ms low h rest = (IsUtf8-are_ascii k low, (h, rest))

listed_writable : (fs : List Field) → are_rising fs ≡ true → HaveWritable fs → MembersAreWritable (listed fs)
listed_writable [] h w = tt
listed_writable (f ∷ fs) h w = let r = rises f fs h in added_writable f.0 f.1 (listed fs) r.low w.0 (listed_writable fs r.rest w.1)

pub object_writable : (fs : List Field) → are_rising fs ≡ true → HaveWritable fs → IsWritable (object_of fs)
object_writable fs h w = subst (λ (ms : Members). IsWritable (object ms)) (sym (members_are fs h)) (listed_writable fs h w, rebuilt_is no_members fs refl h)
