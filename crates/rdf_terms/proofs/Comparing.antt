-- Texts that are compared piece by piece, in the order of their bytes.
use Rattle.std.proofs.Common.{◌≡◌, ◌<◌, ◌≤◌, ◌+◌, ◌⊎◌, ◌&&◌, ℕ, inl, inr, Bool, true, false, true≢false, List, [], ◌∷◌, ◌++◌, ap, append_assoc, arith, codes, cond, drop, encode_utf8_all, get_or, length, min, nat_eq, refl, sym, take, ◌∙◌}
use Rattle.std.proofs.lemmas.Cmp.{nat_list_cmp_total, tied_itself}
use Rattle.std.proofs.lemmas.Fmt.{decimal_is_IsNumeral}
use Rattle.std.proofs.lemmas.Grind.{flat_map-append}
use Rattle.std.proofs.lemmas.List.{length-take-le, take-append-drop}
use Rattle.std.proofs.lemmas.Str.Parse.{digit_at}
use Rattle.std.specs.Cmp.{nat_cmp_is, unsigned_ties}
use Rattle.std.specs.Cmp.Lexicographic.{slice_cmp}
use Rattle.std.specs.Fmt.{decimal}
use Rattle.std.specs.List.{flat_map, starts_with}
use Rattle.std.specs.Ordering.{is_eq, nat_cmp, ordering_reverse, ordering_then}
use Rattle.std.specs.declared.cmp.Ordering.{Ordering}
use Rattle.std.specs.declared.cmp.Ordering.TheVariants.{Less, Equal, Greater}
use Rattle.rdf_terms.specs.Literals.{LiteralParts}
use Rattle.rdf_terms.specs.TextBytes.{escaped_byte}
use Rattle.rdf_terms.specs.Written.{literal_text, printed_name, suffix_text}
use Rattle.rdf_terms.specs.declared.terms.Name.TheVariants.{Label, Fresh}
use Rattle.rdf_terms.proofs.Characters.{starts, starts_encodes}
use Rattle.rdf_terms.proofs.Escapes.{escaped_bytes}

abbrev pub compare : List ℕ → List ℕ → Ordering
compare = slice_cmp nat_cmp

then_assoc : (a b c : Ordering) → ordering_then (ordering_then a b) c ≡ ordering_then a (ordering_then b c)
then_assoc Less b c = refl
then_assoc Equal b c = refl
then_assoc Greater b c = refl

-- fronts that are as long as one another decide first
fronts_first : (p q u v : List ℕ) → length p ≡ length q → ordering_then (compare p q) (compare u v) ≡ compare (p ++ u) (q ++ v)
fronts_first [] [] u v e = refl
fronts_first [] (y ∷ q) u v e = absurd (omega (arith, e))
fronts_first (x ∷ p) [] u v e = absurd (omega (arith, e))
fronts_first (x ∷ p) (y ∷ q) u v e = then_assoc (nat_cmp x y) (compare p q) (compare u v) ∙ ap (ordering_then (nat_cmp x y)) (fronts_first p q u v (omega (arith, e)))

-- and one front decides nothing
same_front : (p u v : List ℕ) → compare (p ++ u) (p ++ v) ≡ compare u v
same_front p u v = sym (fronts_first p p u v refl) ∙ ap (λ o. ordering_then o (compare u v)) (tied_itself nat_list_cmp_total p)

-- ---- bytes with `>` behind them

abbrev pub closed : List ℕ → List ℕ
closed x = x ++ codes ">"

below_some : (v : List ℕ) → Less ≡ compare [] (closed v)
below_some [] = refl
below_some (y ∷ v) = refl

above_none : (u : List ℕ) → Greater ≡ compare (closed u) []
above_none [] = refl
above_none (x ∷ u) = refl

-- where one has no bytes, its `>` is compared with the first of the other, and then the shorter one comes first
pub rests_compared : (u v : List ℕ) → (u ≡ []) ⊎ (v ≡ []) → ordering_then (nat_cmp (get_or u 0 62) (get_or v 0 62)) (nat_cmp (length u) (length v)) ≡ compare (closed u) (closed v)
rests_compared [] [] h = refl
rests_compared [] (y ∷ v) h = ap (ordering_then (nat_cmp 62 y)) (sym (nat_cmp_is 0 (length (y ∷ v)) Less (omega arith)) ∙ below_some v)
rests_compared (x ∷ u) [] h = ap (ordering_then (nat_cmp x 62)) (sym (nat_cmp_is (length (x ∷ u)) 0 Greater (omega arith)) ∙ above_none u)
rests_compared (x ∷ u) (y ∷ v) (inl e) = absurd (omega (arith, ap length e))
rests_compared (x ∷ u) (y ∷ v) (inr e) = absurd (omega (arith, ap length e))

closed_cut : (x : List ℕ) (n : ℕ) → take n x ++ closed (drop n x) ≡ closed x
closed_cut x n = sym (append_assoc (take n x) (drop n x) (codes ">")) ∙ ap closed (take-append-drop n x)

pub closed_compared : (x y p q u v : List ℕ) (n : ℕ) (o : Ordering) → n ≡ min (length x) (length y) → p ≡ take n x → q ≡ take n y → u ≡ drop n x → v ≡ drop n y → o ≡ compare (closed u) (closed v) →
    ordering_then (compare p q) o ≡ compare (closed x) (closed y)
closed_compared x y p q u v n o is front other_front rest other_rest behind =
    let long : length (take n x) ≡ length (take n y) = length-take-le n x (omega (arith, is)) ∙ sym (length-take-le n y (omega (arith, is))) in
    (λ i. ordering_then (compare (front i) (other_front i)) (behind i))
    ∙ (λ i. ordering_then (compare (take n x) (take n y)) (compare (closed (rest i)) (closed (other_rest i))))
    ∙ fronts_first (take n x) (take n y) (closed (drop n x)) (closed (drop n y)) long
    ∙ (λ i. compare (closed_cut x n i) (closed_cut y n i))

-- ---- names

-- what begins otherwise is compared with the beginning alone
apart_left : (p u v y : List ℕ) → starts_with nat_eq y p ≡ false → compare (p ++ u) y ≡ compare (p ++ v) y
apart_left [] u v y e = absurd (true≢false e)
apart_left (c ∷ p) u v [] e = refl
apart_left (c ∷ p) u v (d ∷ y) e = by (nat_cmp c d) refl (λ h. apart_left p u v y h)
  where
    by : (o : Ordering) → nat_cmp c d ≡ o → (starts_with nat_eq y p ≡ false → compare (p ++ u) y ≡ compare (p ++ v) y) → compare (c ∷ (p ++ u)) (d ∷ y) ≡ compare (c ∷ (p ++ v)) (d ∷ y)
    by Less k deeper = ap (λ o. ordering_then o (compare (p ++ u) y)) k ∙ sym (ap (λ o. ordering_then o (compare (p ++ v) y)) k)
    by Greater k deeper = ap (λ o. ordering_then o (compare (p ++ u) y)) k ∙ sym (ap (λ o. ordering_then o (compare (p ++ v) y)) k)
    by Equal k deeper =
        let same : nat_eq c d ≡ true = unsigned_ties c d ∙ ap is_eq k in
        ap (ordering_then (nat_cmp c d)) (deeper (sym (ap (λ b. b && starts_with nat_eq y p) same) ∙ e))

apart_right : (p u v y : List ℕ) → starts_with nat_eq y p ≡ false → compare y (p ++ u) ≡ compare y (p ++ v)
apart_right p u v y e =
    nat_list_cmp_total.antisymm y (p ++ u) ∙ ap ordering_reverse (apart_left p u v y e) ∙ sym (nat_list_cmp_total.antisymm y (p ++ v))

-- what stands before a label
abbrev mark : Bool → List ℕ
mark b = cond b (codes "anon_") []

marked_compared : (a b : List ℕ) (p q : Bool) → starts_with nat_eq a (codes "anon") ≡ p → starts_with nat_eq b (codes "anon") ≡ q → compare a b ≡ compare (mark p ++ a) (mark q ++ b)
marked_compared a b true true s t = refl
marked_compared a b false false s t = refl
marked_compared a b true false s t =
    ap (λ z. compare z b) (starts a (codes "anon") s) ∙ apart_left (codes "anon") (drop 4 a) (codes "_" ++ a) b t
marked_compared a b false true s t =
    ap (λ z. compare a z) (starts b (codes "anon") t) ∙ apart_right (codes "anon") (drop 4 b) (codes "_" ++ b) a s

-- printed labels stand in the order of the labels
pub labels_compared : (a b x y : List ℕ) → x ≡ encode_utf8_all a → y ≡ encode_utf8_all b → compare x y ≡ compare (printed_name (Label a)) (printed_name (Label b))
labels_compared a b x y left right =
    (λ i. compare (left i) (right i))
    ∙ marked_compared (encode_utf8_all a) (encode_utf8_all b) (starts_with nat_eq a (codes "anon")) (starts_with nat_eq b (codes "anon"))
    (starts_encodes a (codes "anon") refl) (starts_encodes b (codes "anon") refl)

-- the digits of a number come before an underscore
digits_below : (ds rest : List ℕ) → 0 < length ds → get_or ds 0 0 ≤ 57 → Greater ≡ compare (95 ∷ rest) ds
digits_below [] rest some low = absurd (omega (arith, some))
digits_below (d ∷ ds) rest some low = ap (λ o. ordering_then o (compare rest ds)) (nat_cmp_is 95 d Greater (omega (arith, low)))

-- a printed label that begins with `anon` comes behind all anonymous nodes
pub marked_behind : (a : List ℕ) (n : ℕ) → n ≤ 4294967295 → starts_with nat_eq a (codes "anon") ≡ true → Greater ≡ compare (printed_name (Label a)) (printed_name (Fresh n))
marked_behind a n last s =
    let d = decimal_is_IsNumeral n (omega (arith, last)) in
    let k = digit_at (decimal n) 0 d.0.1 d.0.0 in
    digits_below (decimal n) (encode_utf8_all a) d.0.0 k.1 ∙ sym (ap (λ b. compare (mark b ++ encode_utf8_all a) (printed_name (Fresh n))) s)

-- and of others the beginning decides
pub bare_compared : (a x : List ℕ) (n : ℕ) → x ≡ encode_utf8_all a → starts_with nat_eq a (codes "anon") ≡ false → compare x (codes "anon") ≡ compare (printed_name (Label a)) (printed_name (Fresh n))
bare_compared a x n is s =
    ap (λ z. compare z (codes "anon")) is
    ∙ apart_right (codes "anon") [] (decimal n) (encode_utf8_all a) (starts_encodes a (codes "anon") refl ∙ s)
    ∙ sym (ap (λ b. compare (mark b ++ encode_utf8_all a) (printed_name (Fresh n))) s)

-- ---- literals

-- the text of a literal behind so many bytes of its lexical form
literal_cut : (l : LiteralParts) (x : List ℕ) (n : ℕ) → x ≡ encode_utf8_all l.lex → flat_map escaped_byte (take n x) ++ (flat_map escaped_byte (drop n x) ++ (codes "\"" ++ suffix_text l l.lang)) ≡ drop 1 (literal_text l)
literal_cut l x n is =
    sym (append_assoc (flat_map escaped_byte (take n x)) (flat_map escaped_byte (drop n x)) (codes "\"" ++ suffix_text l l.lang))
    ∙ ap (λ z. z ++ (codes "\"" ++ suffix_text l l.lang))
    (sym (flat_map-append escaped_byte (take n x) (drop n x)) ∙ ap (flat_map escaped_byte) (take-append-drop n x ∙ is) ∙ sym (escaped_bytes l.lex))

abbrev pub left_of : LiteralParts → List ℕ → List ℕ
left_of l rest = flat_map escaped_byte rest ++ (codes "\"" ++ suffix_text l l.lang)

pub literals_compared : (l m : LiteralParts) (x y u v : List ℕ) (n : ℕ) → x ≡ encode_utf8_all l.lex → y ≡ encode_utf8_all m.lex → take n x ≡ take n y → u ≡ drop n x → v ≡ drop n y →
    compare (left_of l u) (left_of m v) ≡ compare (literal_text l) (literal_text m)
literals_compared l m x y u v n is other same rest other_rest =
    (λ i. compare (left_of l (rest i)) (left_of m (other_rest i)))
    ∙ sym (same_front (flat_map escaped_byte (take n x)) (left_of l (drop n x)) (left_of m (drop n y)))
    ∙ (λ i. compare (literal_cut l x n is i) ((ap (λ z. flat_map escaped_byte z ++ left_of m (drop n y)) same ∙ literal_cut m y n other) i))
