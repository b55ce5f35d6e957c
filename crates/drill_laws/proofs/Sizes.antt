-- The texts of a drill are short, and its triples few.
use Rattle.std.proofs.Common.{◌≡◌, ℕ, zero, suc, ◌+◌, ◌*◌, ◌%◌, ◌<◌, ◌≤◌, Bool, true, false, ◌&&◌, cond, List, ◌++◌, length, length-append, codes, ◌∙◌, ap, arith}
use Rattle.std.specs.Prelude.{nat_eq, nat_lt}
use Rattle.std.specs.Fmt.{decimal}
use Rattle.std.specs.List.{flat_map, range_with_len}
use Rattle.std.proofs.lemmas.List.Concat.{flat_map-cons}
use Rattle.shex_drill.specs.Graph.{graph_triples, triples_of}
use Rattle.shex_drill.specs.Texts.{block_of, first_of, graph_text, line_of, map_text, next_of, schema_text, tag_of}
use Rattle.shex_drill.proofs.Digits.{few_digits}

-- the next item is at most one further on
next_below : (n i : ℕ) → next_of n i ≤ i + 1
next_below n i = by (nat_lt (i + 1) n && nat_eq (block_of (i + 1)) (block_of i))
  where
    by : (b : Bool) → cond b (i + 1) (first_of (block_of i)) ≤ i + 1
    by true = omega arith
    by false = omega arith

-- a tag is 4 at most
tag_within : (i : ℕ) → tag_of i ≤ 4
tag_within i = by (nat_eq i (first_of (block_of i)) && nat_eq (block_of i % 3) 0)
  where
    by : (b : Bool) → cond b 4 (1 + i % 3) ≤ 4
    by true = omega arith
    by false = omega arith

-- pieces of at most b items each
pieces_few : {X : Type 0} (f : ℕ → List X) (b : ℕ) (most : ℕ → ℕ) → ((k : ℕ) → b + most k ≤ most (suc k)) → (a k : ℕ) → ((i : ℕ) → i < a + k → length (f i) ≤ b) →
    length (flat_map f (range_with_len a k)) ≤ most k
pieces_few f b most grows a zero each = omega arith
pieces_few f b most grows a (suc k) each =
    let first = each a (omega arith) in
    let rest = pieces_few f b most grows (a + 1) k (λ i l. each i (omega (arith, l))) in
    let both = ap length (flat_map-cons f a (range_with_len (a + 1) k)) ∙ length-append (f a) (flat_map f (range_with_len (a + 1) k)) in
    whole (length (f a)) (length (flat_map f (range_with_len (a + 1) k))) (length (flat_map f (range_with_len a (suc k)))) (most k) (most (suc k)) first rest both (grows k)
  where
    whole : (x y z r t : ℕ) → x ≤ b → y ≤ r → z ≡ x + y → b + r ≤ t → z ≤ t
    whole x y z r t first rest both more = omega (arith, first, rest, both, more)

line_length : (x y z : List ℕ) → length x ≤ 20 → length y ≤ 20 → length z ≤ 20 → length (codes ":i" ++ (x ++ (codes " :next :i" ++ (y ++ (codes " ; :tag " ++ (z ++ codes " .\n")))))) ≤ 100
line_length x y z a b c =
    let one = length-append x (codes " :next :i" ++ (y ++ (codes " ; :tag " ++ (z ++ codes " .\n")))) in
    let two = length-append y (codes " ; :tag " ++ (z ++ codes " .\n")) in
    let three = length-append z (codes " .\n") in
    let four = length-append (codes ":i") (x ++ (codes " :next :i" ++ (y ++ (codes " ; :tag " ++ (z ++ codes " .\n"))))) in
    let five = length-append (codes " :next :i") (y ++ (codes " ; :tag " ++ (z ++ codes " .\n"))) in
    let six = length-append (codes " ; :tag ") (z ++ codes " .\n") in
    omega (arith, one, two, three, four, five, six, a, b, c)

far : (m i : ℕ) → m ≤ i + 1 → i ≤ 100000 → m ≤ 200000
far m i a b = omega (arith, a, b)

small : (m : ℕ) → m ≤ 4 → m ≤ 200000
small m a = omega (arith, a)

line_few : (n i : ℕ) → i ≤ 100000 → length (line_of n i) ≤ 100
line_few n i le =
    line_length (decimal i) (decimal (next_of n i)) (decimal (tag_of i)) (few_digits i (omega (arith, le))) (few_digits (next_of n i) (far (next_of n i) i (next_below n i) le))
    (few_digits (tag_of i) (small (tag_of i) (tag_within i)))

lines_few : (n : ℕ) → n ≤ 100000 → length (flat_map (line_of n) (range_with_len 0 n)) ≤ 100 * n
lines_few n le = pieces_few (line_of n) 100 (λ k. 100 * k) (λ k. omega arith) 0 n (λ i l. line_few n i (omega (arith, l, le)))

in_limit : (a b c n : ℕ) → c ≡ a + b → a ≤ 100 → b ≤ 100 * n → n ≤ 100000 → c ≤ 67108864
in_limit a b c n both head lines le = omega (arith, both, head, lines, le)

head_few : length (codes "@prefix : <http://d.example/> .\n") ≤ 100
head_few = omega arith

pub graph_short : (n : ℕ) → n ≤ 100000 → length (graph_text n) ≤ 67108864
graph_short n le =
    in_limit (length (codes "@prefix : <http://d.example/> .\n")) (length (flat_map (line_of n) (range_with_len 0 n))) (length (graph_text n)) n
    (length-append (codes "@prefix : <http://d.example/> .\n") (flat_map (line_of n) (range_with_len 0 n))) head_few (lines_few n le) le

pub schema_short : length schema_text ≤ 67108864
schema_short = omega arith

pub map_short : length map_text ≤ 67108864
map_short = omega arith

two_each : (n i : ℕ) → length (triples_of n i) ≤ 2
two_each n i = omega arith

pub triples_few : (n : ℕ) → length (graph_triples n) ≤ 2 * n
triples_few n = pieces_few (triples_of n) 2 (λ k. 2 * k) (λ k. omega arith) 0 n (λ i l. two_each n i)
