-- Data without floating-point numbers that nest at most so deep.
use Rattle.std.proofs.Common.{◌≡◌, ◌≤◌, ◌∷◌, ℕ, suc, Bool, List, [], Ordering, Less, Equal, Greater, arith, false, map, nat_cmp, refl}
use Rattle.std.proofs.Math.Nat.{le-max_left, le-max_right, max-le}
use Rattle.std.proofs.lemmas.Bool.{or_from, or_parts}
use Rattle.std.specs.Cmp.Lexicographic.{slice_cmp}
use Rattle.std.specs.Ordering.{match_ordering}
use Rattle.serde_json.specs.Data.{Data, Members, array, boolean, depth, items_depth, member, members_depth, no_members, number, object, put, string, unsigned}
use Rattle.serde_json.specs.View.{items_of}
use Rattle.serde_json.specs.Written.{has_float, items_have_float, members_have_float}

-- no floating-point number stands in the data, which nest at most so deep
pub record IsPlain (n : ℕ) (d : Data) : Type 0 where
  pub whole : has_float d ≡ false
  pub flat : depth d ≤ n

pub record AreMembersPlain (n : ℕ) (ms : Members) : Type 0 where
  pub whole : members_have_float ms ≡ false
  pub flat : members_depth ms ≤ n

pub record AreItemsPlain (n : ℕ) (ds : List Data) : Type 0 where
  pub whole : items_have_float (items_of ds) ≡ false
  pub flat : items_depth (items_of ds) ≤ n

pub string_plain : (n : ℕ) (t : List ℕ) → IsPlain n (string t)
string_plain n t = record { whole = refl; flat = omega arith }

pub number_plain : (n k : ℕ) → IsPlain n (number (unsigned k))
number_plain n k = record { whole = refl; flat = omega arith }

pub boolean_plain : (n : ℕ) (b : Bool) → IsPlain n (boolean b)
boolean_plain n b = record { whole = refl; flat = omega arith }

pub none_plain : (n : ℕ) → AreMembersPlain n no_members
none_plain n = record { whole = refl; flat = omega arith }

pub empty_plain : (n : ℕ) → AreItemsPlain n []
empty_plain n = record { whole = refl; flat = omega arith }

member_plain : (n : ℕ) (k : List ℕ) (d : Data) (ms : Members) → IsPlain n d → AreMembersPlain n ms → AreMembersPlain n (member k d ms)
member_plain n k d ms h m = record { whole = or_from (has_float d) (members_have_float ms) h.whole m.whole; flat = max-le h.flat m.flat }

first_plain : (n : ℕ) (k : List ℕ) (d : Data) (ms : Members) → AreMembersPlain n (member k d ms) → IsPlain n d
first_plain n k d ms m =
    let le = le-max_left (depth d) (members_depth ms) in
    let all = m.flat in
    record { whole = (or_parts (has_float d) (members_have_float ms) m.whole).0; flat = omega (arith, le, all) }

others_plain : (n : ℕ) (k : List ℕ) (d : Data) (ms : Members) → AreMembersPlain n (member k d ms) → AreMembersPlain n ms
others_plain n k d ms m =
    let le = le-max_right (depth d) (members_depth ms) in
    let all = m.flat in
    record { whole = (or_parts (has_float d) (members_have_float ms) m.whole).1; flat = omega (arith, le, all) }

-- one of three members, by how keys compare
placed_plain : (n : ℕ) (o : Ordering) (a b c : Members) →
    AreMembersPlain n a → AreMembersPlain n b → AreMembersPlain n c → AreMembersPlain n (match_ordering o a b c)
placed_plain n Less a b c h i j = h
placed_plain n Equal a b c h i j = i
placed_plain n Greater a b c h i j = j

pub put_plain : (n : ℕ) (k : List ℕ) (d : Data) (ms : Members) → IsPlain n d → AreMembersPlain n ms → AreMembersPlain n (put k d ms)
put_plain n k d no_members h m = member_plain n k d no_members h m
put_plain n k d (member l e ms) h m =
    let first = first_plain n l e ms m in
    let others = others_plain n l e ms m in
    placed_plain n (slice_cmp nat_cmp k l) (member k d (member l e ms)) (member l d ms) (member l e (put k d ms))
    (member_plain n k d (member l e ms) h m) (member_plain n l d ms h others) (member_plain n l e (put k d ms) first (put_plain n k d ms h others))

pub object_plain : (n : ℕ) (ms : Members) → AreMembersPlain n ms → IsPlain (suc n) (object ms)
object_plain n ms m = let le = m.flat in record { whole = m.whole; flat = omega (arith, le) }

pub item_plain : (n : ℕ) (d : Data) (ds : List Data) → IsPlain n d → AreItemsPlain n ds → AreItemsPlain n (d ∷ ds)
item_plain n d ds h m = record { whole = or_from (has_float d) (items_have_float (items_of ds)) h.whole m.whole; flat = max-le h.flat m.flat }

pub list_plain : (n : ℕ) (ds : List Data) → AreItemsPlain n ds → IsPlain (suc n) (array (items_of ds))
list_plain n ds m = let le = m.flat in record { whole = m.whole; flat = omega (arith, le) }

pub mapped_plain : {X : Type 0} (n : ℕ) (f : X → Data) → ((x : X) → IsPlain n (f x)) → (xs : List X) → AreItemsPlain n (map f xs)
mapped_plain n f each [] = empty_plain n
mapped_plain n f each (x ∷ xs) = item_plain n (f x) (map f xs) (each x) (mapped_plain n f each xs)

pub deeper : (m n : ℕ) (d : Data) → m ≤ n → IsPlain m d → IsPlain n d
deeper m n d le h = let own = h.flat in record { whole = h.whole; flat = omega (arith, le, own) }

pub members_deeper : (m n : ℕ) (ms : Members) → m ≤ n → AreMembersPlain m ms → AreMembersPlain n ms
members_deeper m n ms le h = let own = h.flat in record { whole = h.whole; flat = omega (arith, le, own) }
