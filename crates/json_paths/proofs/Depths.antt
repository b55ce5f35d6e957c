-- A value that is changed behind a step or at the end of a path nests no deeper.
use Rattle.std.proofs.Common.{◌≡◌, ◌≤◌, ◌<◌, ℕ, zero, suc, max, List, [], ◌∷◌, ◌++◌, Bool, true, false, Option, Some, None, Ordering, Less, Equal, Greater, nat_cmp, string_bytes, bytes_eq, if◌then◌else◌, option_and_then, refl, sym, ap, ◌∙◌, subst, arith}
use Rattle.std.specs.Ordering.{match_ordering}
use Rattle.std.specs.Cmp.Lexicographic.{slice_cmp}
use Rattle.serde_json.specs.Data.{Data, null, boolean, number, string, array, object, Items, no_items, item, Members, no_members, member, put, depth, items_depth, members_depth}
use Rattle.serde_json.specs.Find.{at, get, get_item, get_member}
use Rattle.json_paths.specs.Items.{ending, front}
use Rattle.json_paths.specs.Members.{without_member}
use Rattle.json_paths.specs.Paths.{inside, placed, value_at, with_at, with_step, without}
use Rattle.json_paths.specs.declared.steps.Step.{Step}
use Rattle.json_paths.specs.declared.steps.Step.TheVariants.{Index, Key}

both : (a b n : ℕ) → a ≤ n → b ≤ n → max a b ≤ n
both a b n p q = omega arith

left_part : (a b n : ℕ) → max a b ≤ n → a ≤ n
left_part a b n p = omega arith

right_part : (a b n : ℕ) → max a b ≤ n → b ≤ n
right_part a b n p = omega arith

-- ---- items

front_depth : (k n : ℕ) (ds : Items) → items_depth ds ≤ n → items_depth (front k ds) ≤ n
front_depth k n no_items p = p
front_depth zero n (item d ds) p = omega arith
front_depth (suc k) n (item d ds) p = both (depth d) _ n (left_part (depth d) _ n p) (front_depth k n ds (right_part (depth d) _ n p))

ending_depth : (k n : ℕ) (x : Data) (ds : Items) → depth x ≤ n → items_depth ds ≤ n → items_depth (ending k x ds) ≤ n
ending_depth k n x no_items own p = both (depth x) 0 n own (omega arith)
ending_depth zero n x (item d ds) own p = both (depth x) 0 n own (omega arith)
ending_depth (suc k) n x (item d ds) own p = both (depth d) _ n (left_part (depth d) _ n p) (ending_depth k n x ds own (right_part (depth d) _ n p))

item_depth : (i n : ℕ) (c : Data) (ds : Items) → get_item i ds ≡ Some c → items_depth ds ≤ n → depth c ≤ n
item_depth i n c no_items e p = absurd cc
item_depth zero n c (item d ds) e p = subst (λ x. depth x ≤ n) (some_same d c e) (left_part (depth d) _ n p)
  where
    some_same : (a b : Data) → Some a ≡ Some b → a ≡ b
    some_same a b e = cc
item_depth (suc i) n c (item d ds) e p = item_depth i n c ds e (right_part (depth d) _ n p)

-- ---- members

put_depth_at : (o : Ordering) (k l : List ℕ) (n : ℕ) (x e : Data) (ms put_later : Members) → depth x ≤ n → max (depth e) (members_depth ms) ≤ n → members_depth put_later ≤ n
    → members_depth (match_ordering o (member k x (member l e ms)) (member l x ms) (member l e put_later)) ≤ n
put_depth_at Less k l n x e ms later own p q = both (depth x) _ n own p
put_depth_at Equal k l n x e ms later own p q = both (depth x) _ n own (right_part (depth e) _ n p)
put_depth_at Greater k l n x e ms later own p q = both (depth e) _ n (left_part (depth e) _ n p) q

put_depth : (k : List ℕ) (n : ℕ) (x : Data) (ms : Members) → depth x ≤ n → members_depth ms ≤ n → members_depth (put k x ms) ≤ n
put_depth k n x no_members own p = both (depth x) 0 n own (omega arith)
put_depth k n x (member l e ms) own p = put_depth_at (slice_cmp nat_cmp k l) k l n x e ms (put k x ms) own p (put_depth k n x ms own (right_part (depth e) _ n p))

without_depth_at : (b : Bool) (k : List ℕ) (n : ℕ) (d : Data) (ms gone : Members) → max (depth d) (members_depth ms) ≤ n → members_depth gone ≤ n
    → members_depth (if b then ms else member k d gone) ≤ n
without_depth_at true k n d ms gone p q = right_part (depth d) _ n p
without_depth_at false k n d ms gone p q = both (depth d) _ n (left_part (depth d) _ n p) q

without_member_depth : (name : List ℕ) (n : ℕ) (ms : Members) → members_depth ms ≤ n → members_depth (without_member name ms) ≤ n
without_member_depth name n no_members p = p
without_member_depth name n (member k d ms) p =
    without_depth_at (bytes_eq name k) k n d ms (without_member name ms) p (without_member_depth name n ms (right_part (depth d) _ n p))

member_depth_at : (o : Ordering) (n : ℕ) (c e : Data) (later : Option Data) → match_ordering o later (Some e) later ≡ Some c → depth e ≤ n → (later ≡ Some c → depth c ≤ n) → depth c ≤ n
member_depth_at Less n c e later is p q = q is
member_depth_at Equal n c e later is p q = subst (λ x. depth x ≤ n) (some_same e c is) p
  where
    some_same : (a b : Data) → Some a ≡ Some b → a ≡ b
    some_same a b e = cc
member_depth_at Greater n c e later is p q = q is

member_depth : (k : List ℕ) (n : ℕ) (c : Data) (ms : Members) → get_member k ms ≡ Some c → members_depth ms ≤ n → depth c ≤ n
member_depth k n c no_members e p = absurd cc
member_depth k n c (member l d ms) e p =
    member_depth_at (slice_cmp nat_cmp k l) n c d (get_member k ms) e (left_part (depth d) _ n p) (λ later. member_depth k n c ms later (right_part (depth d) _ n p))

-- ---- steps and paths

-- what stands behind a step nests less deep
pub inside_depth : (step : Step) (d c : Data) (n : ℕ) → inside step d ≡ Some c → depth d ≤ n → depth c < n
inside_depth (Key name) null c n e p = absurd cc
inside_depth (Key name) (boolean b) c n e p = absurd cc
inside_depth (Key name) (number x) c n e p = absurd cc
inside_depth (Key name) (string s) c n e p = absurd cc
inside_depth (Key name) (array ds) c n e p = absurd cc
inside_depth (Key name) (object ms) c zero e p = absurd (omega arith)
inside_depth (Key name) (object ms) c (suc n) e p = let q = member_depth (string_bytes name) n c ms e (omega arith) in omega arith
inside_depth (Index i) null c n e p = absurd cc
inside_depth (Index i) (boolean b) c n e p = absurd cc
inside_depth (Index i) (number x) c n e p = absurd cc
inside_depth (Index i) (string s) c n e p = absurd cc
inside_depth (Index i) (object ms) c n e p = absurd cc
inside_depth (Index i) (array ds) c zero e p = absurd (omega arith)
inside_depth (Index i) (array ds) c (suc n) e p = let q = item_depth i n c ds e (omega arith) in omega arith

-- the value with something behind a step that nests less deep
pub with_step_depth : (step : Step) (x d : Data) (n : ℕ) → depth x < n → depth d ≤ n → depth (with_step step x d) ≤ n
with_step_depth (Key name) x null n own p = p
with_step_depth (Key name) x (boolean b) n own p = p
with_step_depth (Key name) x (number y) n own p = p
with_step_depth (Key name) x (string s) n own p = p
with_step_depth (Key name) x (array ds) n own p = p
with_step_depth (Key name) x (object ms) zero own p = absurd (omega arith)
with_step_depth (Key name) x (object ms) (suc n) own p = let q = put_depth (string_bytes name) n x ms (omega arith) (omega arith) in omega arith
with_step_depth (Index i) x null n own p = p
with_step_depth (Index i) x (boolean b) n own p = p
with_step_depth (Index i) x (number y) n own p = p
with_step_depth (Index i) x (string s) n own p = p
with_step_depth (Index i) x (object ms) n own p = p
with_step_depth (Index i) x (array ds) zero own p = absurd (omega arith)
with_step_depth (Index i) x (array ds) (suc n) own p = let q = ending_depth i n x ds (omega arith) (omega arith) in omega arith

-- the value without what stands behind a step
pub without_depth : (step : Step) (d : Data) (n : ℕ) → depth d ≤ n → depth (without step d) ≤ n
without_depth (Key name) null n p = p
without_depth (Key name) (boolean b) n p = p
without_depth (Key name) (number y) n p = p
without_depth (Key name) (string s) n p = p
without_depth (Key name) (array ds) n p = p
without_depth (Key name) (object ms) zero p = absurd (omega arith)
without_depth (Key name) (object ms) (suc n) p = let q = without_member_depth (string_bytes name) n ms (omega arith) in omega arith
without_depth (Index i) null n p = p
without_depth (Index i) (boolean b) n p = p
without_depth (Index i) (number y) n p = p
without_depth (Index i) (string s) n p = p
without_depth (Index i) (object ms) n p = p
without_depth (Index i) (array ds) zero p = absurd (omega arith)
without_depth (Index i) (array ds) (suc n) p = let q = front_depth i n ds (omega arith) in omega arith

placed_depth : (step : Step) (path : List Step) (x d v : Data) (n : ℕ) (o : Option Data) → inside step d ≡ o → option_and_then (value_at path) o ≡ Some v → depth d ≤ n
    → ((c : Data) (m : ℕ) → value_at path c ≡ Some v → depth c ≤ m → depth (with_at path x c) ≤ m) → depth (placed step (with_at path x) d o) ≤ n
placed_depth step path x d v n None e there p within = p
placed_depth step path x d v n (Some c) e there p within =
    with_step_depth step (with_at path x c) d n (let less = inside_depth step d c n e p in let q = within c (depth c) there (omega arith) in omega arith) p

-- the value with something at the end of a path that nests no deeper than what stood there
pub with_at_depth : (path : List Step) (x d v : Data) (n : ℕ) → depth x ≤ depth v → value_at path d ≡ Some v → depth d ≤ n → depth (with_at path x d) ≤ n
with_at_depth [] x d v n own there p = let q = subst (λ y. depth y ≤ n) (some_same d v there) p in omega arith
  where
    some_same : (a b : Data) → Some a ≡ Some b → a ≡ b
    some_same a b e = cc
with_at_depth (step ∷ path) x d v n own there p =
    placed_depth step path x d v n (inside step d) refl there p (λ c m there p. with_at_depth path x c v m own there p)

value_at_last_of : (step last : Step) (path : List Step) (v c : Data) (o : Option Data) → option_and_then (value_at path) o ≡ Some v
    → ((d : Data) → value_at path d ≡ Some v → value_at (path ++ last ∷ []) d ≡ Some c) → option_and_then (value_at (path ++ last ∷ [])) o ≡ Some c
value_at_last_of step last path v c None there within = absurd cc
value_at_last_of step last path v c (Some d) there within = within d there

-- one step more leads to what stands behind it
pub value_at_last : (path : List Step) (last : Step) (d v c : Data) → value_at path d ≡ Some v → inside last v ≡ Some c → value_at (path ++ last ∷ []) d ≡ Some c
value_at_last [] last d v c there e = rw (some_same d v there, e)
  where
    some_same : (a b : Data) → Some a ≡ Some b → a ≡ b
    some_same a b e = cc
value_at_last (step ∷ path) last d v c there e = value_at_last_of step last path v c (inside step d) there (λ d there. value_at_last path last d v c there e)
