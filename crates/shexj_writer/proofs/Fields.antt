-- What an object has under its keys, and that its keys are listed.
use Rattle.std.proofs.Common.{◌≡◌, ◌∙◌, refl, sym, subst, ℕ, Bool, true, false, true≢false, List, [], ◌∷◌, Ordering, Less, Equal, Greater}
use Rattle.std.proofs.lemmas.Slice.Eq.{bytes_eq-Decides}
use Rattle.std.specs.Cmp.Lexicographic.{slice_cmp}
use Rattle.std.specs.List.{list_any}
use Rattle.std.specs.Ordering.{match_ordering, nat_cmp}
use Rattle.std.specs.Prelude.{◌&&◌, ◌||◌, not, Option, Some, None, if◌then◌else◌, is_none, ⊤}
use Rattle.std.specs.Str.{bytes_eq}
use Rattle.serde_json.specs.Data.{Data, Members, no_members, member, put}
use Rattle.serde_json.specs.Find.{get_member}
use Rattle.serde_json.specs.Written.{has_float, members_have_float}
use Rattle.serde_json.proofs.Views.{get_member-put, get_member-put_other}
use Rattle.shexj_reader.specs.Keys.{has_only, members_within}
use Rattle.shexj_writer.specs.Objects.{Field, members, object_of, put_if}

-- what both tests pass
pub both : (a b : Bool) → (a && b) ≡ true → (a ≡ true) × (b ≡ true)
both true true e = (refl, refl)
both true false e = absurd (true≢false (sym e))
both false b e = absurd (true≢false (sym e))

pub other_bytes : (k l : List ℕ) → bytes_eq k l ≡ false → k ≡ l → ⊥
other_bytes k l apart same = true≢false (sym ((bytes_eq-Decides k l).1 same) ∙ apart)

-- ---- what stands at a key

-- the value of the first field with the key
abbrev pub field : List ℕ → List Field → Option Data
field k [] = None
field k (f ∷ fs) = if bytes_eq k f.0 then f.1 else field k fs

-- no field has the key
abbrev pub is_fresh : List ℕ → List Field → Bool
is_fresh k [] = true
is_fresh k (f ∷ fs) = not (bytes_eq k f.0) && is_fresh k fs

-- no two fields have one key
abbrev pub are_distinct : List Field → Bool
are_distinct [] = true
are_distinct (f ∷ fs) = is_fresh f.0 fs && are_distinct fs

past : (k l : List ℕ) (o : Option Data) (ms : Members) → (k ≡ l → ⊥) → get_member k (put_if l o ms) ≡ get_member k ms
past k l None ms other = refl
past k l (Some d) ms other = get_member-put_other k l d ms other

not_both : (b : Bool) → not b ≡ true → b ≡ false
not_both true e = absurd (true≢false (sym e))
not_both false e = refl

none_there : (k : List ℕ) (fs : List Field) → is_fresh k fs ≡ true → get_member k (members fs) ≡ None
none_there k [] fresh = refl
none_there k (f ∷ fs) fresh =
    let parts = both (not (bytes_eq k f.0)) (is_fresh k fs) fresh in
    past k f.0 f.1 (members fs) (other_bytes k f.0 (not_both (bytes_eq k f.0) parts.0)) ∙ none_there k fs parts.1

here : (k : List ℕ) (o : Option Data) (ms : Members) → get_member k ms ≡ None → get_member k (put_if k o ms) ≡ o
here k None ms none = none
here k (Some d) ms none = get_member-put k d ms

choose : (b : Bool) (k l : List ℕ) (o : Option Data) (fs : List Field) → bytes_eq k l ≡ b → is_fresh l fs ≡ true → get_member k (members fs) ≡ field k fs
    → get_member k (put_if l o (members fs)) ≡ (if b then o else field k fs)
choose true k l o fs e fresh rest =
    let same : k ≡ l = (bytes_eq-Decides k l).0 e in
    subst (λ (x : List ℕ). get_member x (put_if l o (members fs)) ≡ o) (sym same) (here l o (members fs) (none_there l fs fresh))
choose false k l o fs e fresh rest = past k l o (members fs) (other_bytes k l e) ∙ rest

-- the value at a key is that of its field
pub field_is : (k : List ℕ) (fs : List Field) → are_distinct fs ≡ true → get_member k (members fs) ≡ field k fs
field_is k [] distinct = refl
field_is k (f ∷ fs) distinct =
    let parts = both (is_fresh f.0 fs) (are_distinct fs) distinct in
    choose (bytes_eq k f.0) k f.0 f.1 fs refl parts.0 (field_is k fs parts.1)

-- ---- which keys there are

both_are : (a b : Bool) → a ≡ true → b ≡ true → (a && b) ≡ true
both_are true b p q = q
both_are false b p q = p

within_at : (o : Ordering) (keys : List (List ℕ)) (k l : List ℕ) (d e : Data) (ms : Members) → list_any (bytes_eq k) keys ≡ true →
    list_any (bytes_eq l) keys ≡ true → members_within keys ms ≡ true → members_within keys (put k d ms) ≡ true
    → members_within keys (match_ordering o (member k d (member l e ms)) (member l d ms) (member l e (put k d ms))) ≡ true
within_at Less keys k l d e ms known own rest more = both_are _ _ known (both_are _ _ own rest)
within_at Equal keys k l d e ms known own rest more = both_are _ _ own rest
within_at Greater keys k l d e ms known own rest more = both_are _ _ own more

within_put : (keys : List (List ℕ)) (k : List ℕ) (d : Data) (ms : Members) → list_any (bytes_eq k) keys ≡ true → members_within keys ms ≡ true → members_within keys (put k d ms) ≡ true
within_put keys k d no_members known rest = both_are (list_any (bytes_eq k) keys) true known refl
within_put keys k d (member l e ms) known rest =
    let parts = both (list_any (bytes_eq l) keys) (members_within keys ms) rest in
    within_at (slice_cmp nat_cmp k l) keys k l d e ms known parts.0 parts.1 (within_put keys k d ms known parts.1)

-- a field has one of the keys, or no value
abbrev pub is_listed : List (List ℕ) → Field → Bool
is_listed keys f = list_any (bytes_eq f.0) keys || is_none f.1

abbrev pub are_listed : List (List ℕ) → List Field → Bool
are_listed keys [] = true
are_listed keys (f ∷ fs) = is_listed keys f && are_listed keys fs

either_known : (a b : Bool) → b ≡ false → (a || b) ≡ true → a ≡ true
either_known true b none e = refl
either_known false b none e = sym none ∙ e

within_if : (keys : List (List ℕ)) (k : List ℕ) (o : Option Data) (ms : Members) → (list_any (bytes_eq k) keys || is_none o) ≡ true →
    members_within keys ms ≡ true → members_within keys (put_if k o ms) ≡ true
within_if keys k None ms listed rest = rest
within_if keys k (Some d) ms listed rest = within_put keys k d ms (either_known (list_any (bytes_eq k) keys) false refl listed) rest

fields_within : (keys : List (List ℕ)) (fs : List Field) → are_listed keys fs ≡ true → members_within keys (members fs) ≡ true
fields_within keys [] listed = refl
fields_within keys (f ∷ fs) listed =
    let parts = both (is_listed keys f) (are_listed keys fs) listed in
    within_if keys f.0 f.1 (members fs) parts.0 (fields_within keys fs parts.1)

-- the object has no other keys
pub only_listed : (keys : List (List ℕ)) (fs : List Field) → are_listed keys fs ≡ true → has_only keys (object_of fs) ≡ true
only_listed keys fs listed = fields_within keys fs listed

-- ---- no floating-point numbers

neither_is : (a b : Bool) → a ≡ false → b ≡ false → (a || b) ≡ false
neither_is true b p q = p
neither_is false b p q = q

neither_of : (a b : Bool) → (a || b) ≡ false → (a ≡ false) × (b ≡ false)
neither_of true b e = absurd (true≢false e)
neither_of false b e = (refl, e)

float_at : (o : Ordering) (k l : List ℕ) (d e : Data) (ms : Members) → has_float d ≡ false → has_float e ≡ false → members_have_float ms ≡ false → members_have_float (put k d ms) ≡ false
    → members_have_float (match_ordering o (member k d (member l e ms)) (member l d ms) (member l e (put k d ms))) ≡ false
float_at Less k l d e ms p q r more = neither_is _ _ p (neither_is _ _ q r)
float_at Equal k l d e ms p q r more = neither_is _ _ p r
float_at Greater k l d e ms p q r more = neither_is _ _ q more

float_put : (k : List ℕ) (d : Data) (ms : Members) → has_float d ≡ false → members_have_float ms ≡ false → members_have_float (put k d ms) ≡ false
float_put k d no_members p r = neither_is (has_float d) false p refl
float_put k d (member l e ms) p r =
    let parts = neither_of (has_float e) (members_have_float ms) r in
    float_at (slice_cmp nat_cmp k l) k l d e ms p parts.0 parts.1 (float_put k d ms p parts.1)

-- the value, if there is one, has none
abbrev pub IsExact : Option Data → Type 0
IsExact None = ⊤
IsExact (Some d) = has_float d ≡ false

abbrev pub AreExact : List Field → Type 0
AreExact [] = ⊤
AreExact (f ∷ fs) = IsExact f.1 × AreExact fs

exact_if : (k : List ℕ) (o : Option Data) (ms : Members) → IsExact o → members_have_float ms ≡ false → members_have_float (put_if k o ms) ≡ false
exact_if k None ms p r = r
exact_if k (Some d) ms p r = float_put k d ms p r

pub object_exact : (fs : List Field) → AreExact fs → has_float (object_of fs) ≡ false
object_exact [] p = refl
object_exact (f ∷ fs) p = exact_if f.0 f.1 (members fs) p.0 (object_exact fs p.1)
