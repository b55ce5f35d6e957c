-- Lists of values and entries of maps beside the items and members that they stand for.
use Rattle.std.proofs.Common.{◌≡◌, ℕ, zero, suc, List, [], ◌∷◌, ◌++◌, map, take, Bool, true, false, cond, Global, String, string_bytes, nat_cmp, is_eq, bytes_eq, refl, sym, ap, ◌∙◌, if◌then◌else◌, Vec, BTreeMap, rules}
use Rattle.std.proofs.lemmas.Map.Text.{is_eq-slice_cmp}
use Rattle.std.specs.BTreeMap.{is_at}
use Rattle.std.specs.Cmp.Lexicographic.{slice_cmp}
use Rattle.std.specs.Map.{remove_entry}
use Rattle.serde_json.specs.Data.{Data, item, member}
use Rattle.serde_json.specs.View.{items_of, items_view, members_view, view}
use Rattle.serde_json.specs.declared.value.Value.{Value}
use Rattle.serde_json.proofs.Views.{Entry}
use Rattle.json_paths.specs.Items.{ending, front}
use Rattle.json_paths.specs.Members.{without_member}

-- the first values stand for the first items
pub front_of : (n : ℕ) (vs : List Value) → items_of (map view (take n vs)) ≡ front n (items_view vs)
front_of zero [] = refl
front_of zero (v ∷ vs) = refl
front_of (suc n) [] = refl
front_of (suc n) (v ∷ vs) = ap (item (view v)) (front_of n vs)

-- with one more they stand for those and then this one
ending_of : (n : ℕ) (vs : List Value) (x : Data) → items_of (map view (take n vs) ++ x ∷ []) ≡ ending n x (items_view vs)
ending_of zero [] x = refl
ending_of zero (v ∷ vs) x = refl
ending_of (suc n) [] x = refl
ending_of (suc n) (v ∷ vs) x = ap (item (view v)) (ending_of n vs x)

one_more : (ws : List Value) (x : Value) → items_view (ws ++ x ∷ []) ≡ items_of (map view ws ++ view x ∷ [])
one_more [] x = refl
one_more (w ∷ ws) x = ap (item (view w)) (one_more ws x)

pub ending_with : (n : ℕ) (vs ws : List Value) (x : Value) → map view ws ≡ map view (take n vs) → items_view (ws ++ x ∷ []) ≡ ending n (view x) (items_view vs)
ending_with n vs ws x e = one_more ws x ∙ (ap (λ ds. items_of (ds ++ view x ∷ [])) e ∙ ending_of n vs (view x))

removed_at : (b : Bool) (e : Entry) (rest gone : List Entry) → members_view (cond b rest (e ∷ gone)) ≡ (if b then members_view rest else member (string_bytes e.0) (view e.1) (members_view gone))
removed_at true e rest gone = refl
removed_at false e rest gone = refl

-- the entries without that of a name stand for the members without it
pub without_entry : (name : List ℕ) (es : List Entry) → members_view (remove_entry (is_at (λ k. slice_cmp nat_cmp name (string_bytes k))) es) ≡ without_member name (members_view es)
without_entry name [] = refl
without_entry name (e ∷ es) = removed_at _ e es _ ∙ rw (is_eq-slice_cmp name (string_bytes e.0), without_entry name es)
