-- Documents stand for one schema at most.
use Rattle.std.proofs.Common.{◌≡◌, ℕ, zero, suc, ◌+◌, ◌<◌, List, [], ◌∷◌, refl, sym, ap, subst, arith, length, map, ◌∙◌, Some, Bool, true, false}
use Rattle.std.specs.Prelude.{filter, Contains, if◌then◌else◌}
use Rattle.std.specs.List.{AllZip}
use Rattle.std.proofs.Common.{inl, inr}
use Rattle.lists.proofs.Members.{in_rest, is_first, is_later, not_in_none}
use Rattle.schema_load.specs.declared.part.Part.{Part}
use Rattle.schema_load.specs.Parts.{IsAt, places_where, with_place}
use Rattle.schema_load.specs.Graph.{HasDepth}

-- one part stands at a place
pub one_at : (parts : List Part) (p : ℕ) (x y : Part) → IsAt parts p x → IsAt parts p y → x ≡ y
one_at parts p x y a b = let e : Some x ≡ Some y = sym a ∙ b in cc

pub one_depth : (parts : List Part) (p d e : ℕ) → HasDepth parts p d → HasDepth parts p e → d ≡ e
one_depth parts p d e a b = let x = a.no_deeper e b.so_deep in let y = b.no_deeper d a.so_deep in omega arith

-- ---- places

-- where a place is kept, it is one of the list
pub kept_place : (b : Bool) (p : ℕ) (ps : List ℕ) (q : ℕ) → Contains ps q → Contains (with_place b p ps) q
kept_place true p ps q c = is_later p ps q c
kept_place false p ps q c = c

first_place : (b : Bool) (p : ℕ) (ps : List ℕ) → b ≡ true → Contains (with_place b p ps) p
first_place true p ps e = is_first p ps
first_place false p ps e = absurd (let bad : ⊥ = cc in bad)

pub place_found : (test : Part → Bool) (k : ℕ) (parts : List Part) (i : ℕ) (x : Part) → IsAt parts i x → test x ≡ true → Contains (places_where test k parts) (k + i)
place_found test k [] i x at passed = absurd (let bad : ⊥ = cc in bad)
place_found test k (y ∷ ys) zero x at passed =
    let same : y ≡ x = cc in
    subst (λ n. Contains (with_place (test y) k (places_where test (k + 1) ys)) n) (let h : k ≡ k + 0 = omega arith in h)
    (first_place (test y) k (places_where test (k + 1) ys) (ap test same ∙ passed))
place_found test k (y ∷ ys) (suc i) x at passed =
    kept_place (test y) k (places_where test (k + 1) ys) (k + suc i)
    (subst (λ n. Contains (places_where test (k + 1) ys) n) (let h : (k + 1) + i ≡ k + suc i = omega arith in h) (place_found test (k + 1) ys i x at passed))

-- a place of the list is one of the parts
within_more : (b : Bool) (k n p : ℕ) (ps : List ℕ) → (Contains ps p → p < (k + 1) + n) → Contains (with_place b k ps) p → p < k + suc n
within_more true k n p ps deeper c = elim (in_rest k ps p c) [
  | inl same ↦ omega arith
  | inr rest ↦ (let h = deeper rest in omega arith)
]
within_more false k n p ps deeper c = let h = deeper c in omega arith

pub place_within : (test : Part → Bool) (k : ℕ) (parts : List Part) (p : ℕ) → Contains (places_where test k parts) p → p < k + length parts
place_within test k [] p c = absurd (not_in_none p c)
place_within test k (x ∷ xs) p c = within_more (test x) k (length xs) p (places_where test (k + 1) xs) (λ h. place_within test (k + 1) xs p h) c

-- ---- sifted lists

pub sift_alike : {X : Type 0} (p q : X → Bool) (xs : List X) → ((x : X) → Contains xs x → p x ≡ q x) → filter p xs ≡ filter q xs
sift_alike p q [] same = refl
sift_alike p q (x ∷ xs) same =
    ap (λ b. if b then x ∷ filter p xs else filter p xs) (same x (is_first x xs)) ∙ ap (λ us. if q x then x ∷ us else us) (sift_alike p q xs (λ y c. same y (is_later x xs y c)))

-- two lists that go with a third one are equal, where each item of the third determines its own
pub zip_one : {X Y : Type 0} (P Q : X → Y → Type 0) (xs : List X) (cs bs : List Y) → ((x : X) (a b : Y) → Contains xs x → P x a → Q x b → a ≡ b) → AllZip P xs cs → AllZip Q xs bs → cs ≡ bs
zip_one P Q [] [] [] same p q = refl
zip_one P Q [] [] (b ∷ bs) same p q = absurd q
zip_one P Q [] (a ∷ cs) bs same p q = absurd p
zip_one P Q (x ∷ xs) [] bs same p q = absurd p
zip_one P Q (x ∷ xs) (a ∷ cs) [] same p q = absurd q
zip_one P Q (x ∷ xs) (a ∷ cs) (b ∷ bs) same (p, ps) (q, qs) =
    ap (λ z. z ∷ cs) (same x a b (is_first x xs) p q) ∙ ap (λ zs. b ∷ zs) (zip_one P Q xs cs bs (λ y c d h. same y c d (is_later x xs y h)) ps qs)

pub map_alike : {X Y : Type 0} (f g : X → Y) (xs : List X) → ((x : X) → Contains xs x → f x ≡ g x) → map f xs ≡ map g xs
map_alike f g [] same = refl
map_alike f g (x ∷ xs) same = ap (λ z. z ∷ map f xs) (same x (is_first x xs)) ∙ ap (λ zs. g x ∷ zs) (map_alike f g xs (λ y h. same y (is_later x xs y h)))
