-- Digests in hexadecimal digits.
use Rattle.std.proofs.Common.{◌≡◌, ℕ, zero, suc, ◌+◌, ◌*◌, ◌-◌, ◌/◌, ◌%◌, ◌<◌, ◌≤◌, ◌≢◌, ◌==◌, if◌then◌else◌, false, inl, inr, List, [], ◌∷◌, refl, ap, sym, ◌∙◌, length, get_or, arith}
use Rattle.std.proofs.lemmas.Bool.{cases_lt, le-ltb, lt-ltb, ne_eqb}
use Rattle.std.proofs.Math.Nat.{div-add-mod, div-lt_iff_lt-mul, mod-lt}
use Rattle.std.specs.List.{AllByRecursion, flat_map}
use Rattle.proof_file.specs.declared.head.Digest256.{Digest256}
use Rattle.proof_file.specs.Text.{hex_digit, hex_text, digest_text, IsDigest}
use Rattle.proof_file.proofs.Gathered.{cons_head, cons_tail}

-- ---- digits

pub low_digit : (n : ℕ) → n < 10 → hex_digit n ≡ n + 48
low_digit n h = ap (λ b. if b then n + 48 else n + 87) (lt-ltb n 10 h)

pub high_digit : (n : ℕ) → 10 ≤ n → hex_digit n ≡ n + 87
high_digit n h = ap (λ b. if b then n + 48 else n + 87) (le-ltb n 10 h)

-- a digit is 48 to 57 or 97 to 102
pub is_digit : (d n : ℕ) → n < 16 → d ≡ hex_digit n → (d < 48 → ⊥) × ((57 < d → d < 97 → ⊥) × (102 < d → ⊥))
is_digit d n h e = elim (cases_lt n 10) [
  | inl lt ↦ (let is : d ≡ n + 48 = e ∙ low_digit n lt in (λ k. omega arith, (λ k j. omega arith, λ k. omega arith)))
  | inr ge ↦ (let is : d ≡ n + 87 = e ∙ high_digit n ge in (λ k. omega arith, (λ k j. omega arith, λ k. omega arith)))
]

same_digit : (m n : ℕ) → m < 16 → n < 16 → hex_digit m ≡ hex_digit n → m ≡ n
same_digit m n h k e = elim (cases_lt m 10) [
  | inl lt ↦ elim (cases_lt n 10) [
    | inl less ↦ (let is : m + 48 ≡ n + 48 = sym (low_digit m lt) ∙ e ∙ low_digit n less in omega arith)
    | inr ge ↦ (let is : m + 48 ≡ n + 87 = sym (low_digit m lt) ∙ e ∙ high_digit n ge in absurd (omega arith))
  ]
  | inr ge ↦ elim (cases_lt n 10) [
    | inl less ↦ (let is : m + 87 ≡ n + 48 = sym (high_digit m ge) ∙ e ∙ low_digit n less in absurd (omega arith))
    | inr more ↦ (let is : m + 87 ≡ n + 87 = sym (high_digit m ge) ∙ e ∙ high_digit n more in omega arith)
  ]
]

-- a digit is no byte below 48
pub clean_digit : (c n : ℕ) → c < 48 → (hex_digit n == c) ≡ false
clean_digit c n low = ne_eqb (hex_digit n) c (λ e. elim (cases_lt n 10) [
  | inl lt ↦ (let is = low_digit n lt in omega (arith, e, is))
  | inr ge ↦ (let is = high_digit n ge in omega (arith, e, is))
])

-- a digit is a character of ASCII
pub low_byte : (n : ℕ) → n < 16 → hex_digit n < 128
low_byte n h = elim (cases_lt n 10) [
  | inl lt ↦ (let is = low_digit n lt in omega (arith, is))
  | inr ge ↦ (let is = high_digit n ge in omega (arith, is))
]

-- ---- bytes

pub high_part : (n : ℕ) → n < 256 → n / 16 < 16
high_part n h = (div-lt_iff_lt-mul {k = 16} {x = n} {y = 16} (omega arith)).1 h

pub low_part : (n : ℕ) → n % 16 < 16
low_part n = mod-lt n {m = 16} (omega arith)

same_byte : (m n : ℕ) → m < 256 → n < 256 → hex_text m ≡ hex_text n → m ≡ n
same_byte m n h k e =
    let high : m / 16 ≡ n / 16 = same_digit (m / 16) (n / 16) (high_part m h) (high_part n k) (cons_head _ _ _ _ e) in
    let low : m % 16 ≡ n % 16 = same_digit (m % 16) (n % 16) (low_part m) (low_part n) (cons_head _ _ _ _ (cons_tail _ _ _ _ e)) in
    sym (div-add-mod m 16) ∙ (λ i. 16 * high i + low i) ∙ div-add-mod n 16

-- ---- digests

abbrev AreBytes : List ℕ → Type 0
AreBytes bytes = AllByRecursion (λ byte. byte < 256) bytes

same_bytes : (xs ys : List ℕ) → AreBytes xs → AreBytes ys → flat_map hex_text xs ≡ flat_map hex_text ys → xs ≡ ys
same_bytes [] [] h k e = refl
same_bytes [] (y ∷ ys) h k e = absurd (omega (arith, ap length e))
same_bytes (x ∷ xs) [] h k e = absurd (omega (arith, ap length e))
same_bytes (x ∷ xs) (y ∷ ys) (h, hs) (k, ks) e =
    let first : hex_digit (x / 16) ≡ hex_digit (y / 16) = cons_head _ _ _ _ e in
    let second : hex_digit (x % 16) ≡ hex_digit (y % 16) = cons_head _ _ _ _ (cons_tail _ _ _ _ e) in
    let a = same_byte x y h k (λ i. first i ∷ second i ∷ []) in
    let b = same_bytes xs ys hs ks (cons_tail _ _ _ _ (cons_tail _ _ _ _ e)) in
    λ i. a i ∷ b i

pub digest_same : (a b : Digest256) → IsDigest a → IsDigest b → digest_text a ≡ digest_text b → a ≡ b
digest_same a b h k e = let same = same_bytes a.0 b.0 h.1 k.1 e in λ i. record { 0 = same i }

pub digits_count : (bytes : List ℕ) → length (flat_map hex_text bytes) ≡ 2 * length bytes
digits_count [] = refl
digits_count (b ∷ bytes) = let e = digits_count bytes in omega (arith, e)

pub clean_digits : (c : ℕ) → c < 48 → (bytes : List ℕ) → AllByRecursion (λ b. (b == c) ≡ false) (flat_map hex_text bytes)
clean_digits c low [] = tt
clean_digits c low (b ∷ bytes) = (clean_digit c (b / 16) low, (clean_digit c (b % 16) low, clean_digits c low bytes))

pub low_digits : (bytes : List ℕ) → AreBytes bytes → AllByRecursion (λ b. b < 128) (flat_map hex_text bytes)
low_digits [] h = tt
low_digits (b ∷ bytes) (h, hs) = (low_byte (b / 16) (high_part b h), (low_byte (b % 16) (low_part b), low_digits bytes hs))

-- the digits of the byte at a place
digits_at : (bytes : List ℕ) (i : ℕ) → i < length bytes → get_or (flat_map hex_text bytes) (2 * i) 0 ∷ get_or (flat_map hex_text bytes) (2 * i + 1) 0 ∷ [] ≡ hex_text (get_or bytes i 0)
digits_at [] i lt = absurd (omega arith)
digits_at (b ∷ bytes) zero lt = refl
digits_at (b ∷ bytes) (suc i) lt =
    let first : 2 * suc i ≡ suc (suc (2 * i)) = omega arith in
    let second : 2 * suc i + 1 ≡ suc (suc (2 * i + 1)) = omega arith in
    (λ j. get_or (flat_map hex_text (b ∷ bytes)) (first j) 0 ∷ get_or (flat_map hex_text (b ∷ bytes)) (second j) 0 ∷ []) ∙ digits_at bytes i (omega arith)

byte_at : (bytes : List ℕ) (i : ℕ) → AreBytes bytes → i < length bytes → get_or bytes i 0 < 256
byte_at [] i h lt = absurd (omega arith)
byte_at (b ∷ bytes) zero (h, hs) lt = h
byte_at (b ∷ bytes) (suc i) (h, hs) lt = byte_at bytes i hs (omega arith)

-- two digits that are those of no byte stand in no digest
pub no_digest : (text : List ℕ) (i : ℕ) → i < 32 → ((n : ℕ) → n < 256 → ¬ (get_or text (2 * i) 0 ∷ get_or text (2 * i + 1) 0 ∷ [] ≡ hex_text n)) →
    (d : Digest256) → IsDigest d → text ≡ digest_text d → ⊥
no_digest text i lt none d good e =
    let within : i < length d.0 = omega (arith, good.0) in
    none (get_or d.0 i 0) (byte_at d.0 i good.1 within) (ap (λ z. get_or z (2 * i) 0 ∷ get_or z (2 * i + 1) 0 ∷ []) e ∙ digits_at d.0 i within)

pub not_sized : (text : List ℕ) → length text ≢ 64 → (d : Digest256) → IsDigest d → text ≡ digest_text d → ⊥
not_sized text other d good e = other (omega (arith, ap length e, digits_count d.0, good.0))
