-- How many bytes the first characters have, byte by byte.
use Rattle.std.proofs.Common.{◌≡◌, ◌<◌, ◌≤◌, ◌+◌, ◌-◌, ◌∙◌, ap, subst, ℕ, suc, Bool, true, false, List, ◌∷◌, drop, length, get_or, arith}
use Rattle.std.specs.Prelude.{◌==◌, if◌then◌else◌}
use Rattle.std.proofs.lemmas.Bool.{ne_eqb}
use Rattle.std.proofs.Math.Seq.{drop-cons}
use Rattle.std.proofs.lemmas.List.{drop_all}
use Rattle.refusal_places.specs.Places.{begins_character}
use Rattle.refusal_places.specs.Texts.{extent}

by_begins : (begins : Bool) (byte n : ℕ) (bytes : List ℕ) → begins_character byte ≡ begins →
    extent n (byte ∷ bytes) ≡ (if begins then (if n == 0 then 0 else suc (extent (n - 1) bytes)) else suc (extent n bytes))
unfolding extent
by_begins begins byte n bytes is = ap (λ b. if b then (if n == 0 then 0 else suc (extent (n - 1) bytes)) else suc (extent n bytes)) is

nat_eq_no : (n : ℕ) → (n ≡ 0 → ⊥) → (n == 0) ≡ false
nat_eq_no n some = ne_eqb n 0 some

by_none : (none : Bool) (n : ℕ) (bytes : List ℕ) → (n == 0) ≡ none →
    (if n == 0 then 0 else suc (extent (n - 1) bytes)) ≡ (if none then 0 else suc (extent (n - 1) bytes))
by_none none n bytes is = ap (λ b. if b then 0 else suc (extent (n - 1) bytes)) is

next : (text : List ℕ) (i d : ℕ) → i < length text → drop i text ≡ get_or text i d ∷ drop (i + 1) text
next text i d inside = let one : suc i ≡ i + 1 = omega (arith) in subst (λ n. drop i text ≡ get_or text i d ∷ drop n text) one (drop-cons text i d inside)

module _ (text : List ℕ) (left i total d : ℕ) (so_far : i + extent left (drop i text) ≡ total) where
  -- behind a byte that begins no character
  pub goes_on : i < length text → begins_character (get_or text i d) ≡ false → (i + 1) + extent left (drop (i + 1) text) ≡ total
  goes_on inside is =
      let e : extent left (drop i text) ≡ suc (extent left (drop (i + 1) text)) =
      ap (extent left) (next text i d inside) ∙ by_begins false (get_or text i d) left (drop (i + 1) text) is in
      omega (arith, so_far, e)

  -- behind one that begins the next
  pub takes_one : i < length text → begins_character (get_or text i d) ≡ true → (left ≡ 0 → ⊥) → (i + 1) + extent (left - 1) (drop (i + 1) text) ≡ total
  takes_one inside is some =
      let e : extent left (drop i text) ≡ suc (extent (left - 1) (drop (i + 1) text)) =
      ap (extent left) (next text i d inside)
      ∙ by_begins true (get_or text i d) left (drop (i + 1) text) is ∙ by_none false left (drop (i + 1) text) (nat_eq_no left some) in
      omega (arith, so_far, e)

  -- at one that begins a character too many
  pub stops : i < length text → begins_character (get_or text i d) ≡ true → left ≡ 0 → i ≡ total
  stops inside is none =
      let e : extent left (drop i text) ≡ 0 =
      ap (extent left) (next text i d inside)
      ∙ by_begins true (get_or text i d) left (drop (i + 1) text) is ∙ by_none true left (drop (i + 1) text) (ap (λ n. n == 0) none) in
      omega (arith, so_far, e)

  -- at the end
  pub ends : length text ≤ i → i ≡ total
  unfolding extent
  ends behind =
      let e : extent left (drop i text) ≡ 0 = ap (extent left) (drop_all i text behind) in
      omega (arith, so_far, e)
