-- A text is cut behind its first characters.
use Rattle.std.proofs.Common.{◌≡◌, ℕ, ◌+◌, ◌≤◌, true, List, [], ◌∷◌, ◌++◌, length, take, drop, encode_utf8_all, refl, sym, ap, ◌∙◌, arith, length-append}
use Rattle.std.specs.Char.{len_utf8}
use Rattle.std.specs.Str.{chars, IsUtf8, all_scalars}
use Rattle.std.proofs.lemmas.Str.{chars-encodes, encodes-chars, scalars-chars, encodes-append, length-encode}
use Rattle.rdf_lex.proofs.Languages.{and_true}
use Rattle.rdf_lex.proofs.Theorem.{size}

pub size-length : (cs : List ℕ) → length (encode_utf8_all cs) ≡ size cs
size-length [] = refl
size-length (c ∷ cs) = length-append _ (encode_utf8_all cs) ∙ ap (λ (n : ℕ). n + length (encode_utf8_all cs)) (length-encode c) ∙ ap (λ (n : ℕ). len_utf8 c + n) (size-length cs)

pub first_scalars : (xs ys : List ℕ) → all_scalars (xs ++ ys) ≡ true → all_scalars xs ≡ true
first_scalars [] ys e = refl
first_scalars (x ∷ xs) ys e = let p = and_true _ (all_scalars (xs ++ ys)) e in rw (p.0, first_scalars xs ys p.1) refl

pub last_scalars : (xs ys : List ℕ) → all_scalars (xs ++ ys) ≡ true → all_scalars ys ≡ true
last_scalars [] ys e = e
last_scalars (x ∷ xs) ys e = last_scalars xs ys (and_true _ (all_scalars (xs ++ ys)) e).1

take_front : (xs ys : List ℕ) → take (length xs) (xs ++ ys) ≡ xs
take_front [] ys = refl
take_front (x ∷ xs) ys = ap (λ (v : List ℕ). x ∷ v) (take_front xs ys)

drop_front : (xs ys : List ℕ) → drop (length xs) (xs ++ ys) ≡ ys
drop_front [] ys = refl
drop_front (x ∷ xs) ys = drop_front xs ys

-- the bytes of the first characters, and what comes behind them
pub record IsCut (bs front rest : List ℕ) : Type 0 where
  pub taken : take (size front) bs ≡ encode_utf8_all front
  pub dropped : drop (size front) bs ≡ encode_utf8_all rest
  pub front_is : chars (take (size front) bs) ≡ front
  pub rest_is : chars (drop (size front) bs) ≡ rest
  pub first_utf8 : IsUtf8 (take (size front) bs)
  pub last_utf8 : IsUtf8 (drop (size front) bs)
  pub room : size front ≤ length bs

pub cut_at : (bs front rest : List ℕ) → IsUtf8 bs → chars bs ≡ front ++ rest → IsCut bs front rest
cut_at bs front rest u e =
    let parts : bs ≡ encode_utf8_all front ++ encode_utf8_all rest = sym (encodes-chars bs u) ∙ ap encode_utf8_all e ∙ encodes-append front rest in
    let all : all_scalars (front ++ rest) ≡ true = ap all_scalars (sym e) ∙ scalars-chars bs u in
    let fs = first_scalars front rest all in
    let ls = last_scalars front rest all in
    let n = size-length front in
    let t : take (size front) bs ≡ encode_utf8_all front = ap (λ (i : ℕ). take i bs) (sym n) ∙ ap (take (length (encode_utf8_all front))) parts
    ∙ take_front (encode_utf8_all front) (encode_utf8_all rest) in
    let d : drop (size front) bs ≡ encode_utf8_all rest = ap (λ (i : ℕ). drop i bs) (sym n) ∙ ap (drop (length (encode_utf8_all front))) parts
    ∙ drop_front (encode_utf8_all front) (encode_utf8_all rest) in
    let len : length bs ≡ length (encode_utf8_all front) + length (encode_utf8_all rest) = ap length parts ∙ length-append (encode_utf8_all front) (encode_utf8_all rest) in
    record {
      taken = t;
      dropped = d;
      front_is = ap chars t ∙ chars-encodes front fs;
      rest_is = ap chars d ∙ chars-encodes rest ls;
      first_utf8 = (front, (fs, sym t));
      last_utf8 = (rest, (ls, sym d));
      room = omega arith;
    }
