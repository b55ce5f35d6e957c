-- Tokens nest as deep as the pattern that they spell.
use Rattle.std.proofs.Common.{◌≡◌, ℕ, suc, ◌+◌, ◌-◌, ◌<◌, ◌≤◌, List, [], ◌∷◌, ◌++◌, length, drop, get_or, refl, arith, sym, ap, ◌∙◌, max, append_assoc, add-one}
use Rattle.std.proofs.Math.Seq.{drop-cons}
use Rattle.std.proofs.lemmas.List.{append-nil}
use Rattle.xs_pattern.specs.Limits.{nesting, deepest_nesting, depth}
use Rattle.xs_pattern.specs.declared.parser.Token.{Token as TokenInCode}
use Rattle.xs_pattern.specs.Parsing.{open_behind, layers_of, token_of, tokens_of}
use Rattle.xs_pattern.specs.Regex.{Regex, start, finish, one, group, branch, choice, repeat, Regexes, none, more}
use Rattle.xs_pattern.specs.Tokens.{Token, open_bracket, close_bracket, bar, start_anchor, end_anchor, one_of, times, tokens, tokens_of_pieces, tokens_of_branches, tokens_behind_bars}

at_least : (n : ℕ) (ts : List Token) → n ≤ depth n ts
at_least n [] = omega arith
at_least n (open_bracket ∷ ts) = omega arith
at_least n (close_bracket ∷ ts) = omega arith
at_least n (one_of s ∷ ts) = omega arith
at_least n (bar ∷ ts) = at_least n ts
at_least n (start_anchor ∷ ts) = at_least n ts
at_least n (end_anchor ∷ ts) = at_least n ts
at_least n (times least most ∷ ts) = at_least n ts

-- nothing nests no deeper than what is behind it
flat : (n : ℕ) (ts : List Token) → depth n ts ≡ max (n + 0) (depth n ts)
flat n ts = let le = at_least n ts in omega arith

closed : (n : ℕ) (ts : List Token) → depth (n + 1) (close_bracket ∷ ts) ≡ max (n + 1) (depth n ts)
closed n ts = ap (λ m. max (n + 1) (depth m ts)) (let e : n + 1 - 1 ≡ n = omega arith in e)

grouped : (n d e f all : ℕ) → d ≡ max (n + 1 + e) f → f ≡ max (n + 1) all → n ≤ all → max n d ≡ max (n + (e + 1)) all
grouped n d e f all a b le = omega arith

joined : (n a b d e all : ℕ) → d ≡ max (n + a) e → e ≡ max (n + b) all → d ≡ max (n + max a b) all
joined n a b d e all p q = omega arith

mutual
  pub depth_of : (e : Regex) (n : ℕ) (ts : List Token) → depth n (tokens e ++ ts) ≡ max (n + nesting e) (depth n ts)
  depth_of start n ts = flat n ts
  depth_of finish n ts = flat n ts
  depth_of (one s) n ts = refl
  depth_of (group e) n ts =
      grouped n (depth (n + 1) ((tokens e ++ close_bracket ∷ []) ++ ts)) (nesting e) (depth (n + 1) (close_bracket ∷ ts)) (depth n ts)
      (ap (depth (n + 1)) (append_assoc (tokens e) (close_bracket ∷ []) ts) ∙ depth_of e (n + 1) (close_bracket ∷ ts))
      (closed n ts) (at_least n ts)
  depth_of (branch es) n ts = depth_of_pieces es n ts
  depth_of (choice es) n ts = depth_of_branches es n ts
  depth_of (repeat least most e) n ts =
      ap (depth n) (append_assoc (tokens e) (times least most ∷ []) ts) ∙ depth_of e n (times least most ∷ ts)

  depth_of_pieces : (es : Regexes) (n : ℕ) (ts : List Token) → depth n (tokens_of_pieces es ++ ts) ≡ max (n + deepest_nesting es) (depth n ts)
  depth_of_pieces none n ts = flat n ts
  depth_of_pieces (more e es) n ts =
      joined n (nesting e) (deepest_nesting es) (depth n ((tokens e ++ tokens_of_pieces es) ++ ts)) (depth n (tokens_of_pieces es ++ ts)) (depth n ts)
      (ap (depth n) (append_assoc (tokens e) (tokens_of_pieces es) ts) ∙ depth_of e n (tokens_of_pieces es ++ ts))
      (depth_of_pieces es n ts)

  depth_of_branches : (es : Regexes) (n : ℕ) (ts : List Token) → depth n (tokens_of_branches es ++ ts) ≡ max (n + deepest_nesting es) (depth n ts)
  depth_of_branches none n ts = flat n ts
  depth_of_branches (more e es) n ts =
      joined n (nesting e) (deepest_nesting es) (depth n ((tokens e ++ tokens_behind_bars es) ++ ts)) (depth n (tokens_behind_bars es ++ ts)) (depth n ts)
      (ap (depth n) (append_assoc (tokens e) (tokens_behind_bars es) ts) ∙ depth_of e n (tokens_behind_bars es ++ ts))
      (depth_behind_bars es n ts)

  depth_behind_bars : (es : Regexes) (n : ℕ) (ts : List Token) → depth n (tokens_behind_bars es ++ ts) ≡ max (n + deepest_nesting es) (depth n ts)
  depth_behind_bars none n ts = flat n ts
  depth_behind_bars (more e es) n ts =
      joined n (nesting e) (deepest_nesting es) (depth n ((tokens e ++ tokens_behind_bars es) ++ ts)) (depth n (tokens_behind_bars es ++ ts)) (depth n ts)
      (ap (depth n) (append_assoc (tokens e) (tokens_behind_bars es) ts) ∙ depth_of e n (tokens_behind_bars es ++ ts))
      (depth_behind_bars es n ts)

pub depth_exact : (e : Regex) → depth 0 (tokens e) ≡ nesting e
depth_exact e = ap (depth 0) (sym (append-nil (tokens e))) ∙ (depth_of e 0 [] ∙ (let z : max (0 + nesting e) 0 ≡ nesting e = omega arith in z))

-- one token further
depth_step : (t : Token) (ts : List Token) (n d : ℕ) → n ≤ d → max d (depth n (t ∷ ts)) ≡ max (max d (open_behind t n + layers_of t)) (depth (open_behind t n) ts)
depth_step open_bracket ts n d le = let up = at_least (n + 1) ts in omega arith
depth_step close_bracket ts n d le = let up = at_least (n - 1) ts in omega arith
depth_step (one_of s) ts n d le = omega arith
depth_step bar ts n d le = omega arith
depth_step start_anchor ts n d le = omega arith
depth_step end_anchor ts n d le = omega arith
depth_step (times least most) ts n d le = omega arith

tokens_next : (ts : List TokenInCode) (i : ℕ) (t : TokenInCode) → i < length ts → t ≡ get_or ts i t → tokens_of (drop i ts) ≡ token_of t ∷ tokens_of (drop (i + 1) ts)
tokens_next ts i t lt is =
    rw add-one (ap tokens_of (drop-cons ts i t lt) ∙ ap (λ y. token_of y ∷ tokens_of (drop (suc i) ts)) (sym is))

open_within : (t : Token) (n i : ℕ) → n ≤ i → open_behind t n ≤ i + 1
open_within open_bracket n i le = omega arith
open_within close_bracket n i le = omega arith
open_within (one_of s) n i le = omega arith
open_within bar n i le = omega arith
open_within start_anchor n i le = omega arith
open_within end_anchor n i le = omega arith
open_within (times least most) n i le = omega arith

-- the loop goes on
pub depth_on :
    (ts : List TokenInCode) (i n d m l next all : ℕ) (t : TokenInCode) → i < length ts → t ≡ get_or ts i t → n ≤ i → n ≤ d →
    max d (depth n (tokens_of (drop i ts))) ≡ all → m ≡ open_behind (token_of t) n → l ≡ layers_of (token_of t) → next ≡ max d (m + l) →
    (max next (depth m (tokens_of (drop (i + 1) ts))) ≡ all) × ((m ≤ i + 1) × (m ≤ next))
depth_on ts i n d m l next all t lt is within below e behind classes top =
    let step = depth_step (token_of t) (tokens_of (drop (i + 1) ts)) n d below in
    let here = ap (λ v. max d (depth n v)) (tokens_next ts i t lt is) in
    let rest = ap (λ v. depth v (tokens_of (drop (i + 1) ts))) behind in
    let up = open_within (token_of t) n i within in
    (omega arith, (omega arith, omega arith))

pub depth_of_pattern : (ts : List TokenInCode) (r : ℕ) → r ≡ depth 0 (tokens_of ts) → (e : Regex) → tokens e ≡ tokens_of ts → r ≡ nesting e
depth_of_pattern ts r is e same = is ∙ (ap (depth 0) (sym same) ∙ depth_exact e)
