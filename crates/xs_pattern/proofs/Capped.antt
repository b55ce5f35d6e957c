-- Tokens whose numbers are held up to 4,097 tell what the tokens of the text tell.
use Rattle.std.proofs.Common.{◌≡◌, ◌<◌, ◌≤◌, ◌+◌, ◌-◌, ◌⊎◌, inl, inr, ℕ, arith, List, [], ◌∷◌, ◌++◌, refl, sym, subst, ap, ◌∙◌, Bool, true, false, ◌||◌, ◌&&◌, map, max, min}
use Rattle.std.specs.Prelude.{◌↔◌, Option, Some, None, option_map, nat_lt, IsTrue}
use Rattle.std.specs.List.{list_any}
use Rattle.std.proofs.lemmas.Bool.{ltb-true, ltb-false, lt-ltb, le-ltb}
use Rattle.std.proofs.lemmas.List.Folds.{list_any-append}
use Rattle.std.proofs.lemmas.Option.{same_Some}
use Rattle.xs_pattern.specs.Lexing.{capped, capped_token, read_tokens}
use Rattle.xs_pattern.specs.Limits.{greater, greatest, greatest_of_all, nesting}
use Rattle.xs_pattern.specs.declared.parser.Token.{Token as TokenInCode}
use Rattle.xs_pattern.specs.Parsing.{IsSpelled, has_large, is_spelled, large_token, token_of, tokens_of}
use Rattle.xs_pattern.specs.Regex.{Regex, start, finish, one, group, branch, choice, repeat, Regexes, none, more}
use Rattle.xs_pattern.specs.Spelling.{Spells, SpellsTokens}
use Rattle.xs_pattern.specs.Tokens.{Token, open_bracket, close_bracket, bar, start_anchor, end_anchor, one_of, times, tokens, tokens_of_pieces, tokens_of_branches, tokens_behind_bars, IsPattern}
use Rattle.xs_pattern.proofs.Choices.{or_no}
use Rattle.xs_pattern.proofs.Lexed.{tokens_complete, well_placed}
use Rattle.xs_pattern.proofs.Parsed.{spelled_meaning}
use Rattle.xs_pattern.proofs.Sound.{tokens_sound}

-- the place of tokens does not depend on their numbers
spelled_alike : (us : List Token) (g : ℕ) (ready : Bool) → is_spelled g ready (map capped_token us) ≡ is_spelled g ready us
spelled_alike [] g ready = refl
spelled_alike (open_bracket ∷ us) g ready = spelled_alike us (g + 1) false
spelled_alike (close_bracket ∷ us) g ready = ap (λ b. nat_lt 0 g && b) (spelled_alike us (g - 1) true)
spelled_alike (bar ∷ us) g ready = spelled_alike us g false
spelled_alike (start_anchor ∷ us) g ready = spelled_alike us g false
spelled_alike (end_anchor ∷ us) g ready = spelled_alike us g false
spelled_alike (one_of s ∷ us) g ready = spelled_alike us g true
spelled_alike (times least most ∷ us) g ready = ap (λ b. ready && b) (spelled_alike us g false)

-- numbers over 4,096
large_alike : (n m : ℕ) → m ≡ min n 4097 → nat_lt 4096 m ≡ nat_lt 4096 n
large_alike n m is = go (nat_lt 4096 n) refl
  where
    go : (b : Bool) → nat_lt 4096 n ≡ b → nat_lt 4096 m ≡ b
    go true e = lt-ltb 4096 m (let h = ltb-true 4096 n e in omega arith)
    go false e = le-ltb 4096 m (let h = ltb-false 4096 n e in omega arith)

token_alike : (u : Token) → large_token (capped_token u) ≡ large_token u
token_alike open_bracket = refl
token_alike close_bracket = refl
token_alike bar = refl
token_alike start_anchor = refl
token_alike end_anchor = refl
token_alike (one_of s) = refl
token_alike (times least None) = large_alike least (capped least) refl
token_alike (times least (Some most)) = large_alike (max least most) (max (capped least) (capped most)) (omega arith)

has_large_alike : (us : List Token) → has_large (map capped_token us) ≡ has_large us
has_large_alike [] = refl
has_large_alike (u ∷ us) = ap (λ b. b || has_large (map capped_token us)) (token_alike u) ∙ ap (λ b. large_token u || b) (has_large_alike us)

-- tokens without such numbers are held as they are
small_number : (n : ℕ) → n ≤ 4096 → capped n ≡ n
small_number n le = omega arith

kept_token : (u : Token) → large_token u ≡ false → capped_token u ≡ u
kept_token open_bracket h = refl
kept_token close_bracket h = refl
kept_token bar h = refl
kept_token start_anchor h = refl
kept_token end_anchor h = refl
kept_token (one_of s) h = refl
kept_token (times least None) h = ap (λ v. times v None) (small_number least (ltb-false 4096 least h))
kept_token (times least (Some most)) h =
    let le = ltb-false 4096 (max least most) h in
    ap (λ v. times v (Some (capped most))) (small_number least (omega arith)) ∙ ap (λ v. times least (Some v)) (small_number most (omega arith))

or_parts : (a b : Bool) → (a || b) ≡ false → (a ≡ false) × (b ≡ false)
or_parts true b h = absurd (cc)
or_parts false b h = (refl, h)

kept : (us : List Token) → has_large us ≡ false → map capped_token us ≡ us
kept [] h = refl
kept (u ∷ us) h =
    let p = or_parts (large_token u) (has_large us) h in
    let e = kept_token u p.0 in
    let es = kept us p.1 in
    λ i. e i ∷ es i

-- the greatest number of an expression is that of its tokens
larger : (a b : ℕ) → (nat_lt 4096 a || nat_lt 4096 b) ≡ nat_lt 4096 (max a b)
larger a b = go (nat_lt 4096 a) (nat_lt 4096 b) refl refl
  where
    go : (p q : Bool) → nat_lt 4096 a ≡ p → nat_lt 4096 b ≡ q → (p || q) ≡ nat_lt 4096 (max a b)
    go true q e f = sym (lt-ltb 4096 (max a b) (let h = ltb-true 4096 a e in omega arith))
    go false true e f = sym (lt-ltb 4096 (max a b) (let h = ltb-true 4096 b f in omega arith))
    go false false e f = sym (le-ltb 4096 (max a b) (let h = ltb-false 4096 a e in let k = ltb-false 4096 b f in omega arith))

both : (ts us : List Token) (a b : ℕ) → has_large ts ≡ nat_lt 4096 a → has_large us ≡ nat_lt 4096 b → has_large (ts ++ us) ≡ nat_lt 4096 (max a b)
both ts us a b e f =
    list_any-append large_token ts us ∙ (ap (λ v. v || has_large us) e ∙ (ap (λ v. nat_lt 4096 a || v) f ∙ larger a b))

mutual
  large_in : (e : Regex) → has_large (tokens e) ≡ nat_lt 4096 (greatest e)
  large_in start = refl
  large_in finish = refl
  large_in (one s) = refl
  large_in (group e) = list_any-append large_token (tokens e) (close_bracket ∷ []) ∙ (or_no (has_large (tokens e)) ∙ large_in e)
  large_in (branch es) = large_in_pieces es
  large_in (choice es) = large_in_branches es
  large_in (repeat least most e) = both (tokens e) (times least most ∷ []) (greatest e) (greater least most) (large_in e) (or_no (nat_lt 4096 (greater least most)))

  large_in_pieces : (es : Regexes) → has_large (tokens_of_pieces es) ≡ nat_lt 4096 (greatest_of_all es)
  large_in_pieces none = refl
  large_in_pieces (more e es) = both (tokens e) (tokens_of_pieces es) (greatest e) (greatest_of_all es) (large_in e) (large_in_pieces es)

  large_in_branches : (es : Regexes) → has_large (tokens_of_branches es) ≡ nat_lt 4096 (greatest_of_all es)
  large_in_branches none = refl
  large_in_branches (more e es) = both (tokens e) (tokens_behind_bars es) (greatest e) (greatest_of_all es) (large_in e) (large_behind_bars es)

  large_behind_bars : (es : Regexes) → has_large (tokens_behind_bars es) ≡ nat_lt 4096 (greatest_of_all es)
  large_behind_bars none = refl
  large_behind_bars (more e es) = both (tokens e) (tokens_behind_bars es) (greatest e) (greatest_of_all es) (large_in e) (large_behind_bars es)

-- the tokens of a text as they are held
abbrev pub Held : List ℕ → Option (List Token) → Type 0
Held text o = o ≡ option_map (map capped_token) (read_tokens text)

held_none : (o : Option (List Token)) → None ≡ option_map (map capped_token) o → o ≡ None
held_none None h = refl
held_none (Some us) h = absurd (cc)

held_some : (o : Option (List Token)) (ts : List Token) → Some ts ≡ option_map (map capped_token) o → (us : List Token) × (o ≡ Some us) × (ts ≡ map capped_token us)
held_some None ts h = absurd (cc)
held_some (Some us) ts h = (us, refl, same_Some ts (map capped_token us) h)

-- no tokens, no pattern
pub no_tokens : (text : List ℕ) → Held text None → (e : Regex) → ¬ Spells e text
no_tokens text h e s = let none_read = held_none (read_tokens text) h in let read = tokens_complete e text s in absurd (cc)

-- tokens out of place, no pattern
pub no_pattern : (text : List ℕ) (ts : List Token) → Held text (Some ts) → (¬ IsSpelled ts) → (e : Regex) → ¬ Spells e text
no_pattern text ts h unplaced e s =
    let p = held_some (read_tokens text) ts h in
    let same = same_Some p.0 (tokens e) (sym p.1 ∙ tokens_complete e text s) in
    let told : true ≡ is_spelled 0 false ts = sym (ap (is_spelled 0 false) (p.2 ∙ ap (map capped_token) same) ∙ (spelled_alike (tokens e) 0 false ∙ well_placed e s.0)) in
    unplaced ((spelled_meaning ts true told).0 refl)

-- tokens in place are those of a pattern that is spelled
placed_pattern : (text : List ℕ) (us : List Token) → read_tokens text ≡ Some us → IsSpelled us → (e : Regex) × (tokens e ≡ us) × Spells e text
placed_pattern text us read (e, same, made) = (e, same, (made, subst (λ v. SpellsTokens v text) (sym same) (tokens_sound text us read)))

spelled_before : (ts us : List Token) → ts ≡ map capped_token us → IsSpelled ts → IsSpelled us
spelled_before ts us is placed =
    let told = (spelled_meaning ts (is_spelled 0 false ts) refl).1 placed in
    (spelled_meaning us (is_spelled 0 false us) refl).0 (sym (spelled_alike us 0 false) ∙ (ap (is_spelled 0 false) (sym is) ∙ told))

pub large_number : (text : List ℕ) (ts : List Token) → Held text (Some ts) → IsSpelled ts → has_large ts ≡ true → (e : Regex) × Spells e text × ((4096 < greatest e) ⊎ (64 < nesting e))
large_number text ts h placed large =
    let p = held_some (read_tokens text) ts h in
    let q = placed_pattern text p.0 p.1 (spelled_before ts p.0 p.2 placed) in
    let told : nat_lt 4096 (greatest q.0) ≡ true = sym (large_in q.0) ∙ (ap has_large q.1 ∙ (sym (has_large_alike p.0) ∙ (ap has_large (sym p.2) ∙ large))) in
    (q.0, q.2, inl (ltb-true 4096 (greatest q.0) told))

kept_tokens : (text : List ℕ) (ts : List Token) → Held text (Some ts) → has_large ts ≡ false → read_tokens text ≡ Some ts
kept_tokens text ts h small =
    let p = held_some (read_tokens text) ts h in
    let alike = sym (has_large_alike p.0) ∙ (ap has_large (sym p.2) ∙ small) in
    p.1 ∙ ap Some (sym (p.2 ∙ kept p.0 alike))

pub deep_pattern : (text : List ℕ) (ts : List Token) (depth : ℕ) → Held text (Some ts) → IsSpelled ts → has_large ts ≡ false →
    ((e : Regex) → tokens e ≡ ts → depth ≡ nesting e) → 64 < depth → (e : Regex) × Spells e text × ((4096 < greatest e) ⊎ (64 < nesting e))
deep_pattern text ts depth h placed small nests deep =
    let q = placed_pattern text ts (kept_tokens text ts h small) placed in
    let is = nests q.0 q.1 in
    (q.0, q.2, inr (omega arith))

pub good_pattern : (text : List ℕ) (ts : List Token) (depth : ℕ) (e : Regex) → Held text (Some ts) → has_large ts ≡ false →
    ((d : Regex) → tokens d ≡ ts → depth ≡ nesting d) → depth ≤ 64 → tokens e ≡ ts → IsPattern e → Spells e text × ((greatest e ≤ 4096) × (nesting e ≤ 64))
good_pattern text ts depth e h small nests shallow same made =
    let is = nests e same in
    let spelled = subst (λ v. SpellsTokens v text) (sym same) (tokens_sound text ts (kept_tokens text ts h small)) in
    let few : nat_lt 4096 (greatest e) ≡ false = sym (large_in e) ∙ (ap has_large same ∙ small) in
    ((made, spelled), (ltb-false 4096 (greatest e) few, omega arith))

-- what the tests of the code tell of the tokens that it holds
any_mapped : {A B : Type 0} (p : B → Bool) (f : A → B) (xs : List A) → list_any (λ x. p (f x)) xs ≡ list_any p (map f xs)
any_mapped p f [] = refl
any_mapped p f (x ∷ xs) = ap (λ b. p (f x) || b) (any_mapped p f xs)

pub told_unplaced : (ts seen : List TokenInCode) (b : Bool) → seen ≡ ts → IsTrue b ↔ IsSpelled (tokens_of seen) → b ≡ false → ¬ IsSpelled (tokens_of ts)
told_unplaced ts seen b same told no_spelling h = let is = told.1 (subst (λ v. IsSpelled (tokens_of v)) (sym same) h) in absurd (cc)

pub told_placed : (ts seen : List TokenInCode) (b : Bool) → seen ≡ ts → IsTrue b ↔ IsSpelled (tokens_of seen) → b ≡ true → IsSpelled (tokens_of ts)
told_placed ts seen b same told is = subst (λ v. IsSpelled (tokens_of v)) same (told.0 is)

pub told_large : (ts seen : List TokenInCode) (b : Bool) → seen ≡ ts → b ≡ list_any (λ t. large_token (token_of t)) seen → has_large (tokens_of ts) ≡ b
told_large ts seen b same told = ap (λ v. has_large (tokens_of v)) (sym same) ∙ (sym (any_mapped large_token token_of seen) ∙ sym told)

pub told_depth : (ts seen : List TokenInCode) (n : ℕ) → seen ≡ ts → ((e : Regex) → tokens e ≡ tokens_of seen → n ≡ nesting e) → (e : Regex) → tokens e ≡ tokens_of ts → n ≡ nesting e
told_depth ts seen n same told e is = told e (is ∙ ap tokens_of (sym same))
