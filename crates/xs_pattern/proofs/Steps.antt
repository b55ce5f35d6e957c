-- How lists of items, classes and tokens are read one after the other: what a reader may take of a text is never too little.
use Rattle.std.proofs.Common.{◌≡◌, ◌<◌, ◌≤◌, ℕ, zero, suc, arith, length, List, [], ◌∷◌, refl, ap, ◌∙◌, false, cond}
use Rattle.std.specs.Prelude.{Option, Some, None}
use Rattle.xs_pattern.specs.declared.expression.Item.{Item}
use Rattle.xs_pattern.specs.Lexing.{begins, tail, is_end, read_item, item_before, item_then, items_within, read_more, read_members, group_before, groups_then, groups_within, read_groups, read_token, token_before, tokens_then, tokens_within, read_tokens}
use Rattle.xs_pattern.specs.Tokens.{Token}
use Rattle.xs_pattern.specs.Regex.{Members}
use Rattle.xs_pattern.proofs.Choices.{skip}
use Rattle.xs_pattern.proofs.Sound.{item_sound, members_sound, token_sound}
use Rattle.xs_pattern.proofs.Lexed.{item_longer, members_longer, token_longer}

-- items
same_items : (go other : List ℕ → Option (List Item × List ℕ)) (o : Option (Item × List ℕ)) → ((x : Item) (r : List ℕ) → o ≡ Some (x, r) → go r ≡ other r) → item_then go o ≡ item_then other o
same_items go other None same = refl
same_items go other (Some (x, r)) same = ap (item_before x) (same x r refl)

pub item_shorter : (x : Item) (ts r : List ℕ) → read_item false ts ≡ Some (x, r) → length r < length ts
item_shorter x ts r h = item_longer false x ts r (item_sound false x ts r h)

items_enough : (n m : ℕ) (ts : List ℕ) → length ts < n → length ts < m → items_within n ts ≡ items_within m ts
items_enough zero m ts h k = absurd (omega arith)
items_enough (suc n) zero ts h k = absurd (omega arith)
items_enough (suc n) (suc m) ts h k =
    ap (λ v. cond (is_end ts) (Some ([], ts)) v)
    (same_items (λ r. items_within n r) (λ r. items_within m r) (read_item false ts)
    (λ x r e. let less = item_shorter x ts r e in items_enough n m r (omega arith) (omega arith)))

pub more_items : (ts : List ℕ) → is_end ts ≡ false → read_more ts ≡ item_then (λ r. read_more r) (read_item false ts)
more_items ts h =
    skip (is_end ts) (Some ([], ts)) _ h
    ∙ same_items (λ r. items_within (length ts) r) (λ r. read_more r) (read_item false ts)
    (λ x r e. let less = item_shorter x ts r e in items_enough (length ts) (suc (length r)) r less (omega arith))

-- classes
same_groups : (go other : List ℕ → Option (List Members × List ℕ)) (o : Option (Members × List ℕ)) →
    ((m : Members) (b : List ℕ) → o ≡ Some (m, b) → go (tail b) ≡ other (tail b)) → groups_then go o ≡ groups_then other o
same_groups go other None same = refl
same_groups go other (Some (m, b)) same = ap (λ v. cond (begins 45 b) (group_before m v) (Some (m ∷ [], b))) (same m b refl)

pub members_short : (m : Members) (ts b : List ℕ) → read_members ts ≡ Some (m, b) → length b < length ts
members_short m ts b h = members_longer m ts b (members_sound m ts b h).0

members_shorter : (m : Members) (ts b : List ℕ) → read_members ts ≡ Some (m, b) → length (tail b) < length ts
members_shorter m ts b h = let less = members_short m ts b h in let most = tail_short b in omega arith
  where
    tail_short : (b : List ℕ) → length (tail b) ≤ length b
    tail_short [] = omega arith
    tail_short (c ∷ cs) = omega arith

groups_enough : (n m : ℕ) (ts : List ℕ) → length ts < n → length ts < m → groups_within n ts ≡ groups_within m ts
groups_enough zero m ts h k = absurd (omega arith)
groups_enough (suc n) zero ts h k = absurd (omega arith)
groups_enough (suc n) (suc m) ts h k =
    same_groups (λ r. groups_within n r) (λ r. groups_within m r) (read_members ts)
    (λ g b e. let less = members_shorter g ts b e in groups_enough n m (tail b) (omega arith) (omega arith))

pub more_groups : (ts : List ℕ) → read_groups ts ≡ groups_then (λ r. read_groups r) (read_members ts)
more_groups ts =
    same_groups (λ r. groups_within (length ts) r) (λ r. read_groups r) (read_members ts)
    (λ g b e. let less = members_shorter g ts b e in groups_enough (length ts) (suc (length (tail b))) (tail b) less (omega arith))

-- tokens
same_tokens : (go other : List ℕ → Option (List Token)) (o : Option (Token × List ℕ)) → ((u : Token) (r : List ℕ) → o ≡ Some (u, r) → go r ≡ other r) → tokens_then go o ≡ tokens_then other o
same_tokens go other None same = refl
same_tokens go other (Some (u, r)) same = ap (token_before u) (same u r refl)

pub token_shorter : (u : Token) (ts r : List ℕ) → read_token ts ≡ Some (u, r) → length r < length ts
token_shorter u ts r h = token_longer u ts r (token_sound u ts r h)

tokens_enough : (n m : ℕ) (ts : List ℕ) → length ts < n → length ts < m → tokens_within n ts ≡ tokens_within m ts
tokens_enough zero m ts h k = absurd (omega arith)
tokens_enough (suc n) zero ts h k = absurd (omega arith)
tokens_enough (suc n) (suc m) [] h k = refl
tokens_enough (suc n) (suc m) (c ∷ cs) h k =
    same_tokens (λ r. tokens_within n r) (λ r. tokens_within m r) (read_token (c ∷ cs))
    (λ u r e. let less = token_shorter u (c ∷ cs) r e in tokens_enough n m r (omega arith) (omega arith))

pub more_tokens : (c : ℕ) (cs : List ℕ) → read_tokens (c ∷ cs) ≡ tokens_then (λ r. read_tokens r) (read_token (c ∷ cs))
more_tokens c cs =
    same_tokens (λ r. tokens_within (length (c ∷ cs)) r) (λ r. read_tokens r) (read_token (c ∷ cs))
    (λ u r e. let less = token_shorter u (c ∷ cs) r e in tokens_enough (length (c ∷ cs)) (suc (length r)) r less (omega arith))
