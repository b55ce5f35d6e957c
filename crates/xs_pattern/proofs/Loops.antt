-- What the loops of the reader keep.
use Rattle.std.proofs.Common.{◌≡◌, ◌<◌, ◌≤◌, ℕ, arith, length, List, [], ◌∷◌, ◌++◌, refl, sym, ap, ◌∙◌, Bool, true, false, cond, append_assoc, map}
use Rattle.std.specs.Prelude.{Option, Some, None, option_map}
use Rattle.std.proofs.lemmas.Option.{same_Some}
use Rattle.xs_pattern.specs.declared.expression.Item.{Item}
use Rattle.xs_pattern.specs.Lexing.{begins, tail, is_end, read_item, item_before, item_then, read_more, read_items, read_members, group_before, groups_then, read_groups, class_token, plain_token, read_class, read_token, token_before, tokens_then, read_tokens, capped_token, capped_pair}
use Rattle.xs_pattern.specs.Tokens.{Token}
use Rattle.xs_pattern.specs.Regex.{Members}
use Rattle.xs_pattern.proofs.Steps.{item_shorter, more_items, members_short, more_groups, token_shorter, more_tokens}

-- items that were read, before what is read behind them
abbrev pub all_before : {A : Type 0} → List A → Option (List A × List ℕ) → Option (List A × List ℕ)
all_before xs None = None
all_before xs (Some (ys, r)) = Some (xs ++ ys, r)

one_item : (x : Item) (o : Option (List Item × List ℕ)) → item_before x o ≡ all_before (x ∷ []) o
one_item x None = refl
one_item x (Some (ys, r)) = refl

next_item : (xs : List Item) (x : Item) (o : Option (List Item × List ℕ)) → all_before xs (item_before x o) ≡ all_before (xs ++ x ∷ []) o
next_item xs x None = refl
next_item xs x (Some (ys, r)) = ap (λ v. Some (v, r)) (sym (append_assoc xs (x ∷ []) ys))

pub items_begin : (text r : List ℕ) (x : Item) (xs : List Item) → xs ≡ x ∷ [] → Some (x, r) ≡ read_item true text → all_before xs (read_more r) ≡ read_items text
items_begin text r x xs is h = ap (λ v. all_before v (read_more r)) is ∙ (sym (one_item x (read_more r)) ∙ ap (item_then (λ v. read_more v)) h)

pub items_on : (xs new : List Item) (x : Item) (ts r : List ℕ) (all : Option (List Item × List ℕ)) → new ≡ xs ++ x ∷ [] → all_before xs (read_more ts) ≡ all →
    is_end ts ≡ false → Some (x, r) ≡ read_item false ts → all_before new (read_more r) ≡ all
items_on xs new x ts r all is so_far ends h =
    ap (λ v. all_before v (read_more r)) is
    ∙ (sym (next_item xs x (read_more r))
    ∙ (ap (λ o. all_before xs (item_then (λ v. read_more v) o)) h ∙ (ap (all_before xs) (sym (more_items ts ends)) ∙ so_far)))

pub item_less : (x : Item) (ts r : List ℕ) → Some (x, r) ≡ read_item false ts → length r < length ts
item_less x ts r h = item_shorter x ts r (sym h)

-- classes that are taken away, behind a hyphen
abbrev pub further_groups : List ℕ → Option (List Members × List ℕ)
further_groups b = cond (begins 45 b) (read_groups (tail b)) (Some ([], b))

one_group : (m : Members) (b : List ℕ) → groups_then (λ v. read_groups v) (Some (m, b)) ≡ all_before (m ∷ []) (further_groups b)
one_group m b = go (begins 45 b)
  where
    before : (o : Option (List Members × List ℕ)) → group_before m o ≡ all_before (m ∷ []) o
    before None = refl
    before (Some (ms, r)) = refl

    go : (v : Bool) → cond v (group_before m (read_groups (tail b))) (Some (m ∷ [], b)) ≡ all_before (m ∷ []) (cond v (read_groups (tail b)) (Some ([], b)))
    go true = before (read_groups (tail b))
    go false = refl

next_group : (ms : List Members) (m : Members) (o : Option (List Members × List ℕ)) → all_before ms (all_before (m ∷ []) o) ≡ all_before (ms ++ m ∷ []) o
next_group ms m None = refl
next_group ms m (Some (ns, r)) = ap (λ v. Some (v, r)) (sym (append_assoc ms (m ∷ []) ns))

pub groups_begin : (text b : List ℕ) (m : Members) → Some (m, b) ≡ read_members text → all_before (m ∷ []) (further_groups b) ≡ read_groups text
groups_begin text b m h = sym (one_group m b) ∙ (ap (groups_then (λ v. read_groups v)) h ∙ sym (more_groups text))

pub groups_first : (text b : List ℕ) (m : Members) (ms : List Members) → ms ≡ m ∷ [] → Some (m, b) ≡ read_members text → all_before ms (further_groups b) ≡ read_groups text
groups_first text b m ms is h = ap (λ v. all_before v (further_groups b)) is ∙ groups_begin text b m h

pub groups_on : (ms new : List Members) (m : Members) (ts b : List ℕ) (all : Option (List Members × List ℕ)) → new ≡ ms ++ m ∷ [] →
    all_before ms (further_groups ts) ≡ all → begins 45 ts ≡ true → Some (m, b) ≡ read_members (tail ts) → all_before new (further_groups b) ≡ all
groups_on ms new m ts b all is so_far hyphen h =
    ap (λ v. all_before v (further_groups b)) is
    ∙ (sym (next_group ms m (further_groups b))
    ∙ (ap (all_before ms) (groups_begin (tail ts) b m h)
    ∙ (ap (λ v. all_before ms (cond v (read_groups (tail ts)) (Some ([], ts)))) (sym hyphen) ∙ so_far)))

pub group_less : (m : Members) (ts b : List ℕ) → Some (m, b) ≡ read_members (tail ts) → length b < length ts
group_less m ts b h = let less = members_short m (tail ts) b (sym h) in let most = tail_short ts in omega arith
  where
    tail_short : (ts : List ℕ) → length (tail ts) ≤ length ts
    tail_short [] = omega arith
    tail_short (c ∷ cs) = omega arith

-- tokens with their numbers as the code holds them
abbrev pub capped_tokens : List ℕ → Option (List Token)
capped_tokens ts = option_map (map capped_token) (read_tokens ts)

abbrev pub tokens_before : List Token → Option (List Token) → Option (List Token)
tokens_before us None = None
tokens_before us (Some vs) = Some (us ++ vs)

capped_first : (u : Token) (o : Option (List Token)) → option_map (map capped_token) (token_before u o) ≡ token_before (capped_token u) (option_map (map capped_token) o)
capped_first u None = refl
capped_first u (Some vs) = refl

next_token : (us : List Token) (u : Token) (o : Option (List Token)) → tokens_before us (token_before u o) ≡ tokens_before (us ++ u ∷ []) o
next_token us u None = refl
next_token us u (Some vs) = ap Some (sym (append_assoc us (u ∷ []) vs))

capped_rest : (p : Option (Token × List ℕ)) → option_map (map capped_token) (tokens_then (λ v. read_tokens v) p) ≡ tokens_then capped_tokens (capped_pair p)
capped_rest None = refl
capped_rest (Some (u, r)) = capped_first u (read_tokens r)

capped_more : (ts : List ℕ) → 0 < length ts → capped_tokens ts ≡ tokens_then capped_tokens (capped_pair (read_token ts))
capped_more [] some = absurd (omega arith)
capped_more (c ∷ cs) some = ap (option_map (map capped_token)) (more_tokens c cs) ∙ capped_rest (read_token (c ∷ cs))

pub tokens_on : (us new : List Token) (u : Token) (ts r : List ℕ) (all : Option (List Token)) → new ≡ us ++ u ∷ [] → tokens_before us (capped_tokens ts) ≡ all →
    0 < length ts → Some (u, r) ≡ capped_pair (read_token ts) → tokens_before new (capped_tokens r) ≡ all
tokens_on us new u ts r all is so_far some h =
    ap (λ v. tokens_before v (capped_tokens r)) is
    ∙ (sym (next_token us u (capped_tokens r))
    ∙ (ap (λ o. tokens_before us (tokens_then capped_tokens o)) h ∙ (ap (tokens_before us) (sym (capped_more ts some)) ∙ so_far)))

token_found : (p : Option (Token × List ℕ)) (u : Token) (r : List ℕ) → Some (u, r) ≡ capped_pair p → (v : Token) × (p ≡ Some (v, r))
token_found None u r h = absurd (cc)
token_found (Some (v, s)) u r h = (v, ap (λ (w : Token × List ℕ). Some (v, w.1)) (sym (same_Some (u, r) (capped_token v, s) h)))

pub token_less : (u : Token) (ts r : List ℕ) → Some (u, r) ≡ capped_pair (read_token ts) → length r < length ts
token_less u ts r h = let p = token_found (read_token ts) u r h in token_shorter p.0 ts r p.1

-- a class begins with its bracket
pub class_told : (ts : List ℕ) → begins 91 ts ≡ true → read_token ts ≡ class_token (read_class ts)
class_told [] h = absurd (cc)
class_told (c ∷ cs) h = ap (λ b. cond b (class_token (read_class (c ∷ cs))) (plain_token c cs)) h
