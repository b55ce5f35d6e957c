-- A table that takes up sorted terms takes up each once, in the order of their texts.
use Rattle.std.proofs.Common.{◌≡◌, ℕ, ◌≤◌, ◌<◌, Bool, true, false, cond, List, [], ◌∷◌, ◌++◌, refl, sym, ap, subst, ◌∙◌, inl, inr, length, arith, append_assoc, ◌+◌, drop, get_or}
use Rattle.std.proofs.Math.ListN.{drop_of_length-le}
use Rattle.std.proofs.lemmas.List.{append-nil}
use Rattle.std.proofs.lemmas.List.Elements.{All-contains, All-push}
use Rattle.std.proofs.lemmas.List.Kept.{Contains-from_dedup, IsStrictlySortedBy-dedup}
use Rattle.std.proofs.lemmas.List.Sorted.{Contains-permutation, IsPermutation-sym}
use Rattle.std.specs.Prelude.{All, Contains, Err, IfErr, Ok, OnOk, Result}
use Rattle.std.specs.Cmp.{IsTotalOrder}
use Rattle.std.specs.Cmp.Lexicographic.{bytes_decides, on_texts}
use Rattle.std.proofs.lemmas.Map.Text.{is_eq-slice_cmp}
use Rattle.std.specs.List.{dedup, dedup_from, flat_map}
use Rattle.std.specs.List.Sorted.{IsPermutation, IsSorted}
use Rattle.std.specs.Ordering.{eq_by_cmp}
use Rattle.lists.specs.Additions.{Adds, AddsAll, more}
use Rattle.rdf_terms.specs.Tables.{max_terms}
use Rattle.rdf_terms.specs.Written.{term_text}
use Rattle.rdf_terms.specs.declared.terms.Term.{Term}
use Rattle.lists.proofs.Additions.{all_one, first_fills, all_split, all_parts, holds_added}
use Rattle.lists.proofs.Members.{in_rest, is_first, is_later, items_left}
use Rattle.shape_map.specs.declared.error.MapError.{MapError}
use Rattle.shape_map.specs.declared.items.Item.{Item}
use Rattle.shape_map.specs.declared.items.Selector.TheVariants.{Node, Triples}
use Rattle.shape_map.specs.declared.items.TriplePattern.{TriplePattern}
use Rattle.shape_map.specs.Selection.{written}
use Rattle.lists.proofs.Ordered.{sorted_one}
use Rattle.shape_map.specs.Selection.{AreInOrder, TakesNodes, compare_terms, written_nodes}
use Rattle.rdf_terms.specs.Laws.{IsTerm}
use Rattle.shape_map.specs.Selection.{AreAbove}
use Rattle.shape_map.specs.Resolving.{Fills, TakingStops}
use Rattle.rdf_terms.proofs.DistinctTexts.{texts_distinct}

pub by_text : IsTotalOrder compare_terms
by_text = on_texts term_text

-- whether two terms have one text
abbrev ties : Term → Term → Bool
ties a b = eq_by_cmp compare_terms a b

same_texts : (a b : Term) → ties a b ≡ true → term_text a ≡ term_text b
same_texts a b h = (bytes_decides (term_text a) (term_text b)).0 (sym (is_eq-slice_cmp (term_text a) (term_text b)) ∙ h)

-- one list in order has these terms
pub order_one : (xs a b : List Term) → AreInOrder xs a → AreInOrder xs b → a ≡ b
order_one xs a b h k = sorted_one compare_terms by_text a b h.rising k.rising (λ t c. (k.same t).1 ((h.same t).0 c)) (λ t c. (h.same t).1 ((k.same t).0 c))

-- ---- lists that grow

over : (n : ℕ) → ¬ (n ≤ max_terms) → max_terms < n
over n never = omega (arith, never)

-- where a further one finds no room, all of them are above the limit
pub overfull : (all old mid xs behind : List Term) (x : Term) → all ≡ xs ++ x ∷ behind → AddsAll old xs mid → ((¬ Contains mid x) × (length mid ≡ max_terms)) →
    (new : List Term) → AddsAll old all new → max_terms < length new
overfull all old mid xs behind x e front full new h =
    let (m, before, rest) = all_split old new xs (x ∷ behind) (subst (λ v. AddsAll old v new) e h) in
    let same : m ≡ mid = all_one old m mid xs before front in
    let long = first_fills max_terms mid new behind x full (subst (λ v. AddsAll v (x ∷ behind) new) same rest) in
    over (length new) long

-- ---- what has one text with the last that was kept is left out

abbrev HaveOwnTexts : List Term → Type 0
HaveOwnTexts xs = (t : Term) → Contains xs t → IsTerm t

-- the one behind the first
own_behind : (x : Term) (xs : List Term) → HaveOwnTexts (x ∷ xs) → HaveOwnTexts xs
own_behind x xs h t c = h t (is_later x xs t c)

own_without : (k x : Term) (xs : List Term) → HaveOwnTexts (k ∷ x ∷ xs) → HaveOwnTexts (k ∷ xs)
own_without k x xs h t c = elim (in_rest k xs t c) [
  | inl e ↦ subst IsTerm e (h k (is_first k (x ∷ xs)))
  | inr later ↦ h t (is_later k (x ∷ xs) t (is_later x xs t later))
]

one_term : (k x : Term) (xs : List Term) → HaveOwnTexts (k ∷ x ∷ xs) → ties x k ≡ true → x ≡ k
one_term k x xs h e = texts_distinct x k (h x (is_later k (x ∷ xs) x (is_first x xs))) (h k (is_first k (x ∷ xs))) (same_texts x k e)

kept : (k : Term) (xs : List Term) → HaveOwnTexts (k ∷ xs) → (n : Term) → Contains (k ∷ xs) n → Contains (dedup_from ties k xs) n
kept k [] h n c = c
kept k (x ∷ xs) h n c = go (ties x k) refl (λ e. kept k xs (own_without k x xs h) n (front e)) (λ later. kept x xs (own_behind k (x ∷ xs) h) n later)
  where
    front : ties x k ≡ true → Contains (k ∷ xs) n
    front e = elim (in_rest k (x ∷ xs) n c) [
      | inl same ↦ subst (λ z. Contains (k ∷ xs) z) same (is_first k xs)
      | inr later ↦ elim (in_rest x xs n later) [
        | inl same ↦ subst (λ z. Contains (k ∷ xs) z) (sym (one_term k x xs h e) ∙ same) (is_first k xs)
        | inr behind ↦ is_later k xs n behind
      ]
    ]

    go : (b : Bool) → ties x k ≡ b → (ties x k ≡ true → Contains (dedup_from ties k xs) n) → (Contains (x ∷ xs) n → Contains (dedup_from ties x xs) n)
        → Contains (cond b (dedup_from ties k xs) (k ∷ dedup_from ties x xs)) n
    go true e one other = one e
    go false e one other = elim (in_rest k (x ∷ xs) n c) [
      | inl same ↦ subst (λ z. Contains (k ∷ dedup_from ties x xs) z) same (is_first k (dedup_from ties x xs))
      | inr later ↦ is_later k (dedup_from ties x xs) n (other later)
    ]

all_kept : (ys : List Term) → HaveOwnTexts ys → (n : Term) → Contains ys n → Contains (dedup ties ys) n
all_kept [] h n c = c
all_kept (y ∷ ys) h n c = kept y ys h n c

-- a term that is there is not added again
once_more : (old new xs : List Term) (k x : Term) → x ≡ k → AddsAll old (k ∷ xs) new → AddsAll old (k ∷ x ∷ xs) new
once_more old new xs k x e h = let (mid, a, rest) = all_parts old new xs k h in more a (more (inl (subst (λ z. Contains mid z) (sym e) (holds_added old mid k a), refl)) rest)

once_less : (old new xs : List Term) (k x : Term) → x ≡ k → AddsAll old (k ∷ x ∷ xs) new → AddsAll old (k ∷ xs) new
once_less old new xs k x e h =
    let (mid, a, rest) = all_parts old new (x ∷ xs) k h in
    let (last, b, behind) = all_parts mid new xs x rest in
    more a (subst (λ v. AddsAll v xs new) (stays mid last (subst (λ z. Contains mid z) (sym e) (holds_added old mid k a)) b) behind)
  where
    stays : (mid last : List Term) → Contains mid x → Adds mid x last → last ≡ mid
    stays mid last held (inl (c, same)) = same
    stays mid last held (inr (fresh, same)) = absurd (fresh held)

thinner : (old new : List Term) (k : Term) (xs : List Term) → HaveOwnTexts (k ∷ xs) → AddsAll old (k ∷ xs) new → AddsAll old (dedup_from ties k xs) new
thinner old new k [] h a = a
thinner old new k (x ∷ xs) h a =
    go (ties x k) refl (λ e. thinner old new k xs (own_without k x xs h) (once_less old new xs k x (one_term k x xs h e) a)) (λ mid rest. thinner mid new x xs (own_behind k (x ∷ xs) h) rest)
  where
    go : (b : Bool) → ties x k ≡ b → (ties x k ≡ true → AddsAll old (dedup_from ties k xs) new) → ((mid : List Term) → AddsAll mid (x ∷ xs) new → AddsAll mid (dedup_from ties x xs) new)
        → AddsAll old (cond b (dedup_from ties k xs) (k ∷ dedup_from ties x xs)) new
    go true e one other = one e
    go false e one other = let (mid, first, rest) = all_parts old new (x ∷ xs) k a in more first (other mid rest)

fuller : (old new : List Term) (k : Term) (xs : List Term) → HaveOwnTexts (k ∷ xs) → AddsAll old (dedup_from ties k xs) new → AddsAll old (k ∷ xs) new
fuller old new k [] h a = a
fuller old new k (x ∷ xs) h a = go (ties x k) refl a (λ b. fuller old new k xs (own_without k x xs h) b) (λ mid rest. fuller mid new x xs (own_behind k (x ∷ xs) h) rest)
  where
    go : (b : Bool) → ties x k ≡ b → AddsAll old (cond b (dedup_from ties k xs) (k ∷ dedup_from ties x xs)) new → (AddsAll old (dedup_from ties k xs) new → AddsAll old (k ∷ xs) new)
        → ((mid : List Term) → AddsAll mid (dedup_from ties x xs) new → AddsAll mid (x ∷ xs) new) → AddsAll old (k ∷ x ∷ xs) new
    go true e a one other = once_more old new xs k x (one_term k x xs h e) (one a)
    go false e a one other = let (mid, first, rest) = all_parts old new (dedup_from ties x xs) k a in more first (other mid rest)

all_thinner : (old new ys : List Term) → HaveOwnTexts ys → AddsAll old ys new → AddsAll old (dedup ties ys) new
all_thinner old new [] h a = a
all_thinner old new (y ∷ ys) h a = thinner old new y ys h a

all_fuller : (old new ys : List Term) → HaveOwnTexts ys → AddsAll old (dedup ties ys) new → AddsAll old ys new
all_fuller old new [] h a = a
all_fuller old new (y ∷ ys) h a = fuller old new y ys h a

-- ---- the nodes of a map, sorted

module _ (items : List Item) (ws ys : List Term) (are : ws ≡ written_nodes items) (own : All IsTerm ws) (sorted : IsSorted compare_terms ys) (permuted : IsPermutation ws ys) where
  own_sorted : HaveOwnTexts ys
  own_sorted t c = All-contains IsTerm ws t own (Contains-permutation ys ws t (IsPermutation-sym ws ys permuted) c)

  in_order : AreInOrder (written_nodes items) (dedup ties ys)
  in_order = record {
    rising = IsStrictlySortedBy-dedup by_text (λ a b. refl) ys sorted;
    same = λ t. (
      λ c. subst (λ v. Contains v t) are (Contains-permutation ys ws t (IsPermutation-sym ws ys permuted) (Contains-from_dedup ties ys t c)),
      λ c. all_kept ys own_sorted t (Contains-permutation ws ys t permuted (subst (λ v. Contains v t) (sym are) c)),
    );
  }

  pub takes_nodes : (old new : List Term) → AddsAll old ys new → TakesNodes old items new
  takes_nodes old new adds = record { nodes = dedup ties ys; ordered = in_order; taken = all_thinner old new ys own_sorted adds }

  pub are_above : (old : List Term) → ((new : List Term) → AddsAll old ys new → max_terms < length new) → AreAbove old items
  are_above old above terms takes =
      let one : takes.nodes ≡ dedup ties ys = order_one (written_nodes items) takes.nodes (dedup ties ys) takes.ordered in_order in
      above terms (all_fuller old terms ys own_sorted (subst (λ v. AddsAll old v terms) one takes.taken))

  pub taking_stops : (old : List Term) (e : MapError) → Fills old ys e → TakingStops old items e
  taking_stops old e (inl (full, above)) = inl (full, are_above old above)
  taking_stops old e (inr memory) = inr memory

-- ---- one node after the other

-- ---- the nodes that are written, item after item

module _ (items : List Item) (nodes : List Term) (k : ℕ) where
  abbrev behind : ℕ → List Term
  behind n = flat_map (λ i. written i.selector) (drop n items)

  abbrev AreSoFar : Type 0
  AreSoFar = written_nodes items ≡ nodes ++ behind k

  next : (i : Item) → k < length items → i ≡ get_or items k i → AreSoFar → written_nodes items ≡ nodes ++ (written i.selector ++ behind (k + 1))
  next i l e h = h ∙ ap (λ v. nodes ++ flat_map (λ i. written i.selector) v) (items_left items k i l e)

  -- an item with a node
  pub node_on : (i : Item) (t : Term) (new : List Term) → k < length items → i ≡ get_or items k i → i.selector ≡ Node t → new ≡ nodes ++ t ∷ [] → AreSoFar → written_nodes items ≡ new ++ behind (k + 1)
  node_on i t new l e is same h =
      next i l e h ∙ ap (λ s. nodes ++ (written s ++ behind (k + 1))) is ∙ sym (append_assoc nodes (t ∷ []) (behind (k + 1))) ∙ ap (λ v. v ++ behind (k + 1)) (sym same)

  -- an item with a pattern
  pub pattern_on : (i : Item) (x : TriplePattern) (new : List Term) → k < length items → i ≡ get_or items k i → i.selector ≡ Triples x → new ≡ nodes →
      AreSoFar → written_nodes items ≡ new ++ behind (k + 1)
  pattern_on i x new l e is same h = next i l e h ∙ ap (λ s. nodes ++ (written s ++ behind (k + 1))) is ∙ ap (λ v. v ++ behind (k + 1)) (sym same)

  -- all of them
  pub nodes_done : length items ≤ k → AreSoFar → nodes ≡ written_nodes items
  nodes_done l h = sym (append-nil nodes) ∙ ap (λ v. nodes ++ flat_map (λ i. written i.selector) v) (sym (drop_of_length-le items l)) ∙ sym h

-- what is known of one more
pub own_more : (nodes new : List Term) (t : Term) → new ≡ nodes ++ t ∷ [] → All IsTerm nodes → IsTerm t → All IsTerm new
own_more nodes new t e all h = subst (All IsTerm) (sym e) (All-push IsTerm nodes t all h)

-- a result whose one side says more
pub ok_on : {T E P Q : Type 0} (r : Result T E) → (P → Q) → OnOk r P → OnOk r Q
ok_on (Ok x) f h = f h
ok_on (Err e) f h = tt

pub err_on : {T E : Type 0} {P Q : E → Type 0} (r : Result T E) → ((e : E) → P e → Q e) → IfErr r P → IfErr r Q
err_on (Ok x) f h = tt
err_on (Err e) f h = f e h
