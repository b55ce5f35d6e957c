-- A reference that is resolved is on one line where it and the base are.
use Rattle.std.proofs.Common.{◌≡◌, ℕ, zero, suc, ◌+◌, ◌-◌, ◌<◌, ◌≤◌, Bool, true, false, cond, eqb, not, List, [], ◌∷◌, ◌++◌, length, take, drop, get_or, codes, flat_map, Option, Some, None, is_some, refl, sym, subst, arith, ◌&&◌, le_refl, eq-or-lt_of_le, ⊎_elim}
use Rattle.std.specs.List.{join_with_byte, suffix_len, position_or_len}
use Rattle.std.specs.Option.{option_or}
use Rattle.std.proofs.lemmas.Bool.{eqb-true}
use Rattle.std.proofs.lemmas.Bool.Decides.{Decides-eqb, nat_tests}
use Rattle.std.proofs.lemmas.List.{drop_all}
use Rattle.std.proofs.lemmas.List.Splits.{join_with_byte-slice_split}
use Rattle.std.proofs.lemmas.List.Sums.{suffix_len_is}
use Rattle.std.proofs.lemmas.Slice.Eq.{starts_is}
use Rattle.std.proofs.lemmas.Str.{IsUtf8-take, IsCharBoundary-after_ascii}
use Rattle.std.proofs.Math.Utf8.{encode}
use Rattle.iri_resolve.specs.Text.{colon, slash, question, hash, has, before, after, part_after, from}
use Rattle.iri_resolve.specs.Reference.{Components, components_of, is_scheme, after_scheme, has_authority}
use Rattle.iri_resolve.specs.Resolution.{with_mark_before, with_mark_after, text_of, is_empty, is_absolute, up_to_last_slash, merged_path, target_with, target, resolved_text}
use Rattle.iri_resolve.specs.Dots.{segments_of, is_dot, is_dot_dot, is_dot_segment, after_leading_dots, with_end, Left, with_name, with_segment, left_of, path_of_segments, without_dot_segments}
use Rattle.iri_resolve.proofs.Places.{before-append-after, before-all, from-has, from-none, Lacks-has}
use Rattle.rdf_terms.proofs.OneLine.{plain_take, Clean, clean_nil, clean_append, clean_cut}

low_slash : 47 < 128
low_slash = omega arith

clean_slash : Clean (47 ∷ [])
unfolding encode
clean_slash = ((47 ∷ [], (refl, refl)), (refl, tt))

clean_colon : Clean (codes ":")
unfolding encode
clean_colon = ((58 ∷ [], (refl, refl)), (refl, tt))

clean_question : Clean (codes "?")
unfolding encode
clean_question = ((63 ∷ [], (refl, refl)), (refl, tt))

clean_hash : Clean (codes "#")
unfolding encode
clean_hash = ((35 ∷ [], (refl, refl)), (refl, tt))

clean_slashes : Clean (codes "//")
clean_slashes = clean_append (47 ∷ []) (47 ∷ []) clean_slash clean_slash

-- before and behind the first such character
clean_after : (m : ℕ) (bs : List ℕ) → m < 128 → has m bs ≡ true → Clean bs → Clean (after m bs)
clean_after m bs low e h = (clean_cut (before m bs) (after m bs) m low (subst Clean (sym (before-append-after m bs e)) h)).1

clean_before : (m : ℕ) (bs : List ℕ) → m < 128 → Clean bs → Clean (before m bs)
clean_before m bs low h = by (has m bs) refl
  where
    by : (b : Bool) → has m bs ≡ b → Clean (before m bs)
    by true e = (clean_cut (before m bs) (after m bs) m low (subst Clean (sym (before-append-after m bs e)) h)).0
    by false e = subst Clean (sym (before-all m bs e)) h

clean_from : (bs : List ℕ) → Clean bs → Clean (from slash bs)
clean_from bs h = by (has slash bs) refl
  where
    by : (b : Bool) → has slash bs ≡ b → Clean (from slash bs)
    by true e = subst Clean (sym (from-has slash bs e)) (clean_append (slash ∷ []) (after slash bs) clean_slash (clean_after slash bs low_slash e h))
    by false e = subst Clean (sym (from-none slash bs (Lacks-has slash bs e))) clean_nil

-- a component that may be missing
abbrev CleanPart : Option (List ℕ) → Type 0
CleanPart None = Unit {0}
CleanPart (Some part) = Clean part

clean_part : (b : Bool) (part : List ℕ) → (b ≡ true → Clean part) → CleanPart (cond b (Some part) None)
clean_part true part h = h refl
clean_part false part h = tt

clean_part_after : (m : ℕ) (bs : List ℕ) → m < 128 → Clean bs → CleanPart (part_after m bs)
clean_part_after m bs low h = clean_part (has m bs) (after m bs) (λ e. clean_after m bs low e h)

after_by : (a b : Bool) (x y front : List ℕ) → (a ≡ true → Clean y) → Clean front → Clean (cond (is_some (cond (a && b) (Some x) None)) y front)
after_by true true x y front k h = k refl
after_by true false x y front k h = h
after_by false b x y front k h = h

clean_after_scheme : (front : List ℕ) → Clean front → Clean (after_scheme front)
clean_after_scheme front h =
    after_by (has colon front) (is_scheme (before colon front)) (before colon front) (after colon front) front (λ e. clean_after colon front (omega arith) e h) h

clean_behind : (bs : List ℕ) → has_authority bs ≡ true → Clean bs → Clean (drop 2 bs)
clean_behind bs e h =
    let s = subst Clean ((starts_is Decides-eqb bs (codes "//") (has_authority bs) refl).0 e) h in
    (clean_cut [] (drop 2 bs) 47 low_slash (clean_cut [] (47 ∷ drop 2 bs) 47 low_slash s).1).1

clean_path : (b : Bool) (bs rest : List ℕ) → (b ≡ true → Clean rest) → Clean bs → Clean (cond b rest bs)
clean_path true bs rest k h = k refl
clean_path false bs rest k h = h

record CleanComponents (c : Components) : Type 0 where
  scheme : CleanPart c.scheme
  authority : CleanPart c.authority
  path : Clean c.path
  query : CleanPart c.query
  fragment : CleanPart c.fragment

clean_components : (text : List ℕ) → Clean text → CleanComponents (components_of text)
clean_components text h =
    let whole = before hash text in
    let front = before question whole in
    let hw : Clean whole = clean_before hash text (omega arith) h in
    let hf : Clean front = clean_before question whole (omega arith) hw in
    let rest = after_scheme front in
    let hr : Clean rest = clean_after_scheme front hf in
    record {
      scheme = clean_part (has colon front && is_scheme (before colon front)) (before colon front) (λ e. clean_before colon front (omega arith) hf);
      authority = clean_part (has_authority rest) (before slash (drop 2 rest)) (λ e. clean_before slash (drop 2 rest) low_slash (clean_behind rest e hr));
      path = clean_path (has_authority rest) rest (from slash (drop 2 rest)) (λ e. clean_from (drop 2 rest) (clean_behind rest e hr)) hr;
      query = clean_part_after question whole (omega arith) hw;
      fragment = clean_part_after hash text (omega arith) h;
    }

marked_before : (mark : List ℕ) (part : Option (List ℕ)) → Clean mark → CleanPart part → Clean (with_mark_before mark part)
marked_before mark None h k = clean_nil
marked_before mark (Some part) h k = clean_append mark part h k

marked_after : (mark : List ℕ) (part : Option (List ℕ)) → Clean mark → CleanPart part → Clean (with_mark_after mark part)
marked_after mark None h k = clean_nil
marked_after mark (Some part) h k = clean_append part mark k h

clean_text : (c : Components) → CleanComponents c → Clean (text_of c)
clean_text c h =
    clean_append _ (with_mark_before (codes "#") c.fragment)
    (clean_append _ (with_mark_before (codes "?") c.query)
    (clean_append _ c.path
    (clean_append (with_mark_after (codes ":") c.scheme) (with_mark_before (codes "//") c.authority) (marked_after (codes ":") c.scheme clean_colon h.scheme) (marked_before (codes "//") c.authority clean_slashes h.authority))
    h.path)
    (marked_before (codes "?") c.query clean_question h.query))
    (marked_before (codes "#") c.fragment clean_hash h.fragment)

-- segments of a path
abbrev AllClean : List (List ℕ) → Type 0
AllClean [] = Unit {0}
AllClean (part ∷ parts) = Clean part × AllClean parts

clean_joined : (parts : List (List ℕ)) → Clean (join_with_byte 47 parts) → AllClean parts
clean_joined [] h = tt
clean_joined (x ∷ []) h = (h, tt)
clean_joined (x ∷ y ∷ parts) h = let c = clean_cut x (join_with_byte 47 (y ∷ parts)) 47 low_slash h in (c.0, clean_joined (y ∷ parts) c.1)

clean_segments : (path : List ℕ) → Clean path → AllClean (segments_of path)
clean_segments path h = clean_joined (segments_of path) (subst Clean (sym (join_with_byte-slice_split 47 path)) h)

chosen : (b : Bool) (xs ys : List (List ℕ)) → AllClean xs → AllClean ys → AllClean (cond b xs ys)
chosen true xs ys h k = h
chosen false xs ys h k = k

clean_after_dots : (segments : List (List ℕ)) → AllClean segments → AllClean (after_leading_dots segments)
clean_after_dots [] h = tt
clean_after_dots (x ∷ xs) h = chosen (is_dot_segment x) (after_leading_dots xs) (x ∷ xs) (clean_after_dots xs h.1) h

clean_with_end : (segments : List (List ℕ)) → AllClean segments → AllClean (with_end segments)
clean_with_end [] h = tt
clean_with_end (x ∷ []) h = chosen (is_dot_segment x) (x ∷ [] ∷ []) (x ∷ []) (h.0, (clean_nil, tt)) h
clean_with_end (x ∷ y ∷ xs) h = (h.0, clean_with_end (y ∷ xs) h.1)

clean_with_name : (segment : List ℕ) (n : ℕ) (segments : List (List ℕ)) → Clean segment → AllClean segments → AllClean (with_name segment n segments).segments
clean_with_name segment zero segments h k = (h, k)
clean_with_name segment (suc n) segments h k = k

clean_with_segment : (segment : List ℕ) (left : Left) → Clean segment → AllClean left.segments → AllClean (with_segment segment left).segments
clean_with_segment segment left h k = by (is_dot segment) (is_dot_dot segment)
  where
    by : (a b : Bool) → AllClean (cond a left (cond b (record { taken_back = suc left.taken_back; segments = left.segments }) (with_name segment left.taken_back left.segments))).segments
    by true b = k
    by false true = k
    by false false = clean_with_name segment left.taken_back left.segments h k

clean_left : (segments : List (List ℕ)) → AllClean segments → AllClean (left_of segments).segments
clean_left [] h = tt
clean_left (x ∷ xs) h = clean_with_segment x (left_of xs) h.0 (clean_left xs h.1)

clean_slashed : (segments : List (List ℕ)) → AllClean segments → Clean (flat_map (λ segment. slash ∷ segment) segments)
clean_slashed [] h = clean_nil
clean_slashed (x ∷ xs) h = clean_append (slash ∷ x) (flat_map (λ segment. slash ∷ segment) xs) (clean_append (slash ∷ []) x clean_slash h.0) (clean_slashed xs h.1)

clean_path_of : (segments : List (List ℕ)) → AllClean segments → Clean (path_of_segments segments)
clean_path_of [] h = clean_nil
clean_path_of (first ∷ segments) h =
    let left = left_of (with_end segments) in
    clean_append (cond (eqb left.taken_back 0) first []) (flat_map (λ segment. slash ∷ segment) left.segments) (by (eqb left.taken_back 0))
    (clean_slashed left.segments (clean_left (with_end segments) (clean_with_end segments h.1)))
  where
    by : (b : Bool) → Clean (cond b first [])
    by true = h.0
    by false = clean_nil

clean_without_dots : (path : List ℕ) → Clean path → Clean (without_dot_segments path)
clean_without_dots path h = clean_path_of (after_leading_dots (segments_of path)) (clean_after_dots (segments_of path) (clean_segments path h))

-- a path up to its last slash
abbrev no_slash : ℕ → Bool
no_slash b = not (eqb b 47)

slash_at : (b : Bool) → not b ≡ false → b ≡ true
slash_at true e = refl
slash_at false e = sym e

up_to : (m : ℕ) (path : List ℕ) → m ≤ length path → ((k : ℕ) → m ≤ k → k < length path → no_slash (get_or path k 0) ≡ true) → Clean path → Clean (take (length path - suffix_len no_slash path) path)
up_to zero path le rest h =
    let e = suffix_len_is no_slash path 0 0 (omega arith) (λ k a l. rest k a l) (λ l. absurd (omega arith)) in
    let n : 0 ≡ length path - suffix_len no_slash path = omega arith in
    subst (λ (i : ℕ). Clean (take i path)) n clean_nil
up_to (suc m) path le rest h = by (no_slash (get_or path m 0)) refl (λ all. up_to m path (omega arith) all h)
  where
    last : no_slash (get_or path m 0) ≡ true → (k : ℕ) → m ≤ k → k < length path → no_slash (get_or path k 0) ≡ true
    last e k a l = ⊎_elim (λ (q : m ≡ k). subst (λ (i : ℕ). no_slash (get_or path i 0) ≡ true) q e) (λ (q : m < k). rest k q l) (eq-or-lt_of_le a)

    by : (b : Bool) → no_slash (get_or path m 0) ≡ b → (((k : ℕ) → m ≤ k → k < length path → no_slash (get_or path k 0) ≡ true) → Clean (take (length path - suffix_len no_slash path) path))
        → Clean (take (length path - suffix_len no_slash path) path)
    by true e earlier = earlier (last e)
    by false e earlier =
        let one : m ≡ suc m - 1 = omega arith in
        let s = suffix_len_is no_slash path (suc m) 0 le rest (λ _. subst (λ (i : ℕ). no_slash (get_or path i 0) ≡ false) one e) in
        let n : m + 1 ≡ length path - suffix_len no_slash path = omega arith in
        let at : get_or path m 0 ≡ 47 = eqb-true (get_or path m 0) 47 (slash_at (eqb (get_or path m 0) 47) e) in
        let bound = IsCharBoundary-after_ascii path m h.0 (omega arith) (omega (arith, at)) in
        subst (λ (i : ℕ). Clean (take i path)) n (IsUtf8-take path (m + 1) h.0 bound, plain_take (m + 1) path h.1)

clean_up_to : (path : List ℕ) → Clean path → Clean (up_to_last_slash path)
clean_up_to path h = up_to (length path) path (le_refl (length path)) (λ k a l. absurd (omega (arith, a, l))) h

clean_merged : (base : Components) (path : List ℕ) → Clean base.path → Clean path → Clean (merged_path base path)
clean_merged base path h k = by (is_some base.authority && is_empty base.path)
  where
    by : (b : Bool) → Clean (cond b (codes "/" ++ path) (up_to_last_slash base.path ++ path))
    by true = clean_append (47 ∷ []) path clean_slash k
    by false = clean_append (up_to_last_slash base.path) path (clean_up_to base.path h) k

chosen_components : (b : Bool) (x y : Components) → CleanComponents x → CleanComponents y → CleanComponents (cond b x y)
chosen_components true x y h k = h
chosen_components false x y h k = k

clean_or : (a b : Option (List ℕ)) → CleanPart a → CleanPart b → CleanPart (option_or a b)
clean_or None b h k = k
clean_or (Some x) b h k = h

clean_target : (base reference : Components) → CleanComponents base → CleanComponents reference → CleanComponents (target base reference)
clean_target base reference h k =
    chosen_components (is_some reference.scheme) reference _ k
    (chosen_components (is_some reference.authority) _ _ (with_parts reference.authority (without_dot_segments reference.path) reference.query k.authority (clean_without_dots reference.path k.path) k.query)
    (chosen_components (is_empty reference.path) _ _ (with_parts base.authority base.path (option_or reference.query base.query) h.authority h.path (clean_or reference.query base.query k.query h.query))
    (chosen_components (is_absolute reference.path) _ _ (with_parts base.authority (without_dot_segments reference.path) reference.query h.authority (clean_without_dots reference.path k.path) k.query)
    (with_parts base.authority (without_dot_segments (merged_path base reference.path)) reference.query h.authority (clean_without_dots (merged_path base reference.path) (clean_merged base reference.path h.path k.path)) k.query))))
  where
    with_parts : (authority : Option (List ℕ)) (path : List ℕ) (query : Option (List ℕ)) → CleanPart authority → Clean path → CleanPart query →
        CleanComponents (target_with base reference authority path query)
    with_parts authority path query a p q = record { scheme = h.scheme; authority = a; path = p; query = q; fragment = k.fragment }

-- a reference that is resolved
pub clean_resolved : (base reference : List ℕ) → Clean base → Clean reference → Clean (resolved_text base reference)
clean_resolved base reference h k =
    clean_text (target (components_of base) (components_of reference)) (clean_target (components_of base) (components_of reference) (clean_components base h) (clean_components reference k))

-- what stands behind the first such character, or nothing where there is none
pub clean_behind_first : (m : ℕ) (bs : List ℕ) → m < 128 → Clean bs → Clean (after m bs)
clean_behind_first m bs low h = by (has m bs) refl
  where
    by : (b : Bool) → has m bs ≡ b → Clean (after m bs)
    by true e = clean_after m bs low e h
    by false e =
        let n : length bs ≤ position_or_len (λ b. eqb b m) bs = grind (arith, nat_tests) in
        subst Clean (sym (drop_all (position_or_len (λ b. eqb b m) bs + 1) bs (omega arith))) clean_nil
