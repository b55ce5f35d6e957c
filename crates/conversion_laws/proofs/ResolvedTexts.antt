-- A reference that is resolved is UTF-8 where it and the base are.
use Rattle.std.proofs.Common.{◌≡◌, ℕ, zero, suc, ◌+◌, ◌-◌, ◌<◌, ◌≤◌, Bool, true, false, cond, eqb, not, List, [], ◌∷◌, ◌++◌, length, take, drop, get_or, codes, flat_map, Option, Some, None, is_some, refl, sym, ap, subst, ◌∙◌, take_at, drop_at, append_assoc, length-append, arith, ◌&&◌, le_refl, eq-or-lt_of_le, ⊎_elim}
use Rattle.std.specs.List.{join_with_byte, suffix_len, position_or_len}
use Rattle.std.specs.Option.{option_or}
use Rattle.std.proofs.lemmas.Bool.{eqb-true}
use Rattle.std.proofs.lemmas.Bool.Decides.{Decides-eqb, nat_tests}
use Rattle.std.proofs.lemmas.List.{drop_all, get_or_at}
use Rattle.std.proofs.lemmas.List.Splits.{join_with_byte-slice_split}
use Rattle.std.proofs.lemmas.List.Sums.{suffix_len_is}
use Rattle.std.proofs.lemmas.Slice.Eq.{starts_is}
use Rattle.std.proofs.lemmas.Str.{IsUtf8-append, IsUtf8-drop, IsUtf8-from_ascii, IsUtf8-nil, IsUtf8-take, IsCharBoundary-after_ascii, IsCharBoundary-before_ascii}
use Rattle.std.specs.Str.{IsUtf8}
use Rattle.iri_resolve.specs.Text.{colon, slash, question, hash, has, before, after, part_after, from}
use Rattle.iri_resolve.specs.Reference.{Components, components_of, is_scheme, after_scheme, has_authority}
use Rattle.iri_resolve.specs.Resolution.{with_mark_before, with_mark_after, text_of, is_empty, is_absolute, up_to_last_slash, merged_path, target_with, target, resolved_text}
use Rattle.iri_resolve.specs.Dots.{segments_of, is_dot, is_dot_dot, is_dot_segment, after_leading_dots, with_end, Left, with_name, with_segment, left_of, path_of_segments, without_dot_segments}
use Rattle.rdf_terms.proofs.Characters.{ascii_codes, is_ascii}
use Rattle.iri_resolve.proofs.Places.{before-append-after, before-all, from-has, from-none, Lacks-has}

-- on both sides of a character of ASCII
utf8_cut : (xs ys : List ℕ) (c : ℕ) → c < 128 → IsUtf8 (xs ++ c ∷ ys) → IsUtf8 xs × IsUtf8 ys
utf8_cut xs ys c low u =
    let bs = xs ++ c ∷ ys in
    let at : get_or bs (length xs) 0 ≡ c = get_or_at xs c ys 0 (length xs) refl in
    let size : length bs ≡ length xs + length (c ∷ ys) = length-append xs (c ∷ ys) in
    let lt : length xs < length bs = omega arith in
    let byte : get_or bs (length xs) 0 < 128 = omega arith in
    let front = IsUtf8-take bs (length xs) u (IsCharBoundary-before_ascii bs (length xs) lt byte) in
    let back = IsUtf8-drop bs (length xs + 1) u (IsCharBoundary-after_ascii bs (length xs) u lt byte) in
    let rest : drop (length xs + 1) bs ≡ ys = ap (drop (length xs + 1)) (sym (append_assoc xs (c ∷ []) ys)) ∙ drop_at (xs ++ c ∷ []) ys (length xs + 1) (length-append xs (c ∷ [])) in
    (subst IsUtf8 (take_at xs (c ∷ ys) (length xs) refl) front, subst IsUtf8 rest back)

ascii_utf8 : (bs : List ℕ) → is_ascii bs ≡ true → IsUtf8 bs
ascii_utf8 bs e = IsUtf8-from_ascii bs (ascii_codes bs e)

low_slash : 47 < 128
low_slash = omega arith

utf8_slash : IsUtf8 (47 ∷ [])
utf8_slash = ascii_utf8 (47 ∷ []) refl

utf8_colon : IsUtf8 (codes ":")
utf8_colon = ascii_utf8 (58 ∷ []) refl

utf8_question : IsUtf8 (codes "?")
utf8_question = ascii_utf8 (63 ∷ []) refl

utf8_hash : IsUtf8 (codes "#")
utf8_hash = ascii_utf8 (35 ∷ []) refl

utf8_slashes : IsUtf8 (codes "//")
utf8_slashes = IsUtf8-append (47 ∷ []) (47 ∷ []) utf8_slash utf8_slash

-- before and behind the first such character
utf8_after : (m : ℕ) (bs : List ℕ) → m < 128 → has m bs ≡ true → IsUtf8 bs → IsUtf8 (after m bs)
utf8_after m bs low e h = (utf8_cut (before m bs) (after m bs) m low (subst IsUtf8 (sym (before-append-after m bs e)) h)).1

utf8_before : (m : ℕ) (bs : List ℕ) → m < 128 → IsUtf8 bs → IsUtf8 (before m bs)
utf8_before m bs low h = by (has m bs) refl
  where
    by : (b : Bool) → has m bs ≡ b → IsUtf8 (before m bs)
    by true e = (utf8_cut (before m bs) (after m bs) m low (subst IsUtf8 (sym (before-append-after m bs e)) h)).0
    by false e = subst IsUtf8 (sym (before-all m bs e)) h

utf8_from : (bs : List ℕ) → IsUtf8 bs → IsUtf8 (from slash bs)
utf8_from bs h = by (has slash bs) refl
  where
    by : (b : Bool) → has slash bs ≡ b → IsUtf8 (from slash bs)
    by true e = subst IsUtf8 (sym (from-has slash bs e)) (IsUtf8-append (slash ∷ []) (after slash bs) utf8_slash (utf8_after slash bs low_slash e h))
    by false e = subst IsUtf8 (sym (from-none slash bs (Lacks-has slash bs e))) IsUtf8-nil

-- a component that may be missing
abbrev IsUtf8Part : Option (List ℕ) → Type 0
IsUtf8Part None = Unit {0}
IsUtf8Part (Some part) = IsUtf8 part

utf8_part : (b : Bool) (part : List ℕ) → (b ≡ true → IsUtf8 part) → IsUtf8Part (cond b (Some part) None)
utf8_part true part h = h refl
utf8_part false part h = tt

utf8_part_after : (m : ℕ) (bs : List ℕ) → m < 128 → IsUtf8 bs → IsUtf8Part (part_after m bs)
utf8_part_after m bs low h = utf8_part (has m bs) (after m bs) (λ e. utf8_after m bs low e h)

after_by : (a b : Bool) (x y front : List ℕ) → (a ≡ true → IsUtf8 y) → IsUtf8 front → IsUtf8 (cond (is_some (cond (a && b) (Some x) None)) y front)
after_by true true x y front k h = k refl
after_by true false x y front k h = h
after_by false b x y front k h = h

utf8_after_scheme : (front : List ℕ) → IsUtf8 front → IsUtf8 (after_scheme front)
utf8_after_scheme front h =
    after_by (has colon front) (is_scheme (before colon front)) (before colon front) (after colon front) front (λ e. utf8_after colon front (omega arith) e h) h

utf8_behind : (bs : List ℕ) → has_authority bs ≡ true → IsUtf8 bs → IsUtf8 (drop 2 bs)
utf8_behind bs e h =
    let s = subst IsUtf8 ((starts_is Decides-eqb bs (codes "//") (has_authority bs) refl).0 e) h in
    (utf8_cut [] (drop 2 bs) 47 low_slash (utf8_cut [] (47 ∷ drop 2 bs) 47 low_slash s).1).1

utf8_path : (b : Bool) (bs rest : List ℕ) → (b ≡ true → IsUtf8 rest) → IsUtf8 bs → IsUtf8 (cond b rest bs)
utf8_path true bs rest k h = k refl
utf8_path false bs rest k h = h

record AreUtf8Components (c : Components) : Type 0 where
  scheme : IsUtf8Part c.scheme
  authority : IsUtf8Part c.authority
  path : IsUtf8 c.path
  query : IsUtf8Part c.query
  fragment : IsUtf8Part c.fragment

utf8_components : (text : List ℕ) → IsUtf8 text → AreUtf8Components (components_of text)
utf8_components text h =
    let whole = before hash text in
    let front = before question whole in
    let hw : IsUtf8 whole = utf8_before hash text (omega arith) h in
    let hf : IsUtf8 front = utf8_before question whole (omega arith) hw in
    let rest = after_scheme front in
    let hr : IsUtf8 rest = utf8_after_scheme front hf in
    record {
      scheme = utf8_part (has colon front && is_scheme (before colon front)) (before colon front) (λ e. utf8_before colon front (omega arith) hf);
      authority = utf8_part (has_authority rest) (before slash (drop 2 rest)) (λ e. utf8_before slash (drop 2 rest) low_slash (utf8_behind rest e hr));
      path = utf8_path (has_authority rest) rest (from slash (drop 2 rest)) (λ e. utf8_from (drop 2 rest) (utf8_behind rest e hr)) hr;
      query = utf8_part_after question whole (omega arith) hw;
      fragment = utf8_part_after hash text (omega arith) h;
    }

marked_before : (mark : List ℕ) (part : Option (List ℕ)) → IsUtf8 mark → IsUtf8Part part → IsUtf8 (with_mark_before mark part)
marked_before mark None h k = IsUtf8-nil
marked_before mark (Some part) h k = IsUtf8-append mark part h k

marked_after : (mark : List ℕ) (part : Option (List ℕ)) → IsUtf8 mark → IsUtf8Part part → IsUtf8 (with_mark_after mark part)
marked_after mark None h k = IsUtf8-nil
marked_after mark (Some part) h k = IsUtf8-append part mark k h

utf8_text : (c : Components) → AreUtf8Components c → IsUtf8 (text_of c)
utf8_text c h =
    IsUtf8-append _ (with_mark_before (codes "#") c.fragment)
    (IsUtf8-append _ (with_mark_before (codes "?") c.query)
    (IsUtf8-append _ c.path
    (IsUtf8-append (with_mark_after (codes ":") c.scheme) (with_mark_before (codes "//") c.authority) (marked_after (codes ":") c.scheme utf8_colon h.scheme) (marked_before (codes "//") c.authority utf8_slashes h.authority))
    h.path)
    (marked_before (codes "?") c.query utf8_question h.query))
    (marked_before (codes "#") c.fragment utf8_hash h.fragment)

-- segments of a path
abbrev AreAllUtf8 : List (List ℕ) → Type 0
AreAllUtf8 [] = Unit {0}
AreAllUtf8 (part ∷ parts) = IsUtf8 part × AreAllUtf8 parts

utf8_joined : (parts : List (List ℕ)) → IsUtf8 (join_with_byte 47 parts) → AreAllUtf8 parts
utf8_joined [] h = tt
utf8_joined (x ∷ []) h = (h, tt)
utf8_joined (x ∷ y ∷ parts) h = let c = utf8_cut x (join_with_byte 47 (y ∷ parts)) 47 low_slash h in (c.0, utf8_joined (y ∷ parts) c.1)

utf8_segments : (path : List ℕ) → IsUtf8 path → AreAllUtf8 (segments_of path)
utf8_segments path h = utf8_joined (segments_of path) (subst IsUtf8 (sym (join_with_byte-slice_split 47 path)) h)

chosen : (b : Bool) (xs ys : List (List ℕ)) → AreAllUtf8 xs → AreAllUtf8 ys → AreAllUtf8 (cond b xs ys)
chosen true xs ys h k = h
chosen false xs ys h k = k

utf8_after_dots : (segments : List (List ℕ)) → AreAllUtf8 segments → AreAllUtf8 (after_leading_dots segments)
utf8_after_dots [] h = tt
utf8_after_dots (x ∷ xs) h = chosen (is_dot_segment x) (after_leading_dots xs) (x ∷ xs) (utf8_after_dots xs h.1) h

utf8_with_end : (segments : List (List ℕ)) → AreAllUtf8 segments → AreAllUtf8 (with_end segments)
utf8_with_end [] h = tt
utf8_with_end (x ∷ []) h = chosen (is_dot_segment x) (x ∷ [] ∷ []) (x ∷ []) (h.0, (IsUtf8-nil, tt)) h
utf8_with_end (x ∷ y ∷ xs) h = (h.0, utf8_with_end (y ∷ xs) h.1)

utf8_with_name : (segment : List ℕ) (n : ℕ) (segments : List (List ℕ)) → IsUtf8 segment → AreAllUtf8 segments → AreAllUtf8 (with_name segment n segments).segments
utf8_with_name segment zero segments h k = (h, k)
utf8_with_name segment (suc n) segments h k = k

utf8_with_segment : (segment : List ℕ) (left : Left) → IsUtf8 segment → AreAllUtf8 left.segments → AreAllUtf8 (with_segment segment left).segments
utf8_with_segment segment left h k = by (is_dot segment) (is_dot_dot segment)
  where
    by : (a b : Bool) → AreAllUtf8 (cond a left (cond b (record { taken_back = suc left.taken_back; segments = left.segments }) (with_name segment left.taken_back left.segments))).segments
    by true b = k
    by false true = k
    by false false = utf8_with_name segment left.taken_back left.segments h k

utf8_left : (segments : List (List ℕ)) → AreAllUtf8 segments → AreAllUtf8 (left_of segments).segments
utf8_left [] h = tt
utf8_left (x ∷ xs) h = utf8_with_segment x (left_of xs) h.0 (utf8_left xs h.1)

utf8_slashed : (segments : List (List ℕ)) → AreAllUtf8 segments → IsUtf8 (flat_map (λ segment. slash ∷ segment) segments)
utf8_slashed [] h = IsUtf8-nil
utf8_slashed (x ∷ xs) h = IsUtf8-append (slash ∷ x) (flat_map (λ segment. slash ∷ segment) xs) (IsUtf8-append (slash ∷ []) x utf8_slash h.0) (utf8_slashed xs h.1)

utf8_path_of : (segments : List (List ℕ)) → AreAllUtf8 segments → IsUtf8 (path_of_segments segments)
utf8_path_of [] h = IsUtf8-nil
utf8_path_of (first ∷ segments) h =
    let left = left_of (with_end segments) in
    IsUtf8-append (cond (eqb left.taken_back 0) first []) (flat_map (λ segment. slash ∷ segment) left.segments) (by (eqb left.taken_back 0))
    (utf8_slashed left.segments (utf8_left (with_end segments) (utf8_with_end segments h.1)))
  where
    by : (b : Bool) → IsUtf8 (cond b first [])
    by true = h.0
    by false = IsUtf8-nil

utf8_without_dots : (path : List ℕ) → IsUtf8 path → IsUtf8 (without_dot_segments path)
utf8_without_dots path h = utf8_path_of (after_leading_dots (segments_of path)) (utf8_after_dots (segments_of path) (utf8_segments path h))

-- a path up to its last slash
abbrev no_slash : ℕ → Bool
no_slash b = not (eqb b 47)

slash_at : (b : Bool) → not b ≡ false → b ≡ true
slash_at true e = refl
slash_at false e = sym e

up_to : (m : ℕ) (path : List ℕ) → m ≤ length path → ((k : ℕ) → m ≤ k → k < length path → no_slash (get_or path k 0) ≡ true) → IsUtf8 path → IsUtf8 (take (length path - suffix_len no_slash path) path)
up_to zero path le rest h =
    let e = suffix_len_is no_slash path 0 0 (omega arith) (λ k a l. rest k a l) (λ l. absurd (omega arith)) in
    let n : 0 ≡ length path - suffix_len no_slash path = omega arith in
    subst (λ (i : ℕ). IsUtf8 (take i path)) n IsUtf8-nil
up_to (suc m) path le rest h = by (no_slash (get_or path m 0)) refl (λ all. up_to m path (omega arith) all h)
  where
    last : no_slash (get_or path m 0) ≡ true → (k : ℕ) → m ≤ k → k < length path → no_slash (get_or path k 0) ≡ true
    last e k a l = ⊎_elim (λ (q : m ≡ k). subst (λ (i : ℕ). no_slash (get_or path i 0) ≡ true) q e) (λ (q : m < k). rest k q l) (eq-or-lt_of_le a)

    by : (b : Bool) → no_slash (get_or path m 0) ≡ b → (((k : ℕ) → m ≤ k → k < length path → no_slash (get_or path k 0) ≡ true) → IsUtf8 (take (length path - suffix_len no_slash path) path))
        → IsUtf8 (take (length path - suffix_len no_slash path) path)
    by true e earlier = earlier (last e)
    by false e earlier =
        let one : m ≡ suc m - 1 = omega arith in
        let s = suffix_len_is no_slash path (suc m) 0 le rest (λ _. subst (λ (i : ℕ). no_slash (get_or path i 0) ≡ false) one e) in
        let n : m + 1 ≡ length path - suffix_len no_slash path = omega arith in
        let at : get_or path m 0 ≡ 47 = eqb-true (get_or path m 0) 47 (slash_at (eqb (get_or path m 0) 47) e) in
        let bound = IsCharBoundary-after_ascii path m h (omega arith) (omega (arith, at)) in
        subst (λ (i : ℕ). IsUtf8 (take i path)) n (IsUtf8-take path (m + 1) h bound)

utf8_up_to : (path : List ℕ) → IsUtf8 path → IsUtf8 (up_to_last_slash path)
utf8_up_to path h = up_to (length path) path (le_refl (length path)) (λ k a l. absurd (omega (arith, a, l))) h

utf8_merged : (base : Components) (path : List ℕ) → IsUtf8 base.path → IsUtf8 path → IsUtf8 (merged_path base path)
utf8_merged base path h k = by (is_some base.authority && is_empty base.path)
  where
    by : (b : Bool) → IsUtf8 (cond b (codes "/" ++ path) (up_to_last_slash base.path ++ path))
    by true = IsUtf8-append (47 ∷ []) path utf8_slash k
    by false = IsUtf8-append (up_to_last_slash base.path) path (utf8_up_to base.path h) k

chosen_components : (b : Bool) (x y : Components) → AreUtf8Components x → AreUtf8Components y → AreUtf8Components (cond b x y)
chosen_components true x y h k = h
chosen_components false x y h k = k

utf8_or : (a b : Option (List ℕ)) → IsUtf8Part a → IsUtf8Part b → IsUtf8Part (option_or a b)
utf8_or None b h k = k
utf8_or (Some x) b h k = h

utf8_target : (base reference : Components) → AreUtf8Components base → AreUtf8Components reference → AreUtf8Components (target base reference)
utf8_target base reference h k =
    chosen_components (is_some reference.scheme) reference _ k
    (chosen_components (is_some reference.authority) _ _ (with_parts reference.authority (without_dot_segments reference.path) reference.query k.authority (utf8_without_dots reference.path k.path) k.query)
    (chosen_components (is_empty reference.path) _ _ (with_parts base.authority base.path (option_or reference.query base.query) h.authority h.path (utf8_or reference.query base.query k.query h.query))
    (chosen_components (is_absolute reference.path) _ _ (with_parts base.authority (without_dot_segments reference.path) reference.query h.authority (utf8_without_dots reference.path k.path) k.query)
    (with_parts base.authority (without_dot_segments (merged_path base reference.path)) reference.query h.authority (utf8_without_dots (merged_path base reference.path) (utf8_merged base reference.path h.path k.path)) k.query))))
  where
    with_parts : (authority : Option (List ℕ)) (path : List ℕ) (query : Option (List ℕ)) → IsUtf8Part authority → IsUtf8 path → IsUtf8Part query →
        AreUtf8Components (target_with base reference authority path query)
    with_parts authority path query a p q = record { scheme = h.scheme; authority = a; path = p; query = q; fragment = k.fragment }

-- a reference that is resolved
pub resolved_utf8 : (base reference : List ℕ) → IsUtf8 base → IsUtf8 reference → IsUtf8 (resolved_text base reference)
resolved_utf8 base reference h k =
    utf8_text (target (components_of base) (components_of reference)) (utf8_target (components_of base) (components_of reference) (utf8_components base h) (utf8_components reference k))

-- what stands behind the first such character, or nothing where there is none
pub behind_utf8 : (m : ℕ) (bs : List ℕ) → m < 128 → IsUtf8 bs → IsUtf8 (after m bs)
behind_utf8 m bs low h = by (has m bs) refl
  where
    by : (b : Bool) → has m bs ≡ b → IsUtf8 (after m bs)
    by true e = utf8_after m bs low e h
    by false e =
        let n : length bs ≤ position_or_len (λ b. eqb b m) bs = grind (arith, nat_tests) in
        subst IsUtf8 (sym (drop_all (position_or_len (λ b. eqb b m) bs + 1) bs (omega arith))) IsUtf8-nil
