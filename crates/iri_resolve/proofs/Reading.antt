-- Removal of dot segments from left to right gives what is left of the segments.
use Rattle.std.proofs.Common.{◌≡◌, ℕ, zero, suc, Bool, true, false, cond, eqb, List, [], ◌∷◌, ◌++◌, length, ◌<◌, ◌≢◌, refl, sym, ap, ◌∙◌, arith}
use Rattle.std.specs.List.{flat_map, position_or_len}
use Rattle.std.proofs.lemmas.List.{append-nil, append_assoc}
use Rattle.std.proofs.lemmas.List.Splits.{slice_split_first, slice_split_none}
use Rattle.std.proofs.Math.Dec.{eqb-suc-zero}
use Rattle.std.proofs.lemmas.Bool.{ne_eqb}
use Rattle.std.proofs.lemmas.Bool.Decides.{nat_tests}
use Rattle.std.proofs.lemmas.List.Elements.{All-weaker}
use Rattle.iri_resolve.specs.Text.{slash, has, before, after, until_last, Lacks}
use Rattle.iri_resolve.specs.Dots.{segments_of, is_dot, is_dot_dot, is_dot_segment, after_leading_dots, with_end, Left, with_name, with_segment, left_of, path_with, path_of_segments, with_read}
use Rattle.iri_resolve.proofs.Places.{until_last-append, until_last-none, Lacks-before, Lacks-has}

-- the segments that are left, each behind a `/`
abbrev pub behind_slashes : List (List ℕ) → List ℕ
behind_slashes segments = flat_map (λ segment. slash ∷ segment) segments

-- a text without its last n segments
abbrev pub taken_back : ℕ → List ℕ → List ℕ
taken_back zero text = text
taken_back (suc n) text = taken_back n (until_last slash text)

-- what a text so far and what is left of the segments behind it come to
abbrev pub outcome : List ℕ → Left → List ℕ
outcome text left = taken_back left.taken_back text ++ behind_slashes left.segments

taken_back-nil : (n : ℕ) → taken_back n [] ≡ []
taken_back-nil zero = refl
taken_back-nil (suc n) = taken_back-nil n

-- a segment that is kept stands behind the text, or is the first that is taken back
outcome-with_name : (text segment : List ℕ) (n : ℕ) (segments : List (List ℕ)) → Lacks slash segment →
    outcome text (with_name segment n segments) ≡ outcome (text ++ slash ∷ segment) (record { taken_back = n; segments = segments })
outcome-with_name text segment zero segments h = sym (append_assoc text (slash ∷ segment) (behind_slashes segments))
outcome-with_name text segment (suc n) segments h = ap (λ t. taken_back n t ++ behind_slashes segments) (sym (until_last-append slash text segment h))

-- reading a segment in place of leaving it
pub outcome-with_segment : (text segment : List ℕ) (left : Left) → Lacks slash segment → outcome text (with_segment segment left) ≡ outcome (with_read text segment) left
outcome-with_segment text segment left h = go (is_dot segment) (is_dot_dot segment)
  where
    go : (a b : Bool) → outcome text (cond a left (cond b (record { taken_back = suc left.taken_back; segments = left.segments }) (with_name segment left.taken_back left.segments))) ≡
        outcome (cond a text (cond b (until_last slash text) (text ++ slash ∷ segment))) left
    go true b = refl
    go false true = refl
    go false false = outcome-with_name text segment left.taken_back left.segments h

outcome_first : (first : List ℕ) (n : ℕ) (rest : List ℕ) → Lacks slash first → taken_back n first ++ rest ≡ cond (eqb n 0) first [] ++ rest
outcome_first first zero rest h = refl
outcome_first first (suc n) rest h =
    let e : eqb (suc n) 0 ≡ false = eqb-suc-zero n in
    rw e (ap (λ t. t ++ rest) (ap (taken_back n) (until_last-none slash first h) ∙ taken_back-nil n))

-- behind a first segment
pub outcome-first : (first : List ℕ) (left : Left) → Lacks slash first → outcome first left ≡ path_with first left
outcome-first first left h = outcome_first first left.taken_back (behind_slashes left.segments) h

-- the segments of a path with a slash
pub segments_of-has : (path : List ℕ) → has slash path ≡ true → segments_of path ≡ before slash path ∷ segments_of (after slash path)
segments_of-has path e =
    let n : position_or_len (λ b. eqb b slash) path < length path = grind (arith, nat_tests) in
    slice_split_first (λ b. eqb b slash) path 0 n

-- and of one without
pub segments_of-lacks : (path : List ℕ) → has slash path ≡ false → segments_of path ≡ path ∷ []
segments_of-lacks path e =
    slice_split_none (λ b. eqb b slash) path (All-weaker (λ b. b ≢ slash) (λ b. eqb b slash ≡ false) (λ b ne. ne_eqb b slash ne) path (Lacks-has slash path e))

-- there is always one
pub segments_of-cons : (path : List ℕ) → (first : List ℕ) × (more : List (List ℕ)) × (segments_of path ≡ first ∷ more)
segments_of-cons path = go (has slash path) refl
  where
    go : (b : Bool) → has slash path ≡ b → (first : List ℕ) × (more : List (List ℕ)) × (segments_of path ≡ first ∷ more)
    go true e = (_, _, segments_of-has path e)
    go false e = (_, _, segments_of-lacks path e)

pub with_end-cons : (segment path : List ℕ) → with_end (segment ∷ segments_of path) ≡ segment ∷ with_end (segments_of path)
with_end-cons segment path =
    let w = segments_of-cons path in
    ap (λ ss. with_end (segment ∷ ss)) w.2 ∙ ap (λ ss. segment ∷ with_end ss) (sym w.2)

-- the text so far, once a segment that is not the last is read
outcome-more : (text rest path : List ℕ) → has slash rest ≡ true → outcome text (left_of (with_end (segments_of rest))) ≡ path →
    outcome (with_read text (before slash rest)) (left_of (with_end (segments_of (after slash rest)))) ≡ path
outcome-more text rest path e h =
    let behind = after slash rest in
    sym (outcome-with_segment text (before slash rest) (left_of (with_end (segments_of behind))) (Lacks-before slash rest))
    ∙ ap (λ ss. outcome text (left_of ss)) (sym (with_end-cons (before slash rest) behind))
    ∙ ap (λ ss. outcome text (left_of (with_end ss))) (sym (segments_of-has rest e))
    ∙ h

pub outcome-step : (was now segment behind rest path : List ℕ) → has slash rest ≡ true → segment ≡ before slash rest → behind ≡ after slash rest →
    now ≡ with_read was segment → outcome was (left_of (with_end (segments_of rest))) ≡ path → outcome now (left_of (with_end (segments_of behind))) ≡ path
outcome-step was now segment behind rest path e s b n h =
    ap (λ ss. outcome now (left_of (with_end (segments_of ss)))) b
    ∙ ap (λ t. outcome t (left_of (with_end (segments_of (after slash rest))))) (n ∙ ap (with_read was) s)
    ∙ outcome-more was rest path e h

-- and once the last is read, behind which a dot segment leaves a `/`
pub outcome-last : (text rest path : List ℕ) → has slash rest ≡ false → outcome text (left_of (with_end (segments_of rest))) ≡ path →
    with_read text rest ++ cond (is_dot_segment rest) (slash ∷ []) [] ≡ path
outcome-last text rest path e h =
    last text rest (is_dot_segment rest) refl (Lacks-has slash rest e)
    ∙ ap (λ ss. outcome text (left_of (with_end ss))) (sym (segments_of-lacks rest e))
    ∙ h
  where
    last : (text rest : List ℕ) (b : Bool) → is_dot_segment rest ≡ b → Lacks slash rest → with_read text rest ++ cond b (slash ∷ []) [] ≡ outcome text (left_of (cond b (rest ∷ [] ∷ []) (rest ∷ [])))
    last text rest true e h = sym (outcome-with_segment text rest (record { taken_back = 0; segments = [] ∷ [] }) h)
    last text rest false e h = sym (outcome-with_segment text rest (record { taken_back = 0; segments = [] }) h)

-- the start: a path with a slash
pub outcome-start : (path : List ℕ) → has slash path ≡ true → outcome (before slash path) (left_of (with_end (segments_of (after slash path)))) ≡ path_of_segments (segments_of path)
outcome-start path e =
    outcome-first (before slash path) (left_of (with_end (segments_of (after slash path)))) (Lacks-before slash path)
    ∙ ap path_of_segments (sym (segments_of-has path e))

-- and one without
pub path_of_segments-one : (path : List ℕ) → has slash path ≡ false → path_of_segments (segments_of path) ≡ path
path_of_segments-one path e = ap path_of_segments (segments_of-lacks path e) ∙ append-nil path

-- and any other ends that
pub after_leading_dots-end : (path : List ℕ) → has slash path ≡ true → is_dot_segment (before slash path) ≡ false → after_leading_dots (segments_of path) ≡ segments_of path
after_leading_dots-end path e d =
    ap after_leading_dots (segments_of-has path e)
    ∙ ap (λ b. cond b (after_leading_dots (segments_of (after slash path))) (before slash path ∷ segments_of (after slash path))) d
    ∙ sym (segments_of-has path e)

pub after_leading_dots-other : (path : List ℕ) → has slash path ≡ false → is_dot_segment path ≡ false → after_leading_dots (segments_of path) ≡ segments_of path
after_leading_dots-other path e d =
    ap after_leading_dots (segments_of-lacks path e)
    ∙ ap (λ b. cond b [] (path ∷ [])) d
    ∙ sym (segments_of-lacks path e)
