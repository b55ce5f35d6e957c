-- The rules of RFC 3986 section 5.2.4 lead to the path without its dot segments.
use Rattle.std.proofs.Common.{◌≡◌, ◌≢◌, ℕ, zero, suc, ◌≤◌, ◌⊎◌, inl, inr, Bool, true, false, cond, ◌||◌, eqb, List, [], ◌∷◌, ◌++◌, length, get_or, codes, refl, sym, ap, ◌∙◌, subst, arith}
use Rattle.std.specs.List.{onto_first, AllByRecursion}
use Rattle.std.proofs.lemmas.List.{append-nil, length-append}
use Rattle.std.proofs.lemmas.List.Elements.{All-nil, All-cons}
use Rattle.std.proofs.lemmas.Bool.{false≢true, eqb-false, eqb-true}
use Rattle.std.proofs.lemmas.Slice.Eq.{bytes_eq-Decides}
use Rattle.iri_resolve.specs.Text.{slash, has, before, after, until_last, Lacks, BeginsWith}
use Rattle.iri_resolve.specs.Dots.{segments_of, is_dot, is_dot_dot, is_dot_segment, after_leading_dots, with_end, left_of, path_of_segments, without_dot_segments, with_read}
use Rattle.iri_resolve.specs.Removal.{Removes, ends, drops_prefix, drops_dot, drops_last_dot, takes_back, takes_last_back, drops_all, moves, moves_first, IsMoved, RemovalIsByTheRules}
use Rattle.iri_resolve.proofs.Places.{Lacks-before, Lacks-has, before-append-after, before-append, after-append, has-append, has-none}
use Rattle.iri_resolve.proofs.Reading.{outcome, outcome-with_segment, outcome-first, with_end-cons, segments_of-has, segments_of-lacks}

-- what an output and the segments of an input come to
abbrev with_output : List ℕ → List (List ℕ) → List ℕ
with_output output [] = output
with_output output (first ∷ segments) = outcome (output ++ first) (left_of (with_end segments))

abbrev remaining : List ℕ → List ℕ → List ℕ
remaining input output = with_output output (after_leading_dots (segments_of input))

-- a segment before a `/`, and one at the end
segments_of-more : (segment rest : List ℕ) → Lacks slash segment → segments_of (segment ++ slash ∷ rest) ≡ segment ∷ segments_of rest
segments_of-more segment rest h =
    segments_of-has (segment ++ slash ∷ rest) (has-append slash segment rest h)
    ∙ ap (λ t. t ∷ segments_of (after slash (segment ++ slash ∷ rest))) (before-append slash segment rest h)
    ∙ ap (λ t. segment ∷ segments_of t) (after-append slash segment rest h)

segments_of-last : (segment : List ℕ) → Lacks slash segment → segments_of segment ≡ segment ∷ []
segments_of-last segment h = segments_of-lacks segment (has-none slash segment h)

-- a dot segment is one of two texts
dots_are : (name : List ℕ) → is_dot_segment name ≡ true → (name ≡ codes ".") ⊎ (name ≡ codes "..")
dots_are name e = go (is_dot name) (is_dot_dot name) refl refl e
  where
    go : (a b : Bool) → is_dot name ≡ a → is_dot_dot name ≡ b → (a || b) ≡ true → (name ≡ codes ".") ⊎ (name ≡ codes "..")
    go true b p q r = inl ((bytes_eq-Decides name (codes ".")).0 p)
    go false true p q r = inr ((bytes_eq-Decides name (codes "..")).0 q)
    go false false p q r = absurd (false≢true r)

Lacks-dots : (name : List ℕ) → is_dot_segment name ≡ true → Lacks slash name
Lacks-dots name e = go (dots_are name e)
  where
    one : Lacks slash (codes ".")
    one = All-cons (λ b. b ≢ slash) 46 [] (λ q. omega arith) (All-nil (λ b. b ≢ slash))

    go : (name ≡ codes ".") ⊎ (name ≡ codes "..") → Lacks slash name
    go (inl q) = subst (Lacks slash) (sym q) one
    go (inr q) = subst (Lacks slash) (sym q) (All-cons (λ b. b ≢ slash) 46 (codes ".") (λ q. omega arith) one)

-- a segment that is no dot segment is put behind the text
with_read-other : (text segment : List ℕ) → is_dot_segment segment ≡ false → with_read text segment ≡ text ++ slash ∷ segment
with_read-other text segment e = go (is_dot segment) (is_dot_dot segment) e
  where
    go : (a b : Bool) → (a || b) ≡ false → cond a text (cond b (until_last slash text) (text ++ slash ∷ segment)) ≡ text ++ slash ∷ segment
    go true b r = absurd (false≢true (sym r))
    go false true r = absurd (false≢true (sym r))
    go false false r = refl

-- rule 2A: the prefix is passed over
prefix : (dots input output : List ℕ) → is_dot_segment dots ≡ true → remaining (dots ++ slash ∷ input) output ≡ remaining input output
prefix dots input output e =
    ap (λ ss. with_output output (after_leading_dots ss)) (segments_of-more dots input (Lacks-dots dots e))
    ∙ ap (λ b. with_output output (cond b (after_leading_dots (segments_of input)) (dots ∷ segments_of input))) e

-- rule 2D
all_dots : (dots output : List ℕ) → is_dot_segment dots ≡ true → remaining dots output ≡ output
all_dots dots output e =
    ap (λ ss. with_output output (after_leading_dots ss)) (segments_of-last dots (Lacks-dots dots e))
    ∙ ap (λ b. with_output output (cond b [] (dots ∷ []))) e

no_input : (output : List ℕ) → remaining [] output ≡ output
no_input output = append-nil (output ++ []) ∙ append-nil output

-- behind a text, an input that is empty or begins with `/`
behind_text : (text input : List ℕ) (segments : List (List ℕ)) → (input ≡ []) × (segments ≡ []) ⊎ (rest : List ℕ) × (input ≡ slash ∷ rest) ×
    (segments ≡ segments_of rest) → outcome text (left_of (with_end segments)) ≡ remaining input text
behind_text text input segments (inl w) =
    ap (λ ss. outcome text (left_of (with_end ss))) w.1
    ∙ ap (λ t. t ++ []) (sym (append-nil text))
    ∙ ap (λ t. remaining t text) (sym w.0)
behind_text text input segments (inr w) =
    ap (λ ss. outcome text (left_of (with_end ss))) w.2
    ∙ ap (λ t. outcome t (left_of (with_end (segments_of w.0)))) (sym (append-nil text))
    ∙ ap (λ t. remaining t text) (sym w.1)

-- the segments of a segment and such an input
segments_of-moved : (segment input : List ℕ) → IsMoved segment input → (segments : List (List ℕ)) × (segments_of (segment ++ input) ≡ segment ∷ segments) ×
    ((input ≡ []) × (segments ≡ []) ⊎ (rest : List ℕ) × (input ≡ slash ∷ rest) × (segments ≡ segments_of rest))
segments_of-moved segment input m = go m.ends
  where
    go : (input ≡ []) ⊎ BeginsWith input (codes "/") → (segments : List (List ℕ)) × (segments_of (segment ++ input) ≡ segment ∷ segments) ×
        ((input ≡ []) × (segments ≡ []) ⊎ (rest : List ℕ) × (input ≡ slash ∷ rest) × (segments ≡ segments_of rest))
    go (inl e) = ([], ap (λ t. segments_of (segment ++ t)) e ∙ ap segments_of (append-nil segment) ∙ segments_of-last segment m.no_slash, inl (e, refl))
    go (inr w) = (segments_of w.0, ap (λ t. segments_of (segment ++ t)) w.1 ∙ segments_of-more segment w.0 m.no_slash, inr (w.0, w.1, refl))

-- rule 2B, behind any output
dot : (input output : List ℕ) → remaining (codes "/./" ++ input) output ≡ remaining (slash ∷ input) output
dot input output = ap (λ ss. outcome (output ++ []) (left_of ss)) (with_end-cons (codes ".") input)

-- rule 2C
dot_dot : (input output : List ℕ) → remaining (codes "/../" ++ input) output ≡ remaining (slash ∷ input) (until_last slash output)
dot_dot input output =
    ap (λ ss. outcome (output ++ []) (left_of ss)) (with_end-cons (codes "..") input)
    ∙ ap (λ t. outcome (until_last slash t) (left_of (with_end (segments_of input)))) (append-nil output)
    ∙ ap (λ t. outcome t (left_of (with_end (segments_of input)))) (sym (append-nil (until_last slash output)))

last_dot_dot : (output : List ℕ) → remaining (codes "/..") output ≡ remaining (codes "/") (until_last slash output)
last_dot_dot output =
    ap (λ t. until_last slash t ++ codes "/") (append-nil output)
    ∙ ap (λ t. t ++ codes "/") (sym (append-nil (until_last slash output)))

-- rule 2E, with a `/` and without
moved : (segment input output : List ℕ) → IsMoved segment input → remaining (slash ∷ (segment ++ input)) output ≡ remaining input (output ++ slash ∷ segment)
moved segment input output m =
    let w = segments_of-moved segment input m in
    ap (λ ss. outcome (output ++ []) (left_of (with_end ss))) w.1
    ∙ ap (λ t. outcome t (left_of (with_end (segment ∷ w.0)))) (append-nil output)
    ∙ read output segment w.0 m.no_dot_segment m.no_slash
    ∙ behind_text (output ++ slash ∷ segment) input w.0 w.2
  where
    with_end-other : (segment : List ℕ) (segments : List (List ℕ)) → is_dot_segment segment ≡ false → with_end (segment ∷ segments) ≡ segment ∷ with_end segments
    with_end-other segment [] e = ap (λ b. cond b (segment ∷ [] ∷ []) (segment ∷ [])) e
    with_end-other segment (next ∷ segments) e = refl

    read : (output segment : List ℕ) (segments : List (List ℕ)) → is_dot_segment segment ≡ false → Lacks slash segment →
        outcome output (left_of (with_end (segment ∷ segments))) ≡ outcome (output ++ slash ∷ segment) (left_of (with_end segments))
    read output segment segments e h =
        ap (λ ss. outcome output (left_of ss)) (with_end-other segment segments e)
        ∙ outcome-with_segment output segment (left_of (with_end segments)) h
        ∙ ap (λ t. outcome t (left_of (with_end segments))) (with_read-other output segment e)

moved_first : (segment input output : List ℕ) → IsMoved segment input → remaining (segment ++ input) output ≡ remaining input (output ++ segment)
moved_first segment input output m =
    let w = segments_of-moved segment input m in
    ap (λ ss. with_output output (after_leading_dots ss)) w.1
    ∙ ap (λ b. with_output output (cond b (after_leading_dots w.0) (segment ∷ w.0))) m.no_dot_segment
    ∙ behind_text (output ++ segment) input w.0 w.2

-- a result is what remains
pub result_is : (input output result : List ℕ) → Removes input output result → result ≡ remaining input output
result_is _ _ _ (ends {output}) = sym (no_input output)
result_is _ _ _ (drops_prefix dots {input} {output} {result} e r) = result_is input output result r ∙ sym (prefix dots input output e)
result_is _ _ _ (drops_dot {input} {output} {result} r) = result_is (slash ∷ input) output result r ∙ sym (dot input output)
result_is _ _ _ (drops_last_dot {output} {result} r) = result_is (codes "/") output result r
result_is _ _ _ (takes_back {input} {output} {result} r) = result_is (slash ∷ input) (until_last slash output) result r ∙ sym (dot_dot input output)
result_is _ _ _ (takes_last_back {output} {result} r) = result_is (codes "/") (until_last slash output) result r ∙ sym (last_dot_dot output)
result_is _ _ _ (drops_all {dots} {output} {result} e r) = result_is [] output result r ∙ no_input output ∙ sym (all_dots dots output e)
result_is _ _ _ (moves segment input {output} {result} m r) = result_is input (output ++ slash ∷ segment) result r ∙ sym (moved segment input output m)
result_is _ _ _ (moves_first segment input {output} {result} n m r) = result_is input (output ++ segment) result r ∙ sym (moved_first segment input output m)

-- a text up to its first `/`
record Piece (text : List ℕ) : Type 0 where
  segment : List ℕ
  input : List ℕ
  joined : text ≡ segment ++ input
  whole : Lacks slash segment
  next : (input ≡ []) ⊎ BeginsWith input (codes "/")

piece : (text : List ℕ) → Piece text
piece text = go (has slash text) refl
  where
    go : (b : Bool) → has slash text ≡ b → Piece text
    go true e = record {
      segment = before slash text;
      input = slash ∷ after slash text;
      joined = sym (before-append-after slash text e);
      whole = Lacks-before slash text;
      next = inr (after slash text, refl);
    }
    go false e = record { segment = text; input = []; joined = sym (append-nil text); whole = Lacks-has slash text e; next = inl refl }

-- a segment is `.`, `..` or another
kind : (segment : List ℕ) → (segment ≡ codes ".") ⊎ (segment ≡ codes "..") ⊎ (is_dot_segment segment ≡ false)
kind segment = go (is_dot segment) (is_dot_dot segment) refl refl
  where
    go : (a b : Bool) → is_dot segment ≡ a → is_dot_dot segment ≡ b → (segment ≡ codes ".") ⊎ (segment ≡ codes "..") ⊎ (is_dot_segment segment ≡ false)
    go true b p q = inl ((bytes_eq-Decides segment (codes ".")).0 p)
    go false true p q = inr (inl ((bytes_eq-Decides segment (codes "..")).0 q))
    go false false p q = inr (inr (ap (λ b. b || is_dot_dot segment) p ∙ q))

-- the rules lead somewhere from an input and an output
abbrev Leads : List ℕ → List ℕ → Type 0
Leads input output = (result : List ℕ) × Removes input output result

-- a segment at the end of a text, and one before a `/`
at_end : (text segment input given : List ℕ) → text ≡ segment ++ input → segment ≡ given → input ≡ [] → text ≡ given
at_end text segment input given t s i = t ∙ ap (λ ss. ss ++ input) s ∙ ap (λ is. given ++ is) i ∙ append-nil given

at_slash : (text segment input given rest : List ℕ) → text ≡ segment ++ input → segment ≡ given → input ≡ slash ∷ rest → text ≡ given ++ slash ∷ rest
at_slash text segment input given rest t s i = t ∙ ap (λ ss. ss ++ input) s ∙ ap (λ is. given ++ is) i

-- from an input that begins with `/`, if they do from shorter ones
leads_slash : (n : ℕ) (text output : List ℕ) → length text ≤ n → ((input output : List ℕ) → length input ≤ n → Leads input output) → Leads (slash ∷ text) output
leads_slash n text output l shorter = go (piece text) (kind (piece text).segment) (piece text).next
  where
    go : (p : Piece text) → (p.segment ≡ codes ".") ⊎ (p.segment ≡ codes "..") ⊎ (is_dot_segment p.segment ≡ false) → (p.input ≡ []) ⊎ BeginsWith p.input (codes "/") → Leads (slash ∷ text) output
    go p (inl d) (inl i) =
        let e = at_end text p.segment p.input (codes ".") p.joined d i in
        let r = shorter (codes "/") output (omega (arith, ap length e)) in
        subst (λ t. Leads (slash ∷ t) output) (sym e) (r.0, drops_last_dot r.1)
    go p (inl d) (inr w) =
        let e = at_slash text p.segment p.input (codes ".") w.0 p.joined d w.1 in
        let r = shorter (slash ∷ w.0) output (omega (arith, ap length e)) in
        subst (λ t. Leads (slash ∷ t) output) (sym e) (r.0, drops_dot r.1)
    go p (inr (inl d)) (inl i) =
        let e = at_end text p.segment p.input (codes "..") p.joined d i in
        let r = shorter (codes "/") (until_last slash output) (omega (arith, ap length e)) in
        subst (λ t. Leads (slash ∷ t) output) (sym e) (r.0, takes_last_back r.1)
    go p (inr (inl d)) (inr w) =
        let e = at_slash text p.segment p.input (codes "..") w.0 p.joined d w.1 in
        let r = shorter (slash ∷ w.0) (until_last slash output) (omega (arith, ap length e)) in
        subst (λ t. Leads (slash ∷ t) output) (sym e) (r.0, takes_back r.1)
    go p (inr (inr d)) next =
        let r = shorter p.input (output ++ slash ∷ p.segment) (omega (arith, ap length p.joined, length-append p.segment p.input)) in
        subst (λ t. Leads (slash ∷ t) output) (sym p.joined) (r.0, moves p.segment p.input (record { no_slash = p.whole; ends = next; no_dot_segment = d }) r.1)

-- from an input that does not
leads_other : (n b : ℕ) (text output : List ℕ) → eqb b slash ≡ false → length text ≤ n → ((input output : List ℕ) → length input ≤ n → Leads input output) → Leads (b ∷ text) output
leads_other n b text output e l shorter = go (piece (b ∷ text)) (is_dot_segment (piece (b ∷ text)).segment) refl (piece (b ∷ text)).next
  where
    shorter_input : (segment input : List ℕ) → segment ≢ [] → b ∷ text ≡ segment ++ input → length input ≤ n
    shorter_input [] input m j = absurd (m refl)
    shorter_input (x ∷ segment) input m j = omega (arith, ap length j, length-append segment input)

    not_empty : (segment input : List ℕ) → b ∷ text ≡ segment ++ input → (input ≡ []) ⊎ BeginsWith input (codes "/") → segment ≢ []
    not_empty segment input j (inl i) s = absurd (omega (arith, ap length (j ∙ ap (λ t. t ++ input) s ∙ i)))
    not_empty segment input j (inr w) s =
        let q : b ∷ text ≡ slash ∷ w.0 = j ∙ ap (λ t. t ++ input) s ∙ w.1 in
        eqb-false b slash e (ap (λ t. get_or t 0 0) q)

    go : (p : Piece (b ∷ text)) (c : Bool) → is_dot_segment p.segment ≡ c → (p.input ≡ []) ⊎ BeginsWith p.input (codes "/") → Leads (b ∷ text) output
    go p true d (inl i) =
        let q = at_end (b ∷ text) p.segment p.input p.segment p.joined refl i in
        subst (λ t. Leads t output) (sym q) (output, drops_all d ends)
    go p true d (inr w) =
        let q = at_slash (b ∷ text) p.segment p.input p.segment w.0 p.joined refl w.1 in
        let r = shorter w.0 output (omega (arith, ap length q, length-append p.segment (slash ∷ w.0))) in
        subst (λ t. Leads t output) (sym q) (r.0, drops_prefix p.segment d r.1)
    go p false d next =
        let n = not_empty p.segment p.input p.joined next in
        let r = shorter p.input (output ++ p.segment) (shorter_input p.segment p.input n p.joined) in
        subst (λ t. Leads t output) (sym p.joined) (r.0, moves_first p.segment p.input n (record { no_slash = p.whole; ends = next; no_dot_segment = d }) r.1)

leads : (n : ℕ) (input output : List ℕ) → length input ≤ n → Leads input output
leads n [] output l = (output, ends)
leads zero (b ∷ text) output l = absurd (omega arith)
leads (suc n) (b ∷ text) output l = go (eqb b slash) refl (leads n)
  where
    go : (c : Bool) → eqb b slash ≡ c → ((input output : List ℕ) → length input ≤ n → Leads input output) → Leads (b ∷ text) output
    go true e shorter = subst (λ x. Leads (x ∷ text) output) (sym (eqb-true b slash e)) (leads_slash n text output (omega arith) shorter)
    go false e shorter = leads_other n b text output e (omega arith) shorter

-- the segments of a path have no `/`
segments_lack : (path : List ℕ) → AllByRecursion (Lacks slash) (segments_of path)
segments_lack [] = (All-nil (λ b. b ≢ slash), tt)
segments_lack (b ∷ path) = go (eqb b slash) refl (segments_lack path)
  where
    onto : (segments : List (List ℕ)) → b ≢ slash → AllByRecursion (Lacks slash) segments → AllByRecursion (Lacks slash) (onto_first b segments)
    onto [] n h = (All-cons (λ b. b ≢ slash) b [] n (All-nil (λ b. b ≢ slash)), tt)
    onto (first ∷ segments) n h = (All-cons (λ b. b ≢ slash) b first n h.0, h.1)

    go : (c : Bool) → eqb b slash ≡ c → AllByRecursion (Lacks slash) (segments_of path) → AllByRecursion (Lacks slash) (cond c ([] ∷ segments_of path) (onto_first b (segments_of path)))
    go true e h = (All-nil (λ b. b ≢ slash), h)
    go false e h = onto (segments_of path) (eqb-false b slash e) h

-- and with no output before them, they come to the path without dot segments
from_nothing : (segments : List (List ℕ)) → AllByRecursion (Lacks slash) segments → with_output [] (after_leading_dots segments) ≡ path_of_segments (after_leading_dots segments)
from_nothing [] h = refl
from_nothing (segment ∷ segments) h = go (is_dot_segment segment) (from_nothing segments h.1)
  where
    go : (c : Bool) → with_output [] (after_leading_dots segments) ≡ path_of_segments (after_leading_dots segments) →
        with_output [] (cond c (after_leading_dots segments) (segment ∷ segments)) ≡ path_of_segments (cond c (after_leading_dots segments) (segment ∷ segments))
    go true r = r
    go false r = outcome-first segment (left_of (with_end segments)) h.0

remaining-nil : (path : List ℕ) → remaining path [] ≡ without_dot_segments path
remaining-nil path = from_nothing (segments_of path) (segments_lack path)

-- the rules lead to the path without dot segments, and nowhere else
pub removal : RemovalIsByTheRules
removal path result = (
  λ r. result_is path [] result r ∙ remaining-nil path,
  λ e.
      let found = leads (length path) path [] (omega arith) in
      subst (λ t. Removes path [] t) (result_is path [] found.0 found.1 ∙ remaining-nil path ∙ sym e) found.1,
)
