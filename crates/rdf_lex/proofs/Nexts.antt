-- What a scan from a place finds is the longest token there.
use Rattle.std.proofs.Common.{◌≡◌, ℕ, ◌+◌, ◌≤◌, ◌<◌, Bool, true, false, cond, ◌&&◌, List, [], ◌∷◌, ◌++◌, length, take, drop, Option, Some, None, refl, sym, ap, subst, ◌∙◌, arith, length-take, length-drop, ◌⊎◌, inl, inr}
use Rattle.std.specs.Char.{len_utf8}
use Rattle.std.specs.Str.{chars, IsUtf8, IsCharBoundary, NonePass}
use Rattle.std.specs.Prelude.{nat_eq, not}
use Rattle.std.proofs.lemmas.Bool.{eqb-true}
use Rattle.std.proofs.lemmas.List.{drop-drop}
use Rattle.std.proofs.lemmas.Str.{IsUtf8-drop, IsCharBoundary-from_drop, len_utf8_bounds}
use Rattle.rdf_lex.specs.declared.kinds.Kind.{Kind}
use Rattle.rdf_lex.specs.declared.kinds.Mode.{Mode}
use Rattle.rdf_lex.specs.declared.machine.State.TheVariants.{Start}
use Rattle.rdf_lex.specs.declared.lexed.Blank.{Blank}
use Rattle.rdf_lex.specs.declared.lexed.Blank.TheVariants as blank
use Rattle.rdf_lex.specs.declared.lexed.Lexed.{Lexed}
use Rattle.rdf_lex.specs.declared.lexed.Lexed.TheVariants as lexed
use Rattle.rdf_lex.specs.Phrases.{Spells}
use Rattle.rdf_lex.specs.Spelling.{Spelling}
use Rattle.rdf_lex.specs.Tokens.{Blanks, ends, stops, white, comment, block, is_white, ends_line, has_blocks, behind_block, behind_open, behind_comment, IsLineEnd, IsLongest, BeginsNone, IsSkipped, IsFirst, Lexes}
use Rattle.rdf_lex.specs.Scan.{between_step, blank_on, blank_from, scan_from, Next, at_end, at_bad, at_token, next_in, next_of, seen}
use Rattle.rdf_lex.proofs.Cuts.{cut_at}
use Rattle.rdf_lex.proofs.Languages.{heads, and_true}
use Rattle.rdf_lex.proofs.Recognised.{kind_from, to_kind, from_kind}
use Rattle.rdf_lex.proofs.Theorem.{size, HasLongest, Longest, scan_longest}

-- characters in front that take the bytes from n to a place, and what comes behind them
record Leads (Holds : List ℕ → Type 0) (cs : List ℕ) (n place : ℕ) : Type 0 where
  front : List ℕ
  rest : List ℕ
  parts : cs ≡ front ++ rest
  bytes : n + size front ≡ place
  holds : Holds rest

one_more : (P Q : List ℕ → Type 0) (c : ℕ) (cs : List ℕ) (n place : ℕ) → ((rest : List ℕ) → Q rest → P rest) → Leads Q cs (n + len_utf8 c) place → Leads P (c ∷ cs) n place
one_more P Q c cs n place f p = record {
  front = c ∷ p.front;
  rest = p.rest;
  parts = ap (λ (v : List ℕ). c ∷ v) p.parts;
  bytes = (let e = p.bytes in omega arith);
  holds = f p.rest p.holds;
}

no_more : (P : List ℕ → Type 0) (cs : List ℕ) (n place : ℕ) → n ≡ place → P cs → Leads P cs n place
no_more P cs n place e h = record { front = []; rest = cs; parts = refl; bytes = omega arith; holds = h }

-- in a comment to the end of its line, and in one that ends with `*/`
Noted : Mode → List ℕ → List ℕ → Type 0
Noted m cs rest = (note : List ℕ) × (behind : List ℕ) × (cs ≡ note ++ behind) × NonePass ends_line note × IsLineEnd behind × Blanks m behind rest

Ended : Mode → Option (List ℕ) → List ℕ → Type 0
Ended m o rest = (behind : List ℕ) × (o ≡ Some behind) × Blanks m behind rest

-- the comment ends, and white space goes on behind it, or it does not, and white space ended before it
Blocked : Mode → Option (List ℕ) → ℕ → List ℕ → ℕ → ℕ → Type 0
Blocked m o k cs n place = Leads (Ended m o) cs n place ⊎ ((o ≡ None) × (place ≡ k))

-- white space and comments, as the scan passes them
Passed : Mode → Blank → List ℕ → ℕ → ℕ → Type 0
Passed m blank.Between cs n place = Leads (Blanks m cs) cs n place
Passed m blank.Line cs n place = Leads (Noted m cs) cs n place
Passed m (blank.Slash k) cs n place = Blocked m (behind_open (47 ∷ cs)) k cs n place
Passed m (blank.Block k) cs n place = Blocked m (behind_block false cs) k cs n place
Passed m (blank.Star k) cs n place = Blocked m (behind_block true cs) k cs n place

is_true : (b : Bool) → not b ≡ false → b ≡ true
is_true true e = refl
is_true false e = absurd cc

noted : (m : Mode) (c : ℕ) (cs rest : List ℕ) → ends_line c ≡ false → Noted m cs rest → Noted m (c ∷ cs) rest
unfolding Noted
noted m c cs rest e (note, behind, p, none, line, h) = (c ∷ note, behind, ap (λ (v : List ℕ). c ∷ v) p, (e, none), line, h)

line_ended : (m : Mode) (c : ℕ) (cs rest : List ℕ) → ends_line c ≡ true → Blanks m (c ∷ cs) rest → Noted m (c ∷ cs) rest
unfolding Noted
line_ended m c cs rest e h = ([], c ∷ cs, refl, tt, e, h)

hash_begins : (m : Mode) (c : ℕ) (cs rest : List ℕ) → nat_eq c 35 ≡ true → Noted m cs rest → Blanks m (c ∷ cs) rest
unfolding Noted
hash_begins m c cs rest e (note, behind, p, none, line, h) = subst (λ (d : ℕ). Blanks m (d ∷ cs) rest) (sym (eqb-true c 35 e)) (comment note behind p none line h)

slashed : (m : Mode) (c : ℕ) (cs : List ℕ) → has_blocks m ≡ true → nat_eq c 47 ≡ true → behind_comment m (c ∷ cs) ≡ behind_open (47 ∷ cs)
slashed m c cs e f = rw e (ap (λ (x : ℕ). behind_open (x ∷ cs)) (eqb-true c 47 f))

block_begins : (m : Mode) (c : ℕ) (cs rest : List ℕ) → has_blocks m ≡ true → nat_eq c 47 ≡ true → Ended m (behind_open (47 ∷ cs)) rest → Blanks m (c ∷ cs) rest
unfolding Ended
block_begins m c cs rest e f (behind, is, h) = block behind (slashed m c cs e f ∙ is) h

open_none : (c : ℕ) (cs : List ℕ) → nat_eq c 47 ≡ false → behind_open (c ∷ cs) ≡ None
open_none c [] e = refl
open_none c (d ∷ cs) e = rw e refl

comment_none : (m : Mode) (c : ℕ) (cs : List ℕ) (b : Bool) → has_blocks m ≡ b → (has_blocks m && nat_eq c 47) ≡ false → behind_comment m (c ∷ cs) ≡ None
comment_none m c cs false e f = rw e refl
comment_none m c cs true e f = rw e (open_none c cs (let g : nat_eq c 47 ≡ false = (ap (λ (b : Bool). b && nat_eq c 47) (sym e)) ∙ f in g))

pub no_comment : (m : Mode) (c : ℕ) (cs : List ℕ) → nat_eq c 47 ≡ false → behind_comment m (c ∷ cs) ≡ None
no_comment m c cs e = comment_none m c cs (has_blocks m) refl (both (has_blocks m))
  where
    both : (b : Bool) → (b && nat_eq c 47) ≡ false
    both true = e
    both false = refl

-- what comes next is passed from each place
Onward : Mode → List ℕ → ℕ → Type 0
Onward m cs n = (b : Blank) → Passed m b cs n (blank_from m cs b n)

pass_between : (m : Mode) (c : ℕ) (cs : List ℕ) (n : ℕ) (p q r : Bool) → is_white m c ≡ p → nat_eq c 35 ≡ q → (has_blocks m && nat_eq c 47) ≡ r
    → Onward m cs (n + len_utf8 c)
    → Leads (Blanks m (c ∷ cs)) (c ∷ cs) n (blank_on (λ next. blank_from m cs next (n + len_utf8 c)) (cond p (Some blank.Between) (cond q (Some blank.Line) (cond r (Some (blank.Slash n)) None))) n)
unfolding Onward Passed Blocked
pass_between m c cs n true q r e f g ih = one_more (Blanks m (c ∷ cs)) (Blanks m cs) c cs n _ (λ rest h. white e h) (ih blank.Between)
pass_between m c cs n false true r e f g ih = one_more (Blanks m (c ∷ cs)) (Noted m cs) c cs n _ (λ rest h. hash_begins m c cs rest f h) (ih blank.Line)
pass_between m c cs n false false true e f g ih = by (ih (blank.Slash n))
  where
    by : Blocked m (behind_open (47 ∷ cs)) n cs (n + len_utf8 c) (blank_from m cs (blank.Slash n) (n + len_utf8 c)) →
        Leads (Blanks m (c ∷ cs)) (c ∷ cs) n (blank_from m cs (blank.Slash n) (n + len_utf8 c))
    by (inl l) = one_more (Blanks m (c ∷ cs))
        (Ended m (behind_open (47 ∷ cs))) c cs n _ (λ rest h. block_begins m c cs rest (and_true (has_blocks m) (nat_eq c 47) g).0 (and_true (has_blocks m) (nat_eq c 47) g).1 h) l
    by (inr (none, at)) = no_more (Blanks m (c ∷ cs)) (c ∷ cs) n _ (sym at) (stops e f (slashed m c cs (and_true (has_blocks m) (nat_eq c 47) g).0 (and_true (has_blocks m) (nat_eq c 47) g).1 ∙ none))
pass_between m c cs n false false false e f g ih = no_more (Blanks m (c ∷ cs)) (c ∷ cs) n n refl (stops e f (comment_none m c cs (has_blocks m) refl g))

pass_line : (m : Mode) (c : ℕ) (cs : List ℕ) (n : ℕ) (p : Bool) → ends_line c ≡ p → Onward m cs (n + len_utf8 c)
    → Leads (Noted m (c ∷ cs)) (c ∷ cs) n (blank_on (λ next. blank_from m cs next (n + len_utf8 c)) (cond p (between_step m n c) (Some blank.Line)) n)
unfolding Onward Passed
pass_line m c cs n true e ih =
    let l = pass_between m c cs n (is_white m c) (nat_eq c 35) (has_blocks m && nat_eq c 47) refl refl refl ih in
    record { front = l.front; rest = l.rest; parts = l.parts; bytes = l.bytes; holds = line_ended m c cs l.rest e l.holds }
pass_line m c cs n false e ih = one_more (Noted m (c ∷ cs)) (Noted m cs) c cs n _ (λ rest h. noted m c cs rest e h) (ih blank.Line)

-- inside a comment
block_more : (m : Mode) (o all : Option (List ℕ)) (k c : ℕ) (cs : List ℕ) (n place : ℕ) → all ≡ o → Blocked m o k cs (n + len_utf8 c) place → Blocked m all k (c ∷ cs) n place
unfolding Blocked
block_more m o all k c cs n place e (inl l) = inl (one_more (Ended m all) (Ended m o) c cs n place (λ rest h. subst (λ (v : Option (List ℕ)). Ended m v rest) (sym e) h) l)
block_more m o all k c cs n place e (inr (none, at)) = inr (e ∙ none, at)

pass_slash : (m : Mode) (k c : ℕ) (cs : List ℕ) (n : ℕ) (p : Bool) → nat_eq c 42 ≡ p → Onward m cs (n + len_utf8 c)
    → Blocked m (behind_open (47 ∷ c ∷ cs)) k (c ∷ cs) n (blank_on (λ next. blank_from m cs next (n + len_utf8 c)) (cond p (Some (blank.Block k)) None) k)
unfolding Onward Passed Blocked
pass_slash m k c cs n true e ih = block_more m (behind_block false cs) (behind_open (47 ∷ c ∷ cs)) k c cs n _ (rw e refl) (ih (blank.Block k))
pass_slash m k c cs n false e ih = not_ended
  where
    not_ended : Blocked m (behind_open (47 ∷ c ∷ cs)) k (c ∷ cs) n k
    not_ended = inr (rw e refl, refl)

pass_block : (m : Mode) (k c : ℕ) (cs : List ℕ) (n : ℕ) (p : Bool) → nat_eq c 42 ≡ p → Onward m cs (n + len_utf8 c)
    → Blocked m (behind_block p cs) k (c ∷ cs) n (blank_on (λ next. blank_from m cs next (n + len_utf8 c)) (cond p (Some (blank.Star k)) (Some (blank.Block k))) k)
unfolding Onward Passed
pass_block m k c cs n true e ih = block_more m (behind_block true cs) (behind_block true cs) k c cs n _ refl (ih (blank.Star k))
pass_block m k c cs n false e ih = block_more m (behind_block false cs) (behind_block false cs) k c cs n _ refl (ih (blank.Block k))

block_over : (m : Mode) (k c : ℕ) (cs : List ℕ) (n place : ℕ) → Leads (Blanks m cs) cs (n + len_utf8 c) place → Blocked m (Some cs) k (c ∷ cs) n place
unfolding Blocked Ended
block_over m k c cs n place l = inl (one_more (Ended m (Some cs)) (Blanks m cs) c cs n place (λ rest h. (cs, refl, h)) l)

pass_star : (m : Mode) (k c : ℕ) (cs : List ℕ) (n : ℕ) (p q : Bool) → nat_eq c 47 ≡ p → nat_eq c 42 ≡ q → Onward m cs (n + len_utf8 c)
    → Blocked m (cond p (Some cs) (behind_block q cs)) k (c ∷ cs) n
    (blank_on (λ next. blank_from m cs next (n + len_utf8 c)) (cond p (Some blank.Between) (cond q (Some (blank.Star k)) (Some (blank.Block k)))) k)
unfolding Onward Passed
pass_star m k c cs n true q e f ih = block_over m k c cs n _ (ih blank.Between)
pass_star m k c cs n false true e f ih = block_more m (behind_block true cs) (behind_block true cs) k c cs n _ refl (ih (blank.Star k))
pass_star m k c cs n false false e f ih = block_more m (behind_block false cs) (behind_block false cs) k c cs n _ refl (ih (blank.Block k))

pass_end : (m : Mode) (n : ℕ) → Onward m [] n
unfolding Onward Passed Blocked Noted
pass_end m n blank.Between = no_more (Blanks m []) [] n n refl ends
pass_end m n blank.Line = no_more (Noted m []) [] n n refl ([], [], refl, tt, tt, ends)
pass_end m n (blank.Slash k) = inr (refl, refl)
pass_end m n (blank.Block k) = inr (refl, refl)
pass_end m n (blank.Star k) = inr (refl, refl)

pass_by : (m : Mode) (c : ℕ) (cs : List ℕ) (n : ℕ) → Onward m cs (n + len_utf8 c) → Onward m (c ∷ cs) n
unfolding Onward Passed
pass_by m c cs n ih blank.Between = pass_between m c cs n (is_white m c) (nat_eq c 35) (has_blocks m && nat_eq c 47) refl refl refl ih
pass_by m c cs n ih blank.Line = pass_line m c cs n (ends_line c) refl ih
pass_by m c cs n ih (blank.Slash k) = pass_slash m k c cs n (nat_eq c 42) refl ih
pass_by m c cs n ih (blank.Block k) = pass_block m k c cs n (nat_eq c 42) refl ih
pass_by m c cs n ih (blank.Star k) = pass_star m k c cs n (nat_eq c 47) (nat_eq c 42) refl refl ih

passed : (m : Mode) (cs : List ℕ) (n : ℕ) → Onward m cs n
passed m [] n = pass_end m n
passed m (c ∷ cs) n = pass_by m c cs n (passed m cs (n + len_utf8 c))

passed_between : (m : Mode) (cs : List ℕ) → Leads (Blanks m cs) cs 0 (blank_from m cs blank.Between 0)
unfolding Onward Passed
passed_between m cs = passed m cs 0 blank.Between

-- the place behind white space and comments
abbrev pub start_of : Mode → List ℕ → ℕ → ℕ
start_of m source at = at + blank_from m (chars (drop at source)) blank.Between 0

pub skipped : (m : Mode) (source : List ℕ) (at : ℕ) → IsUtf8 source → IsCharBoundary source at → IsSkipped m source at (start_of m source at)
skipped m source at u b =
    let p = passed_between m (chars (drop at source)) in
    let cut = cut_at (drop at source) p.front p.rest (IsUtf8-drop source at u b) p.parts in
    let n : size p.front ≡ blank_from m (chars (drop at source)) blank.Between 0 = (let e = p.bytes in omega arith) in
    let place : drop (size p.front) (drop at source) ≡ drop (start_of m source at) source = drop-drop (size p.front) at source ∙ ap (λ (i : ℕ). drop (at + i) source) n in
    let l = length-drop at source in
    let r = cut.room in
    let within : at ≤ length source = b.0 in
    record {
      onward = omega arith;
      cut = IsCharBoundary-from_drop source (start_of m source at) (omega arith) (subst IsUtf8 place cut.last_utf8);
      blanks = subst (λ (rest : List ℕ). Blanks m (chars (drop at source)) rest) (sym cut.rest_is ∙ ap chars place) p.holds;
    }

-- a longer piece takes more bytes
shorter : (xs ys front rest : List ℕ) → xs ++ ys ≡ front ++ rest → size xs ≤ size front → length xs ≤ length front
shorter [] ys front rest e le = omega arith
shorter (x ∷ xs) ys [] rest e le = let b = len_utf8_bounds x in absurd (omega arith)
shorter (x ∷ xs) ys (f ∷ front) rest e le =
    let h = heads x f (xs ++ ys) (front ++ rest) e in
    let same : len_utf8 x ≡ len_utf8 f = ap len_utf8 h.0 in
    let le2 : size xs ≤ size front = omega arith in
    let ih = shorter xs ys front rest h.1 le2 in omega arith

none_some : (o : Option Kind) (k : Kind) → o ≡ None → o ≡ Some k → ⊥
none_some o k e f = cc

order : (a b : ℕ) → (a ≤ b) ⊎ (b < a)
order a b = grind arith

fits : (m : Mode) (cs : List ℕ) (k j : Kind) (n : ℕ) (l : HasLongest m Start cs k n) (piece behind : List ℕ) → cs ≡ piece ++ behind → Spells (Spelling m j) piece → length piece ≤ length l.front
fits m cs k j n l piece behind e h = by (order (size piece) n)
  where
    by : (size piece ≤ n) ⊎ (n < size piece) → length piece ≤ length l.front
    by (inl le) = let b = l.bytes in shorter piece behind l.front l.rest (sym e ∙ l.parts) (omega arith)
    by (inr lt) = absurd (none_some (kind_from m Start piece) j (l.longest piece behind e lt) (to_kind m j piece h))

longest_is : (m : Mode) (cs : List ℕ) (k : Kind) (n : ℕ) (l : HasLongest m Start cs k n) → IsLongest m cs k l.front
longest_is m cs k n l = record {
  rest = l.rest;
  parts = l.parts;
  spelled = from_kind m k l.front l.of_kind;
  longest = λ j piece behind e h. fits m cs k j n l piece behind e h;
}

length_taken : (bs : List ℕ) (n : ℕ) → n ≤ length bs → length (take n bs) ≡ n
length_taken bs n le = let e = length-take n bs in omega arith

first_is : (m : Mode) (source : List ℕ) (at n : ℕ) (k : Kind) → IsUtf8 source → IsCharBoundary source at → HasLongest m Start (chars (drop (start_of m source at) source)) k n
    → IsFirst m source at k (take n (drop (start_of m source at) source)) (start_of m source at)
first_is m source at n k u b l =
    let start = start_of m source at in
    let s = skipped m source at u b in
    let rest = drop start source in
    let c = cut_at rest l.front l.rest (IsUtf8-drop source start u s.cut) l.parts in
    let len : length (take n rest) ≡ n = length_taken rest n (let r = c.room in let e = l.bytes in omega arith) in
    let text : l.front ≡ chars (take n rest) = sym c.front_is ∙ ap (λ (i : ℕ). chars (take i rest)) l.bytes in
    let on : drop (size l.front) rest ≡ drop (start + length (take n rest)) source = drop-drop (size l.front) start source ∙ ap (λ (i : ℕ). drop (start + i) source) (l.bytes ∙ sym len) in
    record {
      skipped = s;
      longest = subst (λ (t : List ℕ). IsLongest m (chars rest) k t) text (longest_is m (chars rest) k n l);
      lent = ap (λ (i : ℕ). take i rest) (sym len);
      cut = IsCharBoundary-from_drop source (start + length (take n rest))
          (let r = c.room in let e = l.bytes in let d = length-drop start source in let w : start ≤ length source = s.cut.0 in omega arith)
          (subst IsUtf8 on c.last_utf8);
    }

-- the shapes of what a scan answers
token_shape : (rest : List ℕ) (start : ℕ) (o : Option (Kind × ℕ)) (k : Kind) (text : List ℕ) (p : ℕ) → next_in rest start o ≡ at_token k text p
    → (n : ℕ) × (o ≡ Some (k, n)) × (start ≡ p) × (take n rest ≡ text)
token_shape [] start o k text p e = absurd cc
token_shape (b ∷ bs) start None k text p e = absurd cc
token_shape (b ∷ bs) start (Some x) k text p e =
    let q : x.0 ≡ k = cc in (x.1, ap (λ (j : Kind). Some (j, x.1)) q, cc, cc)

bad_shape : (rest : List ℕ) (start : ℕ) (o : Option (Kind × ℕ)) (p : ℕ) → next_in rest start o ≡ at_bad p → (o ≡ None) × (start ≡ p) × (0 < length rest)
bad_shape [] start o p e = absurd cc
bad_shape (b ∷ bs) start None p e = (refl, cc, omega arith)
bad_shape (b ∷ bs) start (Some x) p e = absurd cc

end_shape : (rest : List ℕ) (start : ℕ) (o : Option (Kind × ℕ)) → next_in rest start o ≡ at_end → length rest ≡ 0
end_shape [] start o e = refl
end_shape (b ∷ bs) start None e = absurd cc
end_shape (b ∷ bs) start (Some x) e = absurd cc

found : (m : Mode) (source : List ℕ) (at : ℕ) → Longest m Start (chars (drop (start_of m source at) source)) (scan_from m (chars (drop (start_of m source at) source)) Start None 0)
found m source at = scan_longest m Start (chars (drop (start_of m source at) source)) refl

none_begins : (m : Mode) (cs : List ℕ) → ((xs ys : List ℕ) → cs ≡ xs ++ ys → kind_from m Start xs ≡ None) → BeginsNone m cs
none_begins m cs none j piece behind e h = none_some (kind_from m Start piece) j (none piece behind e) (to_kind m j piece h)

-- what comes next, as a scan sees it
abbrev pub IsNext : Mode → List ℕ → ℕ → Next → Type 0
IsNext m source at (at_token k text place) = IsFirst m source at k text place
IsNext m source at at_end = IsSkipped m source at (length source)
IsNext m source at (at_bad place) = IsSkipped m source at place × (place < length source) × BeginsNone m (chars (drop place source))

pub is_next : (m : Mode) (source : List ℕ) (at : ℕ) (x : Next) → IsUtf8 source → IsCharBoundary source at → x ≡ next_of m source at → IsNext m source at x
unfolding next_of
is_next m source at (at_token k text place) u b e =
    let start = start_of m source at in
    let rest = drop start source in
    let s = token_shape rest start (scan_from m (chars rest) Start None 0) k text place (sym e) in
    let l : HasLongest m Start (chars rest) k s.0 = subst (Longest m Start (chars rest)) s.1 (found m source at) in
    subst (λ (p : ℕ). IsFirst m source at k text p) s.2
    (subst (λ (bytes : List ℕ). IsFirst m source at k bytes start) s.3 (first_is m source at s.0 k u b l))
is_next m source at at_end u b e =
    let start = start_of m source at in
    let rest = drop start source in
    let z = end_shape rest start (scan_from m (chars rest) Start None 0) (sym e) in
    let s = skipped m source at u b in
    let d = length-drop start source in
    let w : start ≤ length source = s.cut.0 in
    let p : start ≡ length source = omega arith in
    subst (IsSkipped m source at) p s
is_next m source at (at_bad place) u b e =
    let start = start_of m source at in
    let rest = drop start source in
    let s = bad_shape rest start (scan_from m (chars rest) Start None 0) place (sym e) in
    let none : Longest m Start (chars rest) None = subst (Longest m Start (chars rest)) s.0 (found m source at) in
    let d = length-drop start source in
    let small : start < length source = (let z = s.2 in omega arith) in
    subst (λ (p : ℕ). IsSkipped m source at p × (p < length source) × BeginsNone m (chars (drop p source))) s.1
    (skipped m source at u b, small, none_begins m (chars rest) none)

pub lexes : (m : Mode) (source : List ℕ) (at : ℕ) (r : Lexed) → IsUtf8 source → IsCharBoundary source at → seen r ≡ next_of m source at → Lexes m source at r
lexes m source at (lexed.Token t) u b e = is_next m source at (at_token t.kind t.text.now t.at) u b e
lexes m source at lexed.End u b e = is_next m source at at_end u b e
lexes m source at (lexed.Bad place) u b e = is_next m source at (at_bad place) u b e
