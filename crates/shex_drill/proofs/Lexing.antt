-- The tokens of a text of ASCII, one by one from its end on.
use Rattle.std.proofs.Common.{◌≡◌, ℕ, ◌+◌, Bool, true, List, [], ◌∷◌, ◌++◌, length, take, drop, length-append, append_assoc, Some, None, refl, sym, ap, ◌∙◌, arith}
use Rattle.std.specs.Prelude.{nat_lt}
use Rattle.std.specs.List.{list_all}
use Rattle.std.specs.Str.{IsAscii, IsUtf8, IsCharBoundary, chars}
use Rattle.std.proofs.Math.Seq.{drop-append_seam, drop-append-add, take-append_seam}
use Rattle.std.proofs.lemmas.Bool.{ltb-true}
use Rattle.std.proofs.lemmas.List.{drop_all}
use Rattle.std.proofs.lemmas.List.Folds.{list_all-append}
use Rattle.std.proofs.lemmas.List.Sums.{AllPass-from_list_all}
use Rattle.std.proofs.lemmas.Str.{chars-IsAscii, IsUtf8-from_ascii, IsCharBoundary-from_drop}
use Rattle.std.proofs.lemmas.Str.Ascii.{IsAscii-from_all}
use Rattle.rdf_cursor.specs.Ahead.{Ahead, finished, token}
use Rattle.rdf_cursor.specs.Streams.{stream_from}
use Rattle.rdf_cursor.proofs.Streams.{stream_next}
use Rattle.rdf_lex.specs.declared.kinds.Kind.{Kind}
use Rattle.rdf_lex.specs.declared.kinds.Mode.{Mode}
use Rattle.rdf_lex.specs.declared.lexed.Blank.TheVariants as blank
use Rattle.rdf_lex.specs.declared.machine.State.TheVariants.{Start}
use Rattle.rdf_lex.specs.Scan.{at_end, at_token, token_at, next_of, blank_from, scan_from}
use Rattle.rdf_lex.specs.Tokens.{Spelled}

abbrev pub is_ascii : ℕ → Bool
is_ascii b = nat_lt b 128

-- all characters of the text are ASCII
abbrev pub is_plain : List ℕ → Bool
is_plain cs = list_all is_ascii cs

pub ascii : (cs : List ℕ) → is_plain cs ≡ true → IsAscii cs
ascii cs e = IsAscii-from_all cs (λ k d lt. ltb-true _ 128 (AllPass-from_list_all is_ascii cs e k d lt))

pub plain_append : (xs ys : List ℕ) → is_plain xs ≡ true → is_plain ys ≡ true → is_plain (xs ++ ys) ≡ true
plain_append xs ys e f = list_all-append is_ascii xs ys ∙ (rw (e, f) refl)

-- behind whatever text of ASCII it stands, this lies ahead of the text
pub record IsLexed (m : Mode) (cs : List ℕ) (ahead : Ahead Spelled) : Type 0 where
  pub plain : is_plain cs ≡ true
  pub ahead_is : (front : List ℕ) → is_plain front ≡ true → stream_from m (front ++ cs) (length front) ≡ ahead

module _ (m : Mode) (front cs : List ℕ) (e : is_plain front ≡ true) (f : is_plain cs ≡ true) where
  utf8 : IsUtf8 (front ++ cs)
  utf8 = IsUtf8-from_ascii (front ++ cs) (ascii (front ++ cs) (plain_append front cs e f))

  behind : drop (length front) (front ++ cs) ≡ cs
  behind = drop-append_seam front cs

  cut : IsCharBoundary (front ++ cs) (length front)
  cut = let l = length-append front cs in IsCharBoundary-from_drop (front ++ cs) (length front) (omega arith) (rw behind (IsUtf8-from_ascii cs (ascii cs f)))

  -- what comes next, by what a scan finds behind the white space
  next_at : (blanks text : List ℕ) (rest : List ℕ) (c : ℕ) (k : Kind) → cs ≡ blanks ++ (c ∷ text ++ rest) → is_plain (c ∷ text ++ rest) ≡ true
      → blank_from m cs blank.Between 0 ≡ length blanks → scan_from m (c ∷ text ++ rest) Start None 0 ≡ Some (k, length (c ∷ text))
      → at_token k (c ∷ text) (length front + length blanks) ≡ next_of m (front ++ cs) (length front)
  unfolding next_of
  next_at blanks text rest c k is plain passed found =
      let from : drop (length front + length blanks) (front ++ cs) ≡ c ∷ text ++ rest = drop-append-add front cs (length blanks) ∙ ap (drop (length blanks)) is
      ∙ drop-append_seam blanks (c ∷ text ++ rest) in
      let read : chars (drop (length front) (front ++ cs)) ≡ cs = ap chars behind ∙ chars-IsAscii cs (ascii cs f) in
      let left : chars (c ∷ text ++ rest) ≡ c ∷ text ++ rest = chars-IsAscii (c ∷ text ++ rest) (ascii (c ∷ text ++ rest) plain) in
      let taken : take (length (c ∷ text)) (c ∷ text ++ rest) ≡ c ∷ text = take-append_seam (c ∷ text) rest in
      let token_is : at_token k (c ∷ text) (length front + length blanks) ≡ token_at m (front ++ cs) (length front + length blanks) = rw (from, left, found, taken) refl in
      token_is ∙ ap (λ n. token_at m (front ++ cs) (length front + n)) (sym passed ∙ ap (λ v. blank_from m v blank.Between 0) (sym read))

  -- the end comes next, behind white space alone
  end_at : blank_from m cs blank.Between 0 ≡ length cs → at_end ≡ next_of m (front ++ cs) (length front)
  unfolding next_of
  end_at passed =
      let from : drop (length front + length cs) (front ++ cs) ≡ [] = drop-append-add front cs (length cs) ∙ drop_all (length cs) cs (omega arith) in
      let read : chars (drop (length front) (front ++ cs)) ≡ cs = ap chars behind ∙ chars-IsAscii cs (ascii cs f) in
      let end_is : at_end ≡ token_at m (front ++ cs) (length front + length cs) = rw from refl in
      end_is ∙ ap (λ n. token_at m (front ++ cs) (length front + n)) (sym passed ∙ ap (λ v. blank_from m v blank.Between 0) (sym read))

-- a token in front, behind white space
pub token_lexed : (m : Mode) (blanks text rest : List ℕ) (c : ℕ) (k : Kind) (ahead : Ahead Spelled) → is_plain blanks ≡ true → is_plain (c ∷ text) ≡ true
    → blank_from m (blanks ++ (c ∷ text ++ rest)) blank.Between 0 ≡ length blanks → scan_from m (c ∷ text ++ rest) Start None 0 ≡ Some (k, length (c ∷ text))
    → IsLexed m rest ahead → IsLexed m (blanks ++ (c ∷ text ++ rest)) (token (record { kind = k; text = c ∷ text }) ahead)
token_lexed m blanks text rest c k ahead eb et passed found lexed =
    let cs = blanks ++ (c ∷ text ++ rest) in
    let plain_text : is_plain (c ∷ text ++ rest) ≡ true = plain_append (c ∷ text) rest et lexed.plain in
    let plain_all : is_plain cs ≡ true = plain_append blanks (c ∷ text ++ rest) eb plain_text in
    record {
      plain = plain_all;
      ahead_is = λ front e. by front e plain_text plain_all;
    }
  where
    by : (front : List ℕ) → is_plain front ≡ true → is_plain (c ∷ text ++ rest) ≡ true → is_plain (blanks ++ (c ∷ text ++ rest)) ≡ true
        → stream_from m (front ++ (blanks ++ (c ∷ text ++ rest))) (length front) ≡ token (record { kind = k; text = c ∷ text }) ahead
    by front e plain_text plain_all =
        let cs = blanks ++ (c ∷ text ++ rest) in
        let passed_text = front ++ (blanks ++ (c ∷ text)) in
        let whole : front ++ cs ≡ passed_text ++ rest = rw (append_assoc front (blanks ++ (c ∷ text)) rest, append_assoc blanks (c ∷ text) rest) refl in
        let size : length front + length blanks + length (c ∷ text) ≡ length passed_text = rw (length-append front (blanks ++ (c ∷ text)), length-append blanks (c ∷ text)) (omega arith) in
        let plain_passed : is_plain passed_text ≡ true = plain_append front (blanks ++ (c ∷ text)) e (plain_append blanks (c ∷ text) eb et) in
        let left : stream_from m (front ++ cs) (length front + length blanks + length (c ∷ text)) ≡ ahead =
        ap (λ v. stream_from m v (length front + length blanks + length (c ∷ text))) whole ∙ ap (stream_from m (passed_text ++ rest)) size ∙ lexed.ahead_is passed_text plain_passed in
        stream_next m (front ++ cs) (utf8 m front cs e plain_all) (length front) (at_token k (c ∷ text) (length front + length blanks)) (cut m front cs e plain_all)
        (next_at m front cs e plain_all blanks text rest c k refl plain_text passed found) ∙ ap (token (record { kind = k; text = c ∷ text })) left

-- nothing but white space
pub end_lexed : (m : Mode) (blanks : List ℕ) → is_plain blanks ≡ true → blank_from m blanks blank.Between 0 ≡ length blanks → IsLexed m blanks finished
end_lexed m blanks e passed = record { plain = e; ahead_is = λ front f. by front f }
  where
    by : (front : List ℕ) → is_plain front ≡ true → stream_from m (front ++ blanks) (length front) ≡ finished
    by front f = stream_next m (front ++ blanks) (utf8 m front blanks f e) (length front) at_end (cut m front blanks f e) (end_at m front blanks f e passed)
