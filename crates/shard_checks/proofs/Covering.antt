-- The fields of a line are its triple's terms, and what is not missing is there.
use Rattle.std.proofs.Common.{◌≡◌, ◌∙◌, ◌&&◌, ◌||◌, ◌++◌, ◌+◌, ◌-◌, ℕ, List, [], ◌∷◌, refl, arith, sym, subst, ap, append_assoc, Bool, true, false, true≢false, cond, drop, length, map, not, take}
use Rattle.std.proofs.lemmas.List.{drop_at, length-append, take_at}
use Rattle.std.proofs.lemmas.List.Recursion.{is_position_or_len}
use Rattle.std.proofs.lemmas.Slice.Eq.{bytes_eq-Decides}
use Rattle.std.specs.List.{after_first, before_first, position_or_len}
use Rattle.std.specs.Prelude.{Contains, Some, codes, slice_get}
use Rattle.std.specs.Str.{bytes_eq}
use Rattle.graph_index.specs.declared.loading.TermTriple.{TermTriple}
use Rattle.lists.proofs.Filters.{filter_has}
use Rattle.lists.proofs.Members.{any_true, got_in, in_map, is_first, is_later, not_in_none}
use Rattle.part_laws.specs.Texts.{Data, PartsAnswerAlike, Says}
use Rattle.rdf_terms.specs.declared.terms.Term.{Term}
use Rattle.schema_tree.specs.declared.schema.Schema.{Schema}
use Rattle.shard_checks.specs.Cover.{is_read_at, missing}
use Rattle.shard_checks.specs.Laws.{AreLinesOf, AreToldApart, CoversAreEnough, HasNoSpace, ShardsAnswerAlike, line_of, text_of}
use Rattle.shard_checks.specs.Lines.{is_among, is_space, object_of, predicate_of, subject_of, without_end}

-- ---- a text that is cut at its first space

place : (ℕ → Bool) → List ℕ → ℕ
place p [] = 0
place p (x ∷ xs) = cond (p x) 0 (1 + place p xs)

place_is : (p : ℕ → Bool) (xs : List ℕ) → place p xs ≡ position_or_len p xs
unfolding place
place_is p xs = is_position_or_len (place p) p refl (λ x ys. refl) xs

place_behind : (xs ys : List ℕ) → HasNoSpace xs → place is_space (xs ++ 32 ∷ ys) ≡ length xs
unfolding place
place_behind [] ys h = refl
place_behind (x ∷ xs) ys h = let deeper = place_behind xs ys h.1 in (λ i. cond (h.0 i) 0 (1 + place is_space (xs ++ 32 ∷ ys))) ∙ omega (arith, deeper)

position_behind : (xs ys : List ℕ) → HasNoSpace xs → position_or_len is_space (xs ++ 32 ∷ ys) ≡ length xs
position_behind xs ys h = sym (place_is is_space (xs ++ 32 ∷ ys)) ∙ place_behind xs ys h

before_is : (xs ys : List ℕ) → HasNoSpace xs → before_first is_space (xs ++ 32 ∷ ys) ≡ xs
before_is xs ys h = ap (λ n. take n (xs ++ 32 ∷ ys)) (position_behind xs ys h) ∙ take_at xs (32 ∷ ys) (length xs) refl

after_is : (xs ys : List ℕ) → HasNoSpace xs → after_first is_space (xs ++ 32 ∷ ys) ≡ ys
after_is xs ys h =
    ap (λ n. drop (n + 1) (xs ++ 32 ∷ ys)) (position_behind xs ys h)
    ∙ ap (λ zs. drop (length xs + 1) zs) (sym (append_assoc xs (32 ∷ []) ys))
    ∙ drop_at (xs ++ 32 ∷ []) ys (length xs + 1) (length-append xs (32 ∷ []))

-- ---- the fields of a line

module _ (a b c : List ℕ) (ha : HasNoSpace a) (hb : HasNoSpace b) where
  abbrev whole_line : List ℕ
  whole_line = a ++ (codes " " ++ (b ++ (codes " " ++ (c ++ codes " ."))))

  behind : after_first is_space whole_line ≡ b ++ (codes " " ++ (c ++ codes " ."))
  behind = after_is a (b ++ (codes " " ++ (c ++ codes " ."))) ha

  subject_is : subject_of whole_line ≡ a
  subject_is = before_is a (b ++ (codes " " ++ (c ++ codes " ."))) ha

  predicate_is : predicate_of whole_line ≡ b
  predicate_is = ap (before_first is_space) behind ∙ before_is b (c ++ codes " .") hb

  object_is : object_of whole_line ≡ c
  object_is =
      ap (λ zs. without_end (after_first is_space zs)) behind ∙ ap without_end (after_is b (c ++ codes " .") hb)
      ∙ take_at c (codes " .") (length (c ++ codes " .") - 2) (let e = length-append c (codes " .") in omega (arith, e))

-- ---- texts among texts

among : (x : List ℕ) (xs : List (List ℕ)) → Contains xs x → is_among x xs ≡ true
among x xs c = any_true (λ other. bytes_eq other x) xs x c ((bytes_eq-Decides x x).1 refl)

is_there : (x : List ℕ) (xs : List (List ℕ)) → is_among x xs ≡ true → Contains xs x
is_there x [] e = absurd (true≢false (sym e))
is_there x (y ∷ ys) e = by (bytes_eq y x) refl e (is_there x ys)
  where
    by : (b : Bool) → bytes_eq y x ≡ b → (b || is_among x ys) ≡ true → (is_among x ys ≡ true → Contains ys x) → Contains (y ∷ ys) x
    by true is h deeper = subst (λ z. Contains (y ∷ ys) z) ((bytes_eq-Decides y x).0 is) (is_first y ys)
    by false is h deeper = is_later y ys x (deeper h)

-- where nothing is missing, a line that is read is in the shard
held : (lines shard nodes back : List (List ℕ)) → missing lines shard nodes back ≡ [] → (line : List ℕ) → Contains lines line → is_read_at nodes back line ≡ true → Contains shard line
held lines shard nodes back none line c read = by (is_among line shard) refl
  where
    by : (b : Bool) → is_among line shard ≡ b → Contains shard line
    by true e = is_there line shard e
    by false e =
        absurd (not_in_none line (subst (λ zs. Contains zs line) none
        (filter_has (λ l. is_read_at nodes back l && not (is_among l shard)) lines line c (λ i. read i && not (e i)))))

by_first : (a b : Bool) → a ≡ true → (a || b) ≡ true
by_first true b e = refl
by_first false b e = absurd (true≢false (sym e))

by_last : (a b : Bool) → b ≡ true → (a || b) ≡ true
by_last true b e = refl
by_last false b e = e

module _ (s : Schema) (whole part : Data) (nodes back : List Term) (lines shard : List (List ℕ)) (told : AreToldApart whole) (are : AreLinesOf whole part lines shard)
    (inside : (t : TermTriple) → Says part t → Says whole t) (none : missing lines shard (map text_of nodes) (map text_of back) ≡ []) where
  -- two triples of the whole on one line are one
  one_line : (t u : TermTriple) → Says whole t → Says whole u → line_of u ≡ line_of t → u ≡ t
  one_line t u says also e = λ i. record { subject = subject i; predicate = predicate i; object = object i }
    where
      same : (f : List ℕ → List ℕ) (x y : List ℕ) → f (line_of u) ≡ x → f (line_of t) ≡ y → x ≡ y
      same f x y a b = sym a ∙ ap f e ∙ b

      term : (d : Data) (n : ℕ) (x : Term) → slice_get d.terms n ≡ Some x → Contains d.terms x
      term d n x g = got_in d.terms n x g

      subject : u.subject ≡ t.subject
      subject =
          told.one u.subject t.subject (term whole also.0.s.0 u.subject also.2.subject) (term whole says.0.s.0 t.subject says.2.subject)
          (same subject_of (text_of u.subject) (text_of t.subject)
          (subject_is (text_of u.subject) (text_of u.predicate) (text_of u.object) (told.subject u also) (told.predicate u also))
          (subject_is (text_of t.subject) (text_of t.predicate) (text_of t.object) (told.subject t says) (told.predicate t says)))

      predicate : u.predicate ≡ t.predicate
      predicate =
          told.one u.predicate t.predicate (term whole also.0.p.0 u.predicate also.2.predicate) (term whole says.0.p.0 t.predicate says.2.predicate)
          (same predicate_of (text_of u.predicate) (text_of t.predicate)
          (predicate_is (text_of u.subject) (text_of u.predicate) (text_of u.object) (told.subject u also) (told.predicate u also))
          (predicate_is (text_of t.subject) (text_of t.predicate) (text_of t.object) (told.subject t says) (told.predicate t says)))

      object : u.object ≡ t.object
      object =
          told.one u.object t.object (term whole also.0.o.0 u.object also.2.object) (term whole says.0.o.0 t.object says.2.object)
          (same object_of (text_of u.object) (text_of t.object)
          (object_is (text_of u.subject) (text_of u.predicate) (text_of u.object) (told.subject u also) (told.predicate u also))
          (object_is (text_of t.subject) (text_of t.predicate) (text_of t.object) (told.subject t says) (told.predicate t says)))

  -- a triple whose line is read is the part's
  said : (t : TermTriple) → Says whole t → is_read_at (map text_of nodes) (map text_of back) (line_of t) ≡ true → Says part t
  said t says read =
      let (u, own, e) = are.own t (held lines shard (map text_of nodes) (map text_of back) none (line_of t) (are.all t says) read) in
      subst (λ z. Says part z) (one_line t u says (inside u own) e) own

  -- a field that is the text of one of some terms is among their texts
  named : (f : List ℕ) (x : Term) (xs : List Term) → f ≡ text_of x → Contains xs x → is_among f (map text_of xs) ≡ true
  named f x xs e c = subst (λ z. is_among z (map text_of xs) ≡ true) (sym e) (among (text_of x) (map text_of xs) (in_map text_of xs x c))

  module _ (t : TermTriple) (says : Says whole t) where
    outward : Contains nodes t.subject → Says part t
    outward c =
        said t says (by_first (is_among (subject_of (line_of t)) (map text_of nodes)) (is_among (predicate_of (line_of t)) (map text_of back) && is_among (object_of (line_of t)) (map text_of nodes))
        (named (subject_of (line_of t)) t.subject nodes (subject_is (text_of t.subject) (text_of t.predicate) (text_of t.object) (told.subject t says) (told.predicate t says)) c))

    inward : Contains nodes t.object → Contains back t.predicate → Says part t
    inward c d =
        said t says (by_last (is_among (subject_of (line_of t)) (map text_of nodes)) (is_among (predicate_of (line_of t)) (map text_of back) && is_among (object_of (line_of t)) (map text_of nodes))
        (λ i. named (predicate_of (line_of t)) t.predicate back (predicate_is (text_of t.subject) (text_of t.predicate) (text_of t.object) (told.subject t says) (told.predicate t says)) d i
        && named (object_of (line_of t)) t.object nodes (object_is (text_of t.subject) (text_of t.predicate) (text_of t.object) (told.subject t says) (told.predicate t says)) c i))

pub covers_are_enough : CoversAreEnough
covers_are_enough s whole part nodes back lines shard told are inside read_back none = record {
  inside = inside;
  outward = λ t says c. outward s whole part nodes back lines shard told are inside none t says c;
  inward = λ t says c read. inward s whole part nodes back lines shard told are inside none t says c (read_back t.predicate read);
}

pub shards_answer_alike : PartsAnswerAlike → ShardsAnswerAlike
shards_answer_alike law s first whole part nodes back lines shard roots all f budget known known_all loaded is_whole is_part numbers told are inside read_back within none own other =
    law s first whole part nodes roots all f budget known known_all loaded is_whole is_part numbers
    (covers_are_enough s whole part nodes back lines shard told are inside read_back none) within own other
