-- A text has no components but those that the definition finds.
use Rattle.std.proofs.Common.{◌≡◌, ◌≢◌, ℕ, ◌⊎◌, inl, inr, Bool, true, false, cond, ◌&&◌, List, [], ◌∷◌, ◌++◌, drop, codes, is_some, Option, Some, None, IsSome, IsNone, IfSome, IsTrue, refl, sym, ap, ◌∙◌, arith}
use Rattle.std.specs.Char.{is_ascii_alphabetic}
use Rattle.std.specs.List.{list_all}
use Rattle.std.proofs.lemmas.List.{append-nil, append_assoc}
use Rattle.std.proofs.lemmas.List.Sums.{AllPass-from_list_all}
use Rattle.std.proofs.lemmas.List.Elements.{All-append, All-nil, All-cons, All-weaker}
use Rattle.std.proofs.lemmas.Bool.{false≢true}
use Rattle.std.proofs.lemmas.Bool.Decides.{Decides-eqb}
use Rattle.std.proofs.lemmas.Slice.Eq.{starts_is}
use Rattle.iri_resolve.specs.Text.{colon, slash, question, hash, has, before, after, part_after, from, Lacks, BeginsWith}
use Rattle.iri_resolve.specs.Reference.{Components, components_of, is_scheme, is_scheme_byte, front_scheme, after_scheme, has_authority, authority_of, path_of}
use Rattle.iri_resolve.specs.Decomposition.{IsAuthority, IsDecomposition}
use Rattle.iri_resolve.specs.Resolution.{with_mark_before, with_mark_after}
use Rattle.iri_resolve.proofs.Places.{has-append, before-append, after-append, from-append, has-none, from-none, before-all, before-append-after}

-- two records of components with equal fields are equal
same_components : (c d : Components) → c.scheme ≡ d.scheme → c.authority ≡ d.authority → c.path ≡ d.path → c.query ≡ d.query → c.fragment ≡ d.fragment → c ≡ d
same_components c d s a p q f =
    ap (λ (x : Option (List ℕ)). record c { scheme = x }) s
    ∙ ap (λ (x : Option (List ℕ)). record c { scheme = d.scheme; authority = x }) a
    ∙ ap (λ (x : List ℕ). record c { scheme = d.scheme; authority = d.authority; path = x }) p
    ∙ ap (λ (x : Option (List ℕ)). record c { scheme = d.scheme; authority = d.authority; path = d.path; query = x }) q
    ∙ ap (λ (x : Option (List ℕ)). record d { fragment = x }) f

pub both : (a b : Bool) → (a && b) ≡ true → (a ≡ true) × (b ≡ true)
both true b e = (refl, e)
both false b e = absurd (false≢true e)

-- a scheme has no byte that neither begins nor follows in one
pub Lacks-scheme : (mark : ℕ) (name : List ℕ) → is_ascii_alphabetic mark ≡ false → is_scheme_byte mark ≡ false → is_scheme name ≡ true → Lacks mark name
Lacks-scheme mark [] first never e = All-nil (λ b. b ≢ mark)
Lacks-scheme mark (b ∷ bs) first never e =
    let w = both (is_ascii_alphabetic b) (list_all is_scheme_byte bs) e in
    All-cons (λ b. b ≢ mark) b bs
    (λ q. false≢true (sym first ∙ ap is_ascii_alphabetic (sym q) ∙ w.0))
    (All-weaker (λ b. is_scheme_byte b ≡ true) (λ b. b ≢ mark) (λ x p q. false≢true (sym never ∙ ap is_scheme_byte (sym q) ∙ p)) bs (AllPass-from_list_all is_scheme_byte bs w.1))

-- a component that stands behind a text without its mark is found there
before-led : (c : ℕ) (xs : List ℕ) (o : Option (List ℕ)) → Lacks c xs → before c (xs ++ with_mark_before (c ∷ []) o) ≡ xs
before-led c xs None h = ap (before c) (append-nil xs) ∙ before-all c xs (has-none c xs h)
before-led c xs (Some ys) h = before-append c xs ys h

part_after-led : (c : ℕ) (xs : List ℕ) (o : Option (List ℕ)) → Lacks c xs → part_after c (xs ++ with_mark_before (c ∷ []) o) ≡ o
part_after-led c xs None h = ap (part_after c) (append-nil xs) ∙ ap (λ b. cond b (Some (after c xs)) None) (has-none c xs h)
part_after-led c xs (Some ys) h =
    ap (λ b. cond b (Some (after c (xs ++ c ∷ ys))) None) (has-append c xs ys h)
    ∙ ap (λ t. Some t) (after-append c xs ys h)

-- a scheme in front is found
pub front_scheme-front : (name rest : List ℕ) → is_scheme name ≡ true → front_scheme (name ++ colon ∷ rest) ≡ Some name
front_scheme-front name rest e =
    let h = Lacks-scheme colon name refl refl e in
    ap (λ b. cond (b && is_scheme (before colon (name ++ colon ∷ rest))) (Some (before colon (name ++ colon ∷ rest))) None) (has-append colon name rest h)
    ∙ ap (λ t. cond (is_scheme t) (Some t) None) (before-append colon name rest h)
    ∙ ap (λ b. cond b (Some name) None) e

front_scheme-ended : (o : Option (List ℕ)) (rest : List ℕ) → IfSome o (λ name. IsTrue (is_scheme name)) → (IsNone o → front_scheme rest ≡ None) →
    front_scheme (with_mark_after (codes ":") o ++ rest) ≡ o
front_scheme-ended None rest h n = n refl
front_scheme-ended (Some name) rest h n = ap front_scheme (append_assoc name (codes ":") rest) ∙ front_scheme-front name rest h

after_scheme-ended : (o : Option (List ℕ)) (rest : List ℕ) → IfSome o (λ name. IsTrue (is_scheme name)) → (IsNone o → front_scheme rest ≡ None) →
    after_scheme (with_mark_after (codes ":") o ++ rest) ≡ rest
after_scheme-ended None rest h n = ap (λ o. cond (is_some o) (after colon rest) rest) (n refl)
after_scheme-ended (Some name) rest h n =
    ap after_scheme (append_assoc name (codes ":") rest)
    ∙ ap (λ o. cond (is_some o) (after colon (name ++ colon ∷ rest)) (name ++ colon ∷ rest)) (front_scheme-front name rest h)
    ∙ after-append colon name rest (Lacks-scheme colon name refl refl h)

-- what stands before the path is the authority
before-path : (authority path : List ℕ) → Lacks slash authority → (path ≡ []) ⊎ BeginsWith path (codes "/") → before slash (authority ++ path) ≡ authority
before-path authority path h (inl e) = ap (λ t. before slash (authority ++ t)) e ∙ before-led slash authority None h
before-path authority path h (inr w) = ap (λ t. before slash (authority ++ t)) w.1 ∙ before-append slash authority w.0 h

from-path : (authority path : List ℕ) → Lacks slash authority → (path ≡ []) ⊎ BeginsWith path (codes "/") → from slash (authority ++ path) ≡ path
from-path authority path h (inl e) = ap (λ t. from slash (authority ++ t)) e ∙ ap (from slash) (append-nil authority) ∙ from-none slash authority h ∙ sym e
from-path authority path h (inr w) = ap (λ t. from slash (authority ++ t)) w.1 ∙ from-append slash authority w.0 h ∙ sym w.1

pub has_authority-no : (path : List ℕ) → ¬ (BeginsWith path (codes "//")) → has_authority path ≡ false
has_authority-no path never = go (has_authority path) refl
  where
    go : (b : Bool) → has_authority path ≡ b → b ≡ false
    go true e = absurd (never (drop 2 path, (starts_is Decides-eqb path (codes "//") (has_authority path) refl).0 e))
    go false e = refl

authority_of-led : (o : Option (List ℕ)) (path : List ℕ) → IfSome o IsAuthority → (IsSome o → (path ≡ []) ⊎ BeginsWith path (codes "/")) →
    (IsNone o → ¬ (BeginsWith path (codes "//"))) → authority_of (with_mark_before (codes "//") o ++ path) ≡ o
authority_of-led None path h r n = ap (λ b. cond b (Some (before slash (drop 2 path))) None) (has_authority-no path (n refl))
authority_of-led (Some authority) path h r n = ap (λ t. Some t) (before-path authority path h.slash (r refl))

path_of-led : (o : Option (List ℕ)) (path : List ℕ) → IfSome o IsAuthority → (IsSome o → (path ≡ []) ⊎ BeginsWith path (codes "/")) →
    (IsNone o → ¬ (BeginsWith path (codes "//"))) → path_of (with_mark_before (codes "//") o ++ path) ≡ path
path_of-led None path h r n = ap (λ b. cond b (from slash (drop 2 path)) path) (has_authority-no path (n refl))
path_of-led (Some authority) path h r n = from-path authority path h.slash (r refl)

-- a component with its delimiter lacks a byte that neither has
Lacks-ended : (mark : ℕ) (o : Option (List ℕ)) → IfSome o (λ name. Lacks mark name) → colon ≢ mark → Lacks mark (with_mark_after (codes ":") o)
Lacks-ended mark None h n = All-nil (λ b. b ≢ mark)
Lacks-ended mark (Some name) h n = All-append (λ b. b ≢ mark) name (colon ∷ []) h (All-cons (λ b. b ≢ mark) colon [] n (All-nil (λ b. b ≢ mark)))

Lacks-led : (mark : ℕ) (front : List ℕ) (o : Option (List ℕ)) → Lacks mark front → IfSome o (λ part. Lacks mark part) → Lacks mark (with_mark_before front o)
Lacks-led mark front None l h = All-nil (λ b. b ≢ mark)
Lacks-led mark front (Some part) l h = All-append (λ b. b ≢ mark) front part l h

Lacks-one : (mark b : ℕ) → b ≢ mark → Lacks mark (b ∷ [])
Lacks-one mark b n = All-cons (λ b. b ≢ mark) b [] n (All-nil (λ b. b ≢ mark))

Lacks-two : (mark b c : ℕ) → b ≢ mark → c ≢ mark → Lacks mark (b ∷ c ∷ [])
Lacks-two mark b c n m = All-cons (λ b. b ≢ mark) b (c ∷ []) n (Lacks-one mark c m)

if_scheme : (mark : ℕ) (o : Option (List ℕ)) → is_ascii_alphabetic mark ≡ false → is_scheme_byte mark ≡ false → IfSome o (λ name. IsTrue (is_scheme name)) → IfSome o (λ name. Lacks mark name)
if_scheme mark None first never h = h
if_scheme mark (Some name) first never h = Lacks-scheme mark name first never h

if_authority : (o : Option (List ℕ)) → IfSome o IsAuthority → IfSome o (λ part. Lacks question part) × IfSome o (λ part. Lacks hash part)
if_authority None h = (h, h)
if_authority (Some part) h = (h.question, h.hash)

with_mark_after-none : (mark : List ℕ) (o : Option (List ℕ)) → IsNone o → with_mark_after mark o ≡ []
with_mark_after-none mark None h = refl
with_mark_after-none mark (Some part) h = absurd (false≢true (sym h))

-- a text that has a scheme in front begins with it and its `:`
front_scheme-none : (front : List ℕ) → ((name rest : List ℕ) → is_scheme name ≡ true → front ≡ name ++ colon ∷ rest → ⊥) → front_scheme front ≡ None
front_scheme-none front never = go (has colon front && is_scheme (before colon front)) refl
  where
    go : (b : Bool) → (has colon front && is_scheme (before colon front)) ≡ b → cond b (Some (before colon front)) None ≡ None
    go true e =
        let w = both (has colon front) (is_scheme (before colon front)) e in
        absurd (never (before colon front) (after colon front) w.1 (sym (before-append-after colon front w.0)))
    go false e = refl

module _ (text : List ℕ) (c : Components) (d : IsDecomposition text c) where
  Lacks-front : (mark : ℕ) → Lacks mark (with_mark_after (codes ":") c.scheme) → Lacks mark (with_mark_before (codes "//") c.authority) → Lacks mark c.path →
      Lacks mark (with_mark_after (codes ":") c.scheme ++ with_mark_before (codes "//") c.authority ++ c.path)
  Lacks-front mark s a p = All-append (λ b. b ≢ mark)
      (with_mark_after (codes ":") c.scheme ++ with_mark_before (codes "//") c.authority) c.path (All-append (λ b. b ≢ mark) (with_mark_after (codes ":") c.scheme) (with_mark_before (codes "//") c.authority) s a) p

  front-question : Lacks question (with_mark_after (codes ":") c.scheme ++ with_mark_before (codes "//") c.authority ++ c.path)
  front-question =
      Lacks-front question
      (Lacks-ended question c.scheme (if_scheme question c.scheme refl refl d.scheme) (λ e. omega arith))
      (Lacks-led question (codes "//") c.authority (Lacks-two question slash slash (λ e. omega arith) (λ e. omega arith)) (if_authority c.authority d.authority).0)
      d.path_question

  whole-hash : Lacks hash (with_mark_after (codes ":") c.scheme ++ with_mark_before (codes "//") c.authority ++ c.path ++ with_mark_before (codes "?") c.query)
  whole-hash =
      All-append (λ b. b ≢ hash) (with_mark_after (codes ":") c.scheme ++ with_mark_before (codes "//") c.authority ++ c.path) (with_mark_before (codes "?") c.query)
      (Lacks-front hash
      (Lacks-ended hash c.scheme (if_scheme hash c.scheme refl refl d.scheme) (λ e. omega arith))
      (Lacks-led hash (codes "//") c.authority (Lacks-two hash slash slash (λ e. omega arith) (λ e. omega arith)) (if_authority c.authority d.authority).1)
      d.path_hash)
      (Lacks-led hash (codes "?") c.query (Lacks-one hash question (λ e. omega arith)) d.query)

  before-hash : before hash text ≡ with_mark_after (codes ":") c.scheme ++ with_mark_before (codes "//") c.authority ++ c.path ++ with_mark_before (codes "?") c.query
  before-hash = ap (before hash) d.whole ∙ before-led hash _ c.fragment whole-hash

  front-is : before question (before hash text) ≡ with_mark_after (codes ":") c.scheme ++ (with_mark_before (codes "//") c.authority ++ c.path)
  front-is = ap (before question) before-hash ∙ before-led question _ c.query front-question ∙ append_assoc (with_mark_after (codes ":") c.scheme) (with_mark_before (codes "//") c.authority) c.path

  none : IsNone c.scheme → front_scheme (with_mark_before (codes "//") c.authority ++ c.path) ≡ None
  none h =
      front_scheme-none (with_mark_before (codes "//") c.authority ++ c.path)
      (λ name rest e q.
      let hierarchy : List ℕ = with_mark_before (codes "//") c.authority ++ c.path in
      let front : with_mark_after (codes ":") c.scheme ++ with_mark_before (codes "//") c.authority ++ c.path ≡ name ++ codes ":" ++ rest =
      append_assoc (with_mark_after (codes ":") c.scheme) (with_mark_before (codes "//") c.authority) c.path
      ∙ ap (λ t. t ++ hierarchy) (with_mark_after-none (codes ":") c.scheme h)
      ∙ q
      ∙ sym (append_assoc name (codes ":") rest) in
      d.no_scheme h name e (
        rest ++ with_mark_before (codes "?") c.query ++ with_mark_before (codes "#") c.fragment,
        d.whole
            ∙ ap (λ t. t ++ with_mark_before (codes "?") c.query ++ with_mark_before (codes "#") c.fragment) front
            ∙ ap (λ t. t ++ with_mark_before (codes "#") c.fragment) (append_assoc (name ++ codes ":") rest (with_mark_before (codes "?") c.query))
            ∙ append_assoc (name ++ codes ":") (rest ++ with_mark_before (codes "?") c.query) (with_mark_before (codes "#") c.fragment),
      ))

  pub components_of-unique : c ≡ components_of text
  components_of-unique =
      let s = ap front_scheme front-is ∙ front_scheme-ended c.scheme (with_mark_before (codes "//") c.authority ++ c.path) d.scheme none in
      let h = ap after_scheme front-is ∙ after_scheme-ended c.scheme (with_mark_before (codes "//") c.authority ++ c.path) d.scheme none in
      same_components c (components_of text)
      (sym s)
      (sym (ap authority_of h ∙ authority_of-led c.authority c.path d.authority d.rooted d.no_authority))
      (sym (ap path_of h ∙ path_of-led c.authority c.path d.authority d.rooted d.no_authority))
      (sym (ap (part_after question) before-hash ∙ part_after-led question _ c.query front-question))
      (sym (ap (part_after hash) d.whole ∙ part_after-led hash _ c.fragment whole-hash))
