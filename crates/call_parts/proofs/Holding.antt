-- What files hold after one more.
use Rattle.std.proofs.Common.{arith, get_or, inl, inr, length, slice_get, subst, sym, take, List, None, Option, Some}
use Rattle.std.proofs.Common.{ℕ, [], ◌++◌, ◌+◌, ◌<◌, ◌≤◌, ◌∷◌, ◌≡◌, ◌≢◌}
use Rattle.std.proofs.lemmas.Bool.{cases_eq}
use Rattle.std.proofs.lemmas.Option.{get_or_from_slice_get, slice_get-get_or, slice_get_within}
use Rattle.std.proofs.lemmas.List.Elements.{Contains-append_left, Contains-get_or, Contains-push, Contains-push_cases}
use Rattle.std.specs.Str.{IsUtf8}
use Rattle.std.specs.Prelude.{Contains}
use Rattle.shex_io.specs.Files.{KeepsOtherNames}
use Rattle.call_parts.specs.Given.{HasWrongName, HaveOwnNames, HoldsGiven}
use Rattle.call_parts.specs.declared.asked.GivenFile.{GivenFile}

-- a name that holds bytes is none that holds none
held_differs : (contents : List ℕ → Option (List ℕ)) (held absent bytes : List ℕ) →
    contents held ≡ Some bytes → contents absent ≡ None → held ≢ absent
held_differs contents held absent bytes is none = λ e. grind arith

-- an older file is held still
holds_older : (before after : List ℕ → Option (List ℕ)) (name other bytes : List ℕ) →
    before name ≡ None → KeepsOtherNames before after name → before other ≡ Some bytes → after other ≡ Some bytes
holds_older before after name other bytes none others is =
    let kept : after other ≡ before other = others other (held_differs before other name bytes is none) in grind arith

pub holds_more : (before after : List ℕ → Option (List ℕ)) (done : List GivenFile) (file : GivenFile) →
    HoldsGiven before done → before file.name.bytes.now ≡ None → after file.name.bytes.now ≡ Some file.bytes.now →
    KeepsOtherNames before after file.name.bytes.now → HoldsGiven after (done ++ file ∷ [])
holds_more before after done file given absent set others = record {
  holds = λ f c. elim (Contains-push_cases done file f c) [
    | inl d ↦ holds_older before after file.name.bytes.now f.name.bytes.now f.bytes.now absent others (given.holds f d)
    | inr e ↦ subst (λ g. after g.name.bytes.now ≡ Some g.bytes.now) e set
  ];
  nothing_else = λ name none.
      let kept : after name ≡ before name = others name (λ e. none file (Contains-push done file) (sym e)) in
      let was : before name ≡ None = given.nothing_else name (λ f d. none f (Contains-append_left done (file ∷ []) f d)) in
      grind arith;
}

-- none of the first so many files has the name of one before it
abbrev pub HaveOwnNamesBefore : ℕ → List GivenFile → Type 0
HaveOwnNamesBefore n files =
    (i : ℕ) (file other : GivenFile) → i < n → slice_get files i ≡ Some file → Contains (take i files) other →
    other.name.bytes.now ≢ file.name.bytes.now

-- the file at a place, where its name was held by none of those before it
own_name_at : (contents : List ℕ → Option (List ℕ)) (files : List GivenFile) (n : ℕ) (d file other : GivenFile) →
    HoldsGiven contents (take n files) → contents (get_or files n d).name.bytes.now ≡ None →
    slice_get files n ≡ Some file → Contains (take n files) other → other.name.bytes.now ≢ file.name.bytes.now
own_name_at contents files n d file other given absent at among =
    let is : get_or files n d ≡ file = get_or_from_slice_get files n file d at in
    let none : contents file.name.bytes.now ≡ None = subst (λ f. contents f.name.bytes.now ≡ None) is absent in
    held_differs contents other.name.bytes.now file.name.bytes.now other.bytes.now (given.holds other among) none

pub own_names_more : (contents : List ℕ → Option (List ℕ)) (files : List GivenFile) (n : ℕ) (d : GivenFile) →
    HoldsGiven contents (take n files) → contents (get_or files n d).name.bytes.now ≡ None →
    HaveOwnNamesBefore n files → HaveOwnNamesBefore (n + 1) files
own_names_more contents files n d given absent before = λ i file other below at among. elim (cases_eq n i) [
  | inl e ↦ own_name_at contents files n d file other given absent
      (subst (λ k. slice_get files k ≡ Some file) (sym e) at)
      (subst (λ k. Contains (take k files) other) (sym e) among)
  | inr ne ↦ before i file other (omega arith) at among
]

pub own_names : (files : List GivenFile) (n : ℕ) → length files ≤ n → HaveOwnNamesBefore n files → HaveOwnNames files
own_names files n all before = λ i file other at among.
    let within : i < length files = slice_get_within files i file at in
    before i file other (omega (arith, within, all)) at among

-- where a name that is to be added holds bytes, a file before it has the name
pub not_own_names : (contents : List ℕ → Option (List ℕ)) (files : List GivenFile) (i : ℕ) (d : GivenFile) →
    i < length files → HoldsGiven contents (take i files) → contents (get_or files i d).name.bytes.now ≢ None →
    ¬ HaveOwnNames files
not_own_names contents files i d within given held = λ own.
    held (given.nothing_else (get_or files i d).name.bytes.now
    (λ f c. own i (get_or files i d) f (slice_get-get_or files i d within) c))

-- a file at an index whose name is not UTF-8
pub wrong_name_at : (files : List GivenFile) (i : ℕ) (d : GivenFile) →
    i < length files → ¬ IsUtf8 (get_or files i d).name.bytes.now → HasWrongName files
wrong_name_at files i d within wrong = (get_or files i d, Contains-get_or files i d within, wrong)
