-- The components of a text are what they are said to be.
use Rattle.std.proofs.Common.{◌≡◌, ◌≢◌, ◌+◌, ℕ, ◌⊎◌, inl, inr, Bool, true, false, cond, ◌&&◌, eqb, List, [], ◌∷◌, ◌++◌, drop, codes, is_some, Some, None, IsSome, IsNone, IfSome, IsTrue, refl, sym, ap, ◌∙◌, arith}
use Rattle.std.specs.List.{position_or_len}
use Rattle.std.proofs.lemmas.List.{append_assoc}
use Rattle.std.proofs.lemmas.List.Elements.{All-take, All-drop, All-append, All-cons, All-nil}
use Rattle.std.proofs.lemmas.Bool.{false≢true}
use Rattle.std.proofs.lemmas.Bool.Decides.{Decides-eqb}
use Rattle.std.proofs.lemmas.Slice.Eq.{starts_is}
use Rattle.iri_resolve.specs.Text.{colon, slash, question, hash, has, before, after, from, Lacks, BeginsWith}
use Rattle.iri_resolve.specs.Reference.{components_of, is_scheme, front_scheme, after_scheme, has_authority, path_of}
use Rattle.iri_resolve.specs.Decomposition.{IsAuthority, IsDecomposition}
use Rattle.iri_resolve.proofs.Places.{Lacks-before, Lacks-has, before-later, from-has, from-none}
use Rattle.iri_resolve.proofs.Cuts.{text_of-components_of}
use Rattle.iri_resolve.proofs.Unique.{both, Lacks-scheme, front_scheme-front}

-- a choice between two texts lacks what both lack
Lacks-cond : (mark : ℕ) (b : Bool) (xs ys : List ℕ) → Lacks mark xs → Lacks mark ys → Lacks mark (cond b xs ys)
Lacks-cond mark true xs ys h k = h
Lacks-cond mark false xs ys h k = k

-- what holds of a part holds of it where it is taken
if_taken : (P : List ℕ → Type 0) (b : Bool) (part : List ℕ) → (b ≡ true → P part) → IfSome (cond b (Some part) None) P
if_taken P true part h = h refl
if_taken P false part h = tt

Lacks-after_scheme : (mark : ℕ) (front : List ℕ) → Lacks mark front → Lacks mark (after_scheme front)
Lacks-after_scheme mark front h = Lacks-cond mark (is_some (front_scheme front)) (after colon front) front (All-drop (λ b. b ≢ mark) (position_or_len (λ b. eqb b colon) front + 1) front h) h

Lacks-path_of : (mark : ℕ) (hierarchy : List ℕ) → Lacks mark hierarchy → Lacks mark (path_of hierarchy)
Lacks-path_of mark hierarchy h =
    Lacks-cond mark (has_authority hierarchy) (from slash (drop 2 hierarchy)) hierarchy
    (All-drop (λ b. b ≢ mark) (position_or_len (λ b. eqb b slash) (drop 2 hierarchy)) (drop 2 hierarchy) (All-drop (λ b. b ≢ mark) 2 hierarchy h))
    h

Lacks-authority : (mark : ℕ) (hierarchy : List ℕ) → Lacks mark hierarchy → Lacks mark (before slash (drop 2 hierarchy))
Lacks-authority mark hierarchy h = All-take (λ b. b ≢ mark) (position_or_len (λ b. eqb b slash) (drop 2 hierarchy)) (drop 2 hierarchy) (All-drop (λ b. b ≢ mark) 2 hierarchy h)

-- the path behind an authority is empty or begins with `/`
rooted_from : (text : List ℕ) → (from slash text ≡ []) ⊎ BeginsWith (from slash text) (codes "/")
rooted_from text = go (has slash text) refl
  where
    go : (b : Bool) → has slash text ≡ b → (from slash text ≡ []) ⊎ BeginsWith (from slash text) (codes "/")
    go true e = inr (after slash text, from-has slash text e)
    go false e = inl (from-none slash text (Lacks-has slash text e))

rooted_path : (b : Bool) (text hierarchy : List ℕ) → IsSome (cond b (Some (before slash text)) None) → (cond b (from slash text) hierarchy ≡ []) ⊎
    BeginsWith (cond b (from slash text) hierarchy) (codes "/")
rooted_path true text hierarchy h = rooted_from text
rooted_path false text hierarchy h = absurd (false≢true h)

-- a path without an authority does not begin with `//`
no_slashes : (b : Bool) (text hierarchy : List ℕ) → has_authority hierarchy ≡ b → IsNone (cond b (Some (before slash text)) None) → BeginsWith (cond b (from slash text) hierarchy) (codes "//") → ⊥
no_slashes true text hierarchy e h w = false≢true (sym h)
no_slashes false text hierarchy e h w = false≢true (sym e ∙ (starts_is Decides-eqb hierarchy (codes "//") (has_authority hierarchy) refl).1 w.0 w.1)

-- a scheme with its `:` in front of a text is in front of the part before its query and fragment
pub front_begins : (name rest : List ℕ) → is_scheme name ≡ true → before question (before hash (name ++ codes ":" ++ rest)) ≡ name ++ colon ∷ before question (before hash rest)
front_begins name rest e =
    let ended : (mark : ℕ) → Lacks mark name → colon ≢ mark → Lacks mark (name ++ codes ":") =
    λ mark h n. All-append (λ b. b ≢ mark) name (codes ":") h (All-cons (λ b. b ≢ mark) colon [] n (All-nil (λ b. b ≢ mark))) in
    ap (before question) (before-later hash (name ++ codes ":") rest (ended hash (Lacks-scheme hash name refl refl e) (λ q. omega arith)))
    ∙ before-later question (name ++ codes ":") (before hash rest) (ended question (Lacks-scheme question name refl refl e) (λ q. omega arith))
    ∙ append_assoc name (codes ":") (before question (before hash rest))

no_scheme_left : (text name : List ℕ) → IsNone (front_scheme (before question (before hash text))) → is_scheme name ≡ true → BeginsWith text (name ++ codes ":") → ⊥
no_scheme_left text name h e w =
    let s = ap (λ t. front_scheme (before question (before hash t))) w.1 ∙ ap front_scheme (front_begins name w.0 e) ∙ front_scheme-front name (before question (before hash w.0)) e in
    false≢true (sym h ∙ ap is_some s)

module _ (text : List ℕ) where
  front_lacks : Lacks question (before question (before hash text)) × Lacks hash (before question (before hash text))
  front_lacks = (
    Lacks-before question (before hash text),
    All-take (λ b. b ≢ hash) (position_or_len (λ b. eqb b question) (before hash text)) (before hash text) (Lacks-before hash text),
  )

  pub decomposition : IsDecomposition text (components_of text)
  decomposition =
      let front = before question (before hash text) in
      let hierarchy = after_scheme front in
      let question_left = Lacks-after_scheme question front front_lacks.0 in
      let hash_left = Lacks-after_scheme hash front front_lacks.1 in
      record {
        whole = sym (text_of-components_of text);
        scheme = if_taken (λ name. IsTrue (is_scheme name)) (has colon front && is_scheme (before colon front)) (before colon front)
            (λ e. (both (has colon front) (is_scheme (before colon front)) e).1);
        no_scheme = λ h name e w. no_scheme_left text name h e w;
        authority = if_taken IsAuthority (has_authority hierarchy) (before slash (drop 2 hierarchy)) (λ _. record {
          slash = Lacks-before slash (drop 2 hierarchy);
          question = Lacks-authority question hierarchy question_left;
          hash = Lacks-authority hash hierarchy hash_left;
        });
        rooted = rooted_path (has_authority hierarchy) (drop 2 hierarchy) hierarchy;
        no_authority = no_slashes (has_authority hierarchy) (drop 2 hierarchy) hierarchy refl;
        path_question = Lacks-path_of question hierarchy question_left;
        path_hash = Lacks-path_of hash hierarchy hash_left;
        query = if_taken (Lacks hash) (has question (before hash text)) (after question (before hash text))
            (λ _. All-drop (λ b. b ≢ hash) (position_or_len (λ b. eqb b question) (before hash text) + 1) (before hash text) (Lacks-before hash text));
      }
