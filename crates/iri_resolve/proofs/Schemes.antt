-- The scheme of what a reference is resolved to.
use Rattle.std.proofs.Common.{◌≡◌, ℕ, Bool, true, false, cond, List, ◌++◌, codes, is_some, Option, Some, None, IsSome, IfSome, IsTrue, refl, ap, ◌∙◌}
use Rattle.std.specs.Option.{option_or}
use Rattle.std.proofs.lemmas.List.{append_assoc}
use Rattle.std.proofs.lemmas.Bool.{false≢true}
use Rattle.iri_resolve.specs.Text.{question, hash, before}
use Rattle.iri_resolve.specs.Reference.{Components, components_of, is_scheme, front_scheme}
use Rattle.iri_resolve.specs.Dots.{without_dot_segments}
use Rattle.iri_resolve.specs.Resolution.{text_of, with_mark_before, with_mark_after, target, target_with, is_empty, is_absolute, merged_path, resolved_text}
use Rattle.iri_resolve.proofs.Decomposed.{decomposition, front_begins}
use Rattle.iri_resolve.proofs.Unique.{front_scheme-front}

-- a text of components with a scheme has that scheme
scheme-text_of : (c : Components) (name : List ℕ) → c.scheme ≡ Some name → is_scheme name ≡ true → (components_of (text_of c)).scheme ≡ Some name
scheme-text_of c name s e =
    let a : List ℕ = with_mark_before (codes "//") c.authority in
    let q : List ℕ = with_mark_before (codes "?") c.query in
    let f : List ℕ = with_mark_before (codes "#") c.fragment in
    let joined : text_of c ≡ name ++ codes ":" ++ (a ++ c.path ++ q ++ f) =
    ap (λ o. with_mark_after (codes ":") o ++ a ++ c.path ++ q ++ f) s
    ∙ ap (λ t. t ++ q ++ f) (append_assoc (name ++ codes ":") a c.path)
    ∙ ap (λ t. t ++ f) (append_assoc (name ++ codes ":") (a ++ c.path) q)
    ∙ append_assoc (name ++ codes ":") (a ++ c.path ++ q) f in
    ap (λ t. front_scheme (before question (before hash t))) joined
    ∙ ap front_scheme (front_begins name (a ++ c.path ++ q ++ f) e)
    ∙ front_scheme-front name (before question (before hash (a ++ c.path ++ q ++ f))) e

-- the scheme of a target is that of the reference, or else of the base
scheme-target : (base reference : Components) → (target base reference).scheme ≡ option_or reference.scheme base.scheme
scheme-target base reference = go reference.scheme (is_some reference.authority) (is_empty reference.path) (is_absolute reference.path) refl
  where
    go : (o : Option (List ℕ)) (a b c : Bool) → reference.scheme ≡ o →
        ◌≡◌ {A = Option (List ℕ)} (cond (is_some o) reference (cond a (target_with base reference reference.authority (without_dot_segments reference.path) reference.query) (cond b (target_with base reference base.authority base.path (option_or reference.query base.query)) (cond c (target_with base reference base.authority (without_dot_segments reference.path) reference.query) (target_with base reference base.authority (without_dot_segments (merged_path base reference.path)) reference.query))))).scheme (option_or o base.scheme)
    go (Some name) a b c e = e
    go None true b c e = refl
    go None false true c e = refl
    go None false false true e = refl
    go None false false false e = refl

if_either : (P : List ℕ → Type 0) (o p : Option (List ℕ)) → IfSome o P → IfSome p P → IfSome (option_or o p) P
if_either P None p h k = k
if_either P (Some name) p h k = h

-- where either has a scheme, it is that of the text as well
pub scheme-resolved_text : (base reference : List ℕ) → IsSome (option_or (components_of reference).scheme (components_of base).scheme) →
    (components_of (resolved_text base reference)).scheme ≡ option_or (components_of reference).scheme (components_of base).scheme
scheme-resolved_text base reference h =
    go (option_or (components_of reference).scheme (components_of base).scheme) refl h
    (if_either (λ name. IsTrue (is_scheme name)) (components_of reference).scheme (components_of base).scheme (decomposition reference).scheme (decomposition base).scheme)
  where
    go : (o : Option (List ℕ)) → option_or (components_of reference).scheme (components_of base).scheme ≡ o → IsSome o →
        IfSome o (λ name. IsTrue (is_scheme name)) → (components_of (resolved_text base reference)).scheme ≡ o
    go None e h s = absurd (false≢true h)
    go (Some name) e h s = scheme-text_of (target (components_of base) (components_of reference)) name (scheme-target (components_of base) (components_of reference) ∙ e) s
