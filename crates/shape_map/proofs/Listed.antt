-- The text of a list of answers.
use Rattle.std.proofs.Common.{◌≡◌, ◌-◌, ◌∙◌, ap, sym, refl, ℕ, List, [], ◌∷◌, ◌++◌, length, take, drop, codes, append_assoc, append-nil}
use Rattle.std.specs.Prelude.{Some, None, slice_get}
use Rattle.std.specs.List.{flat_map}
use Rattle.rdf_terms.specs.declared.terms.Term.{Term}
use Rattle.schema_tree.specs.declared.schema.Answer.{Answer}
use Rattle.shape_map.specs.Results.{answer_text, result_text}
use Rattle.lists.proofs.Members.{behind_is}

pub no_answers : (terms : List Term) (before : List ℕ) (xs : List Answer) → None ≡ slice_get xs 0 → before ≡ before ++ result_text terms xs
no_answers terms before [] e = sym (append-nil before)
no_answers terms before (x ∷ xs) e = cc

more_text : (terms : List Term) (a : Answer) (rest : List Answer) → result_text terms (a ∷ rest) ≡ answer_text terms a ++ (flat_map (λ b. codes ",\n" ++ answer_text terms b) rest ++ codes "\n")
more_text terms a [] = refl
more_text terms a (b ∷ more) =
    ap (λ z. answer_text terms a ++ (codes ",\n" ++ z)) (more_text terms b more)
    ∙ ap (λ z. answer_text terms a ++ z)
    (sym (append_assoc (codes ",\n") (answer_text terms b) (flat_map (λ x. codes ",\n" ++ answer_text terms x) more ++ codes "\n"))
    ∙ sym (append_assoc (codes ",\n" ++ answer_text terms b) (flat_map (λ x. codes ",\n" ++ answer_text terms x) more) (codes "\n")))

-- what is written is the text
pub listed : (terms : List Term) (xs : List Answer) (first : Answer) (before one two three : List ℕ) → Some first ≡ slice_get xs 0 →
    one ≡ before ++ answer_text terms first → two ≡ one ++ flat_map (λ b. codes ",\n" ++ answer_text terms b) (take (length xs - 1) (drop 1 xs)) →
    three ≡ two ++ codes "\n" → three ≡ before ++ result_text terms xs
listed terms [] first before one two three at q r s = cc
listed terms (x ∷ xs) first before one two three at q r s =
    let own : first ≡ x = cc in
    let head : one ≡ before ++ answer_text terms x = q ∙ ap (λ a. before ++ answer_text terms a) own in
    s ∙ ap (λ z. z ++ codes "\n") (r ∙ ap (λ zs. one ++ flat_map (λ b. codes ",\n" ++ answer_text terms b) zs) (behind_is x xs)
    ∙ ap (λ z. z ++ flat_map (λ b. codes ",\n" ++ answer_text terms b) xs) head)
    ∙ append_assoc (before ++ answer_text terms x) (flat_map (λ b. codes ",\n" ++ answer_text terms b) xs) (codes "\n")
    ∙ append_assoc before (answer_text terms x) (flat_map (λ b. codes ",\n" ++ answer_text terms b) xs ++ codes "\n")
    ∙ ap (λ z. before ++ z) (sym (more_text terms x xs))
