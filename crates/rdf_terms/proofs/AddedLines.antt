-- Tables that take up terms which can stand on one line.
use Rattle.std.proofs.Common.{◌≡◌, List, [], ◌∷◌, Contains, sym, subst, ◌⊎◌, inl, inr}
use Rattle.std.proofs.lemmas.List.Elements.{Contains-append_left, Contains-append_right, Contains-push, Contains-push_cases}
use Rattle.lists.specs.Additions.{AddsAll, none, more, Adds}
use Rattle.rdf_terms.specs.declared.terms.Term.{Term}
use Rattle.rdf_terms.specs.Laws.{AddingBringsLines}
use Rattle.rdf_terms.specs.OneLine.{HasOneLine}

-- each term of a list can stand on one line
abbrev pub AllHaveOneLine : List Term → Type 0
AllHaveOneLine terms = (t : Term) → Contains terms t → HasOneLine t

one_added : (old mid : List Term) (x : Term) → HasOneLine x → Adds old x mid → AllHaveOneLine old → AllHaveOneLine mid
one_added old mid x n (inl (c, e)) h = subst AllHaveOneLine (sym e) h
one_added old mid x n (inr (c, e)) h = subst AllHaveOneLine (sym e) (λ t d. by t (Contains-push_cases old x t d))
  where
    by : (t : Term) → Contains old t ⊎ (x ≡ t) → HasOneLine t
    by t (inl d) = h t d
    by t (inr d) = subst HasOneLine d n

head_has_line : (x : Term) (xs : List Term) → AllHaveOneLine (x ∷ xs) → HasOneLine x
head_has_line x xs k = k x (Contains-append_left (x ∷ []) xs x (Contains-push [] x))

pub all_added : {old xs new : List Term} → AddsAll old xs new → AllHaveOneLine old → AllHaveOneLine xs → AllHaveOneLine new
all_added none h k = h
all_added (more {old} {mid} {new} {xs} {x} a others) h k =
    all_added others (one_added old mid x (head_has_line x xs k) a h) (λ t c. k t (Contains-append_right (x ∷ []) xs t c))

pub adding_keeps : AddingBringsLines
adding_keeps old xs new a h k = all_added a h k
