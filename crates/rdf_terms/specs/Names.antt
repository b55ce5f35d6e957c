-- The name of a blank node from its printed name.
use Rattle.std.specs.Prelude.{ℕ, List, ◌++◌, ◌≡◌, ◌≤◌, if◌then◌else◌, codes, nat_eq, drop}
use Rattle.std.specs.List.{starts_with}
use Rattle.std.specs.Fmt.{decimal}
use Rattle.rdf_terms.specs.declared.terms.Name.{Name}
use Rattle.rdf_terms.specs.declared.terms.Name.TheVariants.{Label, Fresh}

-- the text is the printed name of the n-th anonymous node
pub record IsAnonymous (text : List ℕ) (n : ℕ) : Type 0 where
  pub first : 1 ≤ n
  pub last : n ≤ 4294967295
  pub spelled : text ≡ codes "anon" ++ decimal n

-- a label without the anon_ that stands before labels that begin with anon
abbrev pub written_label : List ℕ → List ℕ
written_label text = if starts_with nat_eq text (codes "anon_anon") then drop 5 text else text

-- the name whose printed name is the text, and a text that is no printed name is a label as it is
abbrev pub IsNameOf : List ℕ → Name → Type 0
IsNameOf text (Fresh n) = IsAnonymous text n
IsNameOf text (Label label) = ((n : ℕ) → ¬ IsAnonymous text n) × (label ≡ written_label text)
