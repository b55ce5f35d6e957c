-- What it is to be the components of a text, with no word on how they are found (RFC 3986 sections 3, 4.2 and 5.3).
use Rattle.std.specs.Prelude.{◌≡◌, ℕ, ◌⊎◌, List, [], ◌++◌, IsTrue, IsSome, IsNone, IfSome, codes}
use Rattle.iri_resolve.specs.Text.{slash, question, hash, Lacks, BeginsWith}
use Rattle.iri_resolve.specs.Reference.{Components, is_scheme}
use Rattle.iri_resolve.specs.Resolution.{text_of}

-- an authority has no `/`, `?` or `#` (RFC 3986 section 3.2)
pub record IsAuthority (text : List ℕ) : Type 0 where
  pub slash : Lacks slash text
  pub question : Lacks question text
  pub hash : Lacks hash text

-- components are those of a text
pub record IsDecomposition (text : List ℕ) (c : Components) : Type 0 where
  -- the components with their delimiters are the text (section 5.3)
  pub whole : text ≡ text_of c
  -- a scheme is one, and none is left out: without one, the text does not begin with a scheme and `:` (sections 3.1 and 4.2)
  pub scheme : IfSome c.scheme (λ name. IsTrue (is_scheme name))
  pub no_scheme : IsNone c.scheme → (name : List ℕ) → IsTrue (is_scheme name) → ¬ (BeginsWith text (name ++ codes ":"))
  -- an authority ends before the next `/`, `?` or `#`, and the path behind it is empty or begins with `/` (sections 3.2 and 3.3)
  pub authority : IfSome c.authority IsAuthority
  pub rooted : IsSome c.authority → (c.path ≡ []) ⊎ BeginsWith c.path (codes "/")
  -- without an authority, the path does not begin with `//` (section 3.3)
  pub no_authority : IsNone c.authority → ¬ (BeginsWith c.path (codes "//"))
  -- a path ends before the first `?` or `#` (section 3.3)
  pub path_question : Lacks question c.path
  pub path_hash : Lacks hash c.path
  -- a query ends before the first `#` (section 3.4)
  pub query : IfSome c.query (Lacks hash)
