-- The tokens of a pattern (XML Schema Part 2, version 1.1, sections G.1 and G.2).
use Rattle.std.specs.Prelude.{ℕ, ⊤, Option, List, [], ◌∷◌, ◌++◌}
use Rattle.xs_pattern.specs.Regex.{Chars, Regex, start, finish, one, group, branch, choice, repeat, Regexes, none, more}

-- a bracket, a bar, an anchor, what matches one character, or a quantifier
pub data Token : Type 0 where
  open_bracket : Token
  close_bracket : Token
  bar : Token
  start_anchor : Token
  end_anchor : Token
  one_of : Chars → Token
  times : ℕ → Option ℕ → Token

abbrev mutual
  -- the tokens of an expression
  pub tokens : Regex → List Token
  tokens start = start_anchor ∷ []
  tokens finish = end_anchor ∷ []
  tokens (one s) = one_of s ∷ []
  tokens (group e) = open_bracket ∷ (tokens e ++ close_bracket ∷ [])
  tokens (branch es) = tokens_of_pieces es
  tokens (choice es) = tokens_of_branches es
  tokens (repeat least most e) = tokens e ++ times least most ∷ []

  -- one piece after the other
  pub tokens_of_pieces : Regexes → List Token
  tokens_of_pieces none = []
  tokens_of_pieces (more e es) = tokens e ++ tokens_of_pieces es

  -- branches with bars between them
  pub tokens_of_branches : Regexes → List Token
  tokens_of_branches none = []
  tokens_of_branches (more e es) = tokens e ++ tokens_behind_bars es

  pub tokens_behind_bars : Regexes → List Token
  tokens_behind_bars none = []
  tokens_behind_bars (more e es) = bar ∷ (tokens e ++ tokens_behind_bars es)

abbrev mutual
  -- one or more branches (section G.1, regExp)
  pub IsPattern : Regex → Type 0
  IsPattern (choice (more e es)) = IsBranch e × AreBranches es
  IsPattern _ = ⊥

  pub AreBranches : Regexes → Type 0
  AreBranches none = ⊤
  AreBranches (more e es) = IsBranch e × AreBranches es

  -- any number of pieces (section G.1, branch)
  pub IsBranch : Regex → Type 0
  IsBranch (branch es) = ArePieces es
  IsBranch _ = ⊥

  pub ArePieces : Regexes → Type 0
  ArePieces none = ⊤
  ArePieces (more e es) = IsPiece e × ArePieces es

  -- an anchor, an atom, or an atom with a quantifier (section G.2, piece; own: XPath lets an anchor have a quantifier too)
  pub IsPiece : Regex → Type 0
  IsPiece start = ⊤
  IsPiece finish = ⊤
  IsPiece (one s) = ⊤
  IsPiece (group e) = IsPattern e
  IsPiece (repeat least most e) = IsAtom e
  IsPiece _ = ⊥

  -- what matches one character, or a pattern in brackets (section G.2, atom)
  pub IsAtom : Regex → Type 0
  IsAtom (one s) = ⊤
  IsAtom (group e) = IsPattern e
  IsAtom _ = ⊥
