-- The components of a reference, and how its text is cut into them (RFC 3986 section 3 and appendix B).
use Rattle.std.specs.Prelude.{ℕ, ◌==◌, Bool, false, ◌&&◌, ◌||◌, List, [], ◌∷◌, drop, Option, Some, None, is_some, codes, nat_eq, if◌then◌else◌}
use Rattle.std.specs.Char.{is_ascii_alphabetic, is_ascii_alphanumeric}
use Rattle.std.specs.List.{list_all, starts_with}
use Rattle.std.specs.Option.{option_copied}
use Rattle.iri_resolve.specs.Text.{colon, slash, question, hash, before, has, after, part_after, from}
use Rattle.iri_resolve.specs.declared.parts.Parts.{Parts}

-- the five components of a reference; a path is always there, if only as the empty text (RFC 3986 section 3)
pub record Components : Type 0 where
  pub scheme : Option (List ℕ)
  pub authority : Option (List ℕ)
  pub path : List ℕ
  pub query : Option (List ℕ)
  pub fragment : Option (List ℕ)

-- a letter, a digit, `+`, `-` or `.` (RFC 3986 section 3.1)
abbrev pub is_scheme_byte : ℕ → Bool
is_scheme_byte b = is_ascii_alphanumeric b || (b == 43 || (b == 45 || b == 46))

-- a letter, and then letters, digits, `+`, `-` and `.` (RFC 3986 section 3.1)
abbrev pub is_scheme : List ℕ → Bool
is_scheme [] = false
is_scheme (b ∷ bs) = is_ascii_alphabetic b && list_all is_scheme_byte bs

-- the scheme of a text without query and fragment: what stands before the first `:`, if that is a scheme. A scheme has no `/`, so this `:` comes before any `/`, `?` or `#` (RFC 3986 sections 3.1 and 4.2)
abbrev pub front_scheme : List ℕ → Option (List ℕ)
front_scheme front = if has colon front && is_scheme (before colon front) then Some (before colon front) else None

-- what follows the scheme and its `:`
abbrev pub after_scheme : List ℕ → List ℕ
after_scheme front = if is_some (front_scheme front) then after colon front else front

-- whether an authority follows: it is preceded by `//` (RFC 3986 section 3.2)
abbrev pub has_authority : List ℕ → Bool
has_authority hierarchy = starts_with nat_eq hierarchy (codes "//")

-- the authority, which ends before the next `/` (RFC 3986 section 3.2)
abbrev pub authority_of : List ℕ → Option (List ℕ)
authority_of hierarchy = if has_authority hierarchy then Some (before slash (drop 2 hierarchy)) else None

-- the path, which is the rest (RFC 3986 section 3.3)
abbrev pub path_of : List ℕ → List ℕ
path_of hierarchy = if has_authority hierarchy then from slash (drop 2 hierarchy) else hierarchy

-- the components of a text: the fragment stands behind the first `#` (RFC 3986 section 3.5), the query behind the first `?` before that (section 3.4), and the rest is cut as above
abbrev pub components_of : List ℕ → Components
components_of text =
    let whole = before hash text in
    let front = before question whole in
    record {
      scheme = front_scheme front;
      authority = authority_of (after_scheme front);
      path = path_of (after_scheme front);
      query = part_after question whole;
      fragment = part_after hash text;
    }

-- the scheme of a text, if it has one
abbrev pub scheme_of : List ℕ → Option (List ℕ)
scheme_of text = (components_of text).scheme

-- the components that the parts lend
abbrev pub components_lent : Parts → Components
components_lent parts = record {
  scheme = option_copied parts.scheme;
  authority = option_copied parts.authority;
  path = parts.path.now;
  query = option_copied parts.query;
  fragment = option_copied parts.fragment;
}
