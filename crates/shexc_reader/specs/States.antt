-- What has been read of a document: the base and the prefixes in force, and the document so far.
use Rattle.std.specs.Prelude.{ℕ, List, [], ◌∷◌, ◌++◌, Some, if◌then◌else◌}
use Rattle.std.specs.Str.{bytes_eq}
use Rattle.schema_documents.specs.declared.label.Label.{Label}
use Rattle.schema_documents.specs.Tree.{ShapeExpr, MaybeShapeExpr, Declaration, Document, no_expr, one_expr}
use Rattle.term_tokens.specs.Scopes.{Scope}

pub record State : Type 0 where
  pub scope : Scope
  pub imports : List (List ℕ)
  pub start : MaybeShapeExpr
  pub decls : List Declaration

-- before the first statement
abbrev pub begun : Scope → State
begun v = record { scope = v; imports = []; start = no_expr; decls = [] }

-- a base, and an IRI under a prefix
abbrev pub rebased : List ℕ → State → State
rebased i a = record a { scope = record a.scope { base = i } }

abbrev pub declared : List ℕ → List ℕ → State → State
declared prefix i a = record a { scope = record a.scope { prefixes = λ other. if bytes_eq other prefix then Some i else a.scope.prefixes other } }

-- an import, a start, a declaration
abbrev pub imported : List ℕ → State → State
imported i a = record a { imports = a.imports ++ i ∷ [] }

abbrev pub started : ShapeExpr → State → State
started e a = record a { start = one_expr e }

abbrev pub added : Label → ShapeExpr → State → State
added l e a = record a { decls = a.decls ++ record { label = l; expr = e } ∷ [] }

-- the document
abbrev pub document_in : State → Document
document_in a = record { imports = a.imports; start = a.start; decls = a.decls }
