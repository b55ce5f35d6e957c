-- The number of each symbol is its tag in the code.
use Rattle.std.proofs.Common.{◌≡◌, refl}
use denote.Enum.Declared.{tag_of}
use Rattle.rdf_cursor.specs.contracts.symbols.Symbol.{the_type}
use Rattle.rdf_cursor.specs.declared.symbols.Symbol.{Symbol}
use Rattle.rdf_cursor.specs.declared.symbols.Symbol.TheVariants as symbol
use Rattle.rdf_cursor.specs.Symbols.{number}

pub tag_is : (s : Symbol) → tag_of the_type s ≡ number s
tag_is symbol.IriRef = refl
tag_is symbol.PnameNs = refl
tag_is symbol.PnameLn = refl
tag_is symbol.BlankLabel = refl
tag_is symbol.LangTag = refl
tag_is symbol.AtPrefix = refl
tag_is symbol.AtBase = refl
tag_is symbol.AtStart = refl
tag_is symbol.AtName = refl
tag_is symbol.Str = refl
tag_is symbol.Integer = refl
tag_is symbol.Decimal = refl
tag_is symbol.Double = refl
tag_is symbol.Line = refl
tag_is symbol.Pattern = refl
tag_is symbol.A = refl
tag_is symbol.True = refl
tag_is symbol.False = refl
tag_is symbol.Focus = refl
tag_is symbol.Start = refl
tag_is symbol.AnyStart = refl
tag_is symbol.SparqlPrefix = refl
tag_is symbol.SparqlBase = refl
tag_is symbol.Import = refl
tag_is symbol.External = refl
tag_is symbol.And = refl
tag_is symbol.Or = refl
tag_is symbol.Not = refl
tag_is symbol.Iri = refl
tag_is symbol.Bnode = refl
tag_is symbol.Literal = refl
tag_is symbol.NonLiteral = refl
tag_is symbol.Length = refl
tag_is symbol.MinLength = refl
tag_is symbol.MaxLength = refl
tag_is symbol.TotalDigits = refl
tag_is symbol.FractionDigits = refl
tag_is symbol.MinInclusive = refl
tag_is symbol.MinExclusive = refl
tag_is symbol.MaxInclusive = refl
tag_is symbol.MaxExclusive = refl
tag_is symbol.Extra = refl
tag_is symbol.Closed = refl
tag_is symbol.Abstract = refl
tag_is symbol.Extends = refl
tag_is symbol.Restricts = refl
tag_is symbol.Dot = refl
tag_is symbol.Semicolon = refl
tag_is symbol.Comma = refl
tag_is symbol.OpenBracket = refl
tag_is symbol.CloseBracket = refl
tag_is symbol.OpenParenthesis = refl
tag_is symbol.CloseParenthesis = refl
tag_is symbol.OpenBrace = refl
tag_is symbol.CloseBrace = refl
tag_is symbol.Carets = refl
tag_is symbol.At = refl
tag_is symbol.Exclamation = refl
tag_is symbol.Underscore = refl
tag_is symbol.Bar = refl
tag_is symbol.Tilde = refl
tag_is symbol.Minus = refl
tag_is symbol.Equals = refl
tag_is symbol.Dollar = refl
tag_is symbol.Ampersand = refl
tag_is symbol.Caret = refl
tag_is symbol.Star = refl
tag_is symbol.Plus = refl
tag_is symbol.Question = refl
tag_is symbol.Slashes = refl
tag_is symbol.Percent = refl
tag_is symbol.Other = refl
