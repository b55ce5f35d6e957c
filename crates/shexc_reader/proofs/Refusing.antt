-- The refusal of a token that no document has there, by its symbol.
use Rattle.std.proofs.Common.{◌≡◌, ◌⊎◌, inl, inr, ℕ, true, false, refl, ◌∙◌}
use Rattle.std.specs.Prelude.{codes}
use Rattle.std.specs.Str.{chars}
use Rattle.rdf_cursor.specs.Ahead.{Ahead, next_is}
use Rattle.rdf_cursor.specs.Symbols.{is_symbol}
use Rattle.rdf_cursor.specs.declared.symbols.Symbol.TheVariants as symbol
use Rattle.rdf_lex.specs.Tokens.{Spelled}
use Rattle.schema_documents.specs.declared.error.SchemaError.{SchemaError}
use Rattle.schema_documents.specs.declared.error.SchemaError.TheVariants as errors
use Rattle.shexc_reader.specs.Refusals.{refusal_at}

module _ (rest : Ahead Spelled) (at : ℕ) where
  pub action : next_is (is_symbol symbol.Percent) rest ≡ true → errors.Action ≡ refusal_at rest at
  unfolding refusal_at
  action p = rw p refl

  pub first_word : (e : SchemaError) → next_is (is_symbol symbol.Percent) rest ≡ false → next_is (is_symbol symbol.Abstract) rest ≡ true
      → (e ≡ errors.Memory) ⊎ (e ≡ errors.Form (chars (codes "ABSTRACT"))) → (e ≡ errors.Memory) ⊎ (e ≡ refusal_at rest at)
  unfolding refusal_at
  first_word e p q (inl is) = inl is
  first_word e p q (inr is) = inr (is ∙ rw (p, q) refl)

  pub second_word : (e : SchemaError) → next_is (is_symbol symbol.Percent) rest ≡ false → next_is (is_symbol symbol.Abstract) rest ≡ false → next_is (is_symbol symbol.Extends) rest ≡ true
      → (e ≡ errors.Memory) ⊎ (e ≡ errors.Form (chars (codes "EXTENDS"))) → (e ≡ errors.Memory) ⊎ (e ≡ refusal_at rest at)
  unfolding refusal_at
  second_word e p q r (inl is) = inl is
  second_word e p q r (inr is) = inr (is ∙ rw (p, q, r) refl)

  pub third_word : (e : SchemaError) → next_is (is_symbol symbol.Percent) rest ≡ false → next_is (is_symbol symbol.Abstract) rest ≡ false →
      next_is (is_symbol symbol.Extends) rest ≡ false → next_is (is_symbol symbol.Restricts) rest ≡ true
      → (e ≡ errors.Memory) ⊎ (e ≡ errors.Form (chars (codes "RESTRICTS"))) → (e ≡ errors.Memory) ⊎ (e ≡ refusal_at rest at)
  unfolding refusal_at
  third_word e p q r s (inl is) = inl is
  third_word e p q r s (inr is) = inr (is ∙ rw (p, q, r, s) refl)

  pub syntax : next_is (is_symbol symbol.Percent) rest ≡ false → next_is (is_symbol symbol.Abstract) rest ≡ false →
      next_is (is_symbol symbol.Extends) rest ≡ false → next_is (is_symbol symbol.Restricts) rest ≡ false
      → errors.Syntax at ≡ refusal_at rest at
  unfolding refusal_at
  syntax p q r s = rw (p, q, r, s) refl
