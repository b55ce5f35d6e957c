-- What a group holds, and what is repeated.
use Rattle.std.proofs.Common.{◌≡◌, ℕ, sym, ap, ◌∙◌}
use Rattle.std.proofs.Common.{rules}
use Rattle.std.specs.Prelude.{Option}
use Rattle.std.specs.declared.alloc.Global.{Global}
use Rattle.std.specs.declared.boxed.Box.{Box}
use Rattle.xs_pattern.specs.declared.expression.Expression.{Expression, Group, Repeat, the_lemmas}
use Rattle.xs_pattern.specs.Regex.{regex_of, group, repeat}

regex_group : (b : Box Expression Global) → regex_of (Group b) ≡ group (regex_of b.value)
regex_group b = search (rules, the_lemmas)

regex_repeat : (least : ℕ) (most : Option ℕ) (b : Box Expression Global) → regex_of (Repeat least most b) ≡ repeat least most (regex_of b.value)
regex_repeat least most b = search (rules, the_lemmas)

pub is_group : (e : Expression) (b : Box Expression Global) (x : Expression) → e ≡ Group b → x ≡ b.value → regex_of e ≡ group (regex_of x)
is_group e b x is p = ap regex_of is ∙ (regex_group b ∙ ap (λ v. group (regex_of v)) (sym p))

pub is_repeat : (e : Expression) (least : ℕ) (most : Option ℕ) (b : Box Expression Global) (x : Expression) → e ≡ Repeat least most b → x ≡ b.value → regex_of e ≡ repeat least most (regex_of x)
is_repeat e least most b x is p = ap regex_of is ∙ (regex_repeat least most b ∙ ap (λ v. repeat least most (regex_of v)) (sym p))
