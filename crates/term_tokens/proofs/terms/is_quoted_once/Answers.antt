use Rattle.std.proofs.Common.{refl, codes}
use Rattle.std.proofs.lemmas.Str.Pattern.{starts_text}
use Rattle.term_tokens.proofs.Texts.{starts_chars}
use Rattle.term_tokens.proofs.terms.is_quoted_once.Goals as goal

pub returns-then-starts_with : goal.returns-then-starts_with
returns-then-starts_with c =
    let first = starts_chars _ (codes "\"") _ c.utf8.text refl (starts_text c.starts_with.result (codes "\"") _ c.starts_with.ensures.cases) in
    let long = starts_chars _ (codes "\"\"\"") _ c.utf8.text refl (starts_text c.starts_with-then-starts_with.result (codes "\"\"\"") _ c.starts_with-then-starts_with.ensures.cases) in
    rw (← first, c.if-starts_with.true, ← long) refl

pub returns-else-starts_with : goal.returns-else-starts_with
returns-else-starts_with c =
    let first = starts_chars _ (codes "\"") _ c.utf8.text refl (starts_text c.starts_with.result (codes "\"") _ c.starts_with.ensures.cases) in
    rw (← first, c.if-starts_with.false) refl
