use Rattle.std.proofs.Common.{◌≡◌, ◌∙◌, Some, None, map, option_map, true, false, rules}
use Rattle.xs_pattern.specs.Lexing.{capped_token, read_tokens}
use Rattle.xs_pattern.specs.Parsing.{tokens_of}
use Rattle.xs_pattern.specs.Regex.{regex_of}
use Rattle.xs_pattern.proofs.Capped.{deep_pattern, good_pattern, large_number, no_pattern, no_tokens, told_depth, told_large, told_placed, told_unplaced}
use Rattle.xs_pattern.proofs.reader.parse.Goals as goal

pub returns-in_default : goal.returns-in_default
returns-in_default c =
    let held : None ≡ option_map (map capped_token) (read_tokens c.args.text.now) = search rules in
    no_tokens c.args.text.now held

pub returns-then-not-is_pattern : goal.returns-then-not-is_pattern
returns-then-not-is_pattern c =
    let held : Some (tokens_of c.in-Some.tokens.items) ≡ option_map (map capped_token) (read_tokens c.args.text.now) = search rules in
    let same : c.deref.result.now ≡ c.in-Some.tokens.items = search rules in
    let is : c.is_pattern.result ≡ false = search rules in
    no_pattern c.args.text.now (tokens_of c.in-Some.tokens.items) held (told_unplaced c.in-Some.tokens.items c.deref.result.now c.is_pattern.result same c.is_pattern.ensures is)

pub returns-then-has_large : goal.returns-then-has_large
returns-then-has_large c =
    let held : Some (tokens_of c.in-Some.tokens.items) ≡ option_map (map capped_token) (read_tokens c.args.text.now) = search rules in
    let same : c.deref.result.now ≡ c.in-Some.tokens.items = search rules in
    let again : c.deref-2.result.now ≡ c.in-Some.tokens.items = search rules in
    let is : c.is_pattern.result ≡ true = search rules in
    let large : c.has_large.result ≡ true = search rules in
    large_number c.args.text.now (tokens_of c.in-Some.tokens.items) held
    (told_placed c.in-Some.tokens.items c.deref.result.now c.is_pattern.result same c.is_pattern.ensures is)
    (told_large c.in-Some.tokens.items c.deref-2.result.now c.has_large.result again c.has_large.ensures ∙ large)

pub returns-then-nesting-gt-DEEPEST : goal.returns-then-nesting-gt-DEEPEST
returns-then-nesting-gt-DEEPEST c =
    let held : Some (tokens_of c.in-Some.tokens.items) ≡ option_map (map capped_token) (read_tokens c.args.text.now) = search rules in
    let same : c.deref.result.now ≡ c.in-Some.tokens.items = search rules in
    let again : c.deref-2.result.now ≡ c.in-Some.tokens.items = search rules in
    let once_more : c.deref-3.result.now ≡ c.in-Some.tokens.items = search rules in
    let is : c.is_pattern.result ≡ true = search rules in
    let small : c.has_large.result ≡ false = search rules in
    deep_pattern c.args.text.now (tokens_of c.in-Some.tokens.items) c.nesting.result held
    (told_placed c.in-Some.tokens.items c.deref.result.now c.is_pattern.result same c.is_pattern.ensures is)
    (told_large c.in-Some.tokens.items c.deref-2.result.now c.has_large.result again c.has_large.ensures ∙ small)
    (told_depth c.in-Some.tokens.items c.deref-3.result.now c.nesting.result once_more c.nesting.ensures) c.if-nesting-gt-DEEPEST.true

pub returns : goal.returns
returns c =
    let held : Some (tokens_of c.in-Some.tokens.items) ≡ option_map (map capped_token) (read_tokens c.args.text.now) = search rules in
    let again : c.deref-2.result.now ≡ c.in-Some.tokens.items = search rules in
    let once_more : c.deref-3.result.now ≡ c.in-Some.tokens.items = search rules in
    let small : c.has_large.result ≡ false = search rules in
    good_pattern c.args.text.now (tokens_of c.in-Some.tokens.items) c.nesting.result (regex_of c.in_ok-whole.field-0) held
    (told_large c.in-Some.tokens.items c.deref-2.result.now c.has_large.result again c.has_large.ensures ∙ small)
    (told_depth c.in-Some.tokens.items c.deref-3.result.now c.nesting.result once_more c.nesting.ensures) c.if-nesting-gt-DEEPEST.false
    c.in_ok-whole.ensures.0 c.in_ok-whole.ensures.1
