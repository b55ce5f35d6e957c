use Rattle.std.proofs.Common.{◌≡◌, ◌++◌, ◌∷◌, ◌∙◌, ◌<◌, [], Some, ap, length, rules}
use Rattle.std.proofs.lemmas.List.{map-append}
use Rattle.xs_pattern.specs.Lexing.{capped_pair, read_token}
use Rattle.xs_pattern.specs.Parsing.{token_of, tokens_of}
use Rattle.xs_pattern.proofs.Loops.{capped_tokens, token_less, tokens_on}
use Rattle.xs_pattern.proofs.lexer.tokens.Goals as goal

pub loop-rest-smaller : goal.loop-rest-smaller
loop-rest-smaller c =
    let read : Some (token_of c.in-Some.token, c.in-Some.behind.now) ≡ capped_pair (read_token c.loop-rest.rest.now) = search rules in
    token_less (token_of c.in-Some.token) c.loop-rest.rest.now c.in-Some.behind.now read

pub loop-rest-preserved : goal.loop-rest-preserved
loop-rest-preserved c =
    let made : c.push.new.self.items ≡ c.loop-rest.tokens.items ++ c.in-Some.token ∷ [] = search rules in
    let read : Some (token_of c.in-Some.token, c.in-Some.behind.now) ≡ capped_pair (read_token c.loop-rest.rest.now) = search rules in
    let some : 0 < length c.loop-rest.rest.now = search rules in
    tokens_on (tokens_of c.loop-rest.tokens.items) (tokens_of c.push.new.self.items) (token_of c.in-Some.token) c.loop-rest.rest.now c.in-Some.behind.now (capped_tokens c.args.text.now)
    (ap tokens_of made ∙ map-append token_of c.loop-rest.tokens.items (c.in-Some.token ∷ [])) c.loop-rest.invariant some read
