use Rattle.std.proofs.Common.{◌≡◌, ◌∙◌, ◌∷◌, Global, ap, drop, length, map, string_bytes, sym, take, ◌-◌}
use Rattle.std.specs.Cmp.Lexicographic.{bytes_decides}
use Rattle.command_words.proofs.Seen.{first_and_rest}
use Rattle.command_words.proofs.matches.words_behind.Goals as goal

pub returns-then-eq-clause-found : goal.returns-then-eq-clause-found
returns-then-eq-clause-found c =
    let behind = map (string_bytes {Z = Global}) (take (length c.args.words.now - 1) (drop 1 c.args.words.now)) in
    let named : c.as_str.result.now ≡ c.args.name.now = (bytes_decides c.as_str.result.now (c.args.name.now)).0 (sym c.if-eq.ensures) in
    first_and_rest (string_bytes {Z = Global}) c.args.words.now c.first-item.result c.in-len1-up.len_at_least c.first-item.is ∙ ap (λ w. w ∷ behind) (sym c.as_str.ensures.value ∙ named)
