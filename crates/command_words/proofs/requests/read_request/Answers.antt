use Rattle.std.proofs.Common.{◌≡◌, ◌∙◌, ◌∷◌, ◌-◌, Global, ap, codes, drop, length, map, string_bytes, sym, take}
use Rattle.std.specs.Cmp.Lexicographic.{bytes_decides}
use Rattle.command_words.proofs.Seen.{first_and_rest, requested}
use Rattle.command_words.proofs.requests.read_request.Goals as goal

pub returns-then-eq-clause-ok : goal.returns-then-eq-clause-ok
returns-then-eq-clause-ok c =
    let behind = map (string_bytes {Z = Global}) (take (length c.args.words.now - 1) (drop 1 c.args.words.now)) in
    let named : c.as_str.result.now ≡ codes "validate" = (bytes_decides c.as_str.result.now (codes "validate")).0 (sym c.if-eq.ensures) in
    let all : map (string_bytes {Z = Global}) c.args.words.now ≡ codes "validate" ∷ behind =
    first_and_rest (string_bytes {Z = Global}) c.args.words.now c.name-item.result c.in-len1-up.len_at_least c.name-item.is ∙ ap (λ w. w ∷ behind) (sym c.as_str.ensures.value ∙ named) in
    requested (map (string_bytes {Z = Global}) c.args.words.now) behind (codes "validate") c.read_to_validate.result all c.read_to_validate.ensures.ok c.read_to_validate.ensures.named

pub returns-then-eq-2-clause-ok : goal.returns-then-eq-2-clause-ok
returns-then-eq-2-clause-ok c =
    let behind = map (string_bytes {Z = Global}) (take (length c.args.words.now - 1) (drop 1 c.args.words.now)) in
    let named : c.as_str-else-eq.result.now ≡ codes "check" = (bytes_decides c.as_str-else-eq.result.now (codes "check")).0 (sym c.if-eq-2.ensures) in
    let all : map (string_bytes {Z = Global}) c.args.words.now ≡ codes "check" ∷ behind =
    first_and_rest (string_bytes {Z = Global}) c.args.words.now c.name-item.result c.in-len1-up.len_at_least c.name-item.is ∙ ap (λ w. w ∷ behind) (sym c.as_str-else-eq.ensures.value ∙ named) in
    requested (map (string_bytes {Z = Global}) c.args.words.now) behind (codes "check") c.read_to_check.result all c.read_to_check.ensures.ok c.read_to_check.ensures.named

pub returns-then-eq-3-clause-ok : goal.returns-then-eq-3-clause-ok
returns-then-eq-3-clause-ok c =
    let behind = map (string_bytes {Z = Global}) (take (length c.args.words.now - 1) (drop 1 c.args.words.now)) in
    let named : c.as_str-else-eq-2.result.now ≡ codes "upgrade" = (bytes_decides c.as_str-else-eq-2.result.now (codes "upgrade")).0 (sym c.if-eq-3.ensures) in
    let all : map (string_bytes {Z = Global}) c.args.words.now ≡ codes "upgrade" ∷ behind =
    first_and_rest (string_bytes {Z = Global}) c.args.words.now c.name-item.result c.in-len1-up.len_at_least c.name-item.is ∙ ap (λ w. w ∷ behind) (sym c.as_str-else-eq-2.ensures.value ∙ named) in
    requested (map (string_bytes {Z = Global}) c.args.words.now) behind (codes "upgrade") c.read_to_upgrade.result all c.read_to_upgrade.ensures.ok c.read_to_upgrade.ensures.named
