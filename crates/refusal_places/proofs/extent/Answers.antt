use Rattle.std.proofs.Common.{ℕ, rules, ◌≡◌, ◌+◌, ◌∙◌, sym, subst, drop}
use Rattle.refusal_places.specs.Texts.{extent}
use Rattle.refusal_places.proofs.Extents.{ends, goes_on, stops, takes_one}
use Rattle.refusal_places.proofs.extent.Goals.{then-begins_character+else-left-eq0, else-begins_character}
use Rattle.refusal_places.proofs.extent.Goals as goal

pub returns-then-left-eq0-clause-size : goal.returns-then-left-eq0-clause-size
returns-then-left-eq0-clause-size c =
    let inv = c.loop-byte.invariant in
    let begins = sym c.begins_character.ensures ∙ c.if-begins_character.true in
    inv.0 ∙ stops c.args.text.now c.loop-byte.left c.loop-byte.byte-index _ _ inv.1 (search rules) begins c.if-left-eq0.true

pub loop-byte-preserved : goal.loop-byte-preserved
loop-byte-preserved c =
    let inv = c.loop-byte.invariant in
    let text = c.args.text.now in
    let at = c.loop-byte.byte-index in
    let P : ℕ → Type 0 = λ n. at + 1 + extent n (drop (at + 1) text) ≡ extent c.args.count text in (
      search rules,
      elim c.if-begins_character.branch [
        | then-begins_character+else-left-eq0 w ↦
            let begins = sym c.begins_character.ensures ∙ w.if-begins_character.true in
            subst P (sym w.left-is) (takes_one text c.loop-byte.left at _ _ inv.1 (search rules) begins w.if-left-eq0.false)
        | else-begins_character w ↦
            let begins = sym c.begins_character.ensures ∙ w.if-begins_character.false in
            subst P (sym w.left-is) (goes_on text c.loop-byte.left at _ _ inv.1 (search rules) begins)
      ],
    )

pub returns-clause-size : goal.returns-clause-size
returns-clause-size c =
    let inv = c.loop-byte.invariant in
    inv.0 ∙ ends c.args.text.now c.loop-byte.left c.loop-byte.byte-index _ 0 inv.1 (search rules)
