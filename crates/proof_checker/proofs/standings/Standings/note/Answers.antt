use Rattle.std.proofs.Common.{ap, ◌∙◌, ◌≡◌, List, subst, if◌then◌else◌}
use Rattle.schema_tree.specs.declared.schema.Pair.{Pair}
use Rattle.proof_checker.specs.declared.standings.Standing.{Standing}
use Rattle.proof_checker.specs.Standings.{said_by, standing_in}
use Rattle.schema_tree.specs.Entries.{same_pair}
use Rattle.proof_checker.proofs.Noted.{standing_after}
use Rattle.proof_checker.proofs.standings.Standings.note.Goals as goal

pub returns : goal.returns
returns c =
    let before : List (Pair × Standing) = c.self.inside.by_pair.entries in
    let after : List (Pair × Standing) = c.insert.new.self.entries in
    let F : List (Pair × Standing) → Type 0 = λ es. (q : Pair) → standing_in after q ≡
    (if same_pair c.args.pair q then said_by c.args.kind.now (standing_in c.args.self.now c.args.pair) else standing_in es q) in
    subst F c.self.view_is
    (λ q. standing_after before after c.args.pair c.with-standing.result (said_by c.args.kind.now (standing_in c.args.self.now c.args.pair)) q
    (c.with-standing.ensures ∙ ap (λ z. said_by c.args.kind.now z) c.of.ensures) (c.in_ok-insert.ensures.updates.0 q))
