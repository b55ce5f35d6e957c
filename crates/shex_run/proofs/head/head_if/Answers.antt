use Rattle.std.proofs.Common.{◌≡◌, ◌∙◌, ap, subst, sym}
use Rattle.std.specs.Prelude.{IfSome, Some, is_some}
use Rattle.shex_inputs.specs.Held.{held_by}
use Rattle.shex_run.specs.Ready.{head_if, head_of}
use Rattle.shex_run.proofs.head.head_if.Goals as goal

pub returns-in_ok-head_of-in-Some : goal.returns-in_ok-head_of-in-Some
returns-in_ok-head_of-in-Some c = λ files same.
    let one : c.in-Some.digests ≡ files = subst (λ o. IfSome o (λ d. d ≡ files)) c.in-Some.is same in
    ap (λ h. Some h) c.in_ok-head_of-in-Some.ensures ∙ ap (λ d. Some (head_of (held_by c.args.holding.now d))) one ∙
    ap (λ o. head_if (is_some o) (held_by c.args.holding.now files)) (sym c.in-Some.is)
