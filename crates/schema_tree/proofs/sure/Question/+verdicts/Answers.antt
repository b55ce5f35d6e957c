use Rattle.std.proofs.Common.{◌<◌, sym, ◌∙◌, ◌+◌, subst, arith, get_or, take, true≢false}
use Rattle.std.proofs.lemmas.List.Elements.{Contains-get_or}
use Rattle.std.specs.HashMap.{get}
use Rattle.schema_tree.specs.Joined.{same_expr}
use Rattle.schema_tree.specs.Sure.{IsSure}
use Rattle.schema_tree.specs.declared.verdicts.Verdict.{Verdict}
use Rattle.schema_tree.specs.declared.verdicts.Verdict.TheVariants.{Unknown}
use Rattle.schema_tree.proofs.Joining.{SoFar, entry_missed, entry_read, keeps_more, members_below, other_next, other_verdicts, same_verdicts, sure_at, sure_end, sure_found, sure_not, unknown_next}
use Rattle.schema_tree.proofs.sure.Question.+verdicts.Goals as goal
use Rattle.schema_tree.proofs.sure.Question.+verdicts.Goals.{joined-then-eq-2, joined-else-eq-2}

pub joined-verdict-requires : goal.joined-verdict-requires
joined-verdict-requires g t c κs within =
    let below : (get_or c.args.members.now c.loop-member.member-index (record { 0 = 0 })).0 < c.args.expr.0 =
    members_below _ c.requires.loaded c.args.decisive c.args.members.now c.args.expr c.requires.entry _
    (Contains-get_or c.args.members.now c.loop-member.member-index _ c.loop-member-test.true)
    in
    (omega arith, (within, (c.requires.loaded, c.loop-member.invariant.kept)))

pub joined-returns-then-eq-clause-sure : goal.joined-returns-then-eq-clause-sure
joined-returns-then-eq-clause-sure g t c =
    let same = same_verdicts c.in_ok-found.found c.args.decisive (sym c.if-eq.ensures) in
    let Here = IsSure c.args.self.now.schema.now c.args.self.now.terms.now (g.V.View.known c.args.self.now.view.now) c.args.self.now.node in
    subst (λ v. Here c.args.expr v) (sym same)
    (sure_found _ _ c.requires.loaded _ _ c.args.decisive c.args.members.now c.args.expr c.requires.entry c.loop-member.member-index _ c.loop-member-test.true
    (subst (λ v. Here (get_or c.args.members.now c.loop-member.member-index (record { 0 = 0 })) v) same c.in_ok-found.ensures.sure))

pub joined-loop-member-preserved : goal.joined-loop-member-preserved
joined-loop-member-preserved g t c =
    let Here = IsSure c.args.self.now.schema.now c.args.self.now.terms.now (g.V.View.known c.args.self.now.view.now) c.args.self.now.node in
    let So : Verdict → Type 0 = λ v. SoFar Here c.args.decisive (take (c.loop-member.member-index + 1) c.args.members.now) v in
    record {
      kept = c.verdict.ensures.kept;
      so_far = elim c.if-eq-2.branch [
        | joined-then-eq-2 w ↦ subst So (sym {b = Unknown} w.verdict-is)
            (unknown_next _ _ c.requires.loaded _ _ c.args.decisive c.args.members.now c.args.expr c.requires.entry c.loop-member.member-index _
            c.loop-member-test.true _ c.loop-member.invariant.so_far
            (subst (λ v. Here (get_or c.args.members.now c.loop-member.member-index (record { 0 = 0 })) v)
            (same_verdicts c.in_ok-found.found Unknown (sym w.if-eq-2.ensures)) c.in_ok-found.ensures.sure))
        | joined-else-eq-2 w ↦ subst So (sym {b = c.loop-member.verdict} w.verdict-is)
            (other_next _ _ c.requires.loaded _ _ c.args.decisive c.args.members.now c.args.expr c.requires.entry c.loop-member.member-index _
            c.loop-member-test.true _ c.loop-member.invariant.so_far c.in_ok-found.found c.in_ok-found.ensures.sure
            (other_verdicts c.in_ok-found.found c.args.decisive (sym c.if-eq.ensures))
            (other_verdicts c.in_ok-found.found Unknown (sym w.if-eq-2.ensures)))
      ];
    }

pub joined-returns-clause-sure : goal.joined-returns-clause-sure
joined-returns-clause-sure g t c =
    sure_end _ _ c.requires.loaded _ _ _ _ _ c.requires.entry _ _ c.loop-member-test.false c.loop-member.invariant.so_far

pub kept_or_joined-returns-clause-kept : goal.kept_or_joined-returns-clause-kept
kept_or_joined-returns-clause-kept g t c =
    keeps_more _ (get same_expr c.joined.new.kept) (get same_expr c.insert.new.self) c.args.expr c.in_ok-verdict.verdict
    (c.in_ok-insert.ensures.updates.0) c.joined.ensures.kept c.in_ok-verdict.ensures.sure

pub verdict-verdict-requires : goal.verdict-verdict-requires
verdict-verdict-requires g t c κs within =
    let read = c.in-Some-Not.ensures.lookup in
    let below : c.in-Some-Not.member.0 < c.args.expr.0 =
    c.requires.loaded.refers c.args.expr _ (entry_read c.args.self.now.schema.now _ c.args.expr c.in-Some-Not.field-0.now _ c.as_slice.ensures read.0 read.1 c.in-Some-Not.field-0-is)
    in
    (omega arith, (within, (c.requires.loaded, c.requires.kept)))

pub verdict-returns-in_ok-verdict-in-Some-Not-clause-sure :
    goal.verdict-returns-in_ok-verdict-in-Some-Not-clause-sure
verdict-returns-in_ok-verdict-in-Some-Not-clause-sure g t c =
    let read = c.in-Some-Not.ensures.lookup in
    let at = entry_read c.args.self.now.schema.now _ c.args.expr c.in-Some-Not.field-0.now _ c.as_slice.ensures read.0 read.1 c.in-Some-Not.field-0-is in
    let Here = IsSure c.args.self.now.schema.now c.args.self.now.terms.now (g.V.View.known c.args.self.now.view.now) c.args.self.now.node in
    subst (λ v. Here c.args.expr v) (sym c.negated.ensures)
    (sure_not _ _ c.requires.loaded _ _ c.args.expr c.in-Some-Not.member at _ c.in_ok-verdict-in-Some-Not.ensures.sure)

pub verdict-returns-then-fits-clause-sure : goal.verdict-returns-then-fits-clause-sure
verdict-returns-then-fits-clause-sure g t c =
    let read = c.in-Some-Node.ensures.lookup in
    let at = entry_read c.args.self.now.schema.now _ c.args.expr c.in-Some-Node.field-0.now _ c.as_slice.ensures read.0 read.1 c.in-Some-Node.field-0-is in
    sure_at _ _ c.requires.loaded _ _ c.args.expr _ at _ (c.in_ok-fits-in-Some-Node.ensures.0 c.if-fits.true)

pub verdict-returns-else-fits-clause-sure : goal.verdict-returns-else-fits-clause-sure
verdict-returns-else-fits-clause-sure g t c =
    let read = c.in-Some-Node.ensures.lookup in
    let at = entry_read c.args.self.now.schema.now _ c.args.expr c.in-Some-Node.field-0.now _ c.as_slice.ensures read.0 read.1 c.in-Some-Node.field-0-is in
    sure_at _ _ c.requires.loaded _ _ c.args.expr _ at _ (λ h. true≢false (sym (c.in_ok-fits-in-Some-Node.ensures.1 h) ∙ c.if-fits.false))

pub verdict-returns-in-Some-Shape-clause-sure : goal.verdict-returns-in-Some-Shape-clause-sure
verdict-returns-in-Some-Shape-clause-sure g t c =
    let read = c.in-Some-Shape.ensures.lookup in
    let at = entry_read c.args.self.now.schema.now _ c.args.expr c.in-Some-Shape.field-0.now _ c.as_slice.ensures read.0 read.1 c.in-Some-Shape.field-0-is in
    sure_at _ _ c.requires.loaded _ _ c.args.expr _ at _ c.pair.ensures

pub verdict-returns-in-None-clause-sure : goal.verdict-returns-in-None-clause-sure
verdict-returns-in-None-clause-sure g t c =
    sure_at _ _ c.requires.loaded _ _ c.args.expr _ (entry_missed c.args.self.now.schema.now _ c.args.expr c.as_slice.ensures c.in-None.ensures.lookup.0) _ tt
