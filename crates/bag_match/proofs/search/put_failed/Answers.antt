use Rattle.std.proofs.Common.{rules, ◌≡◌, ◌<◌, ◌∙◌, ap, arith, length, sym}
use Rattle.std.proofs.lemmas.Option.{slice_get-get_or}
use Rattle.std.specs.Vec.{vec_len}
use Rattle.std.proofs.lemmas.Result.{on_ok_weaker}
use Rattle.std.specs.Prelude.{Some, slice_get}
use Rattle.bag_match.proofs.Failing.{failed_put}
use Rattle.bag_match.proofs.search.put_failed.Goals as goal

pub returns : goal.returns
returns c =
    let size : vec_len c.loop-failed.failed ≡ length c.loop-failed.failed.items = search rules in
    let within : c.args.left < length c.loop-failed.failed.items = (let past = c.loop-failed-test.false in let long = c.len.ensures in omega (arith, past, long, size)) in
    let at : slice_get c.loop-failed.failed.items c.args.left ≡ Some c.index_mut.result.now =
    slice_get-get_or c.loop-failed.failed.items c.args.left c.index_mut.result.now within ∙ ap (λ z. Some z) (sym c.index_mut.ensures.value) in
    on_ok_weaker c.put.result
    (λ put. failed_put c.args.failed.now.items c.loop-failed.failed.items c.args.left c.index_mut.result.now c.put.new.found c.args.counts.now c.loop-failed.invariant at put) c.put.ensures
