use Rattle.std.proofs.Common.{map, refl}
use Rattle.std.specs.Prelude.{string_bytes}
use Rattle.shex_tools.proofs.Ended.{with_words}
use Rattle.shex_tools.proofs.Fitting.{fit}
use Rattle.shex_tools.proofs.top.end.Goals as goal

pub end_call-requires : goal.end_call-requires
end_call-requires g c = fit (map string_bytes c.args.words.now) _ c.in-Ok.ensures.asked

pub returns-in-Ok : goal.returns-in-Ok
returns-in-Ok g c = c.end_call.ensures (map string_bytes c.args.words.now) c.in-Ok.ensures.asked

pub returns-in-Err : goal.returns-in-Err
returns-in-Err g c = with_words _ _ _ _ _ (record { told_same = refl; faults_same = refl }) (record { got_same = refl; faults_same = refl }) c.in-Err.error c.in-Err.ensures.refused c.refuse.ensures
