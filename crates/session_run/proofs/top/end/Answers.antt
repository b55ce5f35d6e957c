use Rattle.std.proofs.Common.{map, refl}
use Rattle.std.specs.Prelude.{string_bytes}
use Rattle.session_run.proofs.Ended.{with_words}
use Rattle.session_run.proofs.Fitting.{fit}
use Rattle.session_run.proofs.top.end.Goals as goal

pub end_editing-requires : goal.end_editing-requires
end_editing-requires g c = fit (map string_bytes c.args.words.now) _ c.in-Ok.ensures.asked

pub returns-in-Ok : goal.returns-in-Ok
returns-in-Ok g c = c.end_editing.ensures (map string_bytes c.args.words.now) c.in-Ok.ensures.asked

pub returns-in-Err : goal.returns-in-Err
returns-in-Err g c = with_words _ _ _ _ _ (record { told_same = refl; faults_same = refl })
    (record { got_same = refl; faults_same = refl }) c.in-Err.error c.in-Err.ensures.refused c.refuse_words.ensures
