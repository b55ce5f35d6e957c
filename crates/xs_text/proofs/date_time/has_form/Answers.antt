use Rattle.std.proofs.Common.{rules, tests, ℕ, ◌&&◌, length, ◌∙◌, ap, sym}
use Rattle.std.specs.List.{list_all, zip}
use Rattle.std.proofs.lemmas.Bool.{eq-eqb}
use Rattle.std.proofs.lemmas.Iterator.{YieldsList-from_slice, YieldsList-from_zip}
use Rattle.std.proofs.lemmas.Iterator.Search.{all_from_yields_List}
use Rattle.xs_text.specs.DateTime.{stands_for, has_form}
use Rattle.xs_text.proofs.date_time.has_form.Goals as goal

pub returns-then-text-picture : goal.returns-then-text-picture
unfolding has_form
returns-then-text-picture c =
    all_from_yields_List (λ (pair : ℕ ×
    ℕ). stands_for pair.0 pair.1) c.all.new.self _ _ c.all.ensures.ran (YieldsList-from_zip {s =
    c.zip.result} (YieldsList-from_slice c.args.text.now cc) (YieldsList-from_slice c.args.picture.now c.zip.ensures.second.0)) (λ x b q k. search (rules, tests))
    ∙ ap (λ b. b && list_all (λ (pair : ℕ × ℕ). stands_for pair.0 pair.1) (zip c.args.text.now c.args.picture.now))
    (sym (eq-eqb (length c.args.text.now) (length c.args.picture.now) c.if-text-picture.true))
