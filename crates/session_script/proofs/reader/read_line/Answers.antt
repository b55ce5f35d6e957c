use Rattle.std.proofs.Common.{ℕ, List, ◌∷◌, rules, ap, ◌∙◌, lit<, None, Some}
use Rattle.std.proofs.lemmas.List.{nil_from_length}
use Rattle.std.proofs.lemmas.Result.{err_from_is_err_and}
use Rattle.std.proofs.lemmas.Str.Pattern.{strip_prefix_char}
use Rattle.session_script.specs.Scripts.{character}
use Rattle.session_script.proofs.Lines.{some_line, empty_adds, command_adds, no_sign, no_space, refused_rest}
use Rattle.session_script.proofs.reader.read_line.Goals as goal

pub returns-then-is_empty : goal.returns-then-is_empty
returns-then-is_empty c = empty_adds c.args.line.now c.args.start c.args.commands.now.items (nil_from_length _ (search rules))

pub returns-in_default : goal.returns-in_default
returns-in_default c = no_sign c.args.line.now c.args.start (some_line c.args.line.now c.is_empty.result c.is_empty.ensures c.if-is_empty.false) c.in_default.ensures

pub returns-in_default-strip_prefix : goal.returns-in_default-strip_prefix
returns-in_default-strip_prefix c =
    no_space c.args.line.now c.in-Some.behind.now c.in-Some.sign c.args.start c.in-Some.ensures (strip_prefix_char 32 c.in-Some.behind.now None c.in_default-strip_prefix.ensures.cases (lit< tt))

pub returns-in_err-command : goal.returns-in_err-command
returns-in_err-command c =
    let p = err_from_is_err_and c.from_residual.result c.from_residual.ensures.1 in
    let e = strip_prefix_char 32 c.in-Some.behind.now (Some c.in-Some-strip_prefix.rest) c.in-Some-strip_prefix.ensures.cases (lit< tt) in
    rw (p.1, p.2)
    (refused_rest c.in_err-command.field-0.0 c.args.line.now c.in-Some.sign c.in-Some-strip_prefix.rest.now c.args.start (c.in-Some.ensures
    ∙ ap (λ (v : List ℕ). character c.in-Some.sign ∷ v) e) c.in_err-command.ensures.refused)

pub returns : goal.returns
returns c =
    let e = strip_prefix_char 32 c.in-Some.behind.now (Some c.in-Some-strip_prefix.rest) c.in-Some-strip_prefix.ensures.cases (lit< tt) in
    command_adds c.args.line.now c.in-Some.sign c.in-Some-strip_prefix.rest.now c.args.start c.in_ok-command.command c.args.commands.now.items c.push.new.self.items
    (c.in-Some.ensures ∙ ap (λ (v : List ℕ). character c.in-Some.sign ∷ v) e) c.in_ok-command.ensures.found c.in_ok-push.ensures.items
