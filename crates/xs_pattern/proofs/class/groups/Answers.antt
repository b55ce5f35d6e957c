use Rattle.std.proofs.Common.{◌≡◌, ◌++◌, ◌∷◌, ◌∙◌, [], Some, true, ap, map, rules}
use Rattle.std.proofs.lemmas.List.{map-append}
use Rattle.xs_pattern.specs.Lexing.{begins, read_groups, read_members, tail}
use Rattle.xs_pattern.specs.Regex.{members_of}
use Rattle.xs_pattern.proofs.Loops.{group_less, groups_first, groups_on}
use Rattle.xs_pattern.proofs.class.groups.Goals as goal

pub loop-alloc-init : goal.loop-alloc-init
loop-alloc-init c =
    let made : c.push.new.self.items ≡ c.in-Some.first ∷ [] = search rules in
    let read : Some (members_of c.in-Some.first, c.in-Some.rest.now) ≡ read_members c.args.text.now = search rules in
    groups_first c.args.text.now c.in-Some.rest.now (members_of c.in-Some.first) (map members_of c.push.new.self.items) (ap (map members_of) made) read

pub loop-alloc-smaller : goal.loop-alloc-smaller
loop-alloc-smaller c =
    let read : Some (members_of c.in-Some-2.group, c.in-Some-2.behind.now) ≡ read_members (tail c.loop-alloc.rest.now) = search rules in
    group_less (members_of c.in-Some-2.group) c.loop-alloc.rest.now c.in-Some-2.behind.now read

pub loop-alloc-preserved : goal.loop-alloc-preserved
loop-alloc-preserved c =
    let made : c.push-in-loop-alloc.new.self.items ≡ c.loop-alloc.groups.items ++ c.in-Some-2.group ∷ [] = search rules in
    let read : Some (members_of c.in-Some-2.group, c.in-Some-2.behind.now) ≡ read_members (tail c.loop-alloc.rest.now) = search rules in
    let goes : begins 45 c.loop-alloc.rest.now ≡ true = search rules in
    groups_on (map members_of c.loop-alloc.groups.items) (map members_of c.push-in-loop-alloc.new.self.items)
    (members_of c.in-Some-2.group) c.loop-alloc.rest.now c.in-Some-2.behind.now (read_groups c.args.text.now)
    (ap (map members_of) made ∙ map-append members_of c.loop-alloc.groups.items (c.in-Some-2.group ∷ [])) c.loop-alloc.invariant goes read
