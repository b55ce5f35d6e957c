use Rattle.std.proofs.Common.{◌≡◌, ◌∙◌, ◌||◌, ◌&&◌, Bool, List, ℕ, ap}
use Rattle.shard_checks.specs.Cover.{is_read_at}
use Rattle.shard_checks.specs.Lines.{is_among, object_of, predicate_of, subject_of}
use Rattle.shard_checks.proofs.compared.Compared.is_read_at.Goals as goal

-- what is said of fields is so of the line that has them
by_fields : (at back : List (List ℕ)) (line s p o : List ℕ) (is_node : Bool) → is_node ≡ is_among s at → s ≡ subject_of line → p ≡ predicate_of line → o ≡ object_of line →
    (is_node || (is_among p back && is_among o at)) ≡ is_read_at at back line
by_fields at back line s p o is_node said subject predicate object = λ i. (said ∙ ap (λ z. is_among z at) subject) i || (is_among (predicate i) back && is_among (object i) at)

pub returns-clause-read : goal.returns-clause-read
returns-clause-read c = λ all at back are looked.
    c.is_read.ensures all at back are
    ∙ by_fields at back c.args.line.now c.look.new.self.text.now c.fields_of-fields.result.predicate.now c.fields_of-fields.result.object.now c.look.new.self.is_node
    (c.look.ensures.looked at are.nodes_are looked) (c.look.ensures.text ∙ c.fields_of-fields.ensures.subject) c.fields_of-fields.ensures.predicate c.fields_of-fields.ensures.object
