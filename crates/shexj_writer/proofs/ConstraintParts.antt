-- A node constraint from what is put of its parts.
use Rattle.std.proofs.Common.{◌≡◌, ◌∙◌, ap, subst, ℕ, List, Option, codes}
use Rattle.std.specs.Prelude.{IfSome, option_and_then, option_map}
use Rattle.std.specs.List.{AllByRecursion}
use Rattle.serde_json.specs.Data.{Data, Members, no_members, object, put, string}
use Rattle.value_sets.specs.Values.{ValueList}
use Rattle.node_constraint.specs.Constraint.{Constraint}
use Rattle.node_constraint.specs.declared.Kind4.{Kind4}
use Rattle.node_constraint.specs.declared.facet.Facet.{Facet}
use Rattle.shexj_reader.specs.Constraints.{kind_word}
use Rattle.shexj_writer.specs.Constraints.{bound_fields, bound_keys, constraint_data, facet_under, flags_data, last_fields, under}
use Rattle.shexj_writer.specs.Held.{AreHeldFacets, AreHeldValuesIfAny, HasTextFlags, IsHeldConstraint, IsHeldUnder, IsTextIfAny}
use Rattle.shexj_writer.specs.Objects.{put_all, put_if}
use Rattle.shexj_writer.specs.Texts.{text_data}
use Rattle.shexj_writer.specs.Values.{value_set_data}

-- what a constraint asks for
pub record HasParts (c : Constraint) (kind : Option Kind4) (datatype : Option (List ℕ)) (facets : List Facet) (values : Option ValueList) : Type 0 where
  pub kinds : kind ≡ c.kind
  pub datatypes : datatype ≡ c.datatype
  pub lists : facets ≡ c.facets
  pub sets : values ≡ c.values

abbrev constraint_of : Option Kind4 → Option (List ℕ) → List Facet → Option ValueList → Constraint
constraint_of kind datatype facets values = record { kind = kind; datatype = datatype; facets = facets; values = values }

pub parts_written : (c : Constraint) (id : Option Data) (kind : Option Kind4) (datatype : Option (List ℕ)) (facets : List Facet) (values : Option ValueList) (pattern : Option Facet)
    (flags : Option Data) (m0 m1 m2 m3 m4 m5 m6 : Members) (d : Data) →
    HasParts c kind datatype facets values → pattern ≡ facet_under (codes "pattern") facets → flags ≡ option_and_then flags_data pattern →
    m0 ≡ no_members → m1 ≡ put_all (last_fields kind facets values) m0 → m2 ≡ put_all (bound_fields facets) m1 → m3 ≡ put_if (codes "id") id m2 →
    m4 ≡ put_if (codes "fractiondigits") (under (codes "fractiondigits") facets) m3 → m5 ≡ put_if (codes "flags") flags m4 → m6 ≡ put_if (codes "datatype") (option_map text_data datatype) m5 →
    d ≡ object m6 → d ≡ constraint_data id c
unfolding constraint_data
parts_written c id kind datatype facets values pattern flags m0 m1 m2 m3 m4 m5 m6 d parts p f q0 q1 q2 q3 q4 q5 q6 q =
    let flags_are : flags ≡ option_and_then flags_data (facet_under (codes "pattern") facets) = f ∙ ap (λ (o : Option Facet). option_and_then flags_data o) p in
    let w1 = q1 ∙ ap (λ (m : Members). put_all (last_fields kind facets values) m) q0 in
    let w2 = q2 ∙ ap (λ (m : Members). put_all (bound_fields facets) m) w1 in
    let w3 = q3 ∙ ap (λ (m : Members). put_if (codes "id") id m) w2 in
    let w4 = q4 ∙ ap (λ (m : Members). put_if (codes "fractiondigits") (under (codes "fractiondigits") facets) m) w3 in
    let w5 = q5 ∙ (ap (λ (o : Option Data). put_if (codes "flags") o m4) flags_are
    ∙ ap (λ (m : Members). put_if (codes "flags") (option_and_then flags_data (facet_under (codes "pattern") facets)) m) w4) in
    let w6 = q6 ∙ ap (λ (m : Members). put_if (codes "datatype") (option_map text_data datatype) m) w5 in
    let same : constraint_of kind datatype facets values ≡ c = λ i. record { kind = parts.kinds i; datatype = parts.datatypes i; facets = parts.lists i; values = parts.sets i } in
    q ∙ (ap (λ (m : Members). object m) w6 ∙ ap (λ (x : Constraint). constraint_data id x) same)

pub parts_held : (c : Constraint) (kind : Option Kind4) (datatype : Option (List ℕ)) (facets : List Facet) (values : Option ValueList) (pattern : Option Facet) →
    HasParts c kind datatype facets values → pattern ≡ facet_under (codes "pattern") facets →
    AreHeldValuesIfAny values → IsHeldUnder facets (codes "totaldigits") → IsHeldUnder facets (codes "pattern") →
    AllByRecursion (IsHeldUnder facets) bound_keys → IsHeldUnder facets (codes "fractiondigits") →
    IfSome pattern HasTextFlags → IsTextIfAny datatype → IsHeldConstraint c
parts_held c kind datatype facets values pattern parts p held_values digits patterns bounds fraction flags text =
    let flags_held : IfSome (facet_under (codes "pattern") facets) HasTextFlags = subst (λ (o : Option Facet). IfSome o HasTextFlags) p flags in
    record {
      datatype = subst (λ (o : Option (List ℕ)). IsTextIfAny o) parts.datatypes text;
      facets = subst (λ (fs : List Facet). AreHeldFacets fs) parts.lists
          (bounds.0, (bounds.1.1.1.1.1.1.0, (bounds.1.1.1.0, (patterns, (bounds.1.1.1.1.1.0, (bounds.1.1.1.1.0, (bounds.1.1.0, (bounds.1.0, (digits, (fraction, tt))))))))));
      flags = subst (λ (fs : List Facet). IfSome (facet_under (codes "pattern") fs) HasTextFlags) parts.lists flags_held;
      values = subst (λ (o : Option ValueList). AreHeldValuesIfAny o) parts.sets held_values;
    }

pub last_written : (kind : Option Kind4) (facets : List Facet) (values : Option ValueList) (m0 m1 m2 m3 m4 m5 : Members) →
    m1 ≡ put_if (codes "values") (option_map value_set_data values) m0 → m2 ≡ put (codes "type") (string (codes "NodeConstraint")) m1 →
    m3 ≡ put_if (codes "totaldigits") (under (codes "totaldigits") facets) m2 → m4 ≡ put_if (codes "pattern") (under (codes "pattern") facets) m3 →
    m5 ≡ put_if (codes "nodeKind") (option_map (λ kind. string (kind_word kind)) kind) m4 → m5 ≡ put_all (last_fields kind facets values) m0
last_written kind facets values m0 m1 m2 m3 m4 m5 q1 q2 q3 q4 q5 =
    let w2 = q2 ∙ ap (λ (m : Members). put (codes "type") (string (codes "NodeConstraint")) m) q1 in
    let w3 = q3 ∙ ap (λ (m : Members). put_if (codes "totaldigits") (under (codes "totaldigits") facets) m) w2 in
    let w4 = q4 ∙ ap (λ (m : Members). put_if (codes "pattern") (under (codes "pattern") facets) m) w3 in
    q5 ∙ ap (λ (m : Members). put_if (codes "nodeKind") (option_map (λ kind. string (kind_word kind)) kind) m) w4
