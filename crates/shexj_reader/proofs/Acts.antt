-- Lists of actions.
use Rattle.std.proofs.Common.{◌≡◌, ◌∙◌, List, [], ◌∷◌, false, length, eqb, refl, ap}
use Rattle.std.specs.Prelude.{Some, ℕ}
use Rattle.serde_json.specs.Data.{Data, Items, array, boolean, null, number, object, string}
use Rattle.serde_json.specs.Find.{as_array, get}
use Rattle.serde_json.specs.View.{items_view}
use Rattle.serde_json.specs.declared.value.Value.{Value}
use Rattle.shexj_reader.specs.Faults.{HasActs, action}
use Rattle.shexj_reader.specs.Keys.{is_empty_list, is_list}

acts_view : (vs : List Value) → eqb (length vs) 0 ≡ false → is_empty_list (Some (array (items_view vs))) ≡ false
acts_view [] e = cc
acts_view (v ∷ vs) e = refl

pub array_is : (d : Data) (ds : Items) → Some ds ≡ as_array d → d ≡ array ds
array_is null ds e = cc
array_is (boolean b) ds e = cc
array_is (number n) ds e = cc
array_is (string t) ds e = cc
array_is (array es) ds e = cc
array_is (object ms) ds e = cc

pub some_acts : (key : List ℕ) (d a : Data) (vs : List Value) → get key d ≡ Some a → Some (items_view vs) ≡ as_array a → eqb (length vs) 0 ≡ false → HasActs key action d
some_acts key d a vs there list some =
    let whole : get key d ≡ Some (array (items_view vs)) = there ∙ ap (λ (x : Data). Some x) (array_is a (items_view vs) list) in
    record { is = refl; listed = ap is_list whole; some = ap is_empty_list whole ∙ acts_view vs some }
