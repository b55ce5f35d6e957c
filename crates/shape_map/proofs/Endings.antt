-- What the answer of the reader on lists says of the bytes.
use Rattle.std.proofs.Common.{◌≡◌, ℕ, List, Ok, Err, sym, ap, subst, ◌∙◌}
use Rattle.std.specs.Str.{IsUtf8}
use Rattle.rdf_cursor.specs.Ahead.{Ahead, finished, prepend}
use Rattle.rdf_cursor.proofs.Answers.{apart, ok_is}
use Rattle.rdf_cursor.proofs.Blocking.{blocked}
use Rattle.rdf_cursor.proofs.Fronts.{front_ok}
use Rattle.rdf_lex.specs.declared.kinds.Mode.TheVariants.{Map}
use Rattle.rdf_lex.specs.Tokens.{Spelled}
use Rattle.rdf_cursor.specs.Cursors.{Source}
use Rattle.rdf_cursor.specs.Lent.{Stands}
use Rattle.rdf_cursor.specs.Places.{IsFaultPlace}
use Rattle.rdf_cursor.specs.Streams.{stream_from}
use Rattle.rdf_cursor.proofs.Places.{fault_place, first_at}
use Rattle.rdf_cursor.proofs.Streams.{to_tokens, from_tokens}
use Rattle.shape_map.specs.declared.error.MapError.{MapError}
use Rattle.rdf_cursor.specs.declared.stops.Fault.{Fault}
use Rattle.rdf_cursor.specs.declared.stops.Fault.TheVariants.{Syntax, Prefix, Deep, Long, Full}
use Rattle.rdf_cursor.specs.declared.stops.Stop.{Stop}
use Rattle.rdf_cursor.specs.declared.stops.Stop.TheVariants as stop
use Rattle.shape_map.specs.declared.items.Item.{Item}
use Rattle.rdf_cursor.specs.Stops.{StopsAs}
use Rattle.shape_map.specs.Gives.{IsMapFault, IsMapStop, error_of}
use Rattle.shape_map.specs.Grammar.{ShapeMap}
use Rattle.shape_map.specs.Maps.{Spells, IsMap, IsUndeclaredAt, Explains, ReadsAs, MapsAreOne}
use Rattle.term_tokens.specs.Scopes.{Scope}
use Rattle.shape_map.specs.Reading.{shape_map}
use Rattle.shape_map.proofs.Complete.{map_read}
use Rattle.shape_map.proofs.Passed.{map_on}
use Rattle.shape_map.proofs.Places.{local_map}
use Rattle.shape_map.proofs.Sound.{map_meets}

module _ (nodes labels : Scope) (source : List ℕ) (u : IsUtf8 source) where
  abbrev ahead : Ahead Spelled
  ahead = stream_from Map source 0

  found_map : (xs : List Item) → ShapeMap nodes labels xs ahead → IsMap nodes labels source xs
  found_map xs h =
      let f = front_ok (shape_map nodes labels) ahead (shape_map nodes labels ahead) xs finished (map_read nodes labels xs ahead h) (local_map nodes labels ahead) in
      (f.0, u, to_tokens Map source u f.0 f.1, subst (λ (ts : Ahead Spelled). ShapeMap nodes labels xs ts) f.1 h)

  map_ahead : (xs : List Item) → IsMap nodes labels source xs → ShapeMap nodes labels xs ahead
  map_ahead xs (ts, utf8, tokens, h) = subst (λ (ts : Ahead Spelled). ShapeMap nodes labels xs ts) (sym (from_tokens Map source u ts tokens)) h

  is_read : (xs : List Item) → IsMap nodes labels source xs → shape_map nodes labels ahead ≡ Ok (xs, finished)
  is_read xs h = map_read nodes labels xs ahead (map_ahead xs h)

  place : (f : Fault) (rest : Ahead Spelled) (at : ℕ) → shape_map nodes labels ahead ≡ Err (f, rest) → Stands Map source rest at → IsFaultPlace (Spells nodes labels) Map source at
  place f rest at e s =
      fault_place Map source u (ShapeMap nodes labels) rest at (blocked (shape_map nodes labels) (ShapeMap nodes labels) (local_map nodes labels) (map_read nodes labels) ahead f rest e) s

  undeclared : (rest : Ahead Spelled) (at : ℕ) → shape_map nodes labels ahead ≡ Err (Prefix, rest) → Stands Map source rest at → IsUndeclaredAt nodes labels source at
  undeclared rest at e s =
      let (front, parts, (t, more, is, named, none)) = (map_on nodes labels ahead).bad (Prefix, rest) e in
      let first = first_at Map source u t more at front (parts ∙ ap (prepend front) is) (subst (λ (v : Ahead Spelled). Stands Map source v at) is s) in
      record { front = front; from = first.0; t = t; passed = first.1; first = first.2; named = named; undeclared = none }

  explains : (e : Stop) (at : ℕ) (rest : Ahead Spelled) → StopsAs {Y = List Item} e rest (shape_map nodes labels ahead) → Stands Map source rest at → Explains nodes labels (error_of e at) source
  explains stop.Memory at rest h s = tt
  explains (stop.Fault Syntax) at rest h s = place Syntax rest at h s
  explains (stop.Fault Deep) at rest h s = place Deep rest at h s
  explains (stop.Fault Long) at rest h s = place Long rest at h s
  explains (stop.Fault Full) at rest h s = place Full rest at h s
  explains (stop.Fault Prefix) at rest h s = (place Prefix rest at h s, undeclared rest at h s)

  reads_err : (e : Stop) (at : ℕ) (rest : Ahead Spelled) (xs : List Item) → IsMap nodes labels source xs →
      StopsAs {Y = List Item} e rest (shape_map nodes labels ahead) → ReadsAs (Err (error_of e at)) xs
  reads_err stop.Memory at rest xs m h = tt
  reads_err (stop.Fault Syntax) at rest xs m h = apart (xs, finished) (Syntax, rest) (sym (is_read xs m) ∙ h)
  reads_err (stop.Fault Deep) at rest xs m h = apart (xs, finished) (Deep, rest) (sym (is_read xs m) ∙ h)
  reads_err (stop.Fault Long) at rest xs m h = apart (xs, finished) (Long, rest) (sym (is_read xs m) ∙ h)
  reads_err (stop.Fault Full) at rest xs m h = apart (xs, finished) (Full, rest) (sym (is_read xs m) ∙ h)
  reads_err (stop.Fault Prefix) at rest xs m h = apart (xs, finished) (Prefix, rest) (sym (is_read xs m) ∙ h)

  same_items : (xs ys : List Item) (rest : Ahead Spelled) → IsMap nodes labels source ys → shape_map nodes labels ahead ≡ Ok (xs, rest) → xs ≡ ys
  same_items xs ys rest m h = ap (λ (v : List Item × Ahead Spelled). v.0) (ok_is (xs, rest) (ys, finished) (sym h ∙ is_read ys m))

-- the reader meets no limit
map_fault : (nodes labels : Scope) (ts rest : Ahead Spelled) (f : Fault) → shape_map nodes labels ts ≡ Err (f, rest) → IsMapFault f
map_fault nodes labels ts rest Syntax e = tt
map_fault nodes labels ts rest Prefix e = tt
map_fault nodes labels ts rest Deep e = ((map_on nodes labels ts).bad (Deep, rest) e).2
map_fault nodes labels ts rest Long e = ((map_on nodes labels ts).bad (Long, rest) e).2
map_fault nodes labels ts rest Full e = ((map_on nodes labels ts).bad (Full, rest) e).2

pub map_stop : (nodes labels : Scope) (ts rest : Ahead Spelled) (e : Stop) → StopsAs {Y = List Item} e rest (shape_map nodes labels ts) → IsMapStop e
map_stop nodes labels ts rest stop.Memory h = tt
map_stop nodes labels ts rest (stop.Fault f) h = map_fault nodes labels ts rest f h

-- from what lies ahead of the tokens at first
module _ (nodes labels : Scope) (source : List ℕ) (u : IsUtf8 source) (first : Ahead Spelled) (begins : first ≡ stream_from Map source 0) where
  pub found_from : (xs ys : List Item) (rest : Ahead Spelled) → shape_map nodes labels first ≡ Ok (xs, rest) → ys ≡ xs → IsMap nodes labels source ys
  found_from xs ys rest h is =
      subst (IsMap nodes labels source) (sym is)
      (found_map nodes labels source u xs ((map_meets nodes labels (stream_from Map source 0)).holds (xs, rest) (ap (shape_map nodes labels) (sym begins) ∙ h)))

  pub ok_from : (xs ys zs : List Item) (rest : Ahead Spelled) → IsMap nodes labels source zs → shape_map nodes labels first ≡ Ok (xs, rest) → ys ≡ xs → ReadsAs (Ok ys) zs
  ok_from xs ys zs rest m h is = is ∙ same_items nodes labels source u xs zs rest m (ap (shape_map nodes labels) (sym begins) ∙ h)

  moved : (e : Stop) (rest : Ahead Spelled) → StopsAs {Y = List Item} e rest (shape_map nodes labels first) → StopsAs {Y = List Item} e rest (shape_map nodes labels (stream_from Map source 0))
  moved e rest h = subst (λ (ts : Ahead Spelled). StopsAs {Y = List Item} e rest (shape_map nodes labels ts)) begins h

  pub err_from : (e : Stop) (x : MapError) (at : ℕ) (rest : Ahead Spelled) (zs : List Item) → IsMap nodes labels source zs →
      StopsAs {Y = List Item} e rest (shape_map nodes labels first) → x ≡ error_of e at → ReadsAs (Err x) zs
  err_from e x at rest zs m h is = subst (λ (y : MapError). ReadsAs (Err y) zs) (sym is) (reads_err nodes labels source u e at rest zs m (moved e rest h))

  pub cause_from : (e : Stop) (x : MapError) (at : ℕ) (rest : Ahead Spelled) (text : Source) → StopsAs {Y = List Item} e rest (shape_map nodes labels first) →
      text ≡ record { mode = Map; text = source }
      → Stands text.mode text.text rest at → x ≡ error_of e at
      → Explains nodes labels x source
  cause_from e x at rest text h same s is =
      subst (λ (y : MapError). Explains nodes labels y source) (sym is) (explains nodes labels source u e at rest (moved e rest h) (subst (λ (y : Source). Stands y.mode y.text rest at) same s))

pub maps_one : MapsAreOne
maps_one nodes labels source xs ys h k = same_items nodes labels source h.1 xs ys finished k (is_read nodes labels source h.1 xs h)
