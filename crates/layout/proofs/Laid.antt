-- A text laid out anew is accepted where the text is, with the same nodes but for their places, the same values and the same plain form.
-- Assumes nothing.
use mathlib.Core.Path.{◌≡◌, refl, ap, ◌∙◌}
use mathlib.Core.List.{List, [], map, map-map}
use Prim.Native.Nat.{ℕ}
use Rattle.rules.specs.Every.{Every}
use Rattle.rules.proofs.Every.{every_map}
use Rattle.grammar.specs.Tree.{Value}
use Rattle.grammar.specs.Yield.{yield_value}
use Rattle.grammar.specs.Level.{Level}
use Rattle.grammar.specs.Nodes.{Node, table}
use Rattle.grammar.proofs.Moved.{move_node, move, table_moved}
use Rattle.reading.specs.declared.Limits.{Limits}
use Rattle.reading.specs.Answers.{Accepted}
use Rattle.reading.specs.Derived.{Derived}
use Rattle.reading.proofs.Derived.{derived_accepted, accepted_derived}
use Rattle.form.specs.Spell.{plain_form}
use Rattle.form.proofs.Respelled.{same_plain}
use Rattle.layout.specs.Relaid.{Relaid}
use Rattle.layout.specs.Kept.{unplaced, Kept}
use Rattle.layout.proofs.Back.{text_within, other_within, front_there}
use Rattle.layout.proofs.Path.{Ahead, path}
use Rattle.layout.proofs.Derivations.{to, begin, row, derived_there}
use Rattle.layout.proofs.Stands.{Stands, all_stand, IfThere, values_there}
use Rattle.layout.proofs.Spelt.{stand_alike}

-- nodes that are moved are the same without their places
unplaced_moved : (g : ℕ → ℕ) (ns : List Node) → map unplaced (map (move_node g) ns) ≡ map unplaced ns
unplaced_moved g ns = map-map unplaced (move_node g) ns

module _ {text other : List ℕ} (r : Relaid text other) where
  pub way : Ahead text other r.start r.start
  way = path text other r.behind r.start r.start (text_within r) (other_within r) refl refl

  -- where a place of the text is in the other
  abbrev pub place : ℕ → ℕ
  place = to text other r.start r.start way

  module _ (limits : Limits) (l : Level) (v : Value) (d : Derived limits l text v) where
    stand : Every (Stands text other r.start r.start way) (yield_value v [])
    stand = all_stand text other r.start r.start way (begin text other r.start way) (row text r.start r.front limits l v d)

    pub laid_derived : Derived limits l other (move place v)
    laid_derived = derived_there text other r.start way r.front (front_there r) limits l v d

    pub laid_values : Every (IfThere text other place) (table v)
    laid_values = values_there text other r.start r.start way v stand

    pub laid_plain : plain_form other (move place v) ≡ plain_form text v
    laid_plain = same_plain text other place v (every_map (stand_alike text other r.start r.start way) stand)

  pub kept : (limits : Limits) (l : Level) (v : Value) → Accepted limits text l v → Kept limits text other l v
  kept limits l v a =
      let d = accepted_derived limits text a in
      record {
        tree = move place v;
        accepted = derived_accepted limits other (laid_derived limits l v d);
        same_nodes = ap (map unplaced) (table_moved place v) ∙ unplaced_moved place (table v);
        same_plain_form = laid_plain limits l v d;
      }
