-- A Tuple's single attribute, and the comma behind it: a walk over the nodes tells it by their number and the role of the first, the
-- derivation by its rows. Assumes nothing.
use mathlib.Core.Path.{◌≡◌, refl, sym, ap, ◌∙◌}
use mathlib.Core.Bool.{Bool, true, false, cond, false≢true}
use mathlib.Core.List.{List, [], ◌++◌}
use Prim.Native.Nat.{ℕ}
use lib.Dec.{eqb}
use Rattle.rules.specs.Class.{codes}
use Rattle.grammar.specs.Tokens
use Rattle.grammar.specs.Tokens.{mark}
use Rattle.grammar.specs.Tree
use Rattle.grammar.specs.Tree.{Style, Item, Row}
use Rattle.grammar.specs.Nodes
use Rattle.grammar.specs.Nodes.{Role, role_number, alone_role_of, joiner_left, joiner_right}
use Rattle.form.specs.Spell
use Rattle.form.specs.Spell.{Spelt, spell_row, after_one}
use Rattle.grammar.proofs.Branches.{Branch, Branches, none, more, grow, grow_plain_name, grow_name, grow_count, grow_item, grow_row}
use Rattle.form.proofs.Walk.{role_of, one_attribute}
use Rattle.form.proofs.Puts.{puts_one, puts_both, puts_as}
use Rattle.form.proofs.Roles.{value_role, plain_name_role, name_role}
use Rattle.form.proofs.Members.{Members, all_members}
use Rattle.form.proofs.Bracketed.{Inside, inside, inside_plain}

-- ---- one attribute

abbrev named : Role → Bool
named r = eqb (role_number r) (role_number Nodes.name)

opening_one : (i : Item Tree.opening) → one_attribute (grow_item i none) ≡ true
opening_one (Tree.alone v) = refl
opening_one (Tree.open_named n k v) = ap named (plain_name_role n Nodes.name)

pub attribute_one : (i : Item Tree.attribute) → one_attribute (grow_item i none) ≡ true
attribute_one (Tree.alone v) = refl
attribute_one (Tree.named n k v) = ap named (name_role n Nodes.name)

-- ---- more than one

unnamed : (s : Style) → named (alone_role_of s) ≡ false
unnamed Tree.opening = refl
unnamed Tree.attribute = refl
unnamed Tree.member = refl
unnamed (Tree.copy u) = refl

abbrev some : Branches → Bool
some none = false
some (more b bs) = true

item_some : {s : Style} (i : Item s) (bs : Branches) → some (grow_item i bs) ≡ true
item_some (Tree.alone v) bs = refl
item_some (Tree.open_named n k v) bs = refl
item_some (Tree.named n k v) bs = refl
item_some (Tree.joined v j k w) bs = refl
item_some (Tree.times v k c) bs = refl

alone_more : (s : Style) (a : Branch) (bs : Branches) → role_of a ≡ alone_role_of s → some bs ≡ true → one_attribute (more a bs) ≡ false
alone_more s a none r e = absurd (false≢true e)
alone_more s a (more b none) r e = ap named r ∙ unnamed s
alone_more s a (more b (more c bs)) r e = refl

pair_more : (a b : Branch) (bs : Branches) → some bs ≡ true → one_attribute (more a (more b bs)) ≡ false
pair_more a b none e = absurd (false≢true e)
pair_more a b (more c bs) e = refl

item_more : {s : Style} (i : Item s) (bs : Branches) → some bs ≡ true → one_attribute (grow_item i bs) ≡ false
item_more (Tree.alone {s} v) bs e = alone_more s (grow v (alone_role_of s)) bs (value_role v (alone_role_of s)) e
item_more (Tree.open_named n k v) bs e = pair_more (grow_plain_name n Nodes.name) (grow v Nodes.value) bs e
item_more (Tree.named n k v) bs e = pair_more (grow_name n Nodes.name) (grow v Nodes.value) bs e
item_more (Tree.joined v j k w) bs e = pair_more (grow v (joiner_left j)) (grow w (joiner_right j)) bs e
item_more (Tree.times v k c) bs e = pair_more (grow v Nodes.value) (grow_count c) bs e

row_more : {f s : Style} (o : Row f s) (bs : Branches) → some bs ≡ true → one_attribute (grow_row o bs) ≡ false
row_more (Tree.row_first i c) bs e = item_more i bs e
row_more (Tree.row_led b i c) bs e = item_more i bs e
row_more (Tree.row_next o i c) bs e = row_more o (grow_item i bs) (item_some i bs)

pub row_and_item : {f s t : Style} (o : Row f s) (i : Item t) → one_attribute (grow_row o (grow_item i none)) ≡ false
row_and_item o i = row_more o (grow_item i none) (item_some i none)

-- ---- the comma behind

module _ (bytes : List ℕ) where
  pub one_behind_lem : {cs : Branches} {f : List Spelt → List Spelt} → one_attribute cs ≡ true → Members bytes cs f →
      Inside bytes Nodes.a_tuple 0 cs (λ ws. f (Spell.comma ws))
  one_behind_lem {cs} {f} e m =
      inside bytes (all_members bytes m)
      (puts_as (ap (λ (b : Bool). m.are ++ cond b (codes ",") []) (sym e)) (puts_both m.puts (puts_one (mark Tokens.comma) (codes ","))))

  pub more_behind : {cs : Branches} {f : List Spelt → List Spelt} → one_attribute cs ≡ false → Members bytes cs f → Inside bytes Nodes.a_tuple 0 cs f
  more_behind e m = inside_plain bytes (ap (λ (b : Bool). cond b (codes ",") []) e) (all_members bytes m) m.puts

  -- a comma behind a row of one only
  pub trailing : (o : Row Tree.opening Tree.attribute) → Members bytes (grow_row o none) (λ ws. spell_row bytes o ws) →
      Inside bytes Nodes.a_tuple 0 (grow_row o none) (λ ws. spell_row bytes o (after_one o ws))
  trailing (Tree.row_first i c) m = one_behind_lem (opening_one i) m
  trailing (Tree.row_led b i c) m = one_behind_lem (attribute_one i) m
  trailing (Tree.row_next o i c) m = more_behind (row_and_item o i) m
