-- The code's kinds and roles are told by the grammar's. Assumes nothing.
use mathlib.Core.Path.{◌≡◌, refl}
use Rattle.grammar.specs.Nodes as Nodes
use Rattle.moves.specs.declared.NodeKind.{NodeKind}
use Rattle.moves.specs.declared.Role.{Role}
use Rattle.moves.specs.Means.{node_kind_of, role_of}

abbrev pub code_kind : Nodes.NodeKind → NodeKind
code_kind Nodes.an_ignorance = NodeKind.Ignorance
code_kind Nodes.a_boolean = NodeKind.Boolean
code_kind Nodes.an_integer = NodeKind.Integer
code_kind Nodes.a_fraction = NodeKind.Fraction
code_kind Nodes.a_bits = NodeKind.Bits
code_kind Nodes.a_blob = NodeKind.Blob
code_kind Nodes.a_text = NodeKind.Text
code_kind Nodes.a_nesting = NodeKind.Nesting
code_kind Nodes.a_pair = NodeKind.Pair
code_kind Nodes.a_tuple = NodeKind.Tuple
code_kind Nodes.a_lot = NodeKind.Lot
code_kind Nodes.an_array = NodeKind.Array
code_kind Nodes.a_set = NodeKind.Set
code_kind Nodes.a_bag = NodeKind.Bag
code_kind Nodes.an_interval = NodeKind.Interval

pub code_kind_lem : (k : NodeKind) → code_kind (node_kind_of k) ≡ k
code_kind_lem NodeKind.Ignorance = refl
code_kind_lem NodeKind.Boolean = refl
code_kind_lem NodeKind.Integer = refl
code_kind_lem NodeKind.Fraction = refl
code_kind_lem NodeKind.Bits = refl
code_kind_lem NodeKind.Blob = refl
code_kind_lem NodeKind.Text = refl
code_kind_lem NodeKind.Nesting = refl
code_kind_lem NodeKind.Pair = refl
code_kind_lem NodeKind.Tuple = refl
code_kind_lem NodeKind.Lot = refl
code_kind_lem NodeKind.Array = refl
code_kind_lem NodeKind.Set = refl
code_kind_lem NodeKind.Bag = refl
code_kind_lem NodeKind.Interval = refl

abbrev pub code_role : Nodes.Role → Role
code_role Nodes.root = Role.Root
code_role Nodes.this = Role.This
code_role Nodes.that_after = Role.ThatAfter
code_role Nodes.that_before = Role.ThatBefore
code_role Nodes.name = Role.Name
code_role Nodes.value = Role.Value
code_role Nodes.count = Role.Count
code_role Nodes.low = Role.Low
code_role Nodes.high = Role.High
code_role Nodes.single = Role.Single

pub code_role_lem : (r : Role) → code_role (role_of r) ≡ r
code_role_lem Role.Root = refl
code_role_lem Role.This = refl
code_role_lem Role.ThatAfter = refl
code_role_lem Role.ThatBefore = refl
code_role_lem Role.Name = refl
code_role_lem Role.Value = refl
code_role_lem Role.Count = refl
code_role_lem Role.Low = refl
code_role_lem Role.High = refl
code_role_lem Role.Single = refl
