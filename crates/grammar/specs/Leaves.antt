-- Nodes that are one token: literals and Texts. Assumes nothing.
use Rattle.std.specs.Prelude.{Bool, true, false}
use Rattle.grammar.specs.Tokens.{Atom, Wording, Class, atom}
use Rattle.grammar.specs.Tokens as Tokens
use Rattle.grammar.specs.Nodes.{NodeKind, an_ignorance, a_boolean, an_integer, a_fraction, a_bits, a_blob, a_text}
use Rattle.grammar.specs.Nodes.{a_nesting, a_pair, a_tuple, a_lot, an_array, a_set, a_bag, an_interval, atom_kind}

-- a node of the kind is a token of the class
pub data Written : NodeKind → Class → Type 0 where
  literal : (a : Atom) → Written (atom_kind a) (atom a)
  text : (w : Wording) → Written a_text (Tokens.text w)

-- the kinds of such nodes; the others are Nestings and what stands in brackets
abbrev pub is_literal_of : NodeKind → Bool
is_literal_of an_ignorance = true
is_literal_of a_boolean = true
is_literal_of an_integer = true
is_literal_of a_fraction = true
is_literal_of a_bits = true
is_literal_of a_blob = true
is_literal_of a_text = true
is_literal_of a_nesting = false
is_literal_of a_pair = false
is_literal_of a_tuple = false
is_literal_of a_lot = false
is_literal_of an_array = false
is_literal_of a_set = false
is_literal_of a_bag = false
is_literal_of an_interval = false
