-- How large the numbers of a node are: its places are those of tokens, its parent is in the table, and kind, role and detail have few values.
-- Assumes nothing.
use mathlib.Core.Path.{sym, subst}
use mathlib.Core.List.{[]}
use Prim.Native.Nat.{ℕ, ◌≤◌, ◌<◌}
use native.Mathlib.Omega.{arith}
use lib.ListN.{length}
use Rattle.rules.specs.Every.{Every}
use Rattle.rules.proofs.Every.{every_map}
use Rattle.grammar.specs.Tokens.{Tok}
use Rattle.grammar.specs.Tree.{Value}
use Rattle.grammar.specs.Yield.{yield_value}
use Rattle.grammar.specs.Nodes.{NodeKind, an_ignorance, a_boolean, an_integer, a_fraction, a_bits, a_blob, a_text, a_nesting, a_pair, a_tuple, a_lot, an_array, a_set, a_bag, an_interval, kind_number_of}
use Rattle.grammar.specs.Nodes.{Role, root, this, that_after, that_before, name, value, count, low, high, single, role_number, Node, table}
use Rattle.grammar.proofs.Nodes.{table_made}

pub kind_small : (k : NodeKind) → kind_number_of k ≤ 15
kind_small an_ignorance = omega arith
kind_small a_boolean = omega arith
kind_small an_integer = omega arith
kind_small a_fraction = omega arith
kind_small a_bits = omega arith
kind_small a_blob = omega arith
kind_small a_text = omega arith
kind_small a_nesting = omega arith
kind_small a_pair = omega arith
kind_small a_tuple = omega arith
kind_small a_lot = omega arith
kind_small an_array = omega arith
kind_small a_set = omega arith
kind_small a_bag = omega arith
kind_small an_interval = omega arith

pub role_small : (r : Role) → role_number r ≤ 9
role_small root = omega arith
role_small this = omega arith
role_small that_after = omega arith
role_small that_before = omega arith
role_small name = omega arith
role_small value = omega arith
role_small count = omega arith
role_small low = omega arith
role_small high = omega arith
role_small single = omega arith

module _ (reach : ℕ) where
  -- a token stands before this place
  pub record Before (t : Tok) : Type 0 where
    pub first_before : t.at.first ≤ reach
    pub end_before : t.at.end ≤ reach

  -- and so does a node of a table with so many
  pub record Bounded (size : ℕ) (n : Node) : Type 0 where
    pub first_before : n.at.first ≤ reach
    pub end_before : n.at.end ≤ reach
    pub parent_inside : n.parent < size
    pub detail_small : n.detail ≤ 11

  pub table_bounded : (v : Value) → Every Before (yield_value v []) → Every (Bounded (length (table v))) (table v)
  table_bounded v x =
      every_map (λ n m.
      record {
        first_before = subst (λ (i : ℕ). i ≤ reach) (sym m.first_is) m.opening_holds.first_before;
        end_before = subst (λ (i : ℕ). i ≤ reach) (sym m.end_is) m.closing_holds.end_before;
        parent_inside = m.parent_inside;
        detail_small = m.detail_small;
      }) (table_made Before v x)
