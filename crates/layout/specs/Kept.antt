-- What a text laid out anew keeps: 02, request 9, 'it is accepted at the same level with the same kinds, parents,
-- roles, details and skip words'. Assumes nothing.
use Rattle.std.specs.Prelude.{◌≡◌, List, map, ℕ, ◌<◌}
use Rattle.grammar.specs.Tree.{Value}
use Rattle.grammar.specs.Level.{Level}
use Rattle.grammar.specs.Nodes.{Node, kind_word, parent_word, role_word, detail_word, skip_word, word_at, table}
use Rattle.reading.specs.declared.Limits.{Limits}
use Rattle.reading.specs.Answers.{Accepted}
use Rattle.form.specs.Spell.{plain_form}
use Rattle.form.specs.Turn.{nowhere}

-- a node without its first and last bytes; its stretch stays, so that the seventh word follows the index
abbrev pub unplaced : Node → Node
unplaced n =
    record {
      kind = n.kind;
      at = nowhere;
      parent = n.parent;
      role = n.role;
      detail = n.detail;
      stretch = n.stretch;
    }

-- of a text with the derivation v, accepted at a level, the other is accepted at the same one, with the same nodes but
-- for their places; and the plain form of both is the same
pub record Kept (limits : Limits) (text other : List ℕ) (l : Level) (v : Value) : Type 0 where
  pub tree : Value
  pub accepted : Accepted limits other l tree
  pub same_nodes : map unplaced (table tree) ≡ map unplaced (table v)
  pub same_plain_form : plain_form other tree ≡ plain_form text v

-- the same on the words of two tables that hold so many nodes each
pub record SameWords (t u : List ℕ) (nodes : ℕ) : Type 0 where
  pub kinds : (i : ℕ) → i < nodes → word_at t i kind_word ≡ word_at u i kind_word
  pub parents : (i : ℕ) → i < nodes → word_at t i parent_word ≡ word_at u i parent_word
  pub roles : (i : ℕ) → i < nodes → word_at t i role_word ≡ word_at u i role_word
  pub details : (i : ℕ) → i < nodes → word_at t i detail_word ≡ word_at u i detail_word
  pub skip_words : (i : ℕ) → i < nodes → word_at t i skip_word ≡ word_at u i skip_word
