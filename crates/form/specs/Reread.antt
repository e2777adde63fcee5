-- What reading a plain form gives: 02, request 5, 'no byte-order mark, first line, comments, dividing space', and
-- 'reading it gives the same nodes in all but first and last bytes, the order of this and that (with the node and
-- parent indices that follow from it), roles 2 and 3 taken as one, and a Text's detail. Writing that again gives the
-- same bytes.' Assumes nothing.
use Rattle.std.specs.Prelude.{◌≡◌, List, [], ◌∷◌, map, ℕ, length}
use Rattle.lexicon.specs.Utf8.{WellFormed}
use Rattle.lexicon.specs.Front.{Front}
use Rattle.grammar.specs.Tokens.{Tok}
use Rattle.grammar.specs.Tree.{Value}
use Rattle.grammar.specs.Yield.{yield_value}
use Rattle.grammar.specs.Level.{Level}
use Rattle.grammar.specs.Nodes.{table}
use Rattle.reading.specs.declared.Limits.{Limits}
use Rattle.reading.specs.Answers.{Accepted}
use Rattle.form.specs.Spell.{plain_form}
use Rattle.form.specs.Turn.{turn, unspelled}

-- each token begins where the one before it ends, the first at p, and the last ends at q
abbrev pub SideBySide : ℕ → List Tok → ℕ → Type 0
SideBySide p [] q = p ≡ q
SideBySide p (t ∷ ts) q = (t.at.first ≡ p) × SideBySide t.at.end ts q

-- the plain form of a text with the derivation v, read at a level
pub record Reread (limits : Limits) (text : List ℕ) (l : Level) (v : Value) : Type 0 where
  pub formed : WellFormed (plain_form text v)
  pub tree : Value
  -- 'no byte-order mark, first line': nothing is dropped at its front
  pub front : Front (plain_form text v) 0
  -- no 'comments, dividing space': nothing stands between its tokens, nor behind them
  pub no_space : SideBySide 0 (yield_value tree []) (length (plain_form text v))
  pub accepted : Accepted limits (plain_form text v) l tree
  pub same_nodes : map unspelled (table tree) ≡ map unspelled (table (turn v))
  pub again : plain_form (plain_form text v) tree ≡ plain_form text v
