-- A text's derivation, said without the order in which a reader meets the tokens: the grammar derives the text, no
-- literal in it has a bad value, and it keeps the size of brackets. proofs/Derived.antt proves that the accepted texts
-- are those. Assumes nothing.
use Rattle.std.specs.Prelude.{◌≡◌, Bool, true, false, List, [], ◌++◌, ℕ, ◌≤◌, length}
use Rattle.lexicon.specs.declared.Token as Token
use Rattle.lexicon.specs.declared.Next.TheVariants as Next
use Rattle.lexicon.specs.Front.{Front}
use Rattle.lexicon.specs.Token.{Bad, Comes}
use Rattle.grammar.specs.Tokens.{Tok}
use Rattle.grammar.specs.Tree.{Value}
use Rattle.grammar.specs.Yield.{yield_value}
use Rattle.grammar.specs.Level.{Level, arrowless, keeps}
use Rattle.reading.specs.declared.Limits.{Limits}
use Rattle.reading.specs.Tokens.{Follow, opened}

-- the forms of a level that a text may have: 02, request 6, 'demand 2 no longer counts the arrow among the forms'
abbrev pub readable : Bool → Level → Level
readable true l = l
readable false l = arrowless l

abbrev pub allowed : Limits → Level → Level
allowed limits l = readable limits.arrow l

-- the tree derives the text at the level, no literal has a bad value, and never are too many brackets open
pub record Derived (limits : Limits) (l : Level) (bytes : List ℕ) (v : Value) : Type 0 where
  -- the tree has forms of the level only, and the arrow only where it may be read
  pub of_level : keeps (allowed limits l) v ≡ true
  -- from the front to the end the tokens of the text are those of the tree
  pub start : ℕ
  pub front : Front bytes start
  pub end : ℕ
  pub row : Follow bytes start (yield_value v []) end
  pub at_end : Comes bytes end (Next.End (length bytes))
  -- no literal in it has a bad value, whatever row of tokens from the front it stands behind
  pub sound : {before : List Tok} {p : ℕ} {t : Token.Token} → Follow bytes start before p →
      Comes bytes p (Next.Token t) →
      Bad bytes t.kind t.first t.end → ⊥
  -- with whatever tokens the tree begins, no more brackets are open behind them than the size allows
  pub shallow : (before behind : List Tok) → before ++ behind ≡ yield_value v [] → opened before ≤ limits.depth
