-- Texts of a level, tokens in the wrong place, places for a value, and newer forms. Assumes nothing.
use Rattle.std.specs.Prelude.{◌≡◌, true, false, List, [], ◌∷◌, ◌++◌}
use Rattle.lexicon.specs.declared.Head.{Head}
use Rattle.grammar.specs.Tokens.{Span, Tok, tok, atom, ignorance, text, head_word, round, square, mark, colon}
use Rattle.grammar.specs.Tokens.{later}
use Rattle.grammar.specs.Tree.{Value}
use Rattle.grammar.specs.Yield.{yield_value}
use Rattle.grammar.specs.Level.{Level, intervals, has_head, keeps}

module _ (l : Level) where
  -- the tokens are a text of the level, with this derivation
  pub record Sentence (ts : List Tok) : Type 0 where
    pub tree : Value
    pub of_level : keeps l tree ≡ true
    pub yields : yield_value tree [] ≡ ts

  -- a text of the level begins with these tokens
  pub record Begins (ts : List Tok) : Type 0 where
    pub rest : List Tok
    pub sentence : Sentence (ts ++ rest)

  -- 01: 'in the wrong place when no text of this level ... begins with the same tokens up to and with this one'
  pub record Wrong (before : List Tok) (t : Tok) : Type 0 where
    pub none : Begins (before ++ (t ∷ [])) → ⊥

  -- and the end, which counts as a token
  pub record WrongEnd (before : List Tok) : Type 0 where
    pub none : Sentence before → ⊥

  -- 01: 'A place for a value is one where, after the tokens before it, the Ignorance literal would not be in the wrong
  -- place'
  abbrev pub ForValue : List Tok → Span → Type 0
  ForValue before s = Begins (before ++ (tok (atom ignorance) s ∷ []))

  -- a construct beyond the level: a head not of it, an Interval if it has none, the later literal at any level
  pub data Beyond : List Tok → Type 0 where
    newer_head : {o s k : Span} {h : Head} {ts : List Tok} → has_head l h ≡ false →
        Beyond (tok round o ∷ tok (text (head_word h)) s ∷ tok (mark colon) k ∷ ts)
    newer_bracket : {o : Span} {ts : List Tok} → l intervals ≡ false → Beyond (tok square o ∷ ts)
    later_literal : {s : Span} {ts : List Tok} → Beyond (tok later s ∷ ts)

  -- a newer form begins with the token t, behind which the tokens ts stand
  pub record Newer (before : List Tok) (t : Tok) (ts : List Tok) : Type 0 where
    pub beyond : Beyond (t ∷ ts)
    pub place : ForValue before t.at
