-- Which head word stands at a place. Assumes nothing.
use Rattle.std.specs.Prelude.{List, ℕ}
use Rattle.rules.specs.Rule.{lit, Takes}
use Rattle.lexicon.specs.declared.Head.{Head}
use Rattle.lexicon.specs.declared.Form.{Form}
use Rattle.lexicon.specs.declared.Form.TheVariants.{Quoted, Word, HeadWord, CodePoint}
use Rattle.lexicon.specs.Token.{head_word}

module _ (text : List ℕ) where
  -- which head word stands there, or that none does
  abbrev pub Tells : ℕ → ℕ → Form → Type 0
  Tells i j (HeadWord h) = Takes text (lit (head_word h)) i j
  Tells i j Word = (h : Head) → Takes text (lit (head_word h)) i j → ⊥
  Tells i j Quoted = ⊥
  Tells i j CodePoint = ⊥
