-- A row of tokens can be spelled: docs/DECISIONS.md, point 40, 'That a token is in the wrong place speaks of rows of
-- tokens with any spans, as the paper does, not of bytes. Every such row can be spelled'. No answer rests on it.
-- Assumes nothing.
use Rattle.std.specs.Prelude.{◌≡◌, true, List, [], map, ℕ, length}
use Rattle.lexicon.specs.declared.Token as Token
use Rattle.lexicon.specs.declared.Next.TheVariants as Next
use Rattle.lexicon.specs.Utf8.{WellFormed}
use Rattle.lexicon.specs.Front.{Front}
use Rattle.lexicon.specs.Token.{Bad, Comes}
use Rattle.grammar.specs.Tokens.{Class, Tok}
use Rattle.grammar.specs.Tree.{Value}
use Rattle.grammar.specs.Yield.{yield_value}
use Rattle.grammar.specs.Level.{Level, keeps}
use Rattle.reading.specs.Tokens.{Follow}

-- the classes of tokens, without their spans
abbrev pub classes : List Tok → List Class
classes ts = map (λ t. t.class) ts

-- the tokens of the tree v are those of a text but for their spans, and the text has a tree of the level
pub record Spellable (l : Level) (v : Value) : Type 0 where
  pub text : List ℕ
  pub formed : WellFormed text
  -- nothing is dropped at its front, and from there to its end stand the tokens of a tree of the level
  pub front : Front text 0
  pub tree : Value
  pub of_level : keeps l tree ≡ true
  pub end : ℕ
  pub row : Follow text 0 (yield_value tree []) end
  pub at_end : Comes text end (Next.End (length text))
  -- none of them has a bad value
  pub sound : {before : List Tok} {p : ℕ} {t : Token.Token} → Follow text 0 before p → Comes text p (Next.Token t) →
      Bad text t.kind t.first t.end → ⊥
  -- they are the tokens of v but for their spans
  pub same_classes : classes (yield_value tree []) ≡ classes (yield_value v [])
