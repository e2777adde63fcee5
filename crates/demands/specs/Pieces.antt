-- 'The values of integers and texts are those the grammar gives them', and so are those of Bits and Blobs: what the
-- value calls answer for a node of an accepted text, given the text from the node's first byte to its end. Proved in
-- proofs/Pieces.antt (`pieces`). Assumes nothing.
use Rattle.std.specs.Prelude.{◌≡◌, true, List, ◌++◌, ℕ, ◌-◌, ◌≤◌, ◌<◌, ℤ, length, drop}
use Rattle.rules.specs.Every.{Every}
use Rattle.rules.specs.Plain.{between}
use Rattle.lexicon.specs.declared.Kind.{Kind}
use Rattle.lexicon.specs.Utf8.{WellFormed}
use Rattle.lexicon.specs.Values.{IntegerOf}
use Rattle.lexicon.specs.Token.{Is, Bad}
use Rattle.grammar.specs.Tokens.{Span, class_kind}
use Rattle.grammar.specs.Tree.{Value}
use Rattle.grammar.specs.Nodes.{Node, an_integer, a_bits, a_blob, a_text, table}
use Rattle.grammar.specs.Leaves.{Written, is_literal_of}
use Rattle.reading.specs.declared.Answer.{Answer}
use Rattle.reading.specs.declared.Rules.{Rules}
use Rattle.reading.specs.Answers.{answer}
use Rattle.values.specs.declared.IntegerAnswer.{IntegerAnswer}
use Rattle.values.specs.Integer.{Within, refusal, IntegerAnswers}
use Rattle.values.specs.Integer as Integer
use Rattle.values.specs.Bytes.{Call, BytesAnswers}
use Rattle.values.specs.Text.{text_call}
use Rattle.values.specs.Bits.{bits_call}
use Rattle.values.specs.Blob.{blob_call}

-- the piece of a node
abbrev pub piece : List ℕ → Span → List ℕ
piece bytes s = between bytes s.first s.end

-- a node's piece is its literal: the token that stands there in the text is also all of the piece, and its value is bad
-- in neither; the piece is UTF-8 and keeps the size
pub record Lone (rules : Rules) (bytes : List ℕ) (n : Node) : Type 0 where
  pub kind : Kind
  pub written : Written n.kind (class_kind kind)
  pub there : Is bytes kind n.at.first n.at.end
  pub there_sound : Bad bytes kind n.at.first n.at.end → ⊥
  pub alone : Is (piece bytes n.at) kind 0 (length (piece bytes n.at))
  pub alone_sound : Bad (piece bytes n.at) kind 0 (length (piece bytes n.at)) → ⊥
  pub formed : WellFormed (piece bytes n.at)
  pub short : length (piece bytes n.at) ≤ rules.text

module _ (bytes : List ℕ) (s : Span) where
  -- the answers of the Integer call that are left: 0 with the integer that the grammar gives at this place of the text,
  -- or 10 where that integer is out of range
  pub data GivesInteger : IntegerAnswer → Type 0 where
    accepted : {z : ℤ} → IntegerOf bytes s.first s.end z → Within z →
        GivesInteger (Integer.answer 0 (s.end - s.first) z)
    outside : {z : ℤ} → IntegerOf bytes s.first s.end z → (Within z → ⊥) →
        GivesInteger (refusal 10 0)

  -- those of a call that hands back bytes: 0 with the bytes that the grammar gives at this place of the text, or 8
  -- where the buffer is too short for them; never 5, since no value in an accepted text is bad
  pub data GivesBytes (call : Call) (lent : List ℕ) : Answer → List ℕ → Type 0 where
    accepted : {bs : List ℕ} → call.Bytes bytes s.first s.end bs → length bs ≤ length lent →
        GivesBytes call lent (answer 0 (s.end - s.first) (length bs)) (bs ++ drop (length bs) lent)
    no_room : {bs : List ℕ} → call.Bytes bytes s.first s.end bs → length lent < length bs →
        GivesBytes call lent (answer 8 (s.end - s.first) (length bs)) lent

-- such a call on the piece of a node, with any buffer
abbrev pub Gives : Call → Rules → List ℕ → Node → Type 0
Gives call rules bytes n =
    (lent : List ℕ) (r : Answer) (left : List ℕ) →
    BytesAnswers call rules (piece bytes n.at) lent r left → GivesBytes bytes n.at call lent r left

-- one law for every kind of literal, and what follows for each call; brackets and Nestings are no literals, and the
-- Texts inside a Nesting have no nodes
pub record NodePiece (rules : Rules) (bytes : List ℕ) (n : Node) : Type 0 where
  pub literal : is_literal_of n.kind ≡ true → Lone rules bytes n
  pub integer : n.kind ≡ an_integer → (r : IntegerAnswer) →
      IntegerAnswers rules (piece bytes n.at) r → GivesInteger bytes n.at r
  pub text : n.kind ≡ a_text → Gives text_call rules bytes n
  pub bits : n.kind ≡ a_bits → Gives bits_call rules bytes n
  pub blob : n.kind ≡ a_blob → Gives blob_call rules bytes n

-- of every node of the table
abbrev pub Pieces : Rules → List ℕ → Value → Type 0
Pieces rules bytes v = Every (NodePiece rules bytes) (table v)
