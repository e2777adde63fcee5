-- The move of a token, told by what the grammar's machine does. Assumes nothing.
use Rattle.std.specs.Prelude.{◌≡◌}
use Rattle.lexicon.specs.declared.Kind.{Kind}
use Rattle.grammar.specs.Tokens.{Span, tok, class_kind}
use Rattle.grammar.proofs.Frames.{Config}
use Rattle.moves.specs.declared.Forms.{Forms}
use Rattle.moves.specs.declared.Mode.{Mode}
use Rattle.moves.specs.declared.Move.{Move}
use Rattle.moves.specs.declared.NodeKind.{NodeKind}
use Rattle.moves.specs.declared.Role.{Role}
use Rattle.moves.specs.declared.Style.{Style}
use Rattle.moves.specs.Means.{level_of, mode_of}
use Rattle.moves.specs.Effects.{Asked, Does}

-- wherever the reader expects what the mode tells, the move is what a token of the kind does, at whatever place. Where
-- some configuration has the mode and the token is asked about there is one such move (`one_move` in
-- `proofs/One.antt`); elsewhere, as behind the head of a Lot, the move is free, and no reader asks for it
pub record Moves (forms : Forms) (mode : Mode) (kind : Kind) (move : Move) : Type 0 where
  pub does : (c : Config) → mode_of c ≡ mode → Asked c kind → (at : Span) →
      Does (level_of forms) c (tok (class_kind kind) at) move

-- the move of `}`, which ends a Lot's bracket; that of a counted collection ends with the `)` behind it
abbrev pub shut : Style → Role → Move
shut Style.Lot role = Move.Close NodeKind.Lot 0 role
shut Style.Array role = Move.Shut Style.Array role
shut Style.Set role = Move.Shut Style.Set role
shut Style.Bag role = Move.Shut Style.Bag role
