-- The tokens as the tree rules see them: a literal, a Text, `::`, a bracket or another sign, and where it stands.
-- Assumes nothing.
use Rattle.std.specs.Prelude.{Bool, ℕ}
use Rattle.lexicon.specs.declared.Bound.{Bound}
use Rattle.lexicon.specs.declared.Head.{Head}
use Rattle.lexicon.specs.declared.Form.{Form}
use Rattle.lexicon.specs.declared.Form.TheVariants.{Quoted, Word, HeadWord, CodePoint}
use Rattle.lexicon.specs.declared.Sign.{Sign}
use Rattle.lexicon.specs.declared.Sign.TheVariants.{RoundOpen, RoundClose, CurlyOpen, CurlyClose, SquareOpen}
use Rattle.lexicon.specs.declared.Sign.TheVariants.{SquareClose, Comma, ArrowRight, ArrowLeft, Dots, Star}
use Rattle.lexicon.specs.declared.Kind.{Kind}
use Rattle.lexicon.specs.declared.Kind.TheVariants.{Ignorance, Boolean, Integer, Fraction, Bits, Blob, Text, Later}
use Rattle.lexicon.specs.declared.Kind.TheVariants.{Symbol, Colon, TwoColons}

-- the first byte and the byte after the last
pub record Span : Type 0 where
  pub first : ℕ
  pub end : ℕ

-- the literals that are values by themselves
pub data Atom : Type 0 where
  ignorance : Atom
  boolean : Bool → Atom
  integer : Bool → Atom
  fraction : Atom
  bits : Atom
  blob : Atom

-- how a Text that is no bare head word is written
pub data Spelling : Type 0 where
  quoted word code_point_of : Spelling

-- any Text
pub data Wording : Type 0 where
  spelled : Spelling → Wording
  head_word : Head → Wording

-- the signs that begin no value
pub data Mark : Type 0 where
  round_close curly_close square_close comma colon right_arrow left_arrow dots : Mark
  star : Bound → Bound → Mark

-- the classes: those that may begin a value, the other signs, and the one that is never of a level
pub data Class : Type 0 where
  atom : Atom → Class
  text : Wording → Class
  names : Class
  round curly square : Class
  mark : Mark → Class
  later : Class

pub record Tok : Type 0 where
  pub class : Class
  pub at : Span

-- a token of a class
abbrev pub tok : Class → Span → Tok
tok c s = record { class = c; at = s }

-- the class of a token's kind
abbrev pub wording : Form → Wording
wording Quoted = spelled quoted
wording Word = spelled word
wording (HeadWord h) = head_word h
wording CodePoint = spelled code_point_of

abbrev pub class_sign : Sign → Class
class_sign RoundOpen = round
class_sign RoundClose = mark round_close
class_sign CurlyOpen = curly
class_sign CurlyClose = mark curly_close
class_sign SquareOpen = square
class_sign SquareClose = mark square_close
class_sign Comma = mark comma
class_sign ArrowRight = mark right_arrow
class_sign ArrowLeft = mark left_arrow
class_sign Dots = mark dots
class_sign (Star low high) = mark (star low high)

abbrev pub class_kind : Kind → Class
class_kind Ignorance = atom ignorance
class_kind (Boolean b) = atom (boolean b)
class_kind (Integer signed) = atom (integer signed)
class_kind Fraction = atom fraction
class_kind Bits = atom bits
class_kind Blob = atom blob
class_kind (Text form) = text (wording form)
class_kind Later = later
class_kind (Symbol s) = class_sign s
class_kind Colon = mark colon
class_kind TwoColons = names
