-- The numbers by which C sees tokens. Assumes nothing.
use Rattle.std.specs.Prelude.{◌≡◌, List, [], ◌∷◌, ℕ}
use Rattle.lexicon.specs.declared.Bound.{Bound}
use Rattle.lexicon.specs.declared.Bound.TheVariants.{Open, Less, LessEqual}
use Rattle.lexicon.specs.declared.Sign.{Sign}
use Rattle.lexicon.specs.declared.Sign.TheVariants.{RoundOpen, RoundClose, CurlyOpen, CurlyClose, SquareOpen}
use Rattle.lexicon.specs.declared.Sign.TheVariants.{SquareClose, Comma, ArrowRight, ArrowLeft, Dots, Star}
use Rattle.lexicon.specs.declared.Head.{Head}
use Rattle.lexicon.specs.declared.Head.TheVariants.{Array, Set, Bag, Mix, IntervalSet, IntervalBag, TupleArray}
use Rattle.lexicon.specs.declared.Head.TheVariants.{Relation, TupleBag, Article, Excuse, Heading, Renaming}
use Rattle.lexicon.specs.declared.Form.{Form}
use Rattle.lexicon.specs.declared.Form.TheVariants.{Quoted, Word, HeadWord, CodePoint}
use Rattle.lexicon.specs.declared.Kind.{Kind}
use Rattle.lexicon.specs.declared.Kind.TheVariants.{Ignorance, Boolean, Integer, Fraction, Bits, Blob, Text, Later}
use Rattle.lexicon.specs.declared.Kind.TheVariants.{Symbol, Colon, TwoColons}
use Rattle.lexicon.specs.declared.Next.{Next}
use Rattle.lexicon.specs.declared.Next.TheVariants.{Token, End, NoToken}
use Rattle.lexicon.specs.Bytes.{bit}
use Rattle.lexicon.specs.Token.{Comes}

abbrev pub star_number_of : Bound → Bound → ℕ
star_number_of LessEqual LessEqual = 12
star_number_of LessEqual Less = 13
star_number_of LessEqual Open = 16
star_number_of Less LessEqual = 14
star_number_of Less Less = 15
star_number_of Less Open = 17
star_number_of Open LessEqual = 18
star_number_of Open Less = 19
star_number_of Open Open = 20

abbrev pub sign_number_of : Sign → ℕ
sign_number_of RoundOpen = 0
sign_number_of RoundClose = 1
sign_number_of CurlyOpen = 2
sign_number_of CurlyClose = 3
sign_number_of SquareOpen = 4
sign_number_of SquareClose = 5
sign_number_of Comma = 6
sign_number_of ArrowRight = 7
sign_number_of ArrowLeft = 8
sign_number_of Dots = 9
sign_number_of (Star low high) = star_number_of low high

abbrev pub head_number_of : Head → ℕ
head_number_of Array = 4
head_number_of Set = 5
head_number_of Bag = 6
head_number_of Mix = 7
head_number_of IntervalSet = 8
head_number_of IntervalBag = 9
head_number_of TupleArray = 10
head_number_of Relation = 11
head_number_of TupleBag = 12
head_number_of Article = 13
head_number_of Excuse = 14
head_number_of Heading = 15
head_number_of Renaming = 16

abbrev pub form_number_of : Form → ℕ
form_number_of Quoted = 1
form_number_of Word = 2
form_number_of CodePoint = 3
form_number_of (HeadWord h) = head_number_of h

abbrev pub kind_number_of : Kind → ℕ
kind_number_of Ignorance = 1
kind_number_of (Boolean b) = 2
kind_number_of (Integer s) = 3
kind_number_of Fraction = 4
kind_number_of Bits = 5
kind_number_of Blob = 6
kind_number_of (Text f) = 7
kind_number_of Later = 8
kind_number_of (Symbol s) = 9
kind_number_of Colon = 9
kind_number_of TwoColons = 9

abbrev pub detail_number_of : Kind → ℕ
detail_number_of Ignorance = 0
detail_number_of (Boolean b) = bit b
detail_number_of (Integer s) = bit s
detail_number_of Fraction = 0
detail_number_of Bits = 0
detail_number_of Blob = 0
detail_number_of (Text f) = form_number_of f
detail_number_of Later = 0
detail_number_of (Symbol s) = sign_number_of s
detail_number_of Colon = 10
detail_number_of TwoColons = 11

-- kind, first byte, byte after the last, detail, bad
abbrev pub words_of : Next → List ℕ
words_of (Token t) = kind_number_of t.kind ∷ t.first ∷ t.end ∷ detail_number_of t.kind ∷ bit t.bad ∷ []
words_of (End p) = 0 ∷ p ∷ p ∷ 0 ∷ 0 ∷ []
words_of (NoToken p) = 10 ∷ p ∷ p ∷ 0 ∷ 0 ∷ []

module _ (text : List ℕ) where
  -- the words of what comes next
  pub record TokenWords (at : ℕ) (words : List ℕ) : Type 0 where
    pub answer : Next
    pub comes : Comes text at answer
    pub words_are : words ≡ words_of answer
