-- The moves, as the code computes them. Assumes nothing.
use mathlib.Core.Bool.{Bool, true, false}
use Prim.Native.Nat.{ℕ}
use Rattle.lexicon.specs.declared.Bound.{Bound}
use Rattle.lexicon.specs.declared.Bound.TheVariants.{Open, Less, LessEqual}
use Rattle.lexicon.specs.declared.Sign.{Sign}
use Rattle.lexicon.specs.declared.Kind.{Kind}
use Rattle.moves.specs.declared.Forms.{Forms}
use Rattle.moves.specs.declared.NodeKind.{NodeKind}
use Rattle.moves.specs.declared.Role.{Role}
use Rattle.moves.specs.declared.Arrow.{Arrow}
use Rattle.moves.specs.declared.Shape.{Shape}
use Rattle.moves.specs.declared.Style.{Style}
use Rattle.moves.specs.declared.Front.{Front}
use Rattle.moves.specs.declared.RoundFrame.{RoundFrame}
use Rattle.moves.specs.declared.RoundFrame.TheVariants as Round
use Rattle.moves.specs.declared.CurlyFrame.{CurlyFrame}
use Rattle.moves.specs.declared.CurlyFrame.TheVariants as Curly
use Rattle.moves.specs.declared.SquareFrame.{SquareFrame}
use Rattle.moves.specs.declared.SquareFrame.TheVariants as Square
use Rattle.moves.specs.declared.Frame.{Frame}
use Rattle.moves.specs.declared.Mode.{Mode}
use Rattle.moves.specs.declared.Move.{Move}
pub use Rattle.moves.specs.Moves.{shut}

-- ---- roles

-- of the value behind `:` or an arrow
abbrev pub right_role_of : Arrow → Role
right_role_of Arrow.Right = Role.ThatAfter
right_role_of Arrow.Left = Role.This

-- of the value before an arrow
abbrev pub left_role_of : Arrow → Role
left_role_of Arrow.Right = Role.This
left_role_of Arrow.Left = Role.ThatBefore

-- of a member by itself
abbrev pub alone_role_of : Style → Role
alone_role_of Style.Lot = Role.This
alone_role_of Style.Array = Role.Value
alone_role_of Style.Set = Role.Value
alone_role_of Style.Bag = Role.Value

-- ---- moves to a frame

abbrev pub round : RoundFrame → Role → Move
round f r = Move.To (Mode.Want (Frame.Round f)) r

abbrev pub curly : CurlyFrame → Role → Move
curly f r = Move.To (Mode.Want (Frame.Curly f)) r

abbrev pub square : SquareFrame → Role → Move
square f r = Move.To (Mode.Want (Frame.Square f)) r

-- ---- where a value is wanted, a sign that begins none

abbrev pub empty_round : RoundFrame → Move
empty_round Round.Opened = Move.Close NodeKind.Tuple 0 Role.Root
empty_round (Round.Colon n) = Move.Wrong
empty_round (Round.Arrow l) = Move.Wrong
empty_round Round.Led = Move.Wrong
empty_round Round.Row = Move.Close NodeKind.Tuple 0 Role.Root
empty_round Round.Named = Move.Wrong

abbrev pub empty_curly : CurlyFrame → Move
empty_curly (Curly.Members s f) = shut s Role.Root
empty_curly (Curly.Joined l) = Move.Wrong

abbrev pub empty_square : SquareFrame → Move
empty_square Square.Opened = Move.Close NodeKind.Interval 0 Role.Root
empty_square (Square.Low d) = Move.Wrong
empty_square (Square.UpTo d) = Move.Wrong

abbrev pub lead_round : RoundFrame → Move
lead_round Round.Opened = round Round.Led Role.Root
lead_round (Round.Colon n) = Move.Wrong
lead_round (Round.Arrow l) = Move.Wrong
lead_round Round.Led = Move.Wrong
lead_round Round.Row = Move.Wrong
lead_round Round.Named = Move.Wrong

abbrev pub lead_front : Style → Front → Move
lead_front s Front.Start = curly (Curly.Members s Front.Led) Role.Root
lead_front s Front.Led = Move.To (Mode.TwoCommas s) Role.Root
lead_front s Front.Row = Move.Wrong

abbrev pub lead_curly : CurlyFrame → Move
lead_curly (Curly.Members s f) = lead_front s f
lead_curly (Curly.Joined l) = Move.Wrong

abbrev pub star_right : Bound → Move
star_right Open = Move.To (Mode.Bounded 10) Role.Root
star_right Less = square (Square.UpTo 9) Role.Root
star_right LessEqual = square (Square.UpTo 8) Role.Root

abbrev pub star_first : Bound → Bound → Move
star_first Open b = star_right b
star_first Less b = Move.Wrong
star_first LessEqual b = Move.Wrong

abbrev pub lead_star : SquareFrame → Bound → Bound → Move
lead_star Square.Opened a b = star_first a b
lead_star (Square.Low d) a b = Move.Wrong
lead_star (Square.UpTo d) a b = Move.Wrong

abbrev pub lead_sign : Frame → Sign → Move
lead_sign (Frame.Round f) Sign.RoundOpen = Move.Value (Frame.Round f)
lead_sign (Frame.Round f) Sign.RoundClose = empty_round f
lead_sign (Frame.Round f) Sign.CurlyOpen = Move.Value (Frame.Round f)
lead_sign (Frame.Round f) Sign.CurlyClose = Move.Wrong
lead_sign (Frame.Round f) Sign.SquareOpen = Move.Value (Frame.Round f)
lead_sign (Frame.Round f) Sign.SquareClose = Move.Wrong
lead_sign (Frame.Round f) Sign.Comma = lead_round f
lead_sign (Frame.Round f) Sign.ArrowRight = Move.Wrong
lead_sign (Frame.Round f) Sign.ArrowLeft = Move.Wrong
lead_sign (Frame.Round f) Sign.Dots = Move.Wrong
lead_sign (Frame.Round f) (Sign.Star a b) = Move.Wrong
lead_sign (Frame.Curly f) Sign.RoundOpen = Move.Value (Frame.Curly f)
lead_sign (Frame.Curly f) Sign.RoundClose = Move.Wrong
lead_sign (Frame.Curly f) Sign.CurlyOpen = Move.Value (Frame.Curly f)
lead_sign (Frame.Curly f) Sign.CurlyClose = empty_curly f
lead_sign (Frame.Curly f) Sign.SquareOpen = Move.Value (Frame.Curly f)
lead_sign (Frame.Curly f) Sign.SquareClose = Move.Wrong
lead_sign (Frame.Curly f) Sign.Comma = lead_curly f
lead_sign (Frame.Curly f) Sign.ArrowRight = Move.Wrong
lead_sign (Frame.Curly f) Sign.ArrowLeft = Move.Wrong
lead_sign (Frame.Curly f) Sign.Dots = Move.Wrong
lead_sign (Frame.Curly f) (Sign.Star a b) = Move.Wrong
lead_sign (Frame.Square f) Sign.RoundOpen = Move.Value (Frame.Square f)
lead_sign (Frame.Square f) Sign.RoundClose = Move.Wrong
lead_sign (Frame.Square f) Sign.CurlyOpen = Move.Value (Frame.Square f)
lead_sign (Frame.Square f) Sign.CurlyClose = Move.Wrong
lead_sign (Frame.Square f) Sign.SquareOpen = Move.Value (Frame.Square f)
lead_sign (Frame.Square f) Sign.SquareClose = empty_square f
lead_sign (Frame.Square f) Sign.Comma = Move.Wrong
lead_sign (Frame.Square f) Sign.ArrowRight = Move.Wrong
lead_sign (Frame.Square f) Sign.ArrowLeft = Move.Wrong
lead_sign (Frame.Square f) Sign.Dots = Move.Wrong
lead_sign (Frame.Square f) (Sign.Star a b) = lead_star f a b

abbrev pub lead : Frame → Kind → Move
lead f Kind.Ignorance = Move.Value f
lead f (Kind.Boolean b) = Move.Value f
lead f (Kind.Integer signed) = Move.Value f
lead f Kind.Fraction = Move.Value f
lead f Kind.Bits = Move.Value f
lead f Kind.Blob = Move.Value f
lead f (Kind.Text form) = Move.Value f
lead f Kind.Later = Move.Value f
lead f (Kind.Symbol s) = lead_sign f s
lead f Kind.Colon = Move.Wrong
lead f Kind.TwoColons = Move.Value f

-- ---- behind a value

abbrev pub close_round : RoundFrame → Move
close_round Round.Opened = Move.Group
close_round (Round.Colon n) = Move.Close NodeKind.Pair 0 Role.ThatAfter
close_round (Round.Arrow l) = Move.Close NodeKind.Pair 0 (right_role_of l)
close_round Round.Led = Move.Close NodeKind.Tuple 0 Role.Value
close_round Round.Row = Move.Close NodeKind.Tuple 0 Role.Value
close_round Round.Named = Move.Close NodeKind.Tuple 0 Role.Value

abbrev pub close_curly : CurlyFrame → Move
close_curly (Curly.Members s f) = shut s (alone_role_of s)
close_curly (Curly.Joined l) = Move.Close NodeKind.Lot 0 (right_role_of l)

abbrev pub close_square : SquareFrame → Move
close_square Square.Opened = Move.Close NodeKind.Interval 1 Role.Single
close_square (Square.Low d) = Move.Close NodeKind.Interval d Role.High
close_square (Square.UpTo d) = Move.Close NodeKind.Interval d Role.High

-- a name, its `:`, a value and a comma begin a Tuple
abbrev pub comma_pair_of : Bool → Move
comma_pair_of false = Move.Wrong
comma_pair_of true = Move.Tuple

abbrev pub comma_round : RoundFrame → Move
comma_round Round.Opened = round Round.Row Role.Value
comma_round (Round.Colon n) = comma_pair_of n
comma_round (Round.Arrow l) = Move.Wrong
comma_round Round.Led = round Round.Row Role.Value
comma_round Round.Row = round Round.Row Role.Value
comma_round Round.Named = round Round.Row Role.Value

abbrev pub comma_curly : CurlyFrame → Move
comma_curly (Curly.Members s f) = curly (Curly.Members s Front.Row) (alone_role_of s)
comma_curly (Curly.Joined l) = curly (Curly.Members Style.Lot Front.Row) (right_role_of l)

-- a bare head word directly behind `(` has no colon behind it here: the head was seen before
abbrev pub colon_first_of : Shape → Move
colon_first_of (Shape.Bare h) = Move.Wrong
colon_first_of Shape.Name = round (Round.Colon true) Role.This
colon_first_of Shape.Other = round (Round.Colon false) Role.This

abbrev pub colon_attribute_of : Shape → Move
colon_attribute_of (Shape.Bare h) = round Round.Named Role.Name
colon_attribute_of Shape.Name = round Round.Named Role.Name
colon_attribute_of Shape.Other = Move.Wrong

abbrev pub colon_round : RoundFrame → Shape → Move
colon_round Round.Opened s = colon_first_of s
colon_round (Round.Colon n) s = Move.Wrong
colon_round (Round.Arrow l) s = Move.Wrong
colon_round Round.Led s = colon_attribute_of s
colon_round Round.Row s = colon_attribute_of s
colon_round Round.Named s = Move.Wrong

abbrev pub colon_in : Style → Move
colon_in Style.Lot = curly (Curly.Joined Arrow.Right) Role.This
colon_in Style.Array = Move.To (Mode.Count Style.Array) Role.Value
colon_in Style.Set = Move.To (Mode.Count Style.Set) Role.Value
colon_in Style.Bag = Move.To (Mode.Count Style.Bag) Role.Value

abbrev pub colon_curly : CurlyFrame → Move
colon_curly (Curly.Members s f) = colon_in s
colon_curly (Curly.Joined l) = Move.Wrong

abbrev pub colon : Frame → Shape → Move
colon (Frame.Round f) s = colon_round f s
colon (Frame.Curly f) s = colon_curly f
colon (Frame.Square f) s = Move.Wrong

-- `->`, and `<-` if the level has it
abbrev pub has_arrow_of : Forms → Arrow → Bool
has_arrow_of forms Arrow.Right = true
has_arrow_of forms Arrow.Left = forms.leftward

abbrev pub when : Bool → Move → Move
when true m = m
when false m = Move.Wrong

abbrev pub arrow_round : Forms → RoundFrame → Arrow → Move
arrow_round forms Round.Opened l = when (has_arrow_of forms l) (round (Round.Arrow l) (left_role_of l))
arrow_round forms (Round.Colon n) l = Move.Wrong
arrow_round forms (Round.Arrow k) l = Move.Wrong
arrow_round forms Round.Led l = Move.Wrong
arrow_round forms Round.Row l = Move.Wrong
arrow_round forms Round.Named l = Move.Wrong

abbrev pub arrow_in : Forms → Style → Arrow → Move
arrow_in forms Style.Lot l = when (has_arrow_of forms l) (curly (Curly.Joined l) (left_role_of l))
arrow_in forms Style.Array l = Move.Wrong
arrow_in forms Style.Set l = Move.Wrong
arrow_in forms Style.Bag l = Move.Wrong

abbrev pub arrow_curly : Forms → CurlyFrame → Arrow → Move
arrow_curly forms (Curly.Members s f) l = arrow_in forms s l
arrow_curly forms (Curly.Joined k) l = Move.Wrong

-- the sign behind a low bound: `..`, or a star, whose number is the Interval's detail
abbrev pub low_sign : SquareFrame → ℕ → Move
low_sign Square.Opened d = square (Square.Low d) Role.Low
low_sign (Square.Low e) d = Move.Wrong
low_sign (Square.UpTo e) d = Move.Wrong

abbrev pub low_open : SquareFrame → ℕ → Move
low_open Square.Opened d = Move.To (Mode.Bounded d) Role.Low
low_open (Square.Low e) d = Move.Wrong
low_open (Square.UpTo e) d = Move.Wrong

abbrev pub star_square : SquareFrame → Bound → Bound → Move
star_square f Open b = Move.Wrong
star_square f Less Open = low_open f 7
star_square f Less Less = low_sign f 5
star_square f Less LessEqual = low_sign f 4
star_square f LessEqual Open = low_open f 6
star_square f LessEqual Less = low_sign f 3
star_square f LessEqual LessEqual = low_sign f 2

abbrev pub behind_sign : Forms → Frame → Sign → Move
behind_sign forms (Frame.Round f) Sign.RoundOpen = Move.Wrong
behind_sign forms (Frame.Round f) Sign.RoundClose = close_round f
behind_sign forms (Frame.Round f) Sign.CurlyOpen = Move.Wrong
behind_sign forms (Frame.Round f) Sign.CurlyClose = Move.Wrong
behind_sign forms (Frame.Round f) Sign.SquareOpen = Move.Wrong
behind_sign forms (Frame.Round f) Sign.SquareClose = Move.Wrong
behind_sign forms (Frame.Round f) Sign.Comma = comma_round f
behind_sign forms (Frame.Round f) Sign.ArrowRight = arrow_round forms f Arrow.Right
behind_sign forms (Frame.Round f) Sign.ArrowLeft = arrow_round forms f Arrow.Left
behind_sign forms (Frame.Round f) Sign.Dots = Move.Wrong
behind_sign forms (Frame.Round f) (Sign.Star a b) = Move.Wrong
behind_sign forms (Frame.Curly f) Sign.RoundOpen = Move.Wrong
behind_sign forms (Frame.Curly f) Sign.RoundClose = Move.Wrong
behind_sign forms (Frame.Curly f) Sign.CurlyOpen = Move.Wrong
behind_sign forms (Frame.Curly f) Sign.CurlyClose = close_curly f
behind_sign forms (Frame.Curly f) Sign.SquareOpen = Move.Wrong
behind_sign forms (Frame.Curly f) Sign.SquareClose = Move.Wrong
behind_sign forms (Frame.Curly f) Sign.Comma = comma_curly f
behind_sign forms (Frame.Curly f) Sign.ArrowRight = arrow_curly forms f Arrow.Right
behind_sign forms (Frame.Curly f) Sign.ArrowLeft = arrow_curly forms f Arrow.Left
behind_sign forms (Frame.Curly f) Sign.Dots = Move.Wrong
behind_sign forms (Frame.Curly f) (Sign.Star a b) = Move.Wrong
behind_sign forms (Frame.Square f) Sign.RoundOpen = Move.Wrong
behind_sign forms (Frame.Square f) Sign.RoundClose = Move.Wrong
behind_sign forms (Frame.Square f) Sign.CurlyOpen = Move.Wrong
behind_sign forms (Frame.Square f) Sign.CurlyClose = Move.Wrong
behind_sign forms (Frame.Square f) Sign.SquareOpen = Move.Wrong
behind_sign forms (Frame.Square f) Sign.SquareClose = close_square f
behind_sign forms (Frame.Square f) Sign.Comma = Move.Wrong
behind_sign forms (Frame.Square f) Sign.ArrowRight = Move.Wrong
behind_sign forms (Frame.Square f) Sign.ArrowLeft = Move.Wrong
behind_sign forms (Frame.Square f) Sign.Dots = low_sign f 11
behind_sign forms (Frame.Square f) (Sign.Star a b) = star_square f a b

abbrev pub behind : Forms → Frame → Shape → Kind → Move
behind forms f s Kind.Ignorance = Move.Wrong
behind forms f s (Kind.Boolean b) = Move.Wrong
behind forms f s (Kind.Integer signed) = Move.Wrong
behind forms f s Kind.Fraction = Move.Wrong
behind forms f s Kind.Bits = Move.Wrong
behind forms f s Kind.Blob = Move.Wrong
behind forms f s (Kind.Text form) = Move.Wrong
behind forms f s Kind.Later = Move.Wrong
behind forms f s (Kind.Symbol sign) = behind_sign forms f sign
behind forms f s Kind.Colon = colon f s
behind forms f s Kind.TwoColons = Move.Wrong

-- ---- the other modes: one sign, or a count

-- where one token alone may come
abbrev pub only : (Sign → Move) → Kind → Move
only f Kind.Ignorance = Move.Wrong
only f (Kind.Boolean b) = Move.Wrong
only f (Kind.Integer signed) = Move.Wrong
only f Kind.Fraction = Move.Wrong
only f Kind.Bits = Move.Wrong
only f Kind.Blob = Move.Wrong
only f (Kind.Text form) = Move.Wrong
only f Kind.Later = Move.Wrong
only f (Kind.Symbol s) = f s
only f Kind.Colon = Move.Wrong
only f Kind.TwoColons = Move.Wrong

-- `{` behind a head
abbrev pub head_sign : Style → Sign → Move
head_sign y Sign.RoundOpen = Move.Wrong
head_sign y Sign.RoundClose = Move.Wrong
head_sign y Sign.CurlyOpen = Move.Deeper y
head_sign y Sign.CurlyClose = Move.Wrong
head_sign y Sign.SquareOpen = Move.Wrong
head_sign y Sign.SquareClose = Move.Wrong
head_sign y Sign.Comma = Move.Wrong
head_sign y Sign.ArrowRight = Move.Wrong
head_sign y Sign.ArrowLeft = Move.Wrong
head_sign y Sign.Dots = Move.Wrong
head_sign y (Sign.Star a b) = Move.Wrong

-- behind a count
abbrev pub counted_sign : Style → Sign → Move
counted_sign y Sign.RoundOpen = Move.Wrong
counted_sign y Sign.RoundClose = Move.Wrong
counted_sign y Sign.CurlyOpen = Move.Wrong
counted_sign y Sign.CurlyClose = shut y Role.Root
counted_sign y Sign.SquareOpen = Move.Wrong
counted_sign y Sign.SquareClose = Move.Wrong
counted_sign y Sign.Comma = curly (Curly.Members y Front.Row) Role.Root
counted_sign y Sign.ArrowRight = Move.Wrong
counted_sign y Sign.ArrowLeft = Move.Wrong
counted_sign y Sign.Dots = Move.Wrong
counted_sign y (Sign.Star a b) = Move.Wrong

-- `}` behind two commas
abbrev pub two_commas_sign : Style → Sign → Move
two_commas_sign y Sign.RoundOpen = Move.Wrong
two_commas_sign y Sign.RoundClose = Move.Wrong
two_commas_sign y Sign.CurlyOpen = Move.Wrong
two_commas_sign y Sign.CurlyClose = shut y Role.Root
two_commas_sign y Sign.SquareOpen = Move.Wrong
two_commas_sign y Sign.SquareClose = Move.Wrong
two_commas_sign y Sign.Comma = Move.Wrong
two_commas_sign y Sign.ArrowRight = Move.Wrong
two_commas_sign y Sign.ArrowLeft = Move.Wrong
two_commas_sign y Sign.Dots = Move.Wrong
two_commas_sign y (Sign.Star a b) = Move.Wrong

-- the node's kind
abbrev pub style_kind : Style → NodeKind
style_kind Style.Lot = NodeKind.Lot
style_kind Style.Array = NodeKind.Array
style_kind Style.Set = NodeKind.Set
style_kind Style.Bag = NodeKind.Bag

-- `)` behind a collection's `}`
abbrev pub headed_sign : Style → Sign → Move
headed_sign y Sign.RoundOpen = Move.Wrong
headed_sign y Sign.RoundClose = Move.Close (style_kind y) 0 Role.Root
headed_sign y Sign.CurlyOpen = Move.Wrong
headed_sign y Sign.CurlyClose = Move.Wrong
headed_sign y Sign.SquareOpen = Move.Wrong
headed_sign y Sign.SquareClose = Move.Wrong
headed_sign y Sign.Comma = Move.Wrong
headed_sign y Sign.ArrowRight = Move.Wrong
headed_sign y Sign.ArrowLeft = Move.Wrong
headed_sign y Sign.Dots = Move.Wrong
headed_sign y (Sign.Star a b) = Move.Wrong

-- `]` behind an Interval's bounds
abbrev pub bounded_sign : ℕ → Sign → Move
bounded_sign d Sign.RoundOpen = Move.Wrong
bounded_sign d Sign.RoundClose = Move.Wrong
bounded_sign d Sign.CurlyOpen = Move.Wrong
bounded_sign d Sign.CurlyClose = Move.Wrong
bounded_sign d Sign.SquareOpen = Move.Wrong
bounded_sign d Sign.SquareClose = Move.Close NodeKind.Interval d Role.Root
bounded_sign d Sign.Comma = Move.Wrong
bounded_sign d Sign.ArrowRight = Move.Wrong
bounded_sign d Sign.ArrowLeft = Move.Wrong
bounded_sign d Sign.Dots = Move.Wrong
bounded_sign d (Sign.Star a b) = Move.Wrong

-- the count is an unsigned Integer for Array and Bag, a Boolean for Set
abbrev pub number_count_of : Style → Bool → Move
number_count_of Style.Lot signed = Move.Wrong
number_count_of Style.Array false = Move.Count Style.Array
number_count_of Style.Array true = Move.Wrong
number_count_of Style.Set signed = Move.Wrong
number_count_of Style.Bag false = Move.Count Style.Bag
number_count_of Style.Bag true = Move.Wrong

abbrev pub truth_count_of : Style → Move
truth_count_of Style.Lot = Move.Wrong
truth_count_of Style.Array = Move.Wrong
truth_count_of Style.Set = Move.Count Style.Set
truth_count_of Style.Bag = Move.Wrong

abbrev pub count : Style → Kind → Move
count y Kind.Ignorance = Move.Wrong
count y (Kind.Boolean b) = truth_count_of y
count y (Kind.Integer signed) = number_count_of y signed
count y Kind.Fraction = Move.Wrong
count y Kind.Bits = Move.Wrong
count y Kind.Blob = Move.Wrong
count y (Kind.Text form) = Move.Wrong
count y Kind.Later = Move.Wrong
count y (Kind.Symbol s) = Move.Wrong
count y Kind.Colon = Move.Wrong
count y Kind.TwoColons = Move.Wrong

-- ---- the move of a token of kind k

abbrev pub move : Forms → Mode → Kind → Move
move forms (Mode.Want f) k = lead f k
move forms (Mode.Have f s) k = behind forms f s k
move forms (Mode.Head y) k = only (head_sign y) k
move forms (Mode.Count y) k = count y k
move forms (Mode.Counted y) k = only (counted_sign y) k
move forms (Mode.TwoCommas y) k = only (two_commas_sign y) k
move forms (Mode.Headed y) k = only (headed_sign y) k
move forms (Mode.Bounded d) k = only (bounded_sign d) k
