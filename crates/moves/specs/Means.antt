-- What a mode stands for: the configurations of the grammar's machine that have it, and the nodes of the members
-- read so far. Assumes nothing.
use Rattle.std.specs.Prelude.{Bool, true, false, List, [], ◌∷◌, ◌++◌, ℕ, ◌+◌, length}
use Rattle.std.proofs.Math.Option.{Option, none, some}
use Rattle.lexicon.specs.declared.Sign.{Sign}
use Rattle.grammar.specs.Tokens.{Span}
use Rattle.grammar.specs.Tree
use Rattle.grammar.specs.Tree.{Joiner, Collection, Side, Value}
use Rattle.grammar.specs.Level as Level
use Rattle.grammar.specs.Level.{Level}
use Rattle.grammar.specs.Nodes as Nodes
use Rattle.grammar.specs.Nodes.{Node, nodes, nodes_plain, nodes_name, nodes_item, nodes_row, nodes_listing}
use Rattle.grammar.specs.Nodes.{nodes_bounds, between_detail, bounds_detail, joiner_left, collection_kind}
use Rattle.grammar.proofs.Frames as Frames
pub use Rattle.grammar.proofs.NodeLaws.{roled}
use Rattle.grammar.proofs.Frames.{Config, Stack, plain_name_of}
use Rattle.moves.specs.declared.Forms.{Forms}
use Rattle.moves.specs.declared.NodeKind.{NodeKind}
use Rattle.moves.specs.declared.Role.{Role}
use Rattle.moves.specs.declared.Arrow.{Arrow}
use Rattle.moves.specs.declared.Shape.{Shape}
use Rattle.moves.specs.declared.Style.{Style}
use Rattle.moves.specs.declared.Front.{Front}
use Rattle.moves.specs.declared.RoundFrame.{RoundFrame}
use Rattle.moves.specs.declared.RoundFrame.TheVariants as Round
use Rattle.moves.specs.declared.CurlyFrame.{CurlyFrame}
use Rattle.moves.specs.declared.CurlyFrame.TheVariants as Curly
use Rattle.moves.specs.declared.SquareFrame.{SquareFrame}
use Rattle.moves.specs.declared.SquareFrame.TheVariants as Square
use Rattle.moves.specs.declared.Frame.{Frame}
use Rattle.moves.specs.declared.Mode.{Mode}

-- the level that has the forms
abbrev pub level_of : Forms → Level
level_of f Level.arrays = f.arrays
level_of f Level.sets = f.sets
level_of f Level.bags = f.bags
level_of f Level.intervals = f.intervals
level_of f Level.left_arrows = f.leftward

abbrev pub node_kind_of : NodeKind → Nodes.NodeKind
node_kind_of NodeKind.Ignorance = Nodes.an_ignorance
node_kind_of NodeKind.Boolean = Nodes.a_boolean
node_kind_of NodeKind.Integer = Nodes.an_integer
node_kind_of NodeKind.Fraction = Nodes.a_fraction
node_kind_of NodeKind.Bits = Nodes.a_bits
node_kind_of NodeKind.Blob = Nodes.a_blob
node_kind_of NodeKind.Text = Nodes.a_text
node_kind_of NodeKind.Nesting = Nodes.a_nesting
node_kind_of NodeKind.Pair = Nodes.a_pair
node_kind_of NodeKind.Tuple = Nodes.a_tuple
node_kind_of NodeKind.Lot = Nodes.a_lot
node_kind_of NodeKind.Array = Nodes.an_array
node_kind_of NodeKind.Set = Nodes.a_set
node_kind_of NodeKind.Bag = Nodes.a_bag
node_kind_of NodeKind.Interval = Nodes.an_interval

abbrev pub role_of : Role → Nodes.Role
role_of Role.Root = Nodes.root
role_of Role.This = Nodes.this
role_of Role.ThatAfter = Nodes.that_after
role_of Role.ThatBefore = Nodes.that_before
role_of Role.Name = Nodes.name
role_of Role.Value = Nodes.value
role_of Role.Count = Nodes.count
role_of Role.Low = Nodes.low
role_of Role.High = Nodes.high
role_of Role.Single = Nodes.single

-- ---- what the code's fields stand for

abbrev pub arrow_of : Arrow → Tree.Arrow
arrow_of Arrow.Right = Tree.rightward
arrow_of Arrow.Left = Tree.leftward

abbrev pub arrow_sign : Arrow → Sign
arrow_sign Arrow.Right = Sign.ArrowRight
arrow_sign Arrow.Left = Sign.ArrowLeft

-- the items between curly brackets
abbrev pub items_of : Style → Tree.Style
items_of Style.Lot = Tree.member
items_of Style.Array = Tree.copy (Tree.counted_by Tree.array)
items_of Style.Set = Tree.copy (Tree.counted_by Tree.set)
items_of Style.Bag = Tree.copy (Tree.counted_by Tree.bag)

-- the node of the whole
abbrev pub kind_of : Style → Nodes.NodeKind
kind_of Style.Lot = Nodes.a_lot
kind_of Style.Array = collection_kind Tree.array
kind_of Style.Set = collection_kind Tree.set
kind_of Style.Bag = collection_kind Tree.bag

-- ---- the mode of a configuration

abbrev pub given : {A : Type 0} → Option A → Bool
given none = false
given (some x) = true

abbrev pub name_shape : Bool → Shape
name_shape false = Shape.Other
name_shape true = Shape.Name

abbrev pub shape_of : Value → Shape
shape_of (Tree.plain p) = name_shape (given (plain_name_of p))
shape_of (Tree.bare h s) = Shape.Bare h

abbrev pub pointing : Tree.Arrow → Arrow
pointing Tree.rightward = Arrow.Right
pointing Tree.leftward = Arrow.Left

-- a colon gives the roles that `->` gives
abbrev pub joining : Joiner → Arrow
joining Tree.colon = Arrow.Right
joining (Tree.arrow a) = pointing a

abbrev pub collection_style : Collection → Style
collection_style Tree.array = Style.Array
collection_style Tree.set = Style.Set
collection_style Tree.bag = Style.Bag

abbrev pub style_of : {s : Tree.Style} → Frames.Curly s → Style
style_of (Frames.lot_curly o) = Style.Lot
style_of (Frames.counted_curly o h s k b) = collection_style h

abbrev pub front_of : {s : Tree.Style} → Frames.Front s → Front
front_of Frames.start = Front.Start
front_of (Frames.led b) = Front.Led
front_of (Frames.row r) = Front.Row

abbrev pub up_to_detail : Side → ℕ
up_to_detail Tree.less = 9
up_to_detail Tree.less_equal = 8

abbrev pub round_of : Frames.RoundFrame → RoundFrame
round_of (Frames.opened o) = Round.Opened
round_of (Frames.pair_colon o p k) = Round.Colon (given (plain_name_of p))
round_of (Frames.pair_arrow o v a k) = Round.Arrow (pointing a)
round_of (Frames.in_tuple o (Frames.lead_comma b)) = Round.Led
round_of (Frames.in_tuple o (Frames.lead_row r)) = Round.Row
round_of (Frames.attribute_name o f n k) = Round.Named

abbrev pub curly_of : Frames.CurlyFrame → CurlyFrame
curly_of (Frames.CurlyFrame.in_curly c f) = Curly.Members (style_of c) (front_of f)
curly_of (Frames.member_joined o f v j k) = Curly.Joined (joining j)

abbrev pub square_of : Frames.SquareFrame → SquareFrame
square_of (Frames.square_opened o) = Square.Opened
square_of (Frames.low_and o v b k) = Square.Low (between_detail b)
square_of (Frames.up_to o a k) = Square.UpTo (up_to_detail a)

abbrev pub frame_of : Frames.Frame → Frame
frame_of (Frames.in_round f) = Frame.Round (round_of f)
frame_of (Frames.Frame.in_curly f) = Frame.Curly (curly_of f)
frame_of (Frames.in_square f) = Frame.Square (square_of f)

-- a configuration inside a bracket, and not behind `::`
abbrev pub inside : Config → Bool
inside (Frames.want []) = false
inside (Frames.want (f ∷ K)) = true
inside (Frames.have v []) = false
inside (Frames.have v (f ∷ K)) = true
inside (Frames.want_text n o K) = false
inside (Frames.want_curly o h s k K) = true
inside (Frames.want_count c f v k K) = true
inside (Frames.have_item c f i K) = true
inside (Frames.want_close c K) = true

-- elsewhere the mode is any
abbrev pub mode_of : Config → Mode
mode_of (Frames.want []) = Mode.Bounded 0
mode_of (Frames.want (f ∷ K)) = Mode.Want (frame_of f)
mode_of (Frames.have v []) = Mode.Bounded 0
mode_of (Frames.have v (f ∷ K)) = Mode.Have (frame_of f) (shape_of v)
mode_of (Frames.want_text n o K) = Mode.Bounded 0
mode_of (Frames.want_curly o h s k K) = Mode.Head (collection_style h)
mode_of (Frames.want_count c f v k K) = Mode.Count (style_of c)
mode_of (Frames.have_item c f i K) = Mode.Counted (style_of c)
mode_of (Frames.want_close (Frames.two_commas c a b) K) = Mode.TwoCommas (style_of c)
mode_of (Frames.want_close (Frames.headed o h s k b i e) K) = Mode.Headed (collection_style h)
mode_of (Frames.want_close (Frames.bounded o b) K) = Mode.Bounded (bounds_detail b)

-- ---- the bracket: where it opened, and the stack below it

abbrev pub curly_span : {s : Tree.Style} → Frames.Curly s → Span
curly_span (Frames.lot_curly o) = o
curly_span (Frames.counted_curly o h s k b) = o

abbrev pub round_span : Frames.RoundFrame → Span
round_span (Frames.opened o) = o
round_span (Frames.pair_colon o p k) = o
round_span (Frames.pair_arrow o v a k) = o
round_span (Frames.in_tuple o f) = o
round_span (Frames.attribute_name o f n k) = o

abbrev pub frame_span : Frames.Frame → Span
frame_span (Frames.in_round f) = round_span f
frame_span (Frames.Frame.in_curly (Frames.CurlyFrame.in_curly c f)) = curly_span c
frame_span (Frames.Frame.in_curly (Frames.member_joined o f v j k)) = o
frame_span (Frames.in_square (Frames.square_opened o)) = o
frame_span (Frames.in_square (Frames.low_and o v b k)) = o
frame_span (Frames.in_square (Frames.up_to o a k)) = o

-- the span of its first token; elsewhere any
abbrev pub open_of : Config → Span
open_of (Frames.want []) = record { first = 0; end = 0 }
open_of (Frames.want (f ∷ K)) = frame_span f
open_of (Frames.have v []) = record { first = 0; end = 0 }
open_of (Frames.have v (f ∷ K)) = frame_span f
open_of (Frames.want_text n o K) = o
open_of (Frames.want_curly o h s k K) = o
open_of (Frames.want_count c f v k K) = curly_span c
open_of (Frames.have_item c f i K) = curly_span c
open_of (Frames.want_close (Frames.two_commas c a b) K) = curly_span c
open_of (Frames.want_close (Frames.headed o h s k b i e) K) = o
open_of (Frames.want_close (Frames.bounded o b) K) = o

abbrev pub below : Config → Stack
below (Frames.want []) = []
below (Frames.want (f ∷ K)) = K
below (Frames.have v []) = []
below (Frames.have v (f ∷ K)) = K
below (Frames.want_text n o K) = K
below (Frames.want_curly o h s k K) = K
below (Frames.want_count c f v k K) = K
below (Frames.have_item c f i K) = K
below (Frames.want_close c K) = K

-- ---- the nodes of the members read so far, the bracket's own node having index i

abbrev pub fronted : {s : Tree.Style} → Frames.Front s → ℕ → List Node
fronted Frames.start i = []
fronted (Frames.led b) i = []
fronted (Frames.row r) i = nodes_row r i (i + 1)

abbrev pub leading : Frames.Lead → ℕ → List Node
leading (Frames.lead_comma b) i = []
leading (Frames.lead_row r) i = nodes_row r i (i + 1)

-- nodes ns, and those of a group that begins behind them
abbrev pub then : List Node → ℕ → (ℕ → List Node) → List Node
then ns i f = ns ++ f (i + 1 + length ns)

abbrev pub framed : Frames.Frame → ℕ → List Node
framed (Frames.in_round (Frames.opened o)) i = []
framed (Frames.in_round (Frames.pair_colon o p k)) i = nodes_plain p i Nodes.this (i + 1)
framed (Frames.in_round (Frames.pair_arrow o v a k)) i = nodes v i (Nodes.left_role_of a) (i + 1)
framed (Frames.in_round (Frames.in_tuple o f)) i = leading f i
framed (Frames.in_round (Frames.attribute_name o f n k)) i = leading f i ++ nodes_name n i Nodes.name
framed (Frames.Frame.in_curly (Frames.CurlyFrame.in_curly c f)) i = fronted f i
framed (Frames.Frame.in_curly (Frames.member_joined o f v j k)) i = then (fronted f i) i (nodes v i (joiner_left j))
framed (Frames.in_square (Frames.square_opened o)) i = []
framed (Frames.in_square (Frames.low_and o v b k)) i = nodes v i Nodes.low (i + 1)
framed (Frames.in_square (Frames.up_to o a k)) i = []

-- before the value that was read last
abbrev pub before : Config → ℕ → List Node
before (Frames.want []) i = []
before (Frames.want (f ∷ K)) i = framed f i
before (Frames.have v []) i = []
before (Frames.have v (f ∷ K)) i = framed f i
before (Frames.want_text n o K) i = []
before (Frames.want_curly o h s k K) i = []
before (Frames.want_count c f v k K) i = then (fronted f i) i (nodes v i Nodes.value)
before (Frames.have_item c f t K) i = then (fronted f i) i (nodes_item t i)
before (Frames.want_close (Frames.two_commas c a b) K) i = []
before (Frames.want_close (Frames.headed o h s k b l e) K) i = nodes_listing l i (i + 1)
before (Frames.want_close (Frames.bounded o b) K) i = nodes_bounds b i (i + 1)

-- and of that value, whose role is not yet told
abbrev pub last : Config → ℕ → List Node
last (Frames.want K) i = []
last (Frames.have v []) i = []
last (Frames.have v (f ∷ K)) i = nodes v i Nodes.root (i + 1 + length (framed f i))
last (Frames.want_text n o K) i = []
last (Frames.want_curly o h s k K) i = []
last (Frames.want_count c f v k K) i = []
last (Frames.have_item c f t K) i = []
last (Frames.want_close c K) i = []

abbrev pub children : Config → ℕ → List Node
children c i = before c i ++ last c i
