-- Configurations of the machine: a mode and a stack of frames, each with the part of its construct that was read. Assumes nothing.
use mathlib.Core.List.{List}
use mathlib.Core.Option.{Option, none, some}
use Rattle.grammar.specs.Tokens.{Span, Wording}
use Rattle.grammar.specs.Tree
use Rattle.grammar.specs.Tree.{Names, one_name, more_names, PlainName, Name, Arrow, Joiner, Collection, Measure, counted_by, Side, Between, Style, opening, attribute, member, copy, Value, Plain, Item, Row, Listing, Attributes, Bounds}

-- what was read in a Tuple behind a comma: the leading comma, or attributes with a comma behind each
pub data Lead : Type 0 where
  lead_comma : Span → Lead
  lead_row : Row opening attribute → Lead

-- what was read between curly brackets: nothing, the leading comma, items with a comma behind each
pub data Front (s : Style) : Type 0 where
  start : Front s
  led : Span → Front s
  row : Row s s → Front s

-- the opening of a Lot, or of a counted collection from its `(` to its `{`
pub data Curly : Style → Type 0 where
  lot_curly : Span → Curly member
  counted_curly : Span → (h : Collection) → Span → Span → Span → Curly (copy (counted_by h))

-- behind `(`; behind a first value and `:` or an arrow; in a Tuple behind a comma, without or with a name and `:`
pub data RoundFrame : Type 0 where
  opened : Span → RoundFrame
  pair_colon : Span → Plain → Span → RoundFrame
  pair_arrow : Span → Value → Arrow → Span → RoundFrame
  in_tuple : Span → Lead → RoundFrame
  attribute_name : Span → Lead → Name → Span → RoundFrame

-- before an item; in a Lot behind a value and its joiner
pub data CurlyFrame : Type 0 where
  in_curly : {s : Style} → Curly s → Front s → CurlyFrame
  member_joined : Span → Front member → Value → Joiner → Span → CurlyFrame

-- behind `[`; behind the low bound and its sign; behind `*<` or `*<=`
pub data SquareFrame : Type 0 where
  square_opened : Span → SquareFrame
  low_and : Span → Value → Between → Span → SquareFrame
  up_to : Span → Side → Span → SquareFrame

pub data Frame : Type 0 where
  in_round : RoundFrame → Frame
  in_curly : CurlyFrame → Frame
  in_square : SquareFrame → Frame

abbrev pub Stack : Type 0
Stack = List Frame

-- where only one closing bracket may follow: behind two commas, behind a counted collection's `}`, behind a star that is open to the right
pub data Closing : Type 0 where
  two_commas : {s : Style} → Curly s → Span → Span → Closing
  headed : Span → (h : Collection) → Span → Span → Span → Listing (copy (counted_by h)) → Span → Closing
  bounded : Span → Bounds → Closing

pub data Config : Type 0 where
  want : Stack → Config
  have : Value → Stack → Config
  -- behind `::`, which the names before it go on with
  want_text : Option Names → Span → Stack → Config
  -- behind `(`, a head and `:`
  want_curly : Span → Collection → Span → Span → Stack → Config
  -- behind a counted value and `:`, and behind the count
  want_count : {u : Measure} → Curly (copy u) → Front (copy u) → Value → Span → Stack → Config
  have_item : {s : Style} → Curly s → Front s → Item s → Stack → Config
  want_close : Closing → Stack → Config

-- ---- what was read, with one part more

abbrev pub next_names : Option Names → Span → Wording → Span → Names
next_names none s w t = one_name s w t
next_names (some n) s w t = more_names n s w t

abbrev pub next_attribute : Lead → Item attribute → Span → Row opening attribute
next_attribute (lead_comma b) i c = Tree.row_led b i c
next_attribute (lead_row r) i c = Tree.row_next r i c

abbrev pub last_attribute : Lead → Item attribute → Attributes
last_attribute (lead_comma b) i = Tree.led_attribute b i
last_attribute (lead_row r) i = Tree.last_attribute r i

abbrev pub next_item : {s : Style} → Front s → Item s → Span → Row s s
next_item start i c = Tree.row_first i c
next_item (led b) i c = Tree.row_led b i c
next_item (row r) i c = Tree.row_next r i c

abbrev pub last_item : {s : Style} → Front s → Item s → Listing s
last_item start i = Tree.one_item i
last_item (led b) i = Tree.led_item b i
last_item (row r) i = Tree.last_item r i

abbrev pub no_further : {s : Style} → Front s → Listing s
no_further start = Tree.no_item
no_further (led c) = Tree.one_comma c
no_further (row r) = Tree.trailing r

-- behind `}`: a Lot is a value, a counted collection wants its `)`
abbrev pub shut : {s : Style} → Curly s → Listing s → Span → Stack → Config
shut (lot_curly o) i e K = have (Tree.plain (Tree.lot o i e)) K
shut (counted_curly o h s k b) i e K = want_close (headed o h s k b i e) K

-- the value as a name
abbrev pub plain_name_of : Plain → Option PlainName
plain_name_of (Tree.literal a s) = none
plain_name_of (Tree.text w s) = some (Tree.text_name w s)
plain_name_of (Tree.nesting n) = some (Tree.nesting_name n)
plain_name_of (Tree.group o v c) = none
plain_name_of (Tree.pair o p k v c) = none
plain_name_of (Tree.arrowed o v a k w c) = none
plain_name_of (Tree.tuple o i c) = none
plain_name_of (Tree.lot o i c) = none
plain_name_of (Tree.counted o h s k b i e c) = none
plain_name_of (Tree.interval o b c) = none

abbrev pub as_name : Option PlainName → Option Name
as_name none = none
as_name (some n) = some (Tree.plain_name n)

abbrev pub name_of : Value → Option Name
name_of (Tree.plain p) = as_name (plain_name_of p)
name_of (Tree.bare h s) = some (Tree.bare_name h s)

-- the value behind whose Text `::` goes on
abbrev pub names_of : Value → Option Names
names_of (Tree.plain (Tree.literal a s)) = none
names_of (Tree.plain (Tree.text w s)) = none
names_of (Tree.plain (Tree.nesting n)) = some n
names_of (Tree.plain (Tree.group o v c)) = none
names_of (Tree.plain (Tree.pair o p k v c)) = none
names_of (Tree.plain (Tree.arrowed o v a k w c)) = none
names_of (Tree.plain (Tree.tuple o i c)) = none
names_of (Tree.plain (Tree.lot o i c)) = none
names_of (Tree.plain (Tree.counted o h s k b i e c)) = none
names_of (Tree.plain (Tree.interval o b c)) = none
names_of (Tree.bare h s) = none
