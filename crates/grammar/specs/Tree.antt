-- Derivations: 01, 'How values nest', a constructor for each line, groups included. A tree holds the span of each of
-- its tokens, and only what the lines allow can be written down: a bare head word before `:` directly behind `(` has no
-- tree but a head's. Assumes nothing.
use Rattle.std.specs.Prelude.{Bool}
use Rattle.lexicon.specs.declared.Head.{Head}
use Rattle.grammar.specs.Tokens.{Span, Atom, Spelling, Wording}

-- a Nesting is `::` and a Text, once or more
pub data Names : Type 0 where
  one_name : Span → Wording → Span → Names
  more_names : Names → Span → Wording → Span → Names

-- a name is a Text or a Nesting not in a group; here one that is no bare head word
pub data PlainName : Type 0 where
  text_name : Spelling → Span → PlainName
  nesting_name : Names → PlainName

pub data Name : Type 0 where
  plain_name : PlainName → Name
  bare_name : Head → Span → Name

-- `->` and `<-`
pub data Arrow : Type 0 where
  rightward leftward : Arrow

-- what joins two values in a Lot
pub data Joiner : Type 0 where
  colon : Joiner
  arrow : Arrow → Joiner

-- the heads whose members are counted: Array and Bag by an unsigned Integer, Set by a Boolean
pub data Collection : Type 0 where
  array set bag : Collection

-- what a count is
pub data Measure : Type 0 where
  by_number by_truth : Measure

abbrev pub counted_by : Collection → Measure
counted_by array = by_number
counted_by set = by_truth
counted_by bag = by_number

pub data Count : Measure → Type 0 where
  number : Span → Count by_number
  truth : Bool → Span → Count by_truth

-- the sides of a star that are not open
pub data Side : Type 0 where
  less less_equal : Side

-- between two bounds stands `..`, or a star sign with `<` on both sides
pub data Between : Type 0 where
  two_dots : Between
  star_sign : Side → Side → Between

-- what stands between commas: the attribute directly behind `(`, any other attribute, a member of a Lot, of a counted
-- collection
pub data Style : Type 0 where
  opening attribute member : Style
  copy : Measure → Style

mutual
  pub data Value : Type 0 where
    plain : Plain → Value
    bare : Head → Span → Value

  -- a value that is no bare head word
  pub data Plain : Type 0 where
    literal : Atom → Span → Plain
    text : Spelling → Span → Plain
    nesting : Names → Plain
    group : Span → Value → Span → Plain
    pair : Span → Plain → Span → Value → Span → Plain
    arrowed : Span → Value → Arrow → Span → Value → Span → Plain
    tuple : Span → Attributes → Span → Plain
    lot : Span → Listing member → Span → Plain
    counted : Span → (h : Collection) → Span → Span → Span → Listing (copy (counted_by h)) → Span → Span → Plain
    interval : Span → Bounds → Span → Plain

  -- a value; or, by the style, a name, `:` and a value; two values; a value and its count
  pub data Item : Style → Type 0 where
    alone : {s : Style} → Value → Item s
    open_named : PlainName → Span → Value → Item opening
    named : Name → Span → Value → Item attribute
    joined : Value → Joiner → Span → Value → Item member
    times : {u : Measure} → Value → Span → Count u → Item (copy u)

  -- items with a comma behind each: the first, the first behind a leading comma, the next
  pub data Row : Style → Style → Type 0 where
    row_first : {f s : Style} → Item f → Span → Row f s
    row_led : {f s : Style} → Span → Item s → Span → Row f s
    row_next : {f s : Style} → Row f s → Item s → Span → Row f s

  -- commas as in a Lot: any number of items, one comma between each two, optionally one leading and one trailing
  pub data Listing : Style → Type 0 where
    no_item : {s : Style} → Listing s
    one_comma : {s : Style} → Span → Listing s
    two_commas : {s : Style} → Span → Span → Listing s
    one_item : {s : Style} → Item s → Listing s
    led_item : {s : Style} → Span → Item s → Listing s
    trailing : {s : Style} → Row s s → Listing s
    last_item : {s : Style} → Row s s → Item s → Listing s

  -- `()`; or a comma makes a Tuple: one attribute with a comma before, after or both, or two and more
  pub data Attributes : Type 0 where
    no_attribute : Attributes
    led_attribute : Span → Item attribute → Attributes
    trailing_comma : Row opening attribute → Attributes
    last_attribute : Row opening attribute → Item attribute → Attributes

  pub data Bounds : Type 0 where
    empty : Bounds
    single : Value → Bounds
    between : Value → Between → Span → Value → Bounds
    from : Value → Side → Span → Bounds
    up_to : Side → Span → Value → Bounds
    all : Span → Bounds
