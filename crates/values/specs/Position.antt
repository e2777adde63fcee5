-- Line and column of a place in a text, both counted from 1: the line by the bytes 0A before the place, the column by
-- the characters since. Every place of every text has one; beyond the text it is that of its end. Assumes nothing.
use Rattle.std.specs.Prelude.{◌≡◌, List, ℕ, suc, min, ◌≤◌, ◌<◌, length}
use Rattle.rules.specs.Class.{just}
use Rattle.rules.specs.Rule.{Rule, one, Takes, Fails}
use Rattle.lexicon.specs.Utf8.{sequence}

-- what ends a line, and is the last byte in it
abbrev pub feed : Rule
feed = one (just 0x0A)

module _ (text : List ℕ) where
  -- the line of a place, and where it begins: the first at the front, each further one behind a byte 0A
  pub data Lines : (place line begin : ℕ) → Type 0 where
    first : Lines 0 1 0
    next : {i j l b : ℕ} → Lines i l b → Takes text feed i j → Lines j (suc l) j
    same : {i l b : ℕ} → Lines i l b → i < length text → Fails text feed i → Lines (suc i) l b

  -- a character: a well-formed sequence, and where none begins a byte by itself
  pub data Character : (i j : ℕ) → Type 0 where
    encoded : {i j : ℕ} → Takes text sequence i j → Character i j
    single : {i : ℕ} → i < length text → Fails text sequence i → Character i (suc i)

  -- from one place to another there are so many
  pub data Characters (begin : ℕ) : (place count : ℕ) → Type 0 where
    none : Characters begin begin 0
    more : {i j n : ℕ} → Characters begin i n → Character i j → Characters begin j (suc n)

  -- so many of the characters from `begin` on end before the place or at it
  pub record Before (begin place count : ℕ) : Type 0 where
    pub reached : ℕ
    pub characters : Characters begin reached count
    pub within : reached ≤ place
    pub last : {j : ℕ} → Character reached j → place < j

  -- inside of a character its own column is told
  pub data Position (place : ℕ) : (line column : ℕ) → Type 0 where
    stands : {end l b n : ℕ} → end ≡ min place (length text) → Lines end l b → Before b end n → Position place l (suc n)
