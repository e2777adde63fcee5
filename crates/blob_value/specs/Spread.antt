-- Digits as numbers, and numbers as bytes. Assumes nothing.
use Rattle.std.specs.Prelude.{◌≡◌, List, [], ◌∷◌, map, ℕ, zero, suc, ◌+◌, ◌*◌, ◌/◌, ◌%◌, ◌^◌, ◌≤◌, ◌<◌, length, get_or}
use Rattle.rules.specs.Every.{Every}
use Rattle.lexicon.specs.Expansion.{expand}
use Rattle.lexicon.specs.Values.{Digits, Behind}
use Rattle.buffer.specs.declared.Writer.{Writer}
use Rattle.buffer.specs.Puts.{Puts}
use Rattle.buffer.specs.Appends.{Appends}
use Rattle.blob_value.specs.declared.mark.Mark.{Mark}
use Rattle.blob_value.specs.Marks.{mark_of, kind_of, digits_of, unit_of, width_of, size_of, bytes_of, value_of}

-- a number with one digit more
abbrev pub with_digit : ℕ → ℕ → ℕ → ℕ
with_digit radix v b = v * radix + value_of radix b

-- the last k * w bits of a number, w at a time, most significant first
abbrev pub parts : ℕ → ℕ → ℕ → List ℕ
parts w zero v = []
parts w (suc k) v = v / 2 ^ (k * w) % 2 ^ w ∷ parts w k v

-- n bytes from i on are digits of a radix of at most 64, and no more than eight
pub record Small (piece : List ℕ) (i n radix : ℕ) : Type 0 where
  pub within : i + n ≤ length piece
  pub few : n ≤ 8
  pub radix_small : radix ≤ 64
  pub digits_small : (k : ℕ) → k < n → value_of radix (get_or piece (i + k) 0) < radix

-- the bytes have the bits of the digits
pub record Fills (mark : Mark) (ds bs : List ℕ) : Type 0 where
  pub small : Every (λ b. b < 2 ^ size_of (kind_of mark)) bs
  pub bits_are : expand (size_of (kind_of mark)) bs ≡ expand (width_of mark) (map (value_of (2 ^ width_of mark)) ds)

-- ---- rows of digits

module _ (piece : List ℕ) (mark : Mark) where
  -- the digits of the units from i to the end of the piece
  abbrev pub Units : ℕ → List ℕ → Type 0
  Units i ds = Digits piece (unit_of mark) (digits_of mark) i (length piece) ds

  -- the digits of a piece that is the mark and they
  abbrev pub Whole : List ℕ → Type 0
  Whole ds = Behind piece (mark_of mark) (unit_of mark) (digits_of mark) 0 (length piece) ds

pub record Has (Are : List ℕ → Type 0) : Type 0 where
  pub digits : List ℕ
  pub are : Are digits

-- units of n digits stand from i to the end of the piece
pub record HasUnits (piece : List ℕ) (n i : ℕ) : Type 0 where
  pub mark : Mark
  pub unit_is : n ≡ unit_of mark
  pub has : Has (Units piece mark i)

-- r is how many they are, whatever the mark
pub record Counts (piece : List ℕ) (n i r : ℕ) : Type 0 where
  pub of : (mark : Mark) → n ≡ unit_of mark → (ds : List ℕ) → Units piece mark i ds → length ds ≡ r * unit_of mark

module _ (mark : Mark) (Are : List ℕ → Type 0) where
  -- the digits fill n bytes
  pub record Measured (n : ℕ) : Type 0 where
    pub digits : List ℕ
    pub are : Are digits
    pub units : ℕ
    pub units_are : length digits ≡ units * unit_of mark
    pub bytes_are : n ≡ units * bytes_of mark

  -- their bytes are put behind those before
  pub record Spreads (w w' : Writer) : Type 0 where
    pub digits : List ℕ
    pub are : Are digits
    pub bytes : List ℕ
    pub fills : Fills mark digits bytes
    pub appends : Appends w bytes w'

  -- and from the start of t
  pub record Spread (t t' : List ℕ) : Type 0 where
    pub digits : List ℕ
    pub are : Are digits
    pub bytes : List ℕ
    pub fills : Fills mark digits bytes
    pub end : ℕ
    pub puts : Puts t 0 bytes t' end
