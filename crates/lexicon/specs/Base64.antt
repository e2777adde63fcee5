-- Base 64: RFC 4648, section 4, in its words. Assumes nothing.
use Rattle.std.specs.Prelude.{◌≡◌, List, ◌++◌, map, ℕ, ◌+◌, ◌*◌, ◌%◌, ◌≤◌, ◌<◌, length, get_or, replicate}
use Rattle.rules.specs.Class.{byte_of, codes}
use Rattle.rules.specs.Every.{Every}
use Rattle.lexicon.specs.Expansion.{expand}

-- 'Table 1: The Base 64 Alphabet', the values 0 to 63 in their order
abbrev pub alphabet : List ℕ
alphabet = codes "ABCDEFGHIJKLMNOPQRSTUVWXYZabcdefghijklmnopqrstuvwxyz0123456789+/"

-- 'Each 6-bit group is used as an index into an array of 64 printable characters'
unfoldable pub character : ℕ → ℕ
character v = get_or alphabet v 0

-- the characters ds encode the bytes bs
pub record Encodes (ds bs : List ℕ) : Type 0 where
  pub groups : List ℕ
  pub six_bits : Every (λ v. v < 64) groups
  -- 'padding at the end of the data is performed using the '=' character': none, one or two
  pub padding : ℕ
  pub at_most_two : padding ≤ 2
  pub characters_are : ds ≡ map character groups ++ replicate padding (byte_of "=")
  -- 'a full encoding quantum is always completed': four characters
  pub quanta : (length groups + padding) % 4 ≡ 0
  -- 'bits with value zero are added (on the right) to form an integral number of 6-bit groups': two for each `=`
  pub bits_are : expand 6 groups ≡ expand 8 bs ++ replicate (2 * padding) 0
