-- Line and column of places in texts. Assumes nothing.
use Rattle.std.specs.Prelude.{[], ◌∷◌, ◌++◌}
use Rattle.rules.specs.Class.{codes}
use Rattle.values.specs.Position.{Position}

pub record Positions : Type 0 where
  pub no_byte : Position [] 0 1 1
  -- the line feed is the last byte in its line, and behind it the next one begins
  pub first_line : Position (codes "ab\ncd") 1 1 2
  pub at_the_feed : Position (codes "ab\ncd") 2 1 3
  pub behind_the_feed : Position (codes "ab\ncd") 3 2 1
  pub at_the_end : Position (codes "ab\ncd") 5 2 3
  pub beyond_the_end : Position (codes "ab\ncd") 900 2 3
  pub behind_the_last_feed : Position (codes "ab\n") 3 2 1
  -- a carriage return is a character like any other
  pub carriage_return : Position (0x0D ∷ 0x0A ∷ 0x0D ∷ []) 1 1 2
  pub carriage_return_alone : Position (0x0D ∷ 0x0A ∷ 0x0D ∷ []) 3 2 2
  -- a longer sequence is one character, also inside of it
  pub before_it : Position (0xC3 ∷ 0xA9 ∷ codes "x") 0 1 1
  pub inside_of_it : Position (0xC3 ∷ 0xA9 ∷ codes "x") 1 1 1
  pub behind_it : Position (0xC3 ∷ 0xA9 ∷ codes "x") 2 1 2
  -- a byte that begins no sequence is one: a sequence cut off, and a continuation byte by itself
  pub cut_off : Position (codes "a" ++ (0xE2 ∷ 0x82 ∷ codes "b")) 3 1 4
  pub by_itself : Position (0x82 ∷ 0x82 ∷ 0x0A ∷ 0x82 ∷ []) 4 2 2
