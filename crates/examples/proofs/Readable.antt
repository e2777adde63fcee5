-- Texts that are short enough and UTF-8, by one computed test. Assumes nothing.
use mathlib.Core.Path.{◌≡◌}
use mathlib.Core.Bool.{Bool, true, ◌&&◌}
use mathlib.Core.List.{List}
use Prim.Native.Nat.{ℕ, ◌≤◌}
use borrow.Author.Tests.{leb-true}
use lib.Dec.{leb}
use lib.ListN.{length}
use Rattle.rules.proofs.Bools.{and_left, and_right}
use Rattle.lexicon.specs.Utf8.{WellFormed}
use Rattle.decisions.proofs.Utf8.{formed, formed_is}
use Rattle.reading.specs.Sizes.{base}

module _ (bytes : List ℕ) where
  abbrev pub readable : Bool
  readable = leb (length bytes) base.text && formed bytes

  module _ (e : readable ≡ true) where
    pub is_short : length bytes ≤ base.text
    is_short = leb-true (length bytes) base.text (and_left (leb (length bytes) base.text) (formed bytes) e)

    pub is_formed : WellFormed bytes
    is_formed = formed_is bytes (and_right (leb (length bytes) base.text) (formed bytes) e)
