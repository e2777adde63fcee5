-- The front of every text, computed. Assumes nothing.
use mathlib.Core.Path.{refl}
use mathlib.Core.List.{List}
use Prim.Native.Nat.{ℕ}
use Rattle.rules.specs.Rule.{opt, nothing, right}
use Rattle.lexicon.specs.Front.{Front, byte_order_mark, first_line}
use Rattle.decisions.proofs.Ends.{furthest, furthest_longest}

module _ (text : List ℕ) where
  abbrev pub front_of : ℕ
  front_of = furthest text (opt first_line) (furthest text (opt byte_order_mark) 0)

  pub front_is : Front text front_of
  front_is =
      record {
        marked = furthest text (opt byte_order_mark) 0;
        mark = furthest_longest text (opt byte_order_mark) 0 (right (nothing refl));
        line = furthest_longest text (opt first_line) (furthest text (opt byte_order_mark) 0) (right (nothing refl));
      }

  pub front : (p : ℕ) × Front text p
  front = (front_of, front_is)
